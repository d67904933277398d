use Rattle.std.proofs.Common.{◌≡◌, map, take, ℕ, List}
use Rattle.strc_command.specs.Files.{path_of}
use Rattle.strc_command.proofs.opening.open_libraries.Given as goal

-- so far the files in front of the place are opened, and no text has changed
abbrev pub invariant-loop-library : goal.invariant-loop-library
invariant-loop-library g l = record {
  opened : map g.P.Reader.Source.reader.coming l.readers.items ≡
      map (λ library. g.P.Paths.text_at l.initial.paths (path_of library)) (take l.library-index l.libraries);
  kept : (other : List ℕ) → g.P.Paths.text_at l.paths other ≡ g.P.Paths.text_at l.initial.paths other;
}
