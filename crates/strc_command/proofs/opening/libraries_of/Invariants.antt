use Rattle.std.proofs.Common.{◌≡◌, ℕ, List, map, take}
use Rattle.strc_command.specs.Elements.{texts_in}
use Rattle.strc_command.specs.Files.{AreNamed, path_of}
use Rattle.strc_command.proofs.opening.libraries_of.Given as goal

-- so far the files are those that the words in front of the place name, and no text has changed
abbrev pub invariant-loop-word : goal.invariant-loop-word
invariant-loop-word g l = record {
  named : AreNamed (texts_in (take l.word-index l.words)) (map path_of l.libraries.items);
  kept : (other : List ℕ) → g.P.Paths.text_at l.paths other ≡ g.P.Paths.text_at l.initial.paths other;
}
