use Rattle.std.proofs.Common.{◌∙◌, ap}
use Rattle.strc_command.specs.declared.opening.Library.{Library}
use Rattle.strc_command.proofs.OpeningLaws.{one_more, all_opened, pushed}
use Rattle.strc_command.specs.Files.{path_of}
use Rattle.strc_command.proofs.opening.open_libraries.Goals as goal

pub loop-library-preserved : goal.loop-library-preserved
loop-library-preserved g c = record {
  opened = one_more g.P.Reader.Source.reader.coming
      (λ (library : Library). g.P.Paths.text_at c.args.paths.now (path_of library))
      c.loop-library.readers.items c.push_back.new.self.items
      c.in-Ok.reader c.args.libraries.now c.library-item.result c.loop-library.library-index c.loop-library-test.true
      c.loop-library.invariant.opened
      (pushed c.push_back.result c.is_err.result _ _ _ c.push_back.ensures.items c.is_err.ensures.value
      c.if-is_err.false)
      (c.in-Ok.ensures.text ∙ (c.loop-library.invariant.kept _ ∙
      ap (g.P.Paths.text_at c.args.paths.now) (c.as_str-path.ensures.value ∙ ap path_of c.library-item.is)));
  kept = λ other. c.in-Ok.ensures.kept other ∙ c.loop-library.invariant.kept other;
}

pub returns-clause-texts : goal.returns-clause-texts
returns-clause-texts g c =
    all_opened g.P.Reader.Source.reader.coming (λ (library : Library). g.P.Paths.text_at c.args.paths.now
    (path_of library))
    c.loop-library.readers.items c.args.libraries.now
    c.loop-library.library-index c.loop-library-test.false c.loop-library.invariant.opened
