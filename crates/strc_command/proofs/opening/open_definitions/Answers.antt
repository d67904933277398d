use Rattle.std.proofs.Common.{◌∙◌, arith, subst}
use Rattle.term_model.specs.declared.fault.Fault.TheVariants.{Memory}
use Rattle.strc_command.specs.Files.{readers_of}
use Rattle.strc_command.specs.Report.{Tells}
use Rattle.strc_command.proofs.OpeningLaws.{at_paths, with_last}
use Rattle.strc_command.proofs.opening.open_definitions.Goals as goal

pub returns-in-Ok-new-clause-texts : goal.returns-in-Ok-new-clause-texts
returns-in-Ok-new-clause-texts g c =
    with_last g.P.Reader.Source.reader.coming
    (readers_of c.in-Ok-new.files) c.in-Ok.readers.items c.in_ok-last.last _ _ _
    c.in-Ok-new.ensures.readers
    (c.in-Ok.ensures.texts ∙ at_paths (g.P.Paths.text_at c.args.paths.now) c.args.libraries.now)
    c.in_ok-last.ensures.text
    (c.in-Ok.ensures.kept c.args.definitions.now)

pub returns-in-Err-new-clause-stopped : goal.returns-in-Err-new-clause-stopped
returns-in-Err-new-clause-stopped g c = (
  c.stop.ensures.status,
  (
    Memory,
    (omega arith, omega arith),
    subst (λ before. Tells Memory (g.E.Sink.writer.failed_writes before)
        (g.E.Sink.writer.failed_writes c.stop.new.diagnostics)
        (g.E.Sink.writer.written before) (g.E.Sink.writer.written c.stop.new.diagnostics))
        c.in_ok-last.ensures.opened c.stop.ensures.told,
  ),
)
