use Rattle.std.proofs.Common.{◌∙◌, ap, arith, map}
use Rattle.term_model.specs.declared.fault.Fault.TheVariants.{Memory}
use Rattle.strc_command.proofs.OpeningLaws.{at_paths}
use Rattle.strc_command.proofs.opening.open_in_front.Goals as goal

pub returns-in-Ok-new-clause-texts : goal.returns-in-Ok-new-clause-texts
returns-in-Ok-new-clause-texts g c =
    ap (map g.P.Reader.Source.reader.coming) c.in-Ok-new.ensures.readers
    ∙ (c.in-Ok.ensures.texts ∙ at_paths (g.P.Paths.text_at c.args.paths.now) c.args.libraries.now)

pub returns-in-Err-new-clause-stopped : goal.returns-in-Err-new-clause-stopped
returns-in-Err-new-clause-stopped g c =
    (c.stop.ensures.status, (Memory, (omega arith, omega arith), c.stop.ensures.told))
