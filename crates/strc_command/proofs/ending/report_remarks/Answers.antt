use Rattle.strc_command.proofs.PrefixLaws.{asked_after}
use Rattle.strc_command.proofs.ending.report_remarks.Goals as goal

pub returns : goal.returns
returns g c =
    asked_after c.args.reporting.output.has_stats _ _ _ c.write_remarks.ensures c.report_numbers.ensures
