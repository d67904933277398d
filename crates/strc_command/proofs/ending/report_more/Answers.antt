use Rattle.strc_command.proofs.PrefixLaws.{text_after}
use Rattle.strc_command.proofs.ending.report_more.Goals as goal

pub returns : goal.returns
returns g c = text_after _ _ _ c.write_rows.ensures c.report_remarks.ensures
