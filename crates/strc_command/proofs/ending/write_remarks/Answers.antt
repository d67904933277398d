use Rattle.strc_command.proofs.PrefixLaws.{text_after}
use Rattle.strc_command.proofs.ending.write_remarks.Goals as goal

pub returns-in_err-write_remark : goal.returns-in_err-write_remark
returns-in_err-write_remark g c = text_after _ _ _ c.loop-remark.invariant c.write_remark.ensures

pub loop-remark-preserved : goal.loop-remark-preserved
loop-remark-preserved g c = text_after _ _ _ c.loop-remark.invariant c.write_remark.ensures
