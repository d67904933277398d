use Rattle.strc_command.proofs.PrefixLaws.{text_after}
use Rattle.strc_command.proofs.tables.write_rows.Goals as goal

pub returns-in_err-write_row : goal.returns-in_err-write_row
returns-in_err-write_row g c = text_after _ _ _ c.loop-row.invariant c.write_row.ensures

pub loop-row-preserved : goal.loop-row-preserved
loop-row-preserved g c = text_after _ _ _ c.loop-row.invariant c.write_row.ensures
