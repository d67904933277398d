use Rattle.std.proofs.Common.{◌∙◌, sym}
use Rattle.strc_command.proofs.PrefixLaws.{line_failed, line_told}
use Rattle.strc_command.proofs.ending.report_spent.Goals as goal

pub returns : goal.returns
returns g c =
    line_told _ _ _ _ _ _ _ _ (rw (sym c.is_err.ensures.value ∙ c.if-is_err.false) at c.write_spent.ensures)
    c.report_asked.ensures

pub returns-then-is_err : goal.returns-then-is_err
returns-then-is_err g c =
    line_failed _ _ _ _ _ _ (rw (sym c.is_err.ensures.value ∙ c.if-is_err.true) at c.write_spent.ensures)
