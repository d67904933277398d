use Rattle.std.proofs.Common.{◌∙◌, sym}
use Rattle.strc_command.proofs.PrefixLaws.{line_failed, line_told}
use Rattle.strc_command.proofs.ending.report_oversize.Goals as goal

pub returns : goal.returns
returns g c = (
  c.write_oversize.ensures.0,
  c.write_oversize.ensures.1,
  line_told _ _ _ _ _ _ _ _ (rw (sym c.is_err.ensures.value ∙ c.if-is_err.false) at c.write_oversize.ensures.2)
      c.report_asked.ensures,
)

pub returns-then-is_err : goal.returns-then-is_err
returns-then-is_err g c = (
  c.write_oversize.ensures.0,
  c.write_oversize.ensures.1,
  line_failed _ _ _ _ _ _ (rw (sym c.is_err.ensures.value ∙ c.if-is_err.true) at c.write_oversize.ensures.2),
)
