use Rattle.std.proofs.Common.{w64, FitsSigned}
use Rattle.std.proofs.Math.Facts.{to_z-of_z}
use Rattle.strc_command.proofs.NumberLaws.{not_less, not_read, number_bound, number_read}
use Rattle.strc_command.proofs.request.number_in.Goals as goal

pub returns-in_default-clause-value : goal.returns-in_default-clause-value
returns-in_default-clause-value c = not_read c.args.text.now c.in_default.ensures.value.0

pub returns-clause-value : goal.returns-clause-value
returns-clause-value c =
    let parsed = c.in-Ok.ensures.value.0 in
    let fits : FitsSigned w64 c.in-Ok.number = rw parsed.1 parsed.0.1 in
    let low = not_less _ _ (rw (to_z-of_z fits) at c.if-number-lt0.false) in
    let high = not_less _ _ (rw (to_z-of_z fits) at c.if-number.false) in
    rw (to_z-of_z fits) (number_read c.args.text.now c.in-Ok.number parsed.0.0 parsed.1 low high)

pub returns-clause-bound : goal.returns-clause-bound
returns-clause-bound c =
    let parsed = c.in-Ok.ensures.value.0 in
    let fits : FitsSigned w64 c.in-Ok.number = rw parsed.1 parsed.0.1 in
    let low = not_less _ _ (rw (to_z-of_z fits) at c.if-number-lt0.false) in
    let high = not_less _ _ (rw (to_z-of_z fits) at c.if-number.false) in
    rw (to_z-of_z fits) (number_bound c.in-Ok.number low high)
