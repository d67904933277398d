use Rattle.std.proofs.Common.{arith, rules}
use Rattle.aterm_text.proofs.Outcomes.{no_octal, no_octals}
use Rattle.aterm_text.proofs.quoted.octal_digit.Goals as goal

pub returns-then-index-text-clause-err : goal.returns-then-index-text-clause-err
returns-then-index-text-clause-err c b v s =
    no_octal c.args.text.now b v s c.args.index (λ h. absurd (omega (arith, h, c.if-index-text.true)))

pub returns-then-index-text-clause-errs : goal.returns-then-index-text-clause-errs
returns-then-index-text-clause-errs c b v s =
    no_octals c.args.text.now b v s c.args.index (λ h. absurd (omega (arith, h, c.if-index-text.true)))

pub returns-then-not-is_octal_byte-clause-err : goal.returns-then-not-is_octal_byte-clause-err
returns-then-not-is_octal_byte-clause-err c b v s = no_octal c.args.text.now b v s c.args.index (λ h. search rules)

pub returns-then-not-is_octal_byte-clause-errs : goal.returns-then-not-is_octal_byte-clause-errs
returns-then-not-is_octal_byte-clause-errs c b v s = no_octals c.args.text.now b v s c.args.index (λ h. search rules)
