use Rattle.std.proofs.Common.{◌≡◌, ◌∙◌, true, arith, rules}
use Rattle.std.specs.Prelude.{slice_index}
use Rattle.term_model.specs.Bytes.{is_digit}
use Rattle.aterm_text.proofs.Outcomes.{digit_read, digit_refused}
use Rattle.aterm_text.proofs.numbers.digits_end.Goals as goal

pub returns-in_default-clause-err : goal.returns-in_default-clause-err
returns-in_default-clause-err c s =
    let is : is_digit (slice_index c.args.text.now c.loop-end.end) ≡ true = search rules in
    c.loop-end.invariant.read s ∙
    digit_refused c.args.text.now c.args.negative c.loop-end.magnitude s c.loop-end.end c.loop-end-test.true is
    c.in_default.ensures

pub loop-end-preserved : goal.loop-end-preserved
loop-end-preserved c =
    let is : is_digit (slice_index c.args.text.now c.loop-end.end) ≡ true = search rules in
    record {
      low = omega (arith, c.loop-end.invariant.low);
      high = omega (arith, c.loop-end-test.true);
      value = c.in-Some.ensures.1;
      read = λ s. c.loop-end.invariant.read s ∙
          digit_read c.args.text.now c.args.negative c.loop-end.magnitude c.in-Some.longer s c.loop-end.end
          c.loop-end-test.true is c.in-Some.ensures.0 c.in-Some.ensures.1;
    }
