use Rattle.std.proofs.Common.{◌≡◌, ◌∙◌, ap, rules, take, ◌<◌}
use Rattle.std.specs.Int.{w64}
use mir.Val.{to_z, of_z}
use Rattle.term_model.specs.Bytes.{is_digit, signed, value_from}
use Rattle.term_model.specs.Limits.{IsInRange}
use Rattle.term_model.specs.IntegerBounds.{max_magnitude}
use Rattle.term_model.proofs.IntegerLaws.{in_range, too_large}
use Rattle.str_lexer.proofs.RunLaws.{run_again}
use Rattle.str_lexer.proofs.IntegerLaws.{no_integer, found_integer}
use Rattle.str_lexer.proofs.integer.unsigned.Goals as goal

pub magnitude-requires : goal.magnitude-requires
magnitude-requires c = rw c.split_at.ensures.front (run_again is_digit _ _ c.digit_count-end.ensures.counts)

pub returns-in_default : goal.returns-in_default
returns-in_default c =
    let h : max_magnitude c.args.negative < value_from 0 (take c.digit_count-end.result c.args.text.now) =
    rw c.split_at.ensures.front at c.in_default.ensures in
    no_integer c.args.negative _ _ c.requires c.digit_count-end.ensures.counts (too_large c.args.negative _ h)

pub returns : goal.returns
returns c =
    let v = c.in-Some.ensures.0 ∙ ap (value_from 0) c.split_at.ensures.front in
    let z : to_z w64 (of_z w64 c.signed.result) ≡ c.signed.result = search rules in
    let s = c.signed.ensures ∙ ap (signed c.args.negative) v in
    let fits : IsInRange c.signed.result =
    rw c.signed.ensures (in_range c.args.negative c.in-Some.value c.in-Some.ensures.1) in
    rw (z, c.split_at.ensures.back)
    (found_integer c.args.negative _ _ c.requires c.digit_count-end.ensures.counts _ s fits)
