use Rattle.std.proofs.Common.{arith, ◌+◌, ◌-◌, ◌*◌, get_or, drop}
use Rattle.std.proofs.lemmas.List.{at_drop_more}
use Rattle.term_model.specs.Bytes.{value_from}
use Rattle.str_lexer.proofs.RunLaws.{value_above}
use Rattle.str_lexer.proofs.integer.magnitude.Goals as goal

pub returns-in_default : goal.returns-in_default
returns-in_default c =
    let ds = c.args.digits.now in
    let i = c.loop-digit.digit-index in
    omega (
      arith,
      at_drop_more (value_from c.loop-digit.value) ds i 0 (omega arith),
      c.loop-digit.invariant.value,
      value_above (10 * c.loop-digit.value + (get_or ds i 0 - 48)) (drop (i + 1) ds),
      c.in_default.ensures,
    )
