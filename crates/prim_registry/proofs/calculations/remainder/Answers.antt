use Rattle.std.proofs.Common.{rules, ◌≡◌, ◌∙◌, sym, ap, int_rem, pos, false, Some}
use Rattle.std.specs.Int.{w64}
use mir.Val.{to_z, of_z}
use Rattle.std.specs.Ordering.{int_eq}
use Rattle.term_model.specs.Flat.{number}
use Rattle.prim_registry.proofs.ValueLaws.{remainder_is}
use Rattle.prim_registry.proofs.calculations.remainder.Goals as goal

pub returns : goal.returns
returns c =
    let nonzero : int_eq c.args.right (pos 0) ≡ false = search rules in
    let exact : to_z w64 (of_z w64 c.wrapping_rem.result) ≡ int_rem c.args.left c.args.right = search rules in
    ap (λ z. Some (number z)) exact ∙ sym (remainder_is c.args.left c.args.right nonzero)
