use Rattle.std.proofs.Common.{rules, ◌≡◌, pos, get_or, ◌∙◌, ap, map}
use Rattle.term_model.specs.Term.{trees_of}
use Rattle.prim_registry.proofs.FlatLaws.{integer_term, integer_terms, one_more_integer, taken}
use Rattle.core_eval.proofs.flat_values.integers.Goals as goal

pub loop-number-preserved : goal.loop-number-preserved
loop-number-preserved c =
    let made : c.in_ok-int.field-0 ≡ integer_term (get_or c.args.numbers.now c.loop-number.number-index (pos 0)) =
    search rules in
    one_more_integer c.args.numbers.now c.loop-number.number-index c.loop-number.terms.items c.push.new.self.items
    c.in_ok-int.field-0 c.loop-number-test.true c.loop-number.invariant made c.in_ok-push.ensures.items

pub returns : goal.returns
returns c =
    ap trees_of c.loop-number.invariant ∙
    (ap (λ zs. trees_of (map integer_term zs))
    (taken c.args.numbers.now c.loop-number.number-index c.loop-number-test.false) ∙
    integer_terms c.args.numbers.now)
