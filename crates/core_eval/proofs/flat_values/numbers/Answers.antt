use Rattle.std.proofs.Common.{rules, ◌≡◌, ◌++◌, ◌∷◌, [], ◌∙◌, ap, sym, Some}
use Rattle.prim_registry.proofs.FlatLaws.{integers_start, integers_next, integers_none, integers_all}
use Rattle.core_eval.proofs.flat_values.numbers.Goals as goal

pub loop-t-init : goal.loop-t-init
loop-t-init c = integers_start c.args.terms.now c.new-values.result.items c.new-values.ensures.items

pub returns-in-None : goal.returns-in-None
returns-in-None c = sym (integers_none c.args.terms.now c.loop-t.t-index c.loop-t.values.items c.loop-t.invariant
    c.t-item.result c.loop-t-test.true c.t-item.is (sym c.number.ensures ∙ c.in-None.is))

pub loop-t-preserved : goal.loop-t-preserved
loop-t-preserved c =
    let pushed : c.push.new.self.items ≡ c.loop-t.values.items ++ c.in-Some.value ∷ [] = search rules in
    integers_next c.args.terms.now c.loop-t.t-index c.loop-t.values.items c.loop-t.invariant c.t-item.result
    c.loop-t-test.true c.t-item.is c.in-Some.value c.push.new.self.items
    (sym c.number.ensures ∙ c.in-Some.is) pushed

pub returns : goal.returns
returns c = ap (λ z. Some z) c.new.ensures ∙
    sym (integers_all c.args.terms.now c.loop-t.t-index c.loop-t.values.items c.loop-t.invariant c.loop-t-test.false)
