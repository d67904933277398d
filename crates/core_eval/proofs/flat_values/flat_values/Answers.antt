use Rattle.std.proofs.Common.{◌∙◌, ap, sym}
use Rattle.prim_registry.specs.Values.{answer_of}
use Rattle.prim_registry.proofs.FlatLaws.{flats_start, flats_next, flats_none, flats_all}
use Rattle.core_eval.proofs.flat_values.flat_values.Goals as goal

pub loop-t-init : goal.loop-t-init
loop-t-init c = flats_start c.args.terms.now c.new-values.result.items c.new-values.ensures.items

pub returns-in-None : goal.returns-in-None
returns-in-None c =
    sym (flats_none c.args.terms.now c.loop-t.t-index c.loop-t.values.items c.loop-t.invariant c.t-item.result
    c.loop-t-test.true c.t-item.is (sym c.in_ok-value.ensures ∙ ap answer_of c.in-None.is))

pub loop-t-preserved : goal.loop-t-preserved
loop-t-preserved c =
    flats_next c.args.terms.now c.loop-t.t-index c.loop-t.values.items c.loop-t.invariant c.t-item.result
    c.loop-t-test.true c.t-item.is c.in-Some.value c.push.new.self.items
    (sym c.in_ok-value.ensures ∙ ap answer_of c.in-Some.is) c.in_ok-push-in-Some.ensures.items

pub returns : goal.returns
returns c = sym (flats_all c.args.terms.now c.loop-t.t-index c.loop-t.values.items c.loop-t.invariant
    c.loop-t-test.false)
