use Rattle.std.proofs.Common.{◌∙◌, ap, sym, map}
use Rattle.prim_registry.specs.Values.{answer_of}
use Rattle.prim_registry.proofs.FlatLaws.{flats_next, flats_none}
use Rattle.strat_machine.proofs.ReferenceFlats.{map_below, map_read}
use Rattle.strat_machine.proofs.flat_values.flat_values.Goals as goal

pub returns-in-None : goal.returns-in-None
returns-in-None g c =
    let f = g.S.TermSpace.space.term_of c.args.space.now in
    let i = c.loop-term.term-index in
    sym (flats_none (map f c.args.terms.now) i c.loop-term.values.items c.loop-term.invariant (f c.term-item.result)
    (map_below f c.args.terms.now i c.loop-term-test.true)
    (map_read f c.args.terms.now i c.term-item.result c.loop-term-test.true c.term-item.is) (sym c.in_ok-value.ensures ∙
    ap answer_of c.in-None.is))

pub loop-term-preserved : goal.loop-term-preserved
loop-term-preserved g c =
    let f = g.S.TermSpace.space.term_of c.args.space.now in
    let i = c.loop-term.term-index in
    flats_next (map f c.args.terms.now) i c.loop-term.values.items c.loop-term.invariant (f c.term-item.result)
    (map_below f c.args.terms.now i c.loop-term-test.true)
    (map_read f c.args.terms.now i c.term-item.result c.loop-term-test.true c.term-item.is)
    c.in-Some.value c.push.new.self.items (sym c.in_ok-value.ensures ∙ ap answer_of c.in-Some.is)
    c.in_ok-push-in-Some.ensures.items
