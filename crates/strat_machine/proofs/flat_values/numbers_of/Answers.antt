use Rattle.std.proofs.Common.{rules, ◌≡◌, ◌++◌, ◌∷◌, [], sym, map}
use Rattle.prim_registry.proofs.FlatLaws.{integers_next, integers_none}
use Rattle.strat_machine.proofs.ReferenceFlats.{map_below, map_read, integer_at, no_integer}
use Rattle.strat_machine.proofs.flat_values.numbers_of.Goals as goal

pub returns-in-None : goal.returns-in-None
returns-in-None g c =
    let f = g.S.TermSpace.space.term_of c.args.space.now in
    let i = c.loop-term.term-index in
    sym (integers_none (map f c.args.terms.now) i c.loop-term.values.items c.loop-term.invariant (f c.term-item.result)
    (map_below f c.args.terms.now i c.loop-term-test.true)
    (map_read f c.args.terms.now i c.term-item.result c.loop-term-test.true c.term-item.is)
    (no_integer (f c.term-item.result) c.in-None.ensures))

pub loop-term-preserved : goal.loop-term-preserved
loop-term-preserved g c =
    let f = g.S.TermSpace.space.term_of c.args.space.now in
    let i = c.loop-term.term-index in
    let pushed : c.push.new.self.items ≡ c.loop-term.values.items ++ c.in-Some.value ∷ [] = search rules in
    integers_next (map f c.args.terms.now) i c.loop-term.values.items c.loop-term.invariant (f c.term-item.result)
    (map_below f c.args.terms.now i c.loop-term-test.true)
    (map_read f c.args.terms.now i c.term-item.result c.loop-term-test.true c.term-item.is)
    c.in-Some.value c.push.new.self.items (integer_at (f c.term-item.result) c.in-Some.value c.in-Some.ensures)
    pushed
