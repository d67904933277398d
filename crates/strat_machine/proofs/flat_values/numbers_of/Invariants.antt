use Rattle.std.proofs.Common.{◌≡◌, drop, map}
use Rattle.term_model.specs.Flat.{integers_of}
use Rattle.term_model.specs.Term.{trees_of}
use Rattle.prim_registry.proofs.FlatLaws.{after}
use Rattle.strat_machine.proofs.flat_values.numbers_of.Given as goal

abbrev pub invariant-loop-term : goal.invariant-loop-term
invariant-loop-term g l = integers_of (trees_of (map (g.S.TermSpace.space.term_of l.space) l.terms)) ≡
    after l.values.items (integers_of
    (trees_of (drop l.term-index (map (g.S.TermSpace.space.term_of l.space) l.terms))))
