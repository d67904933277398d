use Rattle.std.proofs.Common.{◌≡◌, drop, map}
use Rattle.prim_registry.specs.Values.{values_of}
use Rattle.term_model.specs.Flat.{all_flat}
use Rattle.term_model.specs.Term.{trees_of}
use Rattle.prim_registry.proofs.FlatLaws.{after}
use Rattle.strat_machine.proofs.flat_values.flat_values.Given as goal

abbrev pub invariant-loop-term : goal.invariant-loop-term
invariant-loop-term g l = all_flat (trees_of (map (g.S.TermSpace.space.term_of l.space) l.terms)) ≡
    after (values_of l.values.items)
    (all_flat (trees_of (drop l.term-index (map (g.S.TermSpace.space.term_of l.space) l.terms))))
