use Rattle.std.proofs.Common.{◌≡◌, drop}
use Rattle.prim_registry.specs.Values.{values_of}
use Rattle.term_model.specs.Flat.{all_flat}
use Rattle.term_model.specs.Term.{trees_of}
use Rattle.prim_registry.proofs.FlatLaws.{after}
use Rattle.core_eval.proofs.flat_values.flat_values.Given as goal

abbrev pub invariant-loop-t : goal.invariant-loop-t
invariant-loop-t l = all_flat (trees_of l.terms) ≡
    after (values_of l.values.items) (all_flat (trees_of (drop l.t-index l.terms)))
