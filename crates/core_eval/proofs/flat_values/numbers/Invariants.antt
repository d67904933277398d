use Rattle.std.proofs.Common.{◌≡◌, drop}
use Rattle.term_model.specs.Flat.{integers_of}
use Rattle.term_model.specs.Term.{trees_of}
use Rattle.prim_registry.proofs.FlatLaws.{after}
use Rattle.core_eval.proofs.flat_values.numbers.Given as goal

abbrev pub invariant-loop-t : goal.invariant-loop-t
invariant-loop-t l = integers_of (trees_of l.terms) ≡
    after l.values.items (integers_of (trees_of (drop l.t-index l.terms)))
