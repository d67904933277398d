use Rattle.std.proofs.Common.{◌≡◌, ◌<◌, ℕ, get_or, map}
use Rattle.term_model.specs.PrimKey.{key_of}
use Rattle.term_model.proofs.prim_names.PrimNames.has.Given as goal

abbrev pub invariant-loop-entry : goal.invariant-loop-entry
invariant-loop-entry l = (k : ℕ) → k < l.entry-index →
    get_or (map key_of l.entry-items) k (l.name, l.arity) ≡ (l.name, l.arity) → ⊥
