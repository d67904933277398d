use Rattle.std.proofs.Common.{◌≡◌, replicate}
use Rattle.std.specs.Prelude.{None}
use Rattle.term_store.proofs.leaving.none_left.Given as goal

abbrev pub invariant-loop : goal.invariant-loop
invariant-loop l = l.terms.items ≡ replicate l.counter None
