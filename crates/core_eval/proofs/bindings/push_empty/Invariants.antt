use Rattle.std.proofs.Common.{◌≡◌, ◌++◌}
use Rattle.core_lang.specs.Environment.{empty_places}
use Rattle.core_eval.proofs.bindings.push_empty.Given as goal

abbrev pub invariant-loop-i : goal.invariant-loop-i
invariant-loop-i l = l.places.items ≡ l.initial.places.items ++ empty_places l._i
