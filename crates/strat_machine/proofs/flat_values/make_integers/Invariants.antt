use Rattle.std.proofs.Common.{◌≡◌, map, take}
use Rattle.std.specs.Prelude.{IsTrue}
use Rattle.term_model.specs.Space.{Keeps}
use Rattle.prim_registry.proofs.FlatLaws.{integer_term}
use Rattle.strat_steps.specs.References.{AllRefs}
use Rattle.strat_machine.proofs.flat_values.make_integers.Given as goal

abbrev pub invariant-loop-number : goal.invariant-loop-number
invariant-loop-number g l =
    let s = g.S.TermSpace.space in
    Keeps s l.initial.space l.space × AllRefs (λ r. IsTrue (s.stands l.space r)) l.made.items ×
    (map (s.term_of l.space) l.made.items ≡ map integer_term (take l.number-index l.numbers))
