use Rattle.std.proofs.Common.{ap}
use Rattle.std.specs.Option.{option_map}
use Rattle.term_model.specs.Flat as flat
use Rattle.prim_registry.specs.Entries.{entries_of}
use Rattle.prim_registry.specs.Values.{answer_of, value_of}
use Rattle.strat_patterns.proofs.BuildingLaws.{outcome_is}
use Rattle.strat_machine.proofs.PrimitiveLaws.{not_called, called_at}
use Rattle.strat_machine.proofs.primitives.answer.Goals as goal

pub returns-in_default-clause-answer : goal.returns-in_default-clause-answer
returns-in_default-clause-answer g c = λ f position.
    not_called (entries_of c.args.registry.now) g.M.PrimMeaning.answer f (g.S.TermSpace.space.term_of c.args.space.now)
    c.args.terms.now c.args.position position c.in_default.is

pub returns-clause-answer : goal.returns-clause-answer
returns-clause-answer g c = λ f position.
    let s = g.S.TermSpace.space in
    let t = flat.term_of (value_of c.in-Some-2.value) in
    outcome_is s c.make_flat.new.space _ t c.in_ok-made.made c.outcome.result c.in_ok-made.ensures.made
    (called_at (entries_of c.args.registry.now) g.M.PrimMeaning.answer f (s.term_of c.args.space.now)
    c.args.terms.now c.args.position position c.in-Some.index (answer_of c.in_ok-value.field-0)
    t c.in-Some.is c.in_ok-value.ensures
    (ap (λ o. option_map flat.term_of (answer_of o)) c.in-Some-2.is)) c.outcome.ensures
