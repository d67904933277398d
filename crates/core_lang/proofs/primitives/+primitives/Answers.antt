use Rattle.std.proofs.Common.{map, ap, sym, ◌∙◌}
use Rattle.core_lang.specs.Views.{arm_of, strategy_of}
use Rattle.core_lang.proofs.ReadLaws.{reads_sequence, reads_choice, reads_scope, reads_all, reads_one, reads_some, reads_let, reads_call, reads_primitive, reads_arm, reads_def}
use Rattle.core_lang.proofs.PrimitivesOfCodeLaws.{adds_at, adds_both, sequence_adds, choice_adds, primitive_adds, strategies_next, strategies_all, arms_next, arms_all, definitions_next, definitions_all}
use Rattle.core_lang.proofs.primitives.+primitives.Goals as goal

pub add_arm-returns : goal.add_arm-returns
add_arm-returns t c = rw (reads_arm c.args.arm.now)
    (adds_both c.in_ok-add_strategy.ensures c.in_ok-add_strategy-2.ensures)

pub add_strategy-returns-in_ok-add_strategies-in-Sequence : goal.add_strategy-returns-in_ok-add_strategies-in-Sequence
add_strategy-returns-in_ok-add_strategies-in-Sequence t c =
    let first = rw c.deref.ensures at c.in_ok-add_strategy-in-Sequence.ensures in
    let second = rw c.deref-in-Sequence.ensures at c.in_ok-add_strategy-in-Sequence-2.ensures in
    let rest = rw c.as_slice.ensures.value at c.in_ok-add_strategies-in-Sequence.ensures in
    sequence_adds (strategy_of c.in-Sequence.first.value) (strategy_of c.in-Sequence.second.value)
    (map strategy_of c.in-Sequence.rest.items)
    (ap strategy_of c.in-Sequence.is ∙ reads_sequence _ _ _) first second rest

pub add_strategy-returns-in_ok-add_strategy-in-Choice : goal.add_strategy-returns-in_ok-add_strategy-in-Choice
add_strategy-returns-in_ok-add_strategy-in-Choice t c =
    let first = rw c.deref-in-Choice.ensures at c.in_ok-add_arm-in-Choice.ensures in
    let others = rw c.as_slice-in-Choice.ensures.value at c.in_ok-add_arms-in-Choice.ensures in
    let last = rw c.deref-in-Choice-2.ensures at c.in_ok-add_strategy-in-Choice.ensures in
    choice_adds (arm_of c.in-Choice.arm.value) (map arm_of c.in-Choice.more.items)
    (strategy_of c.in-Choice.otherwise.value)
    (ap strategy_of c.in-Choice.is ∙ reads_choice _ _ _) first others last

pub add_strategy-returns-in_ok-add_strategy-in-Scope : goal.add_strategy-returns-in_ok-add_strategy-in-Scope
add_strategy-returns-in_ok-add_strategy-in-Scope t c =
    adds_at (ap strategy_of c.in-Scope.is ∙
    reads_scope _ _) (rw c.deref-in-Scope.ensures at c.in_ok-add_strategy-in-Scope.ensures)

pub add_strategy-returns-in_ok-add_strategy-in-All : goal.add_strategy-returns-in_ok-add_strategy-in-All
add_strategy-returns-in_ok-add_strategy-in-All t c =
    adds_at (ap strategy_of c.in-All.is ∙
    reads_all _) (rw c.deref-in-All.ensures at c.in_ok-add_strategy-in-All.ensures)

pub add_strategy-returns-in_ok-add_strategy-in-One : goal.add_strategy-returns-in_ok-add_strategy-in-One
add_strategy-returns-in_ok-add_strategy-in-One t c =
    adds_at (ap strategy_of c.in-One.is ∙
    reads_one _) (rw c.deref-in-One.ensures at c.in_ok-add_strategy-in-One.ensures)

pub add_strategy-returns-in_ok-add_strategy-in-Some : goal.add_strategy-returns-in_ok-add_strategy-in-Some
add_strategy-returns-in_ok-add_strategy-in-Some t c =
    adds_at (ap strategy_of c.in-Some.is ∙
    reads_some _) (rw c.deref-in-Some.ensures at c.in_ok-add_strategy-in-Some.ensures)

pub add_strategy-returns-in_ok-add_strategy-in-LetIn : goal.add_strategy-returns-in_ok-add_strategy-in-LetIn
add_strategy-returns-in_ok-add_strategy-in-LetIn t c =
    let first = rw c.as_slice-in-LetIn.ensures.value at c.in_ok-add_definitions-in-LetIn.ensures in
    let body = rw c.deref-in-LetIn.ensures at c.in_ok-add_strategy-in-LetIn.ensures in
    adds_at (ap strategy_of c.in-LetIn.is ∙ reads_let _ _) (adds_both first body)

pub add_strategy-returns-in_ok-add_strategies-in-Call : goal.add_strategy-returns-in_ok-add_strategies-in-Call
add_strategy-returns-in_ok-add_strategies-in-Call t c =
    adds_at (ap strategy_of c.in-Call.is ∙
    reads_call _ _ _) (rw c.as_slice-in-Call.ensures.value at c.in_ok-add_strategies-in-Call.ensures)

pub add_strategy-returns-in_ok-insert-in-Primitive : goal.add_strategy-returns-in_ok-insert-in-Primitive
add_strategy-returns-in_ok-insert-in-Primitive t c =
    primitive_adds c.as_slice-in-Primitive.result.now c.len.result c.in-Primitive.name.items c.in-Primitive.terms.items
    (ap strategy_of c.in-Primitive.is ∙ reads_primitive _ _)
    c.as_slice-in-Primitive.ensures.value (c.len.ensures ∙
    c.in-Primitive.terms.ok.0) c.in_ok-insert-in-Primitive.ensures.inserted

pub add_strategies-returns : goal.add_strategies-returns
add_strategies-returns t c = strategies_all c.args.strategies.now c.loop-s.s-index c.loop-s-test.false
    c.loop-s.invariant

pub add_strategies-loop-s-preserved : goal.add_strategies-loop-s-preserved
add_strategies-loop-s-preserved t c =
    strategies_next c.args.strategies.now c.loop-s.s-index c.s-item.result c.loop-s-test.true c.s-item.is
    c.loop-s.invariant c.in_ok-add_strategy.ensures

pub add_arms-returns : goal.add_arms-returns
add_arms-returns t c = arms_all c.args.arms.now c.loop-arm.arm-index c.loop-arm-test.false c.loop-arm.invariant

pub add_arms-loop-arm-preserved : goal.add_arms-loop-arm-preserved
add_arms-loop-arm-preserved t c =
    arms_next c.args.arms.now c.loop-arm.arm-index c.arm-item.result c.loop-arm-test.true c.arm-item.is
    c.loop-arm.invariant c.in_ok-add_arm.ensures

pub add_definitions-returns : goal.add_definitions-returns
add_definitions-returns t c = definitions_all c.args.defs.now c.loop-def.def-index c.loop-def-test.false
    c.loop-def.invariant

pub add_definitions-loop-def-preserved : goal.add_definitions-loop-def-preserved
add_definitions-loop-def-preserved t c =
    let body = rw (sym (ap (λ d. d.body) (reads_def c.def-item.result))) at c.in_ok-add_strategy.ensures in
    definitions_next c.args.defs.now c.loop-def.def-index c.def-item.result c.loop-def-test.true c.def-item.is
    c.loop-def.invariant body
