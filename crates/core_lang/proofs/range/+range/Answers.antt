use Rattle.std.proofs.Common.{refl}
use Rattle.core_lang.specs.RangeOfCode.{layers_of}
use Rattle.core_lang.proofs.RangeLaws.{sequence_range, choices_range, call_range, first_out, first_in, along}
use Rattle.core_lang.proofs.range.+range.Goals as goal

pub strategy_in_range-returns-then-not-strategy_in_range-2 : goal.strategy_in_range-returns-then-not-strategy_in_range-2
strategy_in_range-returns-then-not-strategy_in_range-2 t c =
    let whole = sequence_range (layers_of c.args.layers.now)
    c.args.s.now c.in-Sequence.first c.in-Sequence.second c.in-Sequence.rest c.in-Sequence.is in
    let first = rw c.deref.ensures at c.strategy_in_range.ensures in
    let second = rw c.deref-in-Sequence.ensures at c.strategy_in_range-in-Sequence.ensures in
    first_out _ (first_in _ whole first c.if-not-strategy_in_range.false) second c.if-not-strategy_in_range-2.true

pub strategy_in_range-returns-else-not-strategy_in_range-2 : goal.strategy_in_range-returns-else-not-strategy_in_range-2
strategy_in_range-returns-else-not-strategy_in_range-2 t c =
    let whole = sequence_range (layers_of c.args.layers.now)
    c.args.s.now c.in-Sequence.first c.in-Sequence.second c.in-Sequence.rest c.in-Sequence.is in
    let first = rw c.deref.ensures at c.strategy_in_range.ensures in
    let second = rw c.deref-in-Sequence.ensures at c.strategy_in_range-in-Sequence.ensures in
    let rest = rw c.deref-in-Sequence-2.ensures.value at c.strategies_in_range.ensures in
    along _ (first_in _ (first_in _ whole first c.if-not-strategy_in_range.false)
    second c.if-not-strategy_in_range-2.false) rest

pub strategy_in_range-returns-then-not-arms_in_range : goal.strategy_in_range-returns-then-not-arms_in_range
strategy_in_range-returns-then-not-arms_in_range t c =
    let whole = choices_range (layers_of c.args.layers.now)
    c.args.s.now c.in-Choice.arm c.in-Choice.more c.in-Choice.otherwise c.in-Choice.is in
    let first = rw c.deref-in-Choice.ensures at c.arm_in_range.ensures in
    let others = rw c.deref-in-Choice-2.ensures.value at c.arms_in_range.ensures in
    first_out _ (first_in _ whole first c.if-not-arm_in_range.false) others c.if-not-arms_in_range.true

pub strategy_in_range-returns-else-not-arms_in_range : goal.strategy_in_range-returns-else-not-arms_in_range
strategy_in_range-returns-else-not-arms_in_range t c =
    let whole = choices_range (layers_of c.args.layers.now)
    c.args.s.now c.in-Choice.arm c.in-Choice.more c.in-Choice.otherwise c.in-Choice.is in
    let first = rw c.deref-in-Choice.ensures at c.arm_in_range.ensures in
    let others = rw c.deref-in-Choice-2.ensures.value at c.arms_in_range.ensures in
    let last = rw c.deref-in-Choice-3.ensures at c.strategy_in_range-in-Choice.ensures in
    along _ (first_in _ (first_in _ whole first c.if-not-arm_in_range.false) others c.if-not-arms_in_range.false) last

pub call_in_range-returns-then-not-has_callee : goal.call_in_range-returns-then-not-has_callee
call_in_range-returns-then-not-has_callee t c =
    let whole = call_range (layers_of c.args.layers.now)
    c.args.x c.args.strategies.now c.args.terms.now _ _ refl refl in
    first_out _ whole c.has_callee.ensures c.if-not-has_callee.true

pub call_in_range-returns : goal.call_in_range-returns
call_in_range-returns t c =
    let whole = call_range (layers_of c.args.layers.now)
    c.args.x c.args.strategies.now c.args.terms.now _ _ refl refl in
    along _ (first_in _ (first_in _ whole c.has_callee.ensures c.if-not-has_callee.false)
    c.strategies_in_range.ensures c.if-not-strategies_in_range.false) c.patterns_in_range.ensures
