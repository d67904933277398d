use Rattle.std.proofs.Common.{arith}
use Rattle.strat_compile.proofs.SizeLaws.{choice_size, sequence_size}
use Rattle.strat_compile.proofs.program_size.+adding.Goals as goal

pub add_strategy-returns-in-Sequence : goal.add_strategy-returns-in-Sequence
add_strategy-returns-in-Sequence t c =
    let whole = sequence_size c.args.s.now _ _ _ c.in-Sequence.is in
    let first = rw c.deref.ensures at c.add_strategy.ensures in
    let second = rw c.deref-in-Sequence.ensures at c.add_strategy-in-Sequence.ensures in
    let rest = rw c.as_slice.ensures.value at c.add_strategies.ensures in
    omega (arith, whole, first, second, rest, c.saturating_add.ensures)

pub add_strategy-returns-in-Choice : goal.add_strategy-returns-in-Choice
add_strategy-returns-in-Choice t c =
    let whole = choice_size c.args.s.now _ _ _ c.in-Choice.is in
    let first = rw c.deref-in-Choice.ensures at c.add_arm.ensures in
    let others = rw c.as_slice-in-Choice.ensures.value at c.add_arms.ensures in
    let last = rw c.deref-in-Choice-2.ensures at c.add_strategy-in-Choice.ensures in
    omega (arith, whole, first, others, last, c.saturating_add.ensures)
