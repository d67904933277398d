use Rattle.std.proofs.Common.{take, drop, length, ◌-◌}
use Rattle.strat_patterns.proofs.BuildingLaws.{list_large, list_all, list_open, slice_is}
use Rattle.strat_patterns.proofs.making.list.Goals as goal

pub returns-in-Oversize-clause-built : goal.returns-in-Oversize-clause-built
returns-in-Oversize-clause-built g c = λ all built.
    let s = g.S.TermSpace.space in
    let w = c.args.space.now in
    list_large s w w all (drop c.args.from c.args.stack.now.items) c.args.elements c.in-Oversize.is built

pub returns-in_ok-made-in-All-clause-built : goal.returns-in_ok-made-in-All-clause-built
returns-in_ok-made-in-All-clause-built g c = λ all built.
    let s = g.S.TermSpace.space in
    let stack = c.deref.result.now in
    list_all s c.args.space.now c.list.new.self all (drop c.args.from c.args.stack.now.items)
    c.args.elements (take (length stack - c.args.from) (drop c.args.from stack))
    c.in_ok-made-in-All.made c.outcome.result c.in-All.is built
    (slice_is c.args.from stack c.args.stack.now.items c.deref.ensures.value)
    c.in_ok-made-in-All.ensures.made c.outcome.ensures

pub returns-in_ok-made-in-Before-clause-built : goal.returns-in_ok-made-in-Before-clause-built
returns-in_ok-made-in-Before-clause-built g c = λ all built.
    let s = g.S.TermSpace.space in
    let stack = c.deref-in-Before.result.now in
    list_open s c.args.space.now c.prepend.new.self all (drop c.args.from c.args.stack.now.items)
    c.args.elements (take (length stack - c.args.from) (drop c.args.from stack))
    c.in-Before.tail c.in_ok-made-in-Before.made c.outcome-in-Before.result
    c.in-Before.is built (slice_is c.args.from stack c.args.stack.now.items c.deref-in-Before.ensures.value)
    c.in_ok-made-in-Before.ensures.made c.outcome-in-Before.ensures
