use Rattle.std.proofs.Common.{take, drop, length, ◌-◌}
use Rattle.strat_patterns.proofs.BuildingLaws.{apply_large, apply_all, slice_is}
use Rattle.strat_patterns.proofs.making.apply.Goals as goal

pub returns-in-Oversize-clause-built : goal.returns-in-Oversize-clause-built
returns-in-Oversize-clause-built g c = λ all built.
    let s = g.S.TermSpace.space in
    let w = c.args.space.now in
    apply_large s w w all (drop c.args.from c.args.stack.now.items) c.args.pushed (s.symbol_of w c.args.name.now)
    c.in-Oversize.is built

pub returns-in_ok-made-in-All-clause-built : goal.returns-in_ok-made-in-All-clause-built
returns-in_ok-made-in-All-clause-built g c = λ all built.
    let s = g.S.TermSpace.space in
    let w = c.args.space.now in
    let stack = c.deref.result.now in
    apply_all s w c.app.new.self all (drop c.args.from c.args.stack.now.items)
    c.args.pushed (s.symbol_of w c.args.name.now) (take (length stack - c.args.from) (drop c.args.from stack))
    c.in_ok-made-in-All.made c.outcome.result
    c.in-All.is built (slice_is c.args.from stack c.args.stack.now.items c.deref.ensures.value)
    c.in_ok-made-in-All.ensures.made c.outcome.ensures
