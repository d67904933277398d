use Rattle.strat_compile.proofs.KnownLaws.{known_done, frameless_done}
use Rattle.strat_compile.proofs.known.known_arguments.Goals as goal

pub returns-clause-given : goal.returns-clause-given
returns-clause-given c = known_done _ _ c.args.strategies.now c.loop-strategy.strategy-index _
    c.loop-strategy-test.false c.loop-strategy.invariant.1

pub returns-clause-frameless : goal.returns-clause-frameless
returns-clause-frameless c is =
    frameless_done _ _ c.args.strategies.now c.loop-strategy.strategy-index _ is c.loop-strategy-test.false
    c.loop-strategy.invariant.1
