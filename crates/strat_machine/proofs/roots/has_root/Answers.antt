use Rattle.std.proofs.Common.{ap}
use Rattle.strat_machine.specs.Tables.{root_meant}
use Rattle.strat_machine.proofs.SelectingLaws.{is_symbol_root}
use Rattle.strat_machine.proofs.roots.has_root.Goals as goal

pub returns-in-Symbol : goal.returns-in-Symbol
returns-in-Symbol g c =
    let s = g.S.TermSpace.space in
    is_symbol_root (s.term_of c.args.space.now c.args.at.now)
    c.is_app.result (root_meant (s.symbol_of c.args.space.now) c.args.root.now)
    (s.symbol_of c.args.space.now c.in-Symbol.name) c.in-Symbol.count
    (ap (root_meant (s.symbol_of c.args.space.now)) c.in-Symbol.is) c.is_app.ensures
