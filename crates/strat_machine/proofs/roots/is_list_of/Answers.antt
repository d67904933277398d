use Rattle.std.proofs.Common.{refl}
use Rattle.strat_machine.proofs.SelectingLaws.{is_list_root, is_open_list_root}
use Rattle.strat_machine.proofs.roots.is_list_of.Goals as goal

pub returns-then-is_open : goal.returns-then-is_open
returns-then-is_open g c = is_open_list_root (g.S.TermSpace.space.term_of c.args.space.now c.args.at.now)
    _ c.args.count c.args.is_open c.in-Some.len c.if-is_open.true c.in-Some.ensures refl

pub returns : goal.returns
returns g c = is_list_root (g.S.TermSpace.space.term_of c.args.space.now c.args.at.now)
    _ c.args.count c.args.is_open c.in-Some.len c.if-is_open.false c.in-Some.ensures refl
