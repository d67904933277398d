use Rattle.strat_patterns.proofs.BuildingLaws.{given_large, given_all}
use Rattle.strat_patterns.proofs.making.with_built.Goals as goal

pub returns-in-Oversize-clause-built : goal.returns-in-Oversize-clause-built
returns-in-Oversize-clause-built g c = λ all built.
    let s = g.S.TermSpace.space in
    let w = c.args.space.now in
    given_large s w w all c.args.annos.now c.args.pushed built (s.term_of w c.args.at.now) c.in-Oversize.is

pub returns-in_ok-made-in-All-clause-built : goal.returns-in_ok-made-in-All-clause-built
returns-in_ok-made-in-All-clause-built g c = λ all built.
    let s = g.S.TermSpace.space in
    let w = c.args.space.now in
    given_all s w c.with_annos.new.self all c.args.annos.now c.args.pushed built (s.term_of w c.args.at.now)
    c.in_ok-made-in-All.made c.outcome.result c.in-All.is c.in_ok-made-in-All.ensures.made c.outcome.ensures
