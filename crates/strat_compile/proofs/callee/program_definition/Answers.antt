use Rattle.strat_compile.proofs.LayerLaws.{is_defined}
use Rattle.strat_compile.proofs.callee.program_definition.Goals as goal

pub returns : goal.returns
returns c =
    let here = c.in_ok-def.ensures.lookup in
    is_defined _ _ _ _ _ _ c.reach.ensures.context c.in-Defining.is c.in-Outermost.is here.3.0 here.1
