use Rattle.core_lang.proofs.RangeLaws.{definition_there}
use Rattle.strat_compile.proofs.closed.has_definition.Goals as goal

pub returns-in-Some : goal.returns-in-Some
returns-in-Some c =
    (definition_there c.args.defs.now c.args.at c.args.strats c.args.terms c.in-Some.def.now c.has_parameters.result
    c.in-Some.ensures.lookup.3.0 c.in-Some.ensures.lookup.1 c.has_parameters.ensures).0
