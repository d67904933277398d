use Rattle.core_lang.proofs.RangeLaws.{no_definition, definition_there}
use Rattle.core_lang.proofs.range.has_definition.Goals as goal

pub returns-in-Some : goal.returns-in-Some
returns-in-Some c =
    definition_there c.args.defs.now c.args.at c.args.strats c.args.terms c.in-Some.def.now c.has_parameters.result
    c.in-Some.ensures.lookup.3.0 c.in-Some.ensures.lookup.1 c.has_parameters.ensures

pub returns-in-None : goal.returns-in-None
returns-in-None c = no_definition c.args.defs.now c.args.at c.args.strats c.args.terms c.in-None.ensures.lookup.3
