use Rattle.str_syntax.specs.Views.{rule_of}
use Rattle.str_desugar.specs.Variables.{free_in_rule}
use Rattle.str_desugar.proofs.GatheredSteps.{free_all}
use Rattle.str_desugar.proofs.variables.free_of_rule.Goals as goal

pub returns : goal.returns
returns c = free_all _ c.new-found.result c.in_rule.new.found c.args.terms.now
    (free_in_rule (rule_of c.args.source.now)) c.in_ok-terms.ensures c.new-found.ensures c.in_ok-in_rule.ensures
