use Rattle.str_syntax.specs.Views.{strategy_of}
use Rattle.str_desugar.specs.Variables.{free_in}
use Rattle.str_desugar.proofs.GatheredSteps.{free_all}
use Rattle.str_desugar.proofs.variables.free_of_strategy.Goals as goal

pub returns : goal.returns
returns c = free_all _ c.new-found.result c.in_strategy.new.found c.args.terms.now
    (free_in (strategy_of c.args.source.now)) c.in_ok-terms.ensures c.new-found.ensures c.in_ok-in_strategy.ensures
