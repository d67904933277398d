use Rattle.strat_patterns.specs.Loaded.{all_loaded_of}
use Rattle.strat_machine.proofs.PatternLaws.{calls_so, calls_none_so, calls_large_so}
use Rattle.strat_machine.proofs.patterns.perform_call.Goals as goal

pub returns-in-NoInstance-clause-step : goal.returns-in-NoInstance-clause-step
returns-in-NoInstance-clause-step g c =
    λ M n i. calls_none_so n c.args.position.now.frame
    (all_loaded_of (g.S.TermSpace.space.symbol_of c.args.space.now) c.args.patterns.now) c.args.stacks.now.frames
    c.in_ok-place_arguments.ensures.keeps c.in_ok-place_arguments.ensures.placed c.in-NoInstance.is

pub returns-in-Oversize-clause-step : goal.returns-in-Oversize-clause-step
returns-in-Oversize-clause-step g c =
    λ M n i. calls_large_so n c.args.position.now.frame
    (all_loaded_of (g.S.TermSpace.space.symbol_of c.args.space.now) c.args.patterns.now) c.args.stacks.now.frames
    c.in_ok-place_arguments.ensures.keeps c.in_ok-place_arguments.ensures.placed c.in-Oversize.is

pub returns-in_ok-enter_definition-in-All-clause-step : goal.returns-in_ok-enter_definition-in-All-clause-step
returns-in_ok-enter_definition-in-All-clause-step g c =
    λ M n i. calls_so n c.args.position.now.frame
    (all_loaded_of (g.S.TermSpace.space.symbol_of c.args.space.now) c.args.patterns.now) c.args.stacks.now.frames
    c.in_ok-place_arguments.ensures.keeps c.in_ok-place_arguments.ensures.placed c.in-All.is c.len-base.ensures
    c.in_ok-enter_definition-in-All.ensures
