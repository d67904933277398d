use Rattle.std.proofs.lemmas.Result.{err_from_is_err_and}
use Rattle.str_pipeline.specs.Setting.{Setting, setting_of}
use Rattle.str_pipeline.proofs.program.outcome_of.Goals as goal

pub returns-in_err-program-clause-result : goal.returns-in_err-program-clause-result
returns-in_err-program-clause-result g c = λ d f accepted of_file.
    let p = err_from_is_err_and c.from_residual.result c.from_residual.ensures.1 in
    rw (p.1, p.2) tt

pub last_outcome-requires-clause-covers : goal.last_outcome-requires-clause-covers
last_outcome-requires-clause-covers g c = rw (c.in_ok-program.ensures.code) c.requires.covers

pub returns-clause-result : goal.returns-clause-result
returns-clause-result g c = λ d f accepted of_file.
    let S : Setting = setting_of g.M.PrimMeaning.answer c.args.registry.now c.args.options.now in
    c.last_outcome.ensures.result d f accepted (c.in_ok-program.ensures.of S f of_file)
