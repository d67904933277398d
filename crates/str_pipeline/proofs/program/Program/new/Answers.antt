use Rattle.std.proofs.lemmas.Result.{err_from_is_err_and}
use Rattle.str_pipeline.specs.Setting.{Setting, setting_of}
use Rattle.str_pipeline.proofs.program.Program.new.Goals as goal

pub returns-in_err-program-clause-program : goal.returns-in_err-program-clause-program
returns-in_err-program-clause-program g c =
    let residual = c.from_residual-in_err-program in
    let p = err_from_is_err_and residual.result residual.ensures.1 in
    rw (p.1, p.2) tt

pub returns-clause-program : goal.returns-clause-program
returns-clause-program g c =
    let S : Setting = setting_of g.M.PrimMeaning.answer c.args.registry.now c.args.options.now in
    let made = c.in_ok-compiled.ensures.program in
    (made.0, made.1, c.in_ok-program.ensures.of S made.0 made.2)

pub returns-clause-covers : goal.returns-clause-covers
returns-clause-covers g c = rw (c.in_ok-program.ensures.code) c.in_ok-compiled.ensures.covers
