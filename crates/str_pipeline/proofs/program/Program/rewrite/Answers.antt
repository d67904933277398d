use Rattle.std.proofs.lemmas.Result.{IfOk-weaker}
use Rattle.prim_registry.specs.Entries.{entries_of}
use Rattle.str_pipeline.specs.Setting.{Setting, setting_of}
use Rattle.str_pipeline.proofs.program.Program.rewrite.Goals as goal

pub returns-clause-written : goal.returns-clause-written
returns-clause-written g c =
    let S : Setting = setting_of g.M.PrimMeaning.answer c.args.registry.now c.args.options.now in
    let outcome = c.next_outcome-outcome in
    IfOk-weaker c.finish.result _ _
    (λ status each d f accepted of_file.
    each d c.args.text.now S (outcome.ensures.result d f accepted of_file))
    c.finish.ensures.written

pub returns-clause-begun : goal.returns-clause-begun
returns-clause-begun g c = λ writing d f accepted of_file.
    let S : Setting = setting_of g.M.PrimMeaning.answer c.args.registry.now c.args.options.now in
    let outcome = c.next_outcome-outcome in
    c.finish.ensures.begun writing d c.args.text.now S
    (outcome.ensures.result d f accepted of_file)

pub returns-clause-ready : goal.returns-clause-ready
returns-clause-ready g c =
    c.empty.ensures.ready (entries_of c.args.registry.now) c.next_outcome-outcome.ensures.ready
