use Rattle.std.proofs.Common.{◌≤◌, ℕ, List, length, subst, Err, Ok}
use Rattle.prim_registry.specs.Entries.{entries_of}
use Rattle.strat_code.specs.CodeOf.{CodeParts}
use Rattle.str_pipeline.specs.Limits.{max_term}
use Rattle.str_pipeline.specs.Setting.{Setting, setting_of}
use Rattle.str_pipeline.specs.Steps.{IsTermRead, IsTextOfRun}
use Rattle.term_store.specs.StoredTerms.{stored_terms}
use Rattle.str_pipeline.proofs.WrittenLaws.{passed, run_result, term_fault}
use Rattle.str_pipeline.proofs.program.Program.last_outcome.Goals as goal

pub returns-in_err-term-clause-result : goal.returns-in_err-term-clause-result
returns-in_err-term-clause-result g c d f accepted of_file =
    let S : Setting = setting_of g.M.PrimMeaning.answer c.args.registry.now c.args.options.now in
    let program = c.args.self.now in
    let fault = c.in_err-term.field-0.0 in
    let short : length c.args.text.items ≤ max_term =
    subst (λ (n : ℕ). n ≤ max_term) c.args.text.ok.0 c.requires.fits in
    rw (passed c.from_residual.result fault c.from_residual.ensures.1)
    (term_fault S program c.args.text.items fault short
    (subst (λ (text : List ℕ). IsTermRead S.options.strict program.signature text (Err fault))
    c.deref.ensures.value c.in_err-term.ensures.read) d f accepted of_file)

pub outcome-requires-clause-covers : goal.outcome-requires-clause-covers
outcome-requires-clause-covers g c = rw (c.term.ensures.same.1) c.requires.covers

pub outcome-requires-clause-ready : goal.outcome-requires-clause-ready
outcome-requires-clause-ready g c =
    c.term.ensures.ready (entries_of c.args.registry.now) c.requires.ready

pub returns-clause-result : goal.returns-clause-result
returns-clause-result g c =
    let S : Setting = setting_of g.M.PrimMeaning.answer c.args.registry.now c.args.options.now in
    let program = c.args.self.now in
    let short : length c.args.text.items ≤ max_term =
    subst (λ (n : ℕ). n ≤ max_term) c.args.text.ok.0 c.requires.fits in
    let t = stored_terms.term_of c.term.new.self.space c.in_ok-term.term in
    let told = c.in_ok-outcome.outcome in
    run_result S program c.args.text.items t told short
    (subst (λ (text : List ℕ). IsTermRead S.options.strict program.signature text (Ok t))
    c.deref.ensures.value c.in_ok-term.ensures.read)
    (subst (λ (code : CodeParts). IsTextOfRun S.meaning code t S.options.budget told)
    c.term.ensures.same.1 c.in_ok-outcome.ensures.outcome)
