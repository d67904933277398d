use Rattle.std.proofs.Common.{◌≡◌, ◌<◌, ◌≤◌, inr, subst, List, ℕ, length, Err}
use Rattle.term_model.specs.declared.fault.Fault.TheVariants.{TermTooLong}
use Rattle.std.proofs.lemmas.Result.{IfErr-weaker}
use Rattle.str_pipeline.specs.Search.{term_of}
use Rattle.str_pipeline.specs.Judged.{PassesChecks}
use Rattle.str_pipeline.specs.Limits.{max_definitions, max_term}
use Rattle.str_pipeline.specs.Setting.{Setting, setting_of}
use Rattle.str_pipeline.specs.Written.{IsFirstFault}
use Rattle.str_pipeline.specs.Steps.{IsCompiled, IsTextResult}
use Rattle.str_pipeline.proofs.FaultLaws.{reading_apart}
use Rattle.str_pipeline.proofs.OneLine.{not_both}
use Rattle.str_pipeline.proofs.WrittenLaws.{for_each_told, told_then, program_fault, reading_result, passed}
use Rattle.str_pipeline.proofs.pipeline.outcome_after.Goals as goal

pub returns-in_err-program-clause-result : goal.returns-in_err-program-clause-result
returns-in_err-program-clause-result g c =
    let S : Setting = setting_of g.M.PrimMeaning.answer c.args.registry.now c.args.options.now in
    let short : length c.args.found.text.items ≤ max_definitions =
    rw (← c.deref.ensures.value, c.deref.ensures.len) c.requires.fits in
    for_each_told (g.S.Source.reader.coming c.args.input.now)
    (λ left. IsTextResult c.args.found.text.items (term_of c.args.found.front left) S
    c.from_residual.result)
    (λ left. rw (passed c.from_residual.result c.in_err-program.field-0.0
    c.from_residual.ensures.1)
    (program_fault c.args.found.text.items (term_of c.args.found.front left) S c.in_err-program.field-0.0 short
    (subst (λ (bytes : List ℕ). IsCompiled S bytes (Err c.in_err-program.field-0.0))
    c.deref.ensures.value c.in_err-program.ensures.program)))

pub returns-in_default-clause-result : goal.returns-in_default-clause-result
returns-in_default-clause-result g c =
    let S : Setting = setting_of g.M.PrimMeaning.answer c.args.registry.now c.args.options.now in
    let made = c.in_ok-program.ensures.program in
    let file : PassesChecks S c.args.found.text.items made.0 = rw c.deref.ensures.value at made.1 in
    let short : length c.args.found.text.items ≤ max_definitions =
    rw (← c.deref.ensures.value, c.deref.ensures.len) c.requires.fits in
    told_then (g.S.Source.reader.coming c.args.input.now)
    (λ left. max_term < length (term_of c.args.found.front left))
    (λ left. IsFirstFault c.args.found.text.items (term_of c.args.found.front left) S TermTooLong)
    (rw c.in_default.is at c.in_ok-term.ensures.whole)
    (λ left long. inr (made.0, (short, file), long))

pub returns-clause-result : goal.returns-clause-result
returns-clause-result g c =
    let S : Setting = setting_of g.M.PrimMeaning.answer c.args.registry.now c.args.options.now in
    let made = c.in_ok-program.ensures.program in
    let file : PassesChecks S c.args.found.text.items made.0 = rw c.deref.ensures.value at made.1 in
    let short : length c.args.found.text.items ≤ max_definitions =
    rw (← c.deref.ensures.value, c.deref.ensures.len) c.requires.fits in
    told_then (g.S.Source.reader.coming c.args.input.now)
    (λ left. c.in-Some.term.items ≡ term_of c.args.found.front left)
    (λ left. IsTextResult c.args.found.text.items (term_of c.args.found.front left) S c.outcome_of.result)
    (rw c.in-Some.is at c.in_ok-term.ensures.whole)
    (λ left same. rw (← same)
    (c.outcome_of.ensures.result c.args.found.text.items made.0 (short, file) made.2))

pub returns-in_err-term-clause-result : goal.returns-in_err-term-clause-result
returns-in_err-term-clause-result g c =
    let S : Setting = setting_of g.M.PrimMeaning.answer c.args.registry.now c.args.options.now in
    rw (passed c.from_residual-in_err-term.result c.in_err-term.field-0.0 c.from_residual-in_err-term.ensures.1)
    (for_each_told (g.S.Source.reader.coming c.args.input.now)
    (λ left. IsTextResult c.args.found.text.items (term_of c.args.found.front left) S (Err c.in_err-term.field-0.0))
    (λ left. reading_result c.args.found.text.items (term_of c.args.found.front left) S c.in_err-term.field-0.0
    c.in_err-term.ensures.kinds))

pub returns-clause-unread : goal.returns-clause-unread
returns-clause-unread g c =
    IfErr-weaker c.outcome_of.result _ _ (λ fault apart of_definitions. absurd (apart of_definitions))
    c.outcome_of.ensures.apart

pub returns-in_err-term-clause-unread : goal.returns-in_err-term-clause-unread
returns-in_err-term-clause-unread g c =
    rw (passed c.from_residual-in_err-term.result c.in_err-term.field-0.0 c.from_residual-in_err-term.ensures.1)
    (λ of_definitions. absurd (reading_apart c.in_err-term.field-0.0 c.in_err-term.ensures.kinds of_definitions))

pub returns-in_err-term-clause-unread_told : goal.returns-in_err-term-clause-unread_told
returns-in_err-term-clause-unread_told g c =
    let S : Setting = setting_of g.M.PrimMeaning.answer c.args.registry.now c.args.options.now in
    let made = c.in_ok-program.ensures.program in
    let file : PassesChecks S c.args.found.text.items made.0 = rw c.deref.ensures.value at made.1 in
    let short : length c.args.found.text.items ≤ max_definitions =
    rw (← c.deref.ensures.value, c.deref.ensures.len) c.requires.fits in
    λ fault refused. absurd (not_both S c.args.found.text.items made.0 fault (short, file) refused)

pub returns-in_default-clause-unread_told : goal.returns-in_default-clause-unread_told
returns-in_default-clause-unread_told g c =
    let S : Setting = setting_of g.M.PrimMeaning.answer c.args.registry.now c.args.options.now in
    let made = c.in_ok-program.ensures.program in
    let file : PassesChecks S c.args.found.text.items made.0 = rw c.deref.ensures.value at made.1 in
    let short : length c.args.found.text.items ≤ max_definitions =
    rw (← c.deref.ensures.value, c.deref.ensures.len) c.requires.fits in
    λ fault refused. absurd (not_both S c.args.found.text.items made.0 fault (short, file) refused)

pub returns-clause-unread_told : goal.returns-clause-unread_told
returns-clause-unread_told g c =
    let S : Setting = setting_of g.M.PrimMeaning.answer c.args.registry.now c.args.options.now in
    let made = c.in_ok-program.ensures.program in
    let file : PassesChecks S c.args.found.text.items made.0 = rw c.deref.ensures.value at made.1 in
    let short : length c.args.found.text.items ≤ max_definitions =
    rw (← c.deref.ensures.value, c.deref.ensures.len) c.requires.fits in
    λ fault refused. absurd (not_both S c.args.found.text.items made.0 fault (short, file) refused)
