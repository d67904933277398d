use Rattle.std.proofs.Common.{◌≤◌, inl, inr, length, subst, List, ℕ, Err}
use Rattle.std.proofs.lemmas.Result.{IfErr-weaker}
use Rattle.std.specs.Prelude.{IfSome}
use Rattle.term_model.specs.declared.fault.Fault.TheVariants.{DefsTooLong, TermTooLong}
use Rattle.str_pipeline.specs.Judged.{PassesChecks}
use Rattle.str_pipeline.specs.Limits.{max_definitions, max_term}
use Rattle.str_pipeline.specs.Setting.{Setting, setting_of}
use Rattle.str_pipeline.specs.Written.{IsFirstFault}
use Rattle.str_pipeline.specs.Steps.{DecidesResult, IsProgram, IsTextResult}
use Rattle.str_pipeline.proofs.FaultLaws.{reading_apart}
use Rattle.str_pipeline.proofs.OneLine.{never_refused, none_refused}
use Rattle.str_pipeline.proofs.WrittenLaws.{of_definitions, of_told, of_told_each, of_told_long, for_each_told, passed, program_fault, reading_result, told_then}
use Rattle.str_pipeline.proofs.pipeline.outcome_apart.Goals as goal

pub returns-in_err-program-clause-result : goal.returns-in_err-program-clause-result
returns-in_err-program-clause-result g c =
    let S : Setting = setting_of g.M.PrimMeaning.answer c.args.registry.now c.args.options.now in
    let short : length c.in-Some.text.items ≤ max_definitions =
    rw (← c.deref.ensures.value, c.deref.ensures.len) (rw c.in-Some.is at c.in_ok-text.ensures.fits) in
    of_told_each (g.D.Source.reader.coming c.args.defs.now)
    (g.T.Source.reader.coming c.args.term.now) c.in-Some.text.items
    (λ d t. IsTextResult d t S c.from_residual-in_err-program.result)
    (rw c.in-Some.is at c.in_ok-text.ensures.whole)
    (λ t. rw (passed c.from_residual-in_err-program.result c.in_err-program.field-0.0
    c.from_residual-in_err-program.ensures.1)
    (program_fault c.in-Some.text.items t S c.in_err-program.field-0.0 short
    (subst (λ (bytes : List ℕ). IsProgram S bytes (Err c.in_err-program.field-0.0))
    c.deref.ensures.value c.in_err-program.ensures.program)))

pub returns-in_err-text-2-clause-unread_told : goal.returns-in_err-text-2-clause-unread_told
returns-in_err-text-2-clause-unread_told g c =
    let S : Setting = setting_of g.M.PrimMeaning.answer c.args.registry.now c.args.options.now in
    let made = c.in_ok-program.ensures.program in
    let file : PassesChecks S c.in-Some.text.items made.0 = rw c.deref.ensures.value at made.1 in
    let short : length c.in-Some.text.items ≤ max_definitions =
    rw (← c.deref.ensures.value, c.deref.ensures.len) (rw c.in-Some.is at c.in_ok-text.ensures.fits) in
    none_refused S (g.D.Source.reader.coming c.args.defs.now)
    c.in-Some.text.items made.0 _ (rw c.in-Some.is at c.in_ok-text.ensures.whole) (short, file)

pub returns-in_default-2-clause-result : goal.returns-in_default-2-clause-result
returns-in_default-2-clause-result g c =
    let S : Setting = setting_of g.M.PrimMeaning.answer c.args.registry.now c.args.options.now in
    let made = c.in_ok-program.ensures.program in
    let file : PassesChecks S c.in-Some.text.items made.0 = rw c.deref.ensures.value at made.1 in
    let short : length c.in-Some.text.items ≤ max_definitions =
    rw (← c.deref.ensures.value, c.deref.ensures.len) (rw c.in-Some.is at c.in_ok-text.ensures.fits) in
    of_told_long (g.D.Source.reader.coming c.args.defs.now) (g.T.Source.reader.coming c.args.term.now)
    c.in-Some.text.items max_term (λ d t. IsFirstFault d t S TermTooLong)
    (rw c.in-Some.is at c.in_ok-text.ensures.whole)
    (rw c.in_default-2.is at c.in_ok-text-2.ensures.whole)
    (λ t long. inr (made.0, (short, file), long))

pub returns-in_default-2-clause-unread_told : goal.returns-in_default-2-clause-unread_told
returns-in_default-2-clause-unread_told g c =
    let S : Setting = setting_of g.M.PrimMeaning.answer c.args.registry.now c.args.options.now in
    let made = c.in_ok-program.ensures.program in
    let file : PassesChecks S c.in-Some.text.items made.0 = rw c.deref.ensures.value at made.1 in
    let short : length c.in-Some.text.items ≤ max_definitions =
    rw (← c.deref.ensures.value, c.deref.ensures.len) (rw c.in-Some.is at c.in_ok-text.ensures.fits) in
    none_refused S (g.D.Source.reader.coming c.args.defs.now)
    c.in-Some.text.items made.0 _ (rw c.in-Some.is at c.in_ok-text.ensures.whole) (short, file)

pub returns-clause-unread_told : goal.returns-clause-unread_told
returns-clause-unread_told g c =
    let S : Setting = setting_of g.M.PrimMeaning.answer c.args.registry.now c.args.options.now in
    let made = c.in_ok-program.ensures.program in
    let file : PassesChecks S c.in-Some.text.items made.0 = rw c.deref.ensures.value at made.1 in
    let short : length c.in-Some.text.items ≤ max_definitions =
    rw (← c.deref.ensures.value, c.deref.ensures.len) (rw c.in-Some.is at c.in_ok-text.ensures.fits) in
    none_refused S (g.D.Source.reader.coming c.args.defs.now)
    c.in-Some.text.items made.0 _ (rw c.in-Some.is at c.in_ok-text.ensures.whole) (short, file)

pub returns-clause-result : goal.returns-clause-result
returns-clause-result g c =
    let S : Setting = setting_of g.M.PrimMeaning.answer c.args.registry.now c.args.options.now in
    let made = c.in_ok-program.ensures.program in
    let file : PassesChecks S c.in-Some.text.items made.0 = rw c.deref.ensures.value at made.1 in
    of_told (g.D.Source.reader.coming c.args.defs.now) (g.T.Source.reader.coming c.args.term.now)
    c.in-Some.text.items c.in-Some-2.text.items
    (λ d t. IsTextResult d t S c.outcome_of.result)
    (rw c.in-Some.is at c.in_ok-text.ensures.whole)
    (rw c.in-Some-2.is at c.in_ok-text-2.ensures.whole)
    (c.outcome_of.ensures.result c.in-Some.text.items made.0
    (rw (← c.deref.ensures.value, c.deref.ensures.len) (rw c.in-Some.is at c.in_ok-text.ensures.fits), file) made.2)

pub returns-in_err-text-2-clause-result : goal.returns-in_err-text-2-clause-result
returns-in_err-text-2-clause-result g c =
    let S : Setting = setting_of g.M.PrimMeaning.answer c.args.registry.now c.args.options.now in
    rw (passed c.from_residual-in_err-text-2.result c.in_err-text-2.field-0.0 c.from_residual-in_err-text-2.ensures.1)
    (for_each_told (g.D.Source.reader.coming c.args.defs.now)
    (λ d. IfSome (g.T.Source.reader.coming c.args.term.now) (λ t. IsTextResult d t S (Err c.in_err-text-2.field-0.0)))
    (λ d. for_each_told (g.T.Source.reader.coming c.args.term.now) (λ t.
    IsTextResult d t S (Err c.in_err-text-2.field-0.0))
    (λ t. reading_result d t S c.in_err-text-2.field-0.0 c.in_err-text-2.ensures.kinds)))

pub returns-clause-unread : goal.returns-clause-unread
returns-clause-unread g c = IfErr-weaker c.outcome_of.result _ _
    (λ fault apart of_definitions. absurd (apart of_definitions)) c.outcome_of.ensures.apart

pub returns-in_err-text-2-clause-unread : goal.returns-in_err-text-2-clause-unread
returns-in_err-text-2-clause-unread g c =
    rw (passed c.from_residual-in_err-text-2.result c.in_err-text-2.field-0.0 c.from_residual-in_err-text-2.ensures.1)
    (λ of_definitions. absurd (reading_apart c.in_err-text-2.field-0.0 c.in_err-text-2.ensures.kinds of_definitions))

pub returns-in_err-text-2-clause-refused : goal.returns-in_err-text-2-clause-refused
returns-in_err-text-2-clause-refused g c =
    let S : Setting = setting_of g.M.PrimMeaning.answer c.args.registry.now c.args.options.now in
    let made = c.in_ok-program.ensures.program in
    let file : PassesChecks S c.in-Some.text.items made.0 = rw c.deref.ensures.value at made.1 in
    let short : length c.in-Some.text.items ≤ max_definitions =
    rw (← c.deref.ensures.value, c.deref.ensures.len) (rw c.in-Some.is at c.in_ok-text.ensures.fits) in
    never_refused S (g.D.Source.reader.coming c.args.defs.now) c.in-Some.text.items made.0
    (λ d. (t : List ℕ) → IsTextResult d t S c.from_residual-in_err-text-2.result)
    (rw c.in-Some.is at c.in_ok-text.ensures.whole) (short, file)

pub returns-in_default-2-clause-refused : goal.returns-in_default-2-clause-refused
returns-in_default-2-clause-refused g c =
    let S : Setting = setting_of g.M.PrimMeaning.answer c.args.registry.now c.args.options.now in
    let made = c.in_ok-program.ensures.program in
    let file : PassesChecks S c.in-Some.text.items made.0 = rw c.deref.ensures.value at made.1 in
    let short : length c.in-Some.text.items ≤ max_definitions =
    rw (← c.deref.ensures.value, c.deref.ensures.len) (rw c.in-Some.is at c.in_ok-text.ensures.fits) in
    never_refused S (g.D.Source.reader.coming c.args.defs.now) c.in-Some.text.items made.0
    (λ d. (t : List ℕ) → IsTextResult d t S (Err TermTooLong))
    (rw c.in-Some.is at c.in_ok-text.ensures.whole) (short, file)

pub returns-clause-refused : goal.returns-clause-refused
returns-clause-refused g c =
    let S : Setting = setting_of g.M.PrimMeaning.answer c.args.registry.now c.args.options.now in
    let made = c.in_ok-program.ensures.program in
    let file : PassesChecks S c.in-Some.text.items made.0 = rw c.deref.ensures.value at made.1 in
    let short : length c.in-Some.text.items ≤ max_definitions =
    rw (← c.deref.ensures.value, c.deref.ensures.len) (rw c.in-Some.is at c.in_ok-text.ensures.fits) in
    never_refused S (g.D.Source.reader.coming c.args.defs.now) c.in-Some.text.items made.0
    (λ d. (t : List ℕ) → IsTextResult d t S c.outcome_of.result)
    (rw c.in-Some.is at c.in_ok-text.ensures.whole) (short, file)

pub returns-in_err-program-clause-refused : goal.returns-in_err-program-clause-refused
returns-in_err-program-clause-refused g c =
    let S : Setting = setting_of g.M.PrimMeaning.answer c.args.registry.now c.args.options.now in
    let short : length c.in-Some.text.items ≤ max_definitions =
    rw (← c.deref.ensures.value, c.deref.ensures.len) (rw c.in-Some.is at c.in_ok-text.ensures.fits) in
    of_definitions (g.D.Source.reader.coming c.args.defs.now) c.in-Some.text.items
    (λ d. DecidesResult S d c.from_residual-in_err-program.result)
    (rw c.in-Some.is at c.in_ok-text.ensures.whole)
    (λ fault refused t. rw (passed c.from_residual-in_err-program.result c.in_err-program.field-0.0
    c.from_residual-in_err-program.ensures.1)
    (program_fault c.in-Some.text.items t S c.in_err-program.field-0.0 short
    (subst (λ (bytes : List ℕ). IsProgram S bytes (Err c.in_err-program.field-0.0))
    c.deref.ensures.value c.in_err-program.ensures.program)))

pub returns-in_default-clause-refused : goal.returns-in_default-clause-refused
returns-in_default-clause-refused g c =
    let S : Setting = setting_of g.M.PrimMeaning.answer c.args.registry.now c.args.options.now in
    told_then (g.D.Source.reader.coming c.args.defs.now) _ (λ d. DecidesResult S d (Err DefsTooLong))
    (rw c.in_default.is at c.in_ok-text.ensures.whole)
    (λ d long fault refused t. inl long)

pub returns-in_err-text-clause-refused : goal.returns-in_err-text-clause-refused
returns-in_err-text-clause-refused g c =
    let S : Setting = setting_of g.M.PrimMeaning.answer c.args.registry.now c.args.options.now in
    rw (passed c.from_residual.result c.in_err-text.field-0.0 c.from_residual.ensures.1)
    (for_each_told (g.D.Source.reader.coming c.args.defs.now)
    (λ d. DecidesResult S d (Err c.in_err-text.field-0.0))
    (λ d fault refused t. reading_result d t S c.in_err-text.field-0.0 c.in_err-text.ensures.kinds))
