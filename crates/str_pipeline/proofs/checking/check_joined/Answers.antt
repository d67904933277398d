use Rattle.std.proofs.Common.{List, ℕ, subst}
use Rattle.std.specs.Prelude.{IfOk}
use Rattle.std.proofs.lemmas.Result.{IfOk-weaker}
use Rattle.str_pipeline.specs.Search.{term_of}
use Rattle.str_pipeline.specs.Verdict.{IsVerdict}
use Rattle.str_pipeline.specs.Setting.{Setting, setting_of}
use Rattle.str_pipeline.proofs.AfterLaws.{of_split_after}
use Rattle.str_pipeline.proofs.WrittenLaws.{for_each_told}
use Rattle.str_pipeline.proofs.checking.check_joined.Goals as goal

pub returns-clause-judged : goal.returns-clause-judged
returns-clause-judged g c =
    let S : Setting = setting_of g.M.PrimMeaning.answer c.args.registry.now c.args.options.now in
    let text : List ℕ = c.in-Some.found.text.items in
    IfOk-weaker c.verdict_on.result (IsVerdict S text) _
    (λ verdict known. of_split_after (g.L.Source.reader.coming c.args.libraries.now)
    (g.S.Source.reader.coming c.args.input.now)
    (g.S.Source.reader.coming c.read_definitions.new.input) text (term_of c.in-Some.found.front)
    (λ d t. IsVerdict S d verdict) (rw c.in-Some.is at c.in_ok-found.ensures.split)
    (for_each_told (g.S.Source.reader.coming c.read_definitions.new.input) (λ left. IsVerdict S text verdict)
    (λ left. known)))
    (subst (λ (bytes : List ℕ). IfOk c.verdict_on.result (IsVerdict S bytes))
    c.deref.ensures.value c.verdict_on.ensures.judged)
