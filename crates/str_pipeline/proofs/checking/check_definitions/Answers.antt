use Rattle.std.proofs.Common.{List, ℕ, subst}
use Rattle.std.specs.Prelude.{IfOk}
use Rattle.str_pipeline.specs.Verdict.{IsVerdict}
use Rattle.str_pipeline.specs.Setting.{Setting, setting_of}
use Rattle.str_pipeline.proofs.FaultLaws.{verdict_told}
use Rattle.str_pipeline.proofs.checking.check_definitions.Goals as goal

pub returns-clause-judged : goal.returns-clause-judged
returns-clause-judged g c =
    let S : Setting = setting_of g.M.PrimMeaning.answer c.args.registry.now c.args.options.now in
    verdict_told S (g.D.Source.reader.coming c.args.definitions.now) c.in-Some.text.items c.verdict_on.result
    (rw c.in-Some.is at c.in_ok-text.ensures.whole)
    (subst (λ (bytes : List ℕ). IfOk c.verdict_on.result (IsVerdict S bytes))
    c.deref.ensures.value c.verdict_on.ensures.judged)
