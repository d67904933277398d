use Rattle.std.proofs.Common.{List, ℕ}
use Rattle.std.specs.Prelude.{Option}
use Rattle.std.proofs.lemmas.Result.{IfOk-weaker}
use Rattle.term_model.specs.declared.fault.Fault.{Fault}
use Rattle.str_pipeline.specs.Judged.{AreRefused}
use Rattle.str_pipeline.specs.Setting.{Setting, setting_of}
use Rattle.str_pipeline.specs.Steps.{IsTextResult}
use Rattle.str_pipeline.specs.Written.{HasBegun, HasWritten}
use Rattle.str_pipeline.proofs.AfterLaws.{then_after}
use Rattle.str_pipeline.proofs.OneLine.{whatever_the_term}
use Rattle.str_pipeline.proofs.pipeline.transform_joined_with_notes.Goals as goal

pub returns-clause-transforms : goal.returns-clause-transforms
returns-clause-transforms g c =
    let S : Setting = setting_of g.M.PrimMeaning.answer c.args.registry.now c.args.options.now in
    let libraries : Option (List ℕ) = g.L.Source.reader.coming c.args.libraries.now in
    let input : Option (List ℕ) = g.S.Source.reader.coming c.args.input.now in
    let old : Option (List ℕ) = g.W.Sink.writer.written c.args.out.now in
    let new : Option (List ℕ) = g.W.Sink.writer.written c.finish-status.new.out in
    record {
      written = IfOk-weaker c.finish-status.result _ _
          (λ status each. then_after libraries input (λ d t. IsTextResult d t S c.outcome_joined-outcome.result)
          (λ d t. HasWritten d t S status old new)
          c.outcome_joined-outcome.ensures.result (λ d t is. each d t S is))
          c.finish-status.ensures.written;
      begun = λ writing. then_after libraries input (λ d t. IsTextResult d t S c.outcome_joined-outcome.result)
          (λ d t. HasBegun d t S old new)
          c.outcome_joined-outcome.ensures.result (λ d t is. c.finish-status.ensures.begun writing d t S is);
      refused = IfOk-weaker c.finish-status.result _ _
          (λ status each. then_after libraries input (λ d t. IsTextResult d t S c.outcome_joined-outcome.result)
          (λ d t. (fault : Fault) → AreRefused S d fault → (u : List ℕ) → HasWritten d u S status old new)
          c.outcome_joined-outcome.ensures.result (λ d t is fault refused u. each d u S
          (whatever_the_term S d t u fault c.outcome_joined-outcome.result refused is)))
          c.finish-status.ensures.written;
    }

pub returns-clause-ends : goal.returns-clause-ends
returns-clause-ends g c = record {
  status = c.finish-status.ensures.status;
  kinds = c.finish-status.ensures.kinds;
  untouched_memory = c.finish-status.ensures.untouched_memory;
  untouched_read = c.finish-status.ensures.untouched_read;
  write_failed = c.finish-status.ensures.failed;
}
