use Rattle.std.proofs.lemmas.Result.{IfOk-weaker}
use Rattle.str_pipeline.specs.Setting.{Setting, setting_of}
use Rattle.str_pipeline.proofs.WrittenLaws.{told_then}
use Rattle.str_pipeline.proofs.pipeline.transform_with_notes.Goals as goal

pub returns-clause-transforms : goal.returns-clause-transforms
returns-clause-transforms g c =
    let S : Setting = setting_of g.M.PrimMeaning.answer c.args.registry.now c.args.options.now in
    record {
      written = IfOk-weaker c.finish-status.result _ _
          (λ status each. told_then (g.D.Source.reader.coming c.args.defs.now) _ _
          c.outcome_apart-outcome.ensures.result
          (λ d known. told_then (g.T.Source.reader.coming c.args.term.now) _ _ known (λ t is. each d t S is)))
          c.finish-status.ensures.written;
      begun = λ writing. told_then (g.D.Source.reader.coming c.args.defs.now) _ _
          c.outcome_apart-outcome.ensures.result
          (λ d known. told_then (g.T.Source.reader.coming c.args.term.now) _ _ known
          (λ t is. c.finish-status.ensures.begun writing d t S is));
      refused = IfOk-weaker c.finish-status.result _ _
          (λ status each. told_then (g.D.Source.reader.coming c.args.defs.now) _ _
          c.outcome_apart-outcome.ensures.refused
          (λ d known fault refused t. each d t S (known fault refused t)))
          c.finish-status.ensures.written;
    }

pub returns-clause-ends : goal.returns-clause-ends
returns-clause-ends g c = record {
  status = c.finish-status.ensures.status;
  kinds = c.finish-status.ensures.kinds;
  untouched_memory = c.finish-status.ensures.untouched_memory;
  untouched_read = c.finish-status.ensures.untouched_read;
  write_failed = c.finish-status.ensures.failed;
}
