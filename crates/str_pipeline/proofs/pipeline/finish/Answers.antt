use Rattle.str_pipeline.proofs.WrittenLaws.{outcome_has_begun}
use Rattle.str_pipeline.proofs.pipeline.finish.Goals as goal

pub returns-in-Ok-clause-begun : goal.returns-in-Ok-clause-begun
returns-in-Ok-clause-begun g c =
    λ writing d t n known. outcome_has_begun _ _ c.in-Ok.outcome d t n (c.write_outcome.ensures.prefix writing)
    (rw c.in-Ok.is at known)
