use Rattle.std.proofs.Common.{inr}
use Rattle.str_pipeline.proofs.program.Program.refuse_long.Goals as goal

pub returns-clause-begun : goal.returns-clause-begun
returns-clause-begun g c = λ writing d t S f accepted long.
    c.finish.ensures.begun writing d t S (inr (f, accepted, long))
