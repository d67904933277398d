use Rattle.std.proofs.Common.{refl}
use Rattle.core_eval.proofs.RunLaws.{run_outcome}
use Rattle.core_eval.proofs.run.eval.Goals as goal
use Rattle.core_eval.proofs.run.eval.Goals.{in-Spent, in_default}

pub returns-clause-run : goal.returns-clause-run
returns-clause-run g c P main resolved =
    record {
      outcome = run_outcome g.M.PrimMeaning.answer c.in_ok-outcome.outcome c.in_ok-outcome.ensures.outcome resolved
          (λ e. elim c.match-outcome.branch
          [ in-Spent w ↦ w.rules-is | in_default w ↦ absurd (w.in_default.not-Spent e) ])
          (λ others. elim c.match-outcome.branch
          [ in-Spent w ↦ absurd (others w.in-Spent.is) | in_default w ↦ w.rules-is ]);
      steps = refl;
    }
