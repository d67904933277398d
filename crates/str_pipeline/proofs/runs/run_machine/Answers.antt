use Rattle.str_pipeline.proofs.ReadyLaws.{loaded_later}
use Rattle.str_pipeline.proofs.runs.run_machine.Goals as goal

pub returns-clause-outcome : goal.returns-clause-outcome
returns-clause-outcome g c = record {
  outcome = _;
  is_outcome = record {
    each = λ P main C i stands occurring resolved. (
      c.in_ok-run.run'.rules,
      c.in_ok-run.ensures.run P main C i stands occurring resolved,
    );
  };
  is_text = c.in_ok-outcome.ensures;
}

pub returns-clause-used : goal.returns-clause-used
returns-clause-used g c =
    rw c.note_run.ensures (record {
      outcome = _;
      each = λ P main C i stands occurring resolved.
          c.in_ok-run.ensures.run P main C i stands occurring resolved;
      is_text = c.in_ok-outcome.ensures;
    })

pub returns-in_err-run-clause-loaded : goal.returns-in_err-run-clause-loaded
returns-in_err-run-clause-loaded g c =
    let run = c.in_err-run.ensures in
    loaded_later c.args.loaded.now _ c.args.code.now run.names run.same c.requires.loaded

pub returns-in_err-outcome-clause-loaded : goal.returns-in_err-outcome-clause-loaded
returns-in_err-outcome-clause-loaded g c =
    let run = c.in_ok-run.ensures in
    loaded_later c.args.loaded.now _ c.args.code.now run.names run.same c.requires.loaded

pub returns-clause-loaded : goal.returns-clause-loaded
returns-clause-loaded g c =
    let run = c.in_ok-run.ensures in
    loaded_later c.args.loaded.now _ c.args.code.now run.names run.same c.requires.loaded
