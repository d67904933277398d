use Rattle.std.proofs.Common.{rules}
use Rattle.strc_command.proofs.CauseLaws.{cause, stopped}
use Rattle.strc_command.proofs.open_streams.run_apart.Goals as goal

pub returns-clause-runs : goal.returns-clause-runs
returns-clause-runs g c = record {
  ended = search rules;
  stopped = λ four. (
    c.in-Err.fault,
    cause c.in-Err.fault _ _ _ _ c.in-Err.ensures.ends.kinds c.in-Err.ensures.read_failed
        c.in-Err.ensures.ends.write_failed,
    stopped c.in-Err.fault _ _ _ _ _ _ c.in-Err.ensures.ends.write_failed c.stop_run.ensures.told,
  );
  begun = search rules;
  read_failed = search rules;
}
