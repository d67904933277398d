use Rattle.str_pipeline.specs.Joined.{OfJoined}
use Rattle.strc_command.specs.Runs.{change}
use Rattle.strc_command.proofs.RequestLaws.{runs_alone}
use Rattle.strc_command.proofs.joined.run_alone.Goals as goal

pub returns-clause-runs : goal.returns-clause-runs
returns-clause-runs g c =
    runs_alone (OfJoined (g.I.Source.reader.coming c.args.input.now))
    (g.I.Source.reader.failed_reads c.args.input.now) (g.I.Source.reader.failed_reads c.run_joined.new.input)
    c.args.request.now.output _ (change g.W.Sink.writer c.args.out.now c.run_joined.new.out)
    (change g.E.Sink.writer c.args.diagnostics.now c.run_joined.new.diagnostics) c.run_joined.result
    (rw c.new-reporting.ensures.output at c.run_joined.ensures.runs)
