use Rattle.std.proofs.Common.{◌≡◌, ◌≤◌, ◌-◌, length, take}
use Rattle.str_pipeline.specs.Device.{Gains}
use Rattle.str_pipeline.proofs.sink.write_all.Given as goal

abbrev pub invariant-loop-sent : goal.invariant-loop-sent
invariant-loop-sent g l =
    let W = g.W.Sink in
    record {
      within : l.sent ≤ length l.text;
      gained : Gains (W.writer.written l.initial.sink) (W.writer.written l.sink) (take l.sent l.text);
      unfailed : W.writer.failed_writes l.sink ≡ W.writer.failed_writes l.initial.sink;
    }

abbrev pub decreases-loop-sent : goal.decreases-loop-sent
decreases-loop-sent g l = length l.text - l.sent
