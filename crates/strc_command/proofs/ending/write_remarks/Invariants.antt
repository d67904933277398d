use Rattle.strc_command.specs.Report.{TellsText}
use Rattle.strc_command.proofs.ending.write_remarks.Given as goal

-- so far a text was written
abbrev pub invariant-loop-remark : goal.invariant-loop-remark
invariant-loop-remark g l =
    TellsText (g.E.Sink.writer.written l.initial.diagnostics) (g.E.Sink.writer.written l.diagnostics)
