use Rattle.strc_command.specs.Report.{TellsText}
use Rattle.strc_command.proofs.tables.write_rows.Given as goal

-- so far a text was written
abbrev pub invariant-loop-row : goal.invariant-loop-row
invariant-loop-row g l =
    TellsText (g.E.Sink.writer.written l.initial.diagnostics) (g.E.Sink.writer.written l.diagnostics)
