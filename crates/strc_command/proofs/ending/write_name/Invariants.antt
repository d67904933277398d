use Rattle.strc_command.specs.Report.{TellsText}
use Rattle.strc_command.proofs.ending.write_name.Given as goal

-- so far a text was written
abbrev pub invariant-loop-character : goal.invariant-loop-character
invariant-loop-character g l =
    TellsText (g.E.Sink.writer.written l.initial.diagnostics) (g.E.Sink.writer.written l.diagnostics)
