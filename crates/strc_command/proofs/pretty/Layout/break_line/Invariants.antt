use Rattle.strc_command.specs.Pretty.{GainsSpaces}
use Rattle.strc_command.proofs.pretty.Layout.break_line.Given as goal

abbrev pub invariant-loop-column : goal.invariant-loop-column
invariant-loop-column l = GainsSpaces l.fn.self l.self
