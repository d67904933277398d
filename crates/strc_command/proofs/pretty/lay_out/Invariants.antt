use Rattle.std.proofs.Common.{take}
use Rattle.strc_command.proofs.PrettyLaws.{Lays}
use Rattle.strc_command.proofs.pretty.lay_out.Given as goal

abbrev pub invariant-loop-index : goal.invariant-loop-index
invariant-loop-index l = Lays l.layout (take l.index l.line)
