use Rattle.std.proofs.Common.{◌-◌, vec_len}
use Rattle.strc_command.proofs.version.beginning_of.Given as goal

abbrev pub decreases-loop-bytes : goal.decreases-loop-bytes
decreases-loop-bytes g l = 4096 - vec_len l.bytes
