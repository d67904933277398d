use Rattle.std.proofs.Common.{◌<◌, length, arith}
use Rattle.std.proofs.lemmas.List.{take_more}
use Rattle.strc_command.proofs.PrettyLaws.{lays_more}
use Rattle.strc_command.proofs.pretty.lay_out.Goals as goal

pub loop-index-preserved : goal.loop-index-preserved
loop-index-preserved c =
    let within : c.loop-index.index < length c.args.line.now = omega arith in
    rw (take_more c.args.line.now c.loop-index.index 0 within)
    (lays_more _ _ _ _ c.loop-index.invariant c.in_ok-put.ensures)
