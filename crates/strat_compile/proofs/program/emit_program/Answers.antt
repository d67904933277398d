use Rattle.std.proofs.Common.{refl}
use Rattle.strat_compile.proofs.LayerLaws.{site_defining, site_outermost}
use Rattle.strat_compile.proofs.ProgramLaws.{program_row}
use Rattle.strat_compile.proofs.program.emit_program.Goals as goal

pub returns : goal.returns
returns c =
    program_row c.args.defs.now c.args.main _ _ _ _ _ _ _ _ (site_defining _ _ _)
    site_outermost refl c.new-out.ensures c.in_ok-add_labels.ensures c.in_ok-emit_bodies.ensures
    c.in_ok-emit.ensures c.in_ok-emit_ordinary_call.ensures
