use Rattle.term_model.proofs.SpaceLaws.{keeps_from}
use Rattle.strat_machine.proofs.MachineLaws.{kept_then, names_kept}
use Rattle.strat_machine.proofs.machine.Machine.trace.Goals as goal

pub returns-clause-kept : goal.returns-clause-kept
returns-clause-kept g c =
    let s = g.S.TermSpace.space in
    kept_then (keeps_from s c.self.view_is c.in_ok-program.ensures.keeps) c.in_ok-trace.ensures.kept

pub returns-clause-names : goal.returns-clause-names
returns-clause-names g c =
    let s = g.S.TermSpace.space in
    names_kept (keeps_from s c.self.view_is c.in_ok-program.ensures.keeps) c.in_ok-trace.ensures.names
