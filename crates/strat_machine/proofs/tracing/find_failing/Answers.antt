use Rattle.strat_machine.proofs.ActionLaws.{program_later}
use Rattle.strat_machine.proofs.tracing.find_failing.Goals as goal

pub run_traced-requires-2-clause-loaded : goal.run_traced-requires-2-clause-loaded
run_traced-requires-2-clause-loaded g c =
    let names = c.in_ok-ended.ensures.names in program_later names.known names.symbols _ c.requires.loaded
