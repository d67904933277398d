use Rattle.strat_machine.proofs.ActionLaws.{program_later}
use Rattle.strat_machine.proofs.tracing.trace_of_failing.Goals as goal

pub run_traced-requires-clause-loaded : goal.run_traced-requires-clause-loaded
run_traced-requires-clause-loaded g c =
    let names = c.in_ok-tracer.ensures.names in program_later names.known names.symbols _ c.requires.loaded
