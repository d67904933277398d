use Rattle.prim_registry.specs.Entries.{entries_of}
use Rattle.strat_machine.proofs.ActionLaws.{program_loaded}
use Rattle.strat_machine.proofs.program.load_program.Goals as goal

pub returns-clause-loaded : goal.returns-clause-loaded
returns-clause-loaded g c =
    let keeps = c.in_ok-instrs.ensures.keeps in
    program_loaded keeps.known keeps.symbols (entries_of c.args.registry.now)
    (record { instrs = c.in_ok-instrs.instrs; tables = c.in_ok-tables.tables })
    c.tables.ensures c.instrs.ensures.same c.in_ok-tables.ensures.loaded c.in_ok-instrs.ensures.loaded
