use Rattle.std.proofs.Common.{take}
use Rattle.term_model.specs.Space.{Keeps, MakesNone}
use Rattle.strat_machine.specs.Tables.{AreLoadedTables}
use Rattle.strat_machine.proofs.tables.load_tables.Given as goal

abbrev pub invariant-loop-table : goal.invariant-loop-table
invariant-loop-table g l =
    let s = g.S.TermSpace.space in
    Keeps s l.initial.space l.space × MakesNone s l.initial.space l.space ×
    AreLoadedTables (s.knows l.space) (s.symbol_of l.space) s.number_of l.loaded.items (take l.table-index l.tables)
