use Rattle.std.proofs.Common.{map, take}
use Rattle.term_model.specs.Space.{Keeps, MakesNone}
use Rattle.strat_code.specs.CodeOf.{case_of}
use Rattle.strat_machine.specs.Tables.{AreLoadedCases}
use Rattle.strat_machine.proofs.tables.load_cases.Given as goal

abbrev pub invariant-loop-case : goal.invariant-loop-case
invariant-loop-case g l =
    let s = g.S.TermSpace.space in
    Keeps s l.initial.space l.space × MakesNone s l.initial.space l.space ×
    AreLoadedCases (s.knows l.space) (s.symbol_of l.space) l.loaded.items (map case_of (take l.case-index l.cases))
