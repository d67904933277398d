use Rattle.std.specs.List.{AllWithin}
use Rattle.strat_machine.specs.Tables.{case_has}
use Rattle.strat_machine.proofs.IndexLaws.{Lacks}
use Rattle.strat_machine.proofs.index.first_of.Given as goal

abbrev pub invariant-loop-entry : goal.invariant-loop-entry
invariant-loop-entry g l =
    let s = g.S.TermSpace.space in
    AllWithin (Lacks (case_has (s.symbol_of l.space) (s.term_of l.space l.term)) l.cases) l.list 0 l.entry-index
