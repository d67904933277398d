use Rattle.std.proofs.Common.{◌≡◌}
use Rattle.strat_machine.proofs.SelectingLaws.{Passed}
use Rattle.strat_machine.proofs.select.walk_cases.Given as goal

abbrev pub invariant-loop-case : goal.invariant-loop-case
invariant-loop-case g l =
    let s = g.S.TermSpace.space in
    (l.position ≡ l.initial.position) ×
    Passed s (s.symbol_of l.space) l.space l.last l.initial.position l.cases l.initial.stacks l.case-index l.stacks
