use Rattle.std.proofs.Common.{◌≡◌, ◌++◌, [], map, length}
use Rattle.strat_code.specs.CodeOf.{case_of}
use Rattle.strat_compile.specs.ChainOf.{roots_of}
use Rattle.strat_compile.specs.Chains.{cases_onto}
use Rattle.strat_compile.proofs.chain.push_cases.Given as goal

abbrev pub invariant-loop-root : goal.invariant-loop-root
invariant-loop-root l =
    map case_of l.fn.cases.items ++ cases_onto (roots_of l.initial.roots.items) l.nodes l.start l.otherwise [] ≡
    map case_of l.cases.items ++ cases_onto (roots_of l.roots.items) l.nodes l.start l.otherwise []

abbrev pub decreases-loop-root : goal.decreases-loop-root
decreases-loop-root l = length l.roots.items
