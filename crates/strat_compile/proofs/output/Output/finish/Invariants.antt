use Rattle.std.proofs.Common.{◌≡◌, ◌++◌, map, reverse, length}
use Rattle.strat_code.specs.CodeOf.{code_of}
use Rattle.strat_compile.specs.Located.{located}
use Rattle.strat_compile.proofs.output.Output.finish.Given as goal

abbrev pub invariant-loop-instr : goal.invariant-loop-instr
invariant-loop-instr l =
    map (located l.count l.starts.items) (reverse (code_of l.fn.self.tables.items l.initial.instrs.items)) ≡
    code_of l.tables.items l.made.items ++
    map (located l.count l.starts.items) (reverse (code_of l.fn.self.tables.items l.instrs.items))

abbrev pub decreases-loop-instr : goal.decreases-loop-instr
decreases-loop-instr l = length l.instrs.items
