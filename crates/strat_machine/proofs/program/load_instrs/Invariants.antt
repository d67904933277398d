use Rattle.std.proofs.Common.{take}
use Rattle.term_model.specs.Space.{Keeps, MakesNone}
use Rattle.prim_registry.specs.Entries.{entries_of}
use Rattle.strat_machine.specs.Actions.{AreLoadedInstrs}
use Rattle.strat_machine.proofs.program.load_instrs.Given as goal

abbrev pub invariant-loop-instr : goal.invariant-loop-instr
invariant-loop-instr g l =
    let s = g.S.TermSpace.space in
    Keeps s l.initial.space l.space × MakesNone s l.initial.space l.space ×
    AreLoadedInstrs (s.knows l.space) (s.symbol_of l.space) (entries_of l.registry)
    l.loaded.items (take l.instr-index l.instrs)
