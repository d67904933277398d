use Rattle.std.proofs.Common.{◌+◌, ◌*◌, ◌-◌, ◌≤◌}
use Rattle.prim_registry.specs.Registered.{meaning_of}
use Rattle.strat_code.specs.CodeOf.{code_of}
use Rattle.strat_machine.specs.Running.{UnderWay}
use Rattle.strat_machine.proofs.running.run_code.Given as goal

abbrev pub invariant-loop-next : goal.invariant-loop-next
invariant-loop-next g l =
    let s = g.S.TermSpace.space in
    UnderWay s (code_of l.code.tables l.code.instrs) (meaning_of g.M.PrimMeaning.answer l.registry)
    l.fn.space l.fn.term l.budget l.steps l.space l.next l.position l.stacks

abbrev pub decreases-loop-next : goal.decreases-loop-next
decreases-loop-next g l = 3 * l.budget + 1 - l.steps

abbrev pub invariant-loop-next-2 : goal.invariant-loop-next-2
invariant-loop-next-2 g l =
    let s = g.S.TermSpace.space in
    UnderWay s (code_of l.code.tables l.code.instrs) (meaning_of g.M.PrimMeaning.answer l.registry)
    l.fn.space l.fn.term l.budget l.steps l.space l.next l.position l.stacks × (l.initial.steps ≤ l.steps)

abbrev pub decreases-loop-next-2 : goal.decreases-loop-next-2
decreases-loop-next-2 g l = 3 * l.budget + 1 - l.steps
