use Rattle.std.proofs.Common.{◌+◌, ◌*◌, ◌-◌, length}
use Rattle.prim_registry.specs.Registered.{meaning_of}
use Rattle.strat_code.specs.CodeOf.{code_of}
use Rattle.strat_machine.specs.Accounts.{IsCharged}
use Rattle.strat_machine.specs.Notes.{HaveSameRoom}
use Rattle.strat_machine.specs.Running.{UnderWay}
use Rattle.strat_machine.proofs.partial.run_part.Given as goal

abbrev pub invariant-loop-notes : goal.invariant-loop-notes
invariant-loop-notes g l =
    let s = g.S.TermSpace.space in
    UnderWay s (code_of l.code.tables l.code.instrs) (meaning_of g.M.PrimMeaning.answer l.registry)
    l.initial.space l.fn.term l.budget l.steps l.space l.next l.position l.stacks ×
    IsCharged (length l.code.instrs) l.budget (length l.fn.notes.rules.items) l.notes.rules.items l.stacks.left ×
    HaveSameRoom l.fn.notes l.notes

abbrev pub decreases-loop-notes : goal.decreases-loop-notes
decreases-loop-notes g l = 3 * l.budget + 1 - l.steps
