use Rattle.prim_registry.specs.Entries.{entries_of}
use Rattle.term_model.proofs.SpaceLaws.{keeps_then, none_then}
use Rattle.strat_machine.proofs.ActionLaws.{instrs_later, one_more_instr}
use Rattle.strat_machine.proofs.program.load_instrs.Goals as goal

pub loop-instr-preserved : goal.loop-instr-preserved
loop-instr-preserved g c =
    let keys = entries_of c.args.registry.now in
    let keeps = c.in_ok-action.ensures.keeps in
    let so_far = c.loop-instr.invariant in (
      keeps_then so_far.0 keeps,
      none_then so_far.1 c.in_ok-action.ensures.none,
      one_more_instr keys c.loop-instr.loaded.items c.push.new.self.items
          (record { nodes = c.nodes.result; action = c.in_ok-action.action })
          c.args.instrs.now c.loop-instr.instr-index c.instr-item.result
          (instrs_later keeps.known keeps.symbols keys so_far.2)
          (record { nodes = c.nodes.ensures; action = c.in_ok-action.ensures.loaded })
          c.loop-instr-test.true c.instr-item.is c.in_ok-push.ensures.items,
    )

pub returns-in_err-action-clause-keeps : goal.returns-in_err-action-clause-keeps
returns-in_err-action-clause-keeps g c = keeps_then c.loop-instr.invariant.0 c.load_action.ensures.keeps

pub returns-in_err-action-clause-none : goal.returns-in_err-action-clause-none
returns-in_err-action-clause-none g c = none_then c.loop-instr.invariant.1 c.load_action.ensures.none

pub returns-in_err-push-clause-keeps : goal.returns-in_err-push-clause-keeps
returns-in_err-push-clause-keeps g c = keeps_then c.loop-instr.invariant.0 c.load_action.ensures.keeps

pub returns-in_err-push-clause-none : goal.returns-in_err-push-clause-none
returns-in_err-push-clause-none g c = none_then c.loop-instr.invariant.1 c.load_action.ensures.none
