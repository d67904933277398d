use Rattle.std.proofs.Common.{refl}
use Rattle.prim_registry.specs.Entries.{entries_of}
use Rattle.term_model.proofs.SpaceLaws.{keeps_same, none_same}
use Rattle.strat_machine.proofs.MachineLaws.{ran, same_outcome}
use Rattle.strat_machine.proofs.OutcomeLaws.{registered_says}
use Rattle.strat_machine.proofs.loaded.Loaded.run.Goals as goal

pub returns-clause-run : goal.returns-clause-run
returns-clause-run g c = λ P main C i stands occurring resolved.
    let h = c.in_ok-run.ensures in
    same_outcome g.M.PrimMeaning.answer P main c.args.budget _ refl h.rules
    (registered_says (entries_of c.args.registry.now)
    c.args.code.now.prims g.M.PrimMeaning.answer occurring c.requires.covers resolved stands
    c.run_code-run.new.stacks.left c.requires.stands c.in_ok-run.field-0.outcome h.steps)

pub returns-clause-steps : goal.returns-clause-steps
returns-clause-steps g c =
    let s = g.S.TermSpace.space in
    ran (keeps_same s _) (none_same s _) c.run_code-run.new.stacks.left c.in_ok-run.field-0 c.in_ok-run.ensures.steps
