use Rattle.std.proofs.Common.{◌∷◌, sym, ap, ◌∙◌, refl}
use Rattle.strat_steps.specs.References.{ref_choice}
use Rattle.strat_machine.specs.RecordStack.{saved_of, records_in, records_of}
use Rattle.strat_machine.proofs.StepLaws.{same_run}
use Rattle.strat_machine.proofs.steps.put_choice.Goals as goal

pub returns : goal.returns
returns g c =
    let m = c.args.stacks.now in
    let K = records_of m.records in
    let places = c.guard.ensures in
    record {
      mark = c.mark.result;
      marks = c.mark.ensures;
      leads = λ next. sym (same_run refl refl (ap (λ v. v.slots) (sym places)) refl (ap (λ v. v.trail) (sym places))
          (ap (λ v. v.barrier) (sym places))
          (ap (λ s. ref_choice c.args.otherwise c.args.position.now.term s c.mark.result ∷ K)
          (sym c.state_to_restore-saved.ensures) ∙
          (ap (λ t. ref_choice c.args.otherwise t (saved_of c.state_to_restore-saved.result) c.mark.result ∷ K)
          (sym c.in_ok-term.ensures.same) ∙
          ap (λ rs. records_in rs m.records.done m.records.left) (sym c.in_ok-push_choice.ensures))));
    }
