use Rattle.std.proofs.Common.{◌≡◌, ◌∙◌, None, Some, ap, inr, subst, sym}
use Rattle.str_syntax.specs.Views.{file_of}
use Rattle.scope_check.specs.Checked.{IsChecked}
use Rattle.scope_check.specs.Complaint.{first_fault}
use Rattle.scope_check.specs.Found.{fault_noted}
use Rattle.scope_check.specs.Primitives.{holds}
use Rattle.scope_check.proofs.judgement.judge.Goals as goal

pub returns-in-Some-clause-fault : goal.returns-in-Some-clause-fault
returns-in-Some-clause-fault c =
    inr (sym (c.in_ok-signature.ensures.first c.none-findings.ensures) ∙ sym c.least.ensures ∙
    ap fault_noted c.in-Some.is ∙ ap (λ f. Some f) (sym c.of.ensures))

pub invariant_of-result : goal.invariant_of-result
invariant_of-result c =
    let faultless : first_fault (holds c.args.primitives.now) (file_of c.args.file) c.args.main.now ≡ None =
    sym (c.in_ok-signature.ensures.first c.none-findings.ensures) ∙ sym c.least.ensures ∙
    ap fault_noted c.in_default.is in
    subst (λ m. IsChecked (file_of c.args.file) c.in_ok-signature.signature m) (sym c.in_ok-main.ensures.items)
    (record {
      has_primitive = holds c.args.primitives.now;
      faultless = faultless;
      declared = c.in_ok-signature.ensures.declared faultless;
    })

pub returns-clause-checked : goal.returns-clause-checked
returns-clause-checked c =
    let faultless : first_fault (holds c.args.primitives.now) (file_of c.args.file) c.args.main.now ≡ None =
    sym (c.in_ok-signature.ensures.first c.none-findings.ensures) ∙ sym c.least.ensures ∙
    ap fault_noted c.in_default.is in
    record {
      has_primitive = holds c.args.primitives.now;
      faultless = faultless;
      declared = c.in_ok-signature.ensures.declared faultless;
    }

pub returns-clause-faultless : goal.returns-clause-faultless
returns-clause-faultless c =
    sym (c.in_ok-signature.ensures.first c.none-findings.ensures) ∙ sym c.least.ensures ∙
    ap fault_noted c.in_default.is
