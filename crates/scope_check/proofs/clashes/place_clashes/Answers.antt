use Rattle.std.proofs.Common.{◌∙◌, true, ap, sym}
use Rattle.scope_check.specs.Complaint.{clash}
use Rattle.scope_check.specs.Found.{found_if, joined}
use Rattle.scope_check.proofs.FoundLaws.{clash_again}
use Rattle.scope_check.proofs.clashes.place_clashes.Goals as goal

pub loop-name-preserved : goal.loop-name-preserved
loop-name-preserved c =
    c.note.ensures ∙ ap (λ f. joined f (found_if clash true)) c.loop-name.invariant ∙
    clash_again c.args.findings.now (sym c.has_clash.ensures ∙ c.if-not-has_clash.false)
