use Rattle.std.proofs.Common.{◌∙◌, List, map, ap, subst}
use Rattle.scope_check.specs.Complaint.{bad_parameters}
use Rattle.scope_check.specs.Found.{found_if, joined}
use Rattle.scope_check.specs.Seen.{Key, among, plain_key}
use Rattle.scope_check.specs.Tables.{repeats_after, AreWith}
use Rattle.scope_check.proofs.FoundLaws.{then_joined}
use Rattle.scope_check.proofs.NameLaws.{repeats_together}
use Rattle.scope_check.proofs.names.find_repeats.Goals as goal

pub returns : goal.returns
returns c =
    c.in_ok-add_names-2.ensures.found ∙
    then_joined c.args.findings.now _ _ _ _
    (c.in_ok-add_names.ensures.found ∙
    ap (λ (ks : List Key). joined c.args.findings.now
    (found_if bad_parameters (repeats_after (among ks) c.args.names.now))) c.new-keys.ensures)
    (ap (found_if bad_parameters) (repeats_together c.args.names.now c.args.others.now c.add_names.new.keys
    (subst (λ (ks : List Key). AreWith ks (map plain_key c.args.names.now) c.add_names.new.keys)
    c.new-keys.ensures c.in_ok-add_names.ensures.added)))
