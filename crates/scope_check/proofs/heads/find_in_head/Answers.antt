use Rattle.std.proofs.Common.{◌∙◌, rules}
use Rattle.scope_check.proofs.FoundLaws.{then_joined}
use Rattle.scope_check.proofs.heads.find_in_head.Goals as goal

pub returns : goal.returns
returns c = c.find_clash.ensures ∙
    then_joined c.args.findings.now _ _ _ _ c.in_ok-find_repeats.ensures (search rules)
