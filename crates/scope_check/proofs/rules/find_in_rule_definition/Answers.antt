use Rattle.std.proofs.Common.{◌∙◌, ap, refl}
use Rattle.str_syntax.specs.Views.{rule_of}
use Rattle.scope_check.specs.Found.{found_in_rule, joined}
use Rattle.scope_check.specs.Seen.{inner}
use Rattle.scope_check.specs.Tables.{known_of, layers_of}
use Rattle.scope_check.proofs.FoundLaws.{then_joined}
use Rattle.scope_check.proofs.rules.find_in_rule_definition.Goals as goal

pub returns : goal.returns
returns c =
    c.in_ok-find_in_seen_rule.ensures ∙
    ap (λ A. joined c.find_in_head.new.findings (found_in_rule (known_of c.args.known.now)
    (inner A (layers_of c.args.layers.now)) (rule_of c.args.tree.now))) c.in_ok-keys.ensures ∙
    then_joined c.args.findings.now _ _ _ _ c.in_ok-find_in_head.ensures refl
