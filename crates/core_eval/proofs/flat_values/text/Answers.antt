use Rattle.std.proofs.Common.{rules, ◌∙◌}
use Rattle.prim_registry.proofs.FlatLaws.{no_text, text_with_parts}
use Rattle.core_eval.proofs.flat_values.text.Goals as goal

pub returns-in_default : goal.returns-in_default
returns-in_default c = no_text c.args.symbol.now c.args.parts.now
    (λ h. c.in_default.not-Quoted (c.kind.ensures.kind ∙ h))

pub returns-then-not-is_empty : goal.returns-then-not-is_empty
returns-then-not-is_empty c = text_with_parts c.args.symbol.now c.args.parts.now (search rules)
