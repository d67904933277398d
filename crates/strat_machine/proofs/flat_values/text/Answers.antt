use Rattle.std.proofs.Common.{◌∙◌, sym, ap, length}
use Rattle.prim_registry.proofs.FlatLaws.{text_with_parts}
use Rattle.strat_machine.proofs.flat_values.text.Goals as goal

pub returns-then-count-ne0 : goal.returns-then-count-ne0
returns-then-count-ne0 c = λ parts many. text_with_parts c.args.symbol.now parts
    (λ h. c.if-count-ne0.true (sym many ∙ ap length h))
