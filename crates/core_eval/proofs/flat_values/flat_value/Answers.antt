use Rattle.std.proofs.Common.{◌∙◌, sym}
use Rattle.prim_registry.proofs.FlatLaws.{list_flat, symbol_flat}
use Rattle.core_eval.proofs.flat_values.flat_value.Goals as goal

pub returns-in-Some : goal.returns-in-Some
returns-in-Some c = sym (list_flat c.args.t.now (sym c.head.ensures ∙
    c.in-List.is) c.children-in-List.ensures _ (sym c.in_ok-numbers-in-List.ensures ∙ c.in-Some.is))

pub returns-in-None : goal.returns-in-None
returns-in-None c = sym (list_flat c.args.t.now (sym c.head.ensures ∙
    c.in-List.is) c.children-in-List.ensures _ (sym c.in_ok-numbers-in-List.ensures ∙ c.in-None.is))

pub returns-in_ok-text-in-App : goal.returns-in_ok-text-in-App
returns-in_ok-text-in-App c = c.in_ok-text-in-App.ensures ∙
    sym (symbol_flat c.args.t.now (sym c.head.ensures ∙ c.in-App.is) c.children.ensures)
