use Rattle.std.proofs.Common.{◌∙◌, sym, refl}
use Rattle.prim_registry.proofs.FlatLaws.{list_flat}
use Rattle.strat_machine.proofs.flat_values.flat_value.Goals as goal

pub returns-in-Some-2 : goal.returns-in-Some-2
returns-in-Some-2 g c = sym (list_flat (g.S.TermSpace.space.term_of c.args.space.now c.args.at.now)
    c.in-List.ensures refl _ (sym c.in_ok-numbers-in-List.ensures ∙ c.in-Some-2.is))

pub returns-in-None : goal.returns-in-None
returns-in-None g c = sym (list_flat (g.S.TermSpace.space.term_of c.args.space.now c.args.at.now)
    c.in-List.ensures refl _ (sym c.in_ok-numbers-in-List.ensures ∙ c.in-None.is))
