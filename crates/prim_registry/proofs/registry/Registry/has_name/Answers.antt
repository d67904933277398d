use Rattle.std.proofs.Common.{arith, below_more}
use Rattle.std.proofs.lemmas.Grind.{common_steps}
use Rattle.prim_registry.specs.RegistryNames.{name_of}
use Rattle.term_model.proofs.PrimNameLaws.{not_at}
use Rattle.prim_registry.proofs.registry.Registry.has_name.Goals as goal

pub loop-primitive-preserved : goal.loop-primitive-preserved
loop-primitive-preserved g c = below_more _ _ c.loop-primitive.invariant
    (not_at name_of _ c.loop-primitive.primitive-index c.primitive-item.result _ (omega arith)
    c.primitive-item.is (λ e. grind (arith, common_steps, e)))
