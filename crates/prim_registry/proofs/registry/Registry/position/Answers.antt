use Rattle.std.proofs.Common.{rules, arith, below_more}
use Rattle.std.proofs.lemmas.Grind.{common_steps}
use Rattle.prim_registry.specs.Entries.{entry_of}
use Rattle.term_model.proofs.PrimNameLaws.{not_at, not_in_image}
use Rattle.prim_registry.proofs.registry.Registry.position.Goals as goal
use Rattle.prim_registry.proofs.registry.Registry.position.Goals.{else-arity-via-then-arity+else-same_name, else-arity-via-else-arity}

pub loop-index-preserved : goal.loop-index-preserved
loop-index-preserved g c = below_more _ _ c.loop-index.invariant
    (not_at entry_of _ c.loop-index.index c.primitive-item.result _ (omega arith) c.primitive-item.is
    (λ e. elim c.else-arity.branch [
      | else-arity-via-then-arity+else-same_name w ↦ grind (arith, common_steps, e)
      | else-arity-via-else-arity w ↦ grind (arith, common_steps, e)
    ]))

pub returns-clause-present : goal.returns-clause-present
returns-clause-present g c = (
  λ h. search rules,
  λ h. absurd (not_in_image entry_of c.deref-primitive-items.result.now _
      (λ k below. c.loop-index.invariant k (omega arith)) (rw (← c.deref-primitive-items.ensures.value) at h)),
)
