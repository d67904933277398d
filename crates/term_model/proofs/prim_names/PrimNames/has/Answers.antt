use Rattle.std.proofs.Common.{arith, below_more}
use Rattle.std.proofs.lemmas.Grind.{common_steps}
use Rattle.term_model.specs.PrimKey.{key_of}
use Rattle.term_model.proofs.PrimNameLaws.{not_at}
use Rattle.term_model.proofs.prim_names.PrimNames.has.Goals as goal
use Rattle.term_model.proofs.prim_names.PrimNames.has.Goals.{else-entry-arity-via-then-entry-arity+else-same_name, else-entry-arity-via-else-entry-arity}

pub loop-entry-preserved : goal.loop-entry-preserved
loop-entry-preserved c = below_more _ _ c.loop-entry.invariant
    (not_at key_of _ c.loop-entry.entry-index c.entry-item.result _ (omega arith) c.entry-item.is
    (λ e. elim c.else-entry-arity.branch [
      | else-entry-arity-via-then-entry-arity+else-same_name w ↦ grind (arith, common_steps, e)
      | else-entry-arity-via-else-entry-arity w ↦ grind (arith, common_steps, e)
    ]))
