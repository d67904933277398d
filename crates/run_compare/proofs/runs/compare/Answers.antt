use Rattle.std.proofs.Common.{subst}
use Rattle.prim_registry.specs.RegistryNames.{Covers}
use Rattle.run_compare.proofs.runs.compare.Goals as goal

pub eval-requires-clause-covers : goal.eval-requires-clause-covers
eval-requires-clause-covers g c =
    subst (λ names. Covers c.args.registry.now names) c.prims.ensures.same (c.covers.ensures.0 c.if-not-covers.false)

pub run_compiled-requires-clause-covers : goal.run_compiled-requires-clause-covers
run_compiled-requires-clause-covers g c =
    subst (λ names. Covers c.args.registry.now names) c.prims.ensures.same (c.covers.ensures.0 c.if-not-covers.false)
