use Rattle.std.proofs.Common.{subst}
use Rattle.prim_registry.specs.RegistryNames.{Covers}
use Rattle.space_tests.proofs.refusals.is_refused.Goals as goal

pub run-run-requires-clause-covers : goal.run-run-requires-clause-covers
run-run-requires-clause-covers g c =
    subst (λ names. Covers c.args.registry.now names) c.prims.ensures (c.covers.ensures.0 c.if-not-covers.false)
