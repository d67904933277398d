use Rattle.std.proofs.Common.{subst, sym}
use Rattle.prim_registry.specs.RegistryNames.{Covers}
use Rattle.run_compare.proofs.runs.run_compiled.Goals as goal

pub run-requires-clause-covers : goal.run-requires-clause-covers
run-requires-clause-covers g c =
    subst (λ names. Covers c.args.registry.now names) (sym c.in_ok-code.ensures.prims) c.requires.covers
