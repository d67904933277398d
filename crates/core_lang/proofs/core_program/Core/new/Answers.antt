use Rattle.std.proofs.Common.{subst}
use Rattle.core_lang.specs.Primitives.{AreOccurring}
use Rattle.core_lang.specs.Views.{definitions_of}
use Rattle.core_lang.proofs.core_program.Core.new.Goals as goal

pub invariant_of-result : goal.invariant_of-result
invariant_of-result c = record {
  in_range = c.requires;
  occurring = subst (λ ds. AreOccurring c.in_ok-prims.prims (definitions_of ds))
      c.as_slice.ensures.value c.in_ok-prims.ensures;
}
