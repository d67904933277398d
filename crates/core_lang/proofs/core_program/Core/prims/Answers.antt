use Rattle.std.proofs.Common.{subst}
use Rattle.core_lang.specs.Core.{program_of}
use Rattle.core_lang.specs.Primitives.{AreOccurring}
use Rattle.core_lang.proofs.core_program.Core.prims.Goals as goal

pub returns-clause-occurring : goal.returns-clause-occurring
returns-clause-occurring c = subst (λ core. AreOccurring core.prims (program_of core))
    c.self.view_is c.self.invariant.occurring
