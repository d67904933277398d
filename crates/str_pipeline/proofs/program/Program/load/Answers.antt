use Rattle.std.proofs.Common.{◌∙◌}
use Rattle.str_pipeline.proofs.program.Program.load.Goals as goal

pub returns-clause-of : goal.returns-clause-of
returns-clause-of g c = λ S f h. record {
  declared = c.into_signature-signature.ensures.signature ∙ h.declared;
  code = h.code;
}
