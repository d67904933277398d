use Rattle.std.proofs.Common.{refl}
use Rattle.signature_core.specs.Signature.{arity_known}
use Rattle.str_syntax.specs.Views.{form_of}
use Rattle.str_desugar.specs.Equations.{top_core}
use Rattle.str_desugar.proofs.TopLaws.{under_made}
use Rattle.str_desugar.proofs.program.under_parameters.Goals as goal

pub returns : goal.returns
returns c =
    under_made _ _ _ _ _ (top_core (arity_known c.args.context.now.signature.now) (form_of c.args.form.now)).body _
    refl c.in_ok-terms.ensures c.in_ok-made.ensures
