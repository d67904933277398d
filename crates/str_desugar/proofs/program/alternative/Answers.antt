use Rattle.std.proofs.Common.{◌∙◌, ap}
use Rattle.signature_core.specs.Signature.{arity_known}
use Rattle.str_syntax.specs.Views.{form_of}
use Rattle.str_desugar.specs.Equations.{top_core}
use Rattle.str_desugar.specs.Groups.{first_for, written_head}
use Rattle.str_desugar.proofs.TopLaws.{alternative_made, same_head}
use Rattle.str_desugar.proofs.program.alternative.Goals as goal

pub returns : goal.returns
returns c =
    let declared = arity_known c.args.context.now.signature.now in
    let form = form_of c.args.form.now in
    alternative_made _ _ _ c.first_of-first.result.now c.args.groups.now (top_core declared form) _
    (c.first_of-first.ensures ∙
    ap (λ h. first_for c.args.groups.now h) (ap written_head c.head_of.ensures ∙ same_head declared form))
    (c.in_ok-strategies.ensures ∙ c.strategy_names.ensures) c.term_names-terms.ensures c.in_ok-made.ensures
