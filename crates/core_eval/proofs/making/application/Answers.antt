use Rattle.std.proofs.Common.{◌∙◌, ap, refl, []}
use Rattle.term_model.specs.declared.term.Head.TheVariants as heads
use Rattle.term_model.specs.Term.{term, made_of}
use Rattle.core_lang.specs.Building.{applied_to}
use Rattle.core_eval.specs.Instance.{tree_like_other}
use Rattle.core_eval.proofs.InstanceLaws.{one_too_large, all_made}
use Rattle.core_eval.proofs.MakingLaws.{part_too_large, whole_made}
use Rattle.core_eval.proofs.making.application.Goals as goal

pub returns-in-Some-Oversize : goal.returns-in-Some-Oversize
returns-in-Some-Oversize c = λ ts fact.
    let symbol = c.args.symbol.now in
    let large = one_too_large fact c.in-Some-Oversize.is c.in-Some-Oversize.field-0-is in
    part_too_large (heads.App symbol) (λ o. applied_to o symbol) refl (λ us. refl)
    c.args.other ts large.0 large.1 large.2

pub returns-in_ok-made-in-Some-Fits : goal.returns-in_ok-made-in-Some-Fits
returns-in_ok-made-in-Some-Fits c = λ ts fact.
    let symbol = c.args.symbol.now in
    let parts = c.in-Some-Fits.parts.items in
    let made = all_made fact c.in-Some-Fits.is c.in-Some-Fits.field-0-is in
    whole_made (heads.App symbol) (λ o. applied_to o symbol) refl (λ us. refl) c.args.other ts parts _ made.0
    (c.in_ok-made-in-Some-Fits.ensures ∙
    ap (λ s. made_of (tree_like_other (term (heads.App s) parts []) c.args.other))
    c.in_ok-clone-in-Some-Fits.ensures.cases)
