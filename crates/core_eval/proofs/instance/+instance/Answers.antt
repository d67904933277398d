use Rattle.std.proofs.Common.{◌∙◌, sym, ap, subst, Some, None, refl, []}
use Rattle.core_eval.specs.Instance.{AreMade, made_like_other, both_terms}
use Rattle.core_eval.proofs.MakingLaws.{elements_made, with_held}
use Rattle.term_model.proofs.FitsLaws.{parts_fit}
use Rattle.core_lang.proofs.ElementLaws.{elements_held, elements_of_list}
use Rattle.std.specs.Option.{option_map}
use Rattle.core_lang.specs.Building as building
use Rattle.core_lang.specs.Resolved.{by_coordinates}
use Rattle.core_lang.specs.Views.{pattern_of, patterns_of, elements_in, rest_of}
use Rattle.core_lang.proofs.ReadLaws.{reads_variable, reads_list}
use Rattle.term_model.specs.Term.{made_of, trees_of, all_fit}
use Rattle.core_eval.specs.Frame.{environment_of}
use Rattle.core_eval.proofs.InstanceLaws.{none_made, making_starts, making_next, making_stops, making_done, making_ends, next_instance, no_instance}
use Rattle.core_eval.proofs.instance.+instance.Goals as goal

pub instances-loop-p-init : goal.instances-loop-p-init
instances-loop-p-init t c = making_starts _ c.new-terms.result.items c.new-terms.ensures.items

pub instances-returns-in_default : goal.instances-returns-in_default
instances-returns-in_default t c =
    let place = by_coordinates.place_of (environment_of c.args.frame.now) in
    let none = none_made _ (sym c.in_default.is ∙ c.in_ok-made.ensures) in
    making_stops c.loop-p.invariant
    (next_instance place c.args.places.now c.args.patterns.now c.loop-p.p-index c.p-item.result None
    c.loop-p-test.true c.p-item.is none)

pub instances-loop-p-preserved : goal.instances-loop-p-preserved
instances-loop-p-preserved t c =
    let place = by_coordinates.place_of (environment_of c.args.frame.now) in
    making_next _ c.in-Some.made c.in_ok-fit.field-0 _ c.loop-p.invariant
    (next_instance place c.args.places.now c.args.patterns.now c.loop-p.p-index c.p-item.result _ c.loop-p-test.true
    c.p-item.is refl)
    (sym c.in-Some.is ∙ c.in_ok-made.ensures) c.in_ok-fit.ensures refl

pub instances-returns-then-not-fit : goal.instances-returns-then-not-fit
instances-returns-then-not-fit t c =
    making_ends c.loop-p.invariant
    (no_instance _ c.args.places.now c.args.patterns.now c.loop-p.p-index c.loop-p-test.false) c.if-not-fit.true

pub instances-returns : goal.instances-returns
instances-returns t c =
    making_done c.loop-p.invariant
    (no_instance _ c.args.places.now c.args.patterns.now c.loop-p.p-index c.loop-p-test.false) c.if-not-fit.false

pub elements-returns-in_ok-parts-in-Some : goal.elements-returns-in_ok-parts-in-Some
elements-returns-in_ok-parts-in-Some t c =
    let place = by_coordinates.place_of (environment_of c.args.frame.now) in
    let held = c.in-Some.t.now in
    let parts = c.in_ok-parts-in-Some.ensures.items_if_clones_equal (λ x y h. h) ∙ c.children.ensures in (
      ap (λ q. building.elements_of (building.instance place q c.args.places.now)) (ap pattern_of c.in-Variable.is ∙
          reads_variable _) ∙
          (ap building.elements_of c.in-Some.ensures ∙
          (elements_held held c.is_list.result c.is_list.ensures c.if-not-is_list.false ∙
          ap (λ us. Some (trees_of us)) (sym parts))),
      ap (λ us. all_fit (trees_of us)) parts ∙ parts_fit held c.fits.ensures.fits,
    )

pub elements-returns-in_ok-all-in-List : goal.elements-returns-in_ok-all-in-List
elements-returns-in_ok-all-in-List t c =
    let place = by_coordinates.place_of (environment_of c.args.frame.now) in
    let e = c.args.places.now in
    let us = building.instances place (patterns_of c.as_slice.result.now) e in
    let vs = building.element_instances place (elements_in [] (rest_of c.in-List.rest)) e in
    let read = ap pattern_of c.in-List.is ∙ reads_list _ _ in
    subst (λ z. AreMade z c.in_ok-all-in-List.all)
    (sym (ap (λ q. building.elements_of (building.instance place q e)) read ∙
    (elements_of_list _ ∙ (elements_made place e c.in-List.first.items (rest_of c.in-List.rest) ∙
    ap (λ xs. both_terms (building.instances place (patterns_of xs) e) vs) (sym c.as_slice.ensures.value)))))
    (c.in_ok-all-in-List.ensures us vs c.in_ok-terms-in-List.ensures c.in_ok-others-in-List.ensures)

pub rest_elements-returns-in-None : goal.rest_elements-returns-in-None
rest_elements-returns-in-None t c =
    let place = by_coordinates.place_of (environment_of c.args.frame.now) in
    let e = c.args.places.now in (
      ap (λ o. building.element_instances place (elements_in [] (rest_of o)) e) c.in-None.is ∙
          ap (λ us. Some (trees_of us)) (sym c.new.ensures.items),
      ap (λ us. all_fit (trees_of us)) c.new.ensures.items,
    )

pub rest_elements-returns-in_ok-made-in-Some : goal.rest_elements-returns-in_ok-made-in-Some
rest_elements-returns-in_ok-made-in-Some t c =
    let place = by_coordinates.place_of (environment_of c.args.frame.now) in
    let e = c.args.places.now in
    subst (λ z. AreMade z c.in_ok-made-in-Some.made)
    (sym (ap (λ o. building.element_instances place (elements_in [] (rest_of o)) e) c.in-Some.is ∙
    ap (λ q. building.elements_of (building.instance place (pattern_of q) e)) (sym c.deref.ensures)))
    c.in_ok-made-in-Some.ensures

pub instance-returns-in_ok-made-in-List : goal.instance-returns-in_ok-made-in-List
instance-returns-in_ok-made-in-List t c =
    let place = by_coordinates.place_of (environment_of c.args.frame.now) in
    let e = c.args.places.now in
    let us = building.instances place (patterns_of c.as_slice-in-List.result.now) e in
    let vs = building.element_instances place (elements_in [] (rest_of c.in-List.rest)) e in
    let read = ap pattern_of c.in-List.is ∙ reads_list _ _ in
    c.in_ok-made-in-List.ensures (both_terms us vs)
    (c.in_ok-append-in-List.ensures us vs c.in_ok-terms-in-List.ensures c.in_ok-others-in-List.ensures) ∙
    ap (λ v. option_map made_of (made_like_other v c.args.other))
    (sym (ap (λ q. building.instance place q e) read ∙
    ap building.list_term (elements_made place e c.in-List.first.items (rest_of c.in-List.rest) ∙
    ap (λ xs. both_terms (building.instances place (patterns_of xs) e) vs) (sym c.as_slice-in-List.ensures.value))))

pub with_annotations-returns : goal.with_annotations-returns
with_annotations-returns t c = λ us fact.
    let built = building.instance (by_coordinates.place_of (environment_of c.args.frame.now)) (pattern_of c.args.p.now)
    c.args.places.now in
    c.in_ok-made-2.ensures ∙
    ap (λ o. option_map made_of o)
    (with_held built us c.args.annos c.in_ok-holder.field-0 fact c.in_ok-holder.ensures c.in-Fits.holder
    c.in-Fits.is)
