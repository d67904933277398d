use Rattle.std.proofs.Common.{rules, ◌≡◌, ◌∙◌, true, if◌then◌else◌, Some, None, ap, sym, length, map}
use Rattle.std.proofs.lemmas.List.{length-map}
use Rattle.prim_registry.specs.Values.{value_of, values_of}
use Rattle.term_model.specs.Flat.{all_flat}
use Rattle.term_model.specs.Term.{trees_of}
use Rattle.strat_machine.proofs.ReferenceFlats.{as_many_flat}
use Rattle.strat_machine.proofs.primitives.call.Goals as goal

pub call_at-requires-clause-arity : goal.call_at-requires-clause-arity
call_at-requires-clause-arity g c =
    let f = g.S.TermSpace.space.term_of c.args.space.now in
    let values = c.flat_values.new.values.items in
    let yes : c.in_ok-flat_values.field-0 ≡ true = search rules in
    let is : Some (values_of values) ≡ all_flat (trees_of (map f c.args.terms.now)) =
    sym (ap (λ b. if b then Some (values_of values) else None) yes) ∙ c.in_ok-flat_values.ensures in
    c.requires.arity ∙ (sym (length-map c.args.terms.now f) ∙
    (sym (as_many_flat (map f c.args.terms.now) (values_of values) is) ∙
    (length-map values value_of ∙ sym (ap length c.as_slice.ensures.value))))
