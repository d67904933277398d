use Rattle.std.proofs.Common.{rules, ◌≡◌, pos, get_or, ◌∙◌, ap, map}
use Rattle.std.specs.Prelude.{IsTrue}
use Rattle.term_model.specs.Term.{trees_of}
use Rattle.prim_registry.proofs.FlatLaws.{integer_term, integer_terms, one_more_integer, taken}
use Rattle.term_model.proofs.SpaceLaws.{keeps_then}
use Rattle.strat_machine.proofs.ReferenceFlats.{standing_later, terms_later, terms_push}
use Rattle.strat_patterns.proofs.ReferenceLists.{standing_push}
use Rattle.strat_machine.proofs.flat_values.make_integers.Goals as goal

pub loop-number-preserved : goal.loop-number-preserved
loop-number-preserved g c =
    let s = g.S.TermSpace.space in
    let so_far = c.loop-number.invariant in
    let keeps = c.in_ok-int.ensures.keeps in
    let old = c.loop-number.made.items in
    let new = c.push.new.self.items in
    let r = c.in_ok-int.field-0 in
    let made : s.term_of c.int.new.self r ≡
    integer_term (get_or c.args.numbers.now c.loop-number.number-index (pos 0)) = search rules in (
      keeps_then so_far.0 keeps,
      standing_push (λ x. IsTrue (s.stands c.int.new.self x)) old new r (standing_later keeps old so_far.1)
          c.in_ok-int.ensures.stands c.in_ok-push.ensures.items,
      one_more_integer c.args.numbers.now c.loop-number.number-index (map (s.term_of c.int.new.self) old)
          (map (s.term_of c.int.new.self) new) (s.term_of c.int.new.self r) c.loop-number-test.true
          (terms_later keeps old so_far.1 ∙
          so_far.2) made (terms_push (s.term_of c.int.new.self) old new r c.in_ok-push.ensures.items),
    )

pub returns-clause-integers : goal.returns-clause-integers
returns-clause-integers g c =
    ap trees_of c.loop-number.invariant.2 ∙
    (ap (λ zs. trees_of (map integer_term zs))
    (taken c.args.numbers.now c.loop-number.number-index c.loop-number-test.false) ∙
    integer_terms c.args.numbers.now)
