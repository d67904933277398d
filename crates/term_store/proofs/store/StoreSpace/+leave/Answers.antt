use Rattle.std.proofs.Common.{rules, ◌≡◌, ◌<◌, ◌∙◌, [], length, ap, sym, subst, arith}
use Rattle.std.specs.Prelude.{Result, Ok, Err, IfOk, Some, slice_get}
use Rattle.std.proofs.lemmas.Option.{slice_get-get_or}
use Rattle.std.specs.declared.alloc.AllocError.{AllocError}
use mir.Val.{to_z, of_z}
use Rattle.std.specs.Int.{w64}
use Rattle.term_model.specs.declared.term.Head.TheVariants as heads
use Rattle.term_model.specs.Term.{Tree, term}
use Rattle.term_store.specs.Space.{term_of}
use Rattle.term_store.proofs.ShapeLaws.{integer_term}
use Rattle.term_store.proofs.LeavingLemmas.{one_left, place_below}
use Rattle.term_store.proofs.store.StoreSpace.+leave.Goals as goal

pub leave_all-leave_term-requires : goal.leave_all-leave_term-requires
leave_all-leave_term-requires t c =
    let at = c.requires.at in
    let within = c.requires.within in
    let long = c.loop-index.invariant.long in
    let below : c.index-place.result.now < c.args.at =
    place_below c.args.stack.now.items c.loop-index.stack.items c.args.bottom c.loop-index.index c.args.at
    c.index-place.result.now _ c.requires.below c.loop-index.invariant.stack (omega arith) (omega arith)
    c.index-place.ensures in (
      omega (arith, below),
      (
        omega (arith, below, at),
        (omega (arith, below, within, long), c.loop-index.invariant.left),
      ),
    )

pub leave_term-returns-clause-left : goal.leave_term-returns-clause-left
leave_term-returns-clause-left t c =
    let is : c.in_ok-copy-2.copy ≡ term_of c.args.self.now c.args.at = search rules in
    one_left c.args.self.now c.leave_block-2.new.terms.items c.args.at c.number_of-number.result c.in_ok-copy-2.copy
    c.number_of-number.ensures c.in_ok-annos.ensures.left is

same_term : (r : Result Tree AllocError) (t u : Tree) → IfOk r (λ v. v ≡ t) → u ≡ t → IfOk r (λ v. v ≡ u)
same_term (Ok v) t u is e = is ∙ sym e
same_term (Err x) t u is e = tt

pub leave_term-returns-in-Some-clause-term : goal.leave_term-returns-in-Some-clause-term
leave_term-returns-in-Some-clause-term t c =
    let z : to_z w64 (of_z w64 c.in-Some.value) ≡ c.in-Some.value = search rules in
    same_term c.int.result _ _ (subst (λ v. IfOk c.int.result (λ u. u ≡ term (heads.Int v) [] [])) z c.int.ensures)
    (integer_term c.args.self.now c.args.at c.in-Some.value c.requires.at c.in-Some.ensures)

pub leave_term-returns-in-Some-index-clause-term : goal.leave_term-returns-in-Some-index-clause-term
leave_term-returns-in-Some-index-clause-term t c =
    let copy : c.in_ok-copy.copy ≡ c.in-Some-index.term = search rules in
    let there = c.number_of-number.ensures in
    let far = c.requires.within in
    let within : c.number_of-number.result < length c.args.terms.now.items = omega (arith, far, there) in
    let at : slice_get c.args.terms.now.items c.number_of-number.result ≡ Some (Some c.in-Some-index.term) =
    slice_get-get_or c.args.terms.now.items c.number_of-number.result c.index.result.now within ∙
    ap Some (sym c.index.ensures ∙ c.in-Some-index.is) in
    copy ∙ (c.requires.left c.number_of-number.result c.in-Some-index.term at ∙
    ap (term_of c.args.self.now) (sym there))
