use Rattle.std.proofs.Common.{[], ◌≡◌, ◌∙◌, ap, drop, length, sym, ◌≤◌, subst}
use Rattle.term_model.specs.Blocks.{list_in}
use Rattle.term_model.specs.Term.{term, Fits}
use Rattle.term_model.specs.TermParts.{parts_of}
use Rattle.term_model.specs.declared.term.Head.TheVariants as heads
use Rattle.term_store.specs.Chains.{IsBlockIn}
use Rattle.term_store.specs.Shapes.{shape_parts}
use Rattle.term_store.specs.declared.stored.StoredShape.TheVariants as forms
use Rattle.term_store.specs.Space.{term_of, shape_term}
use Rattle.term_model.proofs.SpaceLemmas.{rest_fits}
use Rattle.term_store.proofs.LawsOfSpace.{list_shape, count_at, dropped, drop_stands, list_stands, list_term, keeps_all}
use Rattle.term_store.proofs.space.StoreSpaceTermSpace.rest.Goals as goal

pub elements-requires : goal.elements-requires
elements-requires c = list_shape c.args.self.now c.args.at.now c.shape_at-shape.result c.shape_at-shape.ensures
    c.requires.list

pub after-parts-requires-clause-count : goal.after-parts-requires-clause-count
after-parts-requires-clause-count c =
    let s = c.args.self.now in
    let long : length (list_in s.chains c.elements.result) ≡ length (parts_of (term_of s c.args.at.now)) =
    ap (λ b. length (list_in s.chains b)) c.elements.ensures ∙
    count_at s c.args.at.now c.shape_at-shape.result c.shape_at-shape.ensures in
    subst (λ n. c.args.count ≤ n) (sym long) c.requires.count

pub intern-requires : goal.intern-requires
intern-requires c =
    let s = c.args.self.now in
    let x = c.shape_at-shape.result in
    let block : IsBlockIn s.chains c.after-parts.result (drop c.args.count (list_in s.chains (shape_parts x))) =
    subst (λ b. IsBlockIn s.chains c.after-parts.result (drop c.args.count (list_in s.chains b)))
    c.elements.ensures c.after-parts.ensures in
    list_stands s s c.after-parts.result (drop c.args.count (list_in s.chains (shape_parts x))) (keeps_all s)
    block (drop_stands s c.args.count (list_in s.chains (shape_parts x)) c.shape_at-shape.ensures.may.parts)

pub unreachable-requires : goal.unreachable-requires
unreachable-requires c =
    let s = c.args.self.now in
    let x = c.shape_at-shape.result in
    let block : IsBlockIn s.chains c.after-parts.result (drop c.args.count (list_in s.chains (shape_parts x))) =
    subst (λ b. IsBlockIn s.chains c.after-parts.result (drop c.args.count (list_in s.chains b)))
    c.elements.ensures c.after-parts.ensures in
    let is = c.shape_at-shape.ensures in
    let same = list_term s s c.after-parts.result (drop c.args.count (list_in s.chains (shape_parts x))) (keeps_all s)
    block ∙ ap (λ ts. term heads.List ts []) (dropped s c.args.at.now c.args.count x is) in
    let none : Fits (shape_term s (forms.List 0 c.after-parts.result)) → ⊥ =
    rw c.in-Oversize.is at c.in_ok-made.ensures.made in
    none (subst Fits (sym same) (rest_fits (term_of s c.args.at.now) c.args.count is.fits))

pub returns-clause-term : goal.returns-clause-term
returns-clause-term c =
    let s = c.args.self.now in
    let x = c.shape_at-shape.result in
    let block : IsBlockIn s.chains c.after-parts.result (drop c.args.count (list_in s.chains (shape_parts x))) =
    subst (λ b. IsBlockIn s.chains c.after-parts.result (drop c.args.count (list_in s.chains b)))
    c.elements.ensures c.after-parts.ensures in
    let same = list_term s s c.after-parts.result (drop c.args.count (list_in s.chains (shape_parts x))) (keeps_all s)
    block ∙ ap (λ ts. term heads.List ts []) (dropped s c.args.at.now c.args.count x c.shape_at-shape.ensures) in
    let made = rw c.in-Fits.is at c.in_ok-made.ensures.made in
    made.1 ∙ same
