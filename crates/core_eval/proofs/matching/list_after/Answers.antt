use Rattle.std.proofs.Common.{◌∙◌, ap, []}
use Rattle.term_model.specs.declared.term.Head.TheVariants as heads
use Rattle.term_model.specs.Term.{term, made_of}
use Rattle.core_eval.proofs.MatchingLaws.{after_made, slice_after}
use Rattle.core_eval.proofs.matching.list_after.Goals as goal

pub unreachable-requires : goal.unreachable-requires
unreachable-requires c =
    let parts = rw c.children.ensures at (c.in_ok-others.ensures.items_if_clones_equal (λ x y h. h)) in
    after_made c.args.t.now c.args.from c.in_ok-list.field-0 c.fits.ensures.fits (c.in_ok-list.ensures ∙
    ap (λ xs. made_of (term heads.List xs [])) (parts ∙ slice_after _ c.args.from)) c.in-Oversize.is
