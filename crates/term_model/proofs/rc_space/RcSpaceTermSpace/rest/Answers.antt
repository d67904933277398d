use Rattle.std.proofs.Common.{◌≡◌, [], drop, sym, ap, ◌∙◌}
use Rattle.term_model.specs.Term.{term, made_of}
use Rattle.term_model.specs.TermParts.{parts_of}
use Rattle.term_model.specs.declared.term.Head.TheVariants as heads
use Rattle.term_model.proofs.SpaceLemmas.{rest_is_made, to_the_end}
use Rattle.term_model.proofs.rc_space.RcSpaceTermSpace.rest.Goals as goal

pub unreachable-requires : goal.unreachable-requires
unreachable-requires c =
    let items : c.in_ok-elements.elements.items ≡ drop c.args.count (parts_of c.args.at.now) =
    c.in_ok-elements.ensures.items_if_clones_equal (λ x y e. e) ∙ to_the_end c.args.count c.children.result.now ∙
    ap (drop c.args.count) c.children.ensures in
    let fits = rest_is_made c.args.at.now c.args.count c.requires.stands in
    let both = sym c.in-Oversize.is ∙ c.in_ok-made.ensures ∙ ap (λ ts. made_of (term heads.List ts [])) items ∙ fits in
    cc
