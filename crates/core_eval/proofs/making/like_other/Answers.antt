use Rattle.std.proofs.Common.{◌∙◌, ap, sym}
use Rattle.term_model.specs.Term.{made_of}
use Rattle.core_eval.specs.Instance.{tree_like_other}
use Rattle.core_eval.proofs.MakingLaws.{annotated_made}
use Rattle.core_eval.proofs.making.like_other.Goals as goal

pub returns-in_ok-made-in-Some : goal.returns-in_ok-made-in-Some
returns-in_ok-made-in-Some c =
    c.in_ok-made-in-Some.ensures ∙
    (annotated_made c.args.t.now c.in-Some.o.now c.in_ok-annos-in-Some.annos.items
    (c.in_ok-annos-in-Some.ensures.items_if_clones_equal (λ x y h. h) ∙ c.annos.ensures) ∙
    ap (λ l. made_of (tree_like_other c.args.t.now l)) (sym c.in-Some.is))
