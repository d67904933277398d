use Rattle.std.proofs.Common.{◌∙◌, ap, sym, []}
use Rattle.term_model.specs.Term.{term, made_of}
use Rattle.core_eval.specs.Instance.{tree_like_other}
use Rattle.core_eval.proofs.MakingLaws.{node_like}
use Rattle.core_eval.proofs.making.node.Goals as goal

pub returns-in_ok-made-in-Some : goal.returns-in_ok-made-in-Some
returns-in_ok-made-in-Some c =
    c.in_ok-made-in-Some.ensures ∙
    (ap made_of (node_like c.args.head c.args.parts.items c.in-Some.like.now) ∙
    ap (λ l. made_of (tree_like_other (term c.args.head c.args.parts.items []) l)) (sym c.in-Some.is))
