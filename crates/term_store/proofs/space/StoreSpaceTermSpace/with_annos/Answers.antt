use Rattle.std.proofs.Common.{◌≡◌, ◌++◌, ◌∙◌, ap, sym, subst, map}
use Rattle.term_model.specs.Term.{term}
use Rattle.term_model.specs.TermParts.{head_of}
use Rattle.term_model.specs.Blocks.{front_list, list_in}
use Rattle.term_store.specs.Shapes.{shape_parts}
use Rattle.term_store.specs.Chains.{IsChainIn}
use Rattle.term_store.specs.Store.{head_in, MayHave}
use Rattle.term_store.specs.Space.{term_of, shape_term}
use Rattle.term_store.proofs.LawsOfSpace.{parts_at, head_kept, makes}
use Rattle.term_store.proofs.MadeShapes.{term_made}
use Rattle.term_store.proofs.space.StoreSpaceTermSpace.with_annos.Goals as goal

pub returns-clause-made : goal.returns-clause-made
returns-clause-made c =
    let s = c.args.self.now in
    let at = c.args.at.now in
    let x = c.shape_at-shape.result in
    let is = c.shape_at-shape.ensures in
    let keeps = c.in_ok-annos.ensures.keeps in
    let mid = c.chain_of.new.self in
    let chain : IsChainIn mid.chains c.in-Some.annos c.args.annos.now = rw c.in-Some.is at c.in_ok-annos.ensures.made in
    let head : head_in mid.symbols.keys c.head.result ≡ head_of (term_of s at) =
    ap (head_in mid.symbols.keys) c.head.ensures ∙ head_kept s mid at x keeps is in
    let kept : list_in mid.chains (shape_parts x) ≡ list_in s.chains (shape_parts x) =
    ap (λ l. front_list (shape_parts x).front ++ l) (keeps.chains (shape_parts x).rest is.may.block.rest) in
    let parts : list_in mid.chains c.parts.result ≡ list_in s.chains (shape_parts x) =
    ap (list_in mid.chains) c.parts.ensures ∙ kept in
    let bare : MayHave c.head.result (list_in s.chains (shape_parts x)) =
    subst (λ h. MayHave h (list_in s.chains (shape_parts x))) (sym c.head.ensures) is.may.bare in
    let same = ap (shape_term mid) c.new.ensures ∙
    term_made s mid c.head.result c.parts.result c.in-Some.annos (head_of (term_of s at))
    (list_in s.chains (shape_parts x)) c.args.annos.now keeps head bare parts chain.list in
    makes c.intern.new.self _ _ c.intern.result c.intern.ensures.made (same ∙
    ap (λ ts. term (head_of (term_of s at)) ts (map (term_of s) c.args.annos.now)) (sym (parts_at s at x is)))
