use Rattle.std.proofs.Common.{rules, ◌≡◌, ◌<◌, ◌∙◌, List, ℕ, ap, sym, subst, map, length, arith}
use Rattle.std.proofs.lemmas.List.{length-map}
use Rattle.term_model.specs.Blocks.{list_in}
use Rattle.term_model.specs.Term.{term, Fits}
use Rattle.term_model.specs.TermParts.{head_of, parts_of, annos_of}
use Rattle.term_store.specs.Shapes.{shape_head, shape_parts, shape_annos}
use Rattle.term_store.specs.Chains.{IsBlockIn}
use Rattle.term_store.specs.Store.{head_in, MayHave, IsAmong}
use Rattle.term_store.specs.Space.{term_of, chain_at, shape_term, MayStand, AreHeavy, replaced}
use Rattle.term_store.proofs.LawsOfSpace.{annos_at, parts_at, count_at, head_kept, makes, replaced_stand, replaced_terms, bare_replaced, own_parts, heavy_parts}
use Rattle.term_store.proofs.MadeShapes.{term_made, made_stands}
use Rattle.term_store.proofs.space.StoreSpaceTermSpace.rebuild.Goals as goal

pub returns-then-are_same-clause-made : goal.returns-then-are_same-clause-made
returns-then-are_same-clause-made c =
    let s = c.args.self.now in
    let at = c.args.at.now in
    let x = c.shape_at-shape.result in
    let is = c.shape_at-shape.ensures in
    let t = term_of s at in
    let own : map (term_of s) c.args.parts.now ≡ parts_of t =
    sym (c.are_same.ensures.0 c.if-are_same.true) ∙
    (ap (λ b. map (term_of s) (list_in s.chains b)) c.parts.ensures ∙ sym (parts_at s at x is)) in
    let same = own_parts t (map (term_of s) c.args.parts.now) (length c.args.parts.now) own
    (sym (length-map c.args.parts.now (term_of s))) in
    (c.requires.stands, sym same, subst Fits (sym same) is.fits)

pub block_with-requires-clause-count : goal.block_with-requires-clause-count
block_with-requires-clause-count c =
    let s = c.args.self.now in
    let long : length (list_in s.chains c.parts-2.result) ≡ length (parts_of (term_of s c.args.at.now)) =
    ap (λ b. length (list_in s.chains b)) c.parts-2.ensures ∙
    count_at s c.args.at.now c.shape_at-shape.result c.shape_at-shape.ensures in
    let few = c.requires.count in
    omega (arith, long, few)

pub returns-in_default-clause-made : goal.returns-in_default-clause-made
returns-in_default-clause-made c =
    let s = c.args.self.now in
    let at = c.args.at.now in
    let x = c.shape_at-shape.result in
    let xs : List ℕ = replaced c.args.parts.now (list_in s.chains (shape_parts x)) in
    let heavy : AreHeavy s xs = rw (c.in_default.is, c.parts-2.ensures) at c.in_ok-parts.ensures.made in
    heavy_parts (head_of (term_of s at)) (map (term_of s) xs) _ (annos_of (term_of s at)) heavy
    (replaced_terms s at x c.args.parts.now c.shape_at-shape.ensures)

pub intern-requires : goal.intern-requires
intern-requires c =
    let s = c.args.self.now in
    let at = c.args.at.now in
    let x = c.shape_at-shape.result in
    let is = c.shape_at-shape.ensures in
    let mid = c.block_with.new.self in
    let xs : List ℕ = replaced c.args.parts.now (list_in s.chains (shape_parts x)) in
    let block : IsBlockIn mid.chains c.in-Some.parts xs =
    rw (c.in-Some.is, c.parts-2.ensures) at c.in_ok-parts.ensures.made in
    let among = subst (IsAmong (length s.symbols.keys)) (sym c.head.ensures) is.may.head in
    let within = subst (λ a. a < length s.chains) (sym c.annos.ensures) is.may.annos in
    subst (MayStand mid) (sym c.new.ensures)
    (made_stands s mid c.head.result c.in-Some.parts c.annos.result xs c.in_ok-parts.ensures.keeps among block
    (replaced_stand s at x c.args.parts.now is (search rules)) within)

pub returns-clause-made : goal.returns-clause-made
returns-clause-made c =
    let s = c.args.self.now in
    let at = c.args.at.now in
    let x = c.shape_at-shape.result in
    let is = c.shape_at-shape.ensures in
    let keeps = c.in_ok-parts.ensures.keeps in
    let mid = c.block_with.new.self in
    let xs : List ℕ = replaced c.args.parts.now (list_in s.chains (shape_parts x)) in
    let block : IsBlockIn mid.chains c.in-Some.parts xs =
    rw (c.in-Some.is, c.parts-2.ensures) at c.in_ok-parts.ensures.made in
    let head : head_in mid.symbols.keys c.head.result ≡ head_of (term_of s at) =
    ap (head_in mid.symbols.keys) c.head.ensures ∙ head_kept s mid at x keeps is in
    let chain : chain_at mid c.annos.result ≡ chain_at s (shape_annos x) =
    ap (chain_at mid) c.annos.ensures ∙ keeps.chains (shape_annos x) is.may.annos in
    let long = count_at s at x is in
    let few = c.requires.count in
    let bare : MayHave c.head.result xs =
    subst (λ h. MayHave h xs) (sym c.head.ensures)
    (bare_replaced (shape_head x) c.args.parts.now (list_in s.chains (shape_parts x)) is.may.bare
    (omega (arith, long, few))) in
    let same = ap (shape_term mid) c.new.ensures ∙
    term_made s mid c.head.result c.in-Some.parts c.annos.result (head_of (term_of s at))
    xs (chain_at s (shape_annos x)) keeps head bare block.list chain in
    makes c.intern.new.self _ _ c.intern.result c.intern.ensures.made (same ∙
    (ap (λ ts. term (head_of (term_of s at)) (map (term_of s) xs) ts) (sym (annos_at s at x is)) ∙
    ap (λ ts. term (head_of (term_of s at)) ts (annos_of (term_of s at)))
    (replaced_terms s at x c.args.parts.now is)))
