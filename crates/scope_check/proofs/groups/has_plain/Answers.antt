use Rattle.std.proofs.Common.{◌≡◌, ◌∙◌, ◌||◌, List, [], ◌∷◌, map, sym, refl, ap}
use Rattle.std.specs.List.{list_any}
use Rattle.str_syntax.specs.Trees.{HeadTree}
use Rattle.str_syntax.specs.Views.{head_of}
use Rattle.scope_check.specs.Seen.{Key, among, key_of, plain_key, same_key}
use Rattle.scope_check.specs.Tables.{heads_of}
use Rattle.scope_check.proofs.GroupLaws.{one_head}
use Rattle.scope_check.proofs.groups.has_plain.Goals as goal

among_heads : (k : Key) (hs : List HeadTree) → among (map key_of hs) k ≡ list_any (λ h. same_key k (key_of h)) hs
among_heads k [] = refl
among_heads k (h ∷ hs) = ap (λ b. same_key k (key_of h) || b) (among_heads k hs)

pub returns-then-eq : goal.returns-then-eq
returns-then-eq c =
    let test = ap (λ k. same_key k (key_of (head_of c.head-item.result.now))) (sym c.plain-plain.ensures) ∙
    ap (λ k. same_key c.plain-plain.result k) (sym c.key.ensures) ∙ sym c.eq.ensures ∙ c.if-eq.true in
    sym (among_heads (plain_key c.args.name.now) (heads_of c.args.heads.now) ∙
    one_head (λ h. same_key (plain_key c.args.name.now) (key_of h))
    c.args.heads.now c.loop-head.head-index c.head-item.result c.loop-head-test.true c.head-item.is test)
