-- One more body in a group of the code, and what the bodies of a group come to.
use Rattle.std.proofs.Common.{◌≡◌, ℕ, zero, suc, ◌<◌, List, [], ◌∷◌, ◌++◌, map, set, get_or, drop, sym, true≢false, false, ◌==◌, ap, ap₂, ◌∙◌, arith, length}
use Rattle.std.proofs.lemmas.List.{map-append}
use Rattle.core_lang.specs.declared.program.CoreStrategy.{CoreStrategy}
use Rattle.core_lang.specs.Program.{id, choice}
use Rattle.core_lang.specs.Resolved.{ResolvedStrategy}
use Rattle.core_lang.specs.Views.{first_of, strategy_of}
use Rattle.str_desugar.specs.declared.alternatives.Group.{Group}
use Rattle.str_desugar.specs.GroupViews.{gathered_in}
use Rattle.str_desugar.specs.Groups.{first_success_of, plain_arm, with_body}
use Rattle.str_desugar.specs.Heads.{read_head}
use Rattle.str_desugar.proofs.JoinLaws.{first_success_arms}

pub set_body : (gs : List Group) (n : ℕ) (g : Group) (s : ResolvedStrategy) (ss : List ResolvedStrategy) →
    n < length gs → g ≡ get_or gs n g →
    ss ≡ map strategy_of g.bodies.items ++ s ∷ [] →
    set (map gathered_in gs) n (record { first = read_head g.first.now; bodies = ss }) ≡
    with_body n s (map gathered_in gs)
set_body [] n g s ss in_range is e = absurd (omega (arith, in_range))
set_body (h ∷ gs) zero g s ss in_range is e =
    ap₂ (λ k b. record { first = read_head k.first.now; bodies = b } ∷ map gathered_in gs) is (e ∙
    ap (λ k. map strategy_of k.bodies.items ++ s ∷ []) is)
set_body (h ∷ gs) (suc n) g s ss in_range is e =
    ap (λ l. gathered_in h ∷ l) (set_body gs n g s ss (omega (arith, in_range)) is e)

-- the last of them is what is tried where the others fail
pub success_made : (items popped rest : List CoreStrategy) (first last : CoreStrategy) (n : ℕ) →
    items ≡ popped ++ last ∷ [] → n ≡ length popped → (n == 0) ≡ false →
    first ≡ get_or popped 0 first → rest ≡ drop 1 popped →
    first_success_of (map strategy_of items) ≡
    choice (strategy_of first) id (first_of (map plain_arm (map strategy_of rest)) (strategy_of last))
success_made items [] rest first last n all counted some is_first is_rest =
    absurd (true≢false (sym (ap (λ k. k == 0) counted) ∙ some))
success_made items (s ∷ popped) rest first last n all counted some is_first is_rest =
    ap (λ l. first_success_of (map strategy_of l)) all ∙
    ap first_success_of (map-append strategy_of (s ∷ popped) (last ∷ [])) ∙
    first_success_arms (map strategy_of (s ∷ popped)) (strategy_of last) ∙
    sym (ap₂ (λ g r. choice (strategy_of g) id (first_of (map plain_arm (map strategy_of r)) (strategy_of last)))
    is_first is_rest)
