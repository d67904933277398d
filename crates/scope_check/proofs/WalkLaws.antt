-- What is found in lists of trees, one after another, and in the parts of forms.
use Rattle.std.proofs.Common.{◌≡◌, ◌∙◌, ℕ, ◌+◌, ◌<◌, ◌≤◌, List, [], ◌∷◌, drop, length, get_or, sym, ap}
use Rattle.std.proofs.lemmas.List.{drop_all, drop_more}
use Rattle.str_syntax.specs.declared.strategy.Rule.{Rule}
use Rattle.str_syntax.specs.declared.strategy.Arguments.TheViews.{out-Rule, roll-out-Rule}
use Rattle.str_syntax.specs.Trees.{rewrites}
use Rattle.str_syntax.specs.Views.{pattern_of, rule_of, optional_strategy_of}
use Rattle.str_syntax.proofs.ReadLaws.{reads_made_rule}
use Rattle.scope_check.specs.Found.{Found, joined, none}
use Rattle.scope_check.proofs.FoundLaws.{joined-assoc, joined-none}

-- one tree more, and none
module _ {X : Type 0} (one : X → Found) (all : List X → Found) where
  pub one_more_found : ((x : X) (xs : List X) → all (x ∷ xs) ≡ joined (one x) (all xs)) →
      (xs : List X) (i : ℕ) (x : X) (now new whole : Found)
      → i < length xs → x ≡ get_or xs i x → new ≡ joined now (one x) → joined now (all (drop i xs)) ≡ whole →
      joined new (all (drop (i + 1) xs)) ≡ whole
  one_more_found split xs i x now new whole within is more before =
      ap (λ f. joined f (all (drop (i + 1) xs))) more ∙
      joined-assoc now (one x) (all (drop (i + 1) xs)) ∙
      ap (λ f. joined now f) (sym (split x (drop (i + 1) xs)) ∙
      ap all (ap (λ y. y ∷ drop (i + 1) xs) is ∙ sym (drop_more xs i x within))) ∙
      before

  pub all_found : all [] ≡ none → (xs : List X) (i : ℕ) (now whole : Found) → length xs ≤ i →
      joined now (all (drop i xs)) ≡ whole → now ≡ whole
  all_found empty xs i now whole past before =
      sym (joined-none now) ∙ ap (λ f. joined now f) (sym empty ∙ ap all (sym (drop_all i xs past))) ∙ before

-- a rule is its sides and its condition
pub reads_rule : (r : Rule) → rule_of r ≡
    rewrites (pattern_of r.left.value) (pattern_of r.right.value) (optional_strategy_of r.condition)
reads_rule r = ap rule_of (sym (roll-out-Rule r)) ∙ reads_made_rule (out-Rule r)
