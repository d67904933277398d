-- A symbol that is found in a table of symbols is the one that was looked up.
use Rattle.std.proofs.Common.{◌≡◌, ◌∙◌, Bool, true, false, cond, Some, List, [], ◌∷◌, refl, sym, ap}
use Rattle.std.specs.List.{find}
use Rattle.term_model.specs.Same.{same_symbol, same_symbol-true}
use Rattle.term_model.specs.Symbol.{Symbol}

pub found_is : (s : Symbol) (ss : List Symbol) (k : Symbol) → Some k ≡ find (same_symbol s) ss → k ≡ s
found_is s [] k e = absurd (cc)
found_is s (t ∷ ss) k e = by (λ later. found_is s ss k later) (same_symbol s t) refl
  where
    by : (Some k ≡ find (same_symbol s) ss → k ≡ s) → (b : Bool) → same_symbol s t ≡ b → k ≡ s
    by rest true is =
        let here : Some k ≡ Some t = e ∙ ap (λ c. cond c (Some t) (find (same_symbol s) ss)) is in
        let same : k ≡ t = cc in
        same ∙ sym (same_symbol-true s t is)
    by rest false is = rest (e ∙ ap (λ c. cond c (Some t) (find (same_symbol s) ss)) is)
