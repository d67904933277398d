-- Places that are given a reference or emptied, and a trail that ends with its newest entry.
use Rattle.std.proofs.Common.{◌≡◌, ℕ, zero, suc, ◌+◌, ◌-◌, ◌≤◌, ◌<◌, min, Option, Some, None, List, [], ◌∷◌, ◌++◌, length, reverse, map, take, drop, get_or, refl, sym, ◌∙◌, ap, arith}
use Rattle.std.proofs.lemmas.List.{length-reverse, length-append, length-take-le, take_more}
use Rattle.std.proofs.Math.Seq.{take-append_seam, drop-append_seam, drop-cons}
use Rattle.std.specs.Prelude.{slice_set, replicate}
use Rattle.strat_steps.specs.Binding.{cleared, undone, above, down_to, trimmed, with_term}
use Rattle.strat_steps.proofs.TrailLaws.{cleared_beyond, if_more, above_self, down_self}

pub filled : {X : Type 0} (i : ℕ) (r : X) (e : List (Option X)) → slice_set e i (Some r) ≡ with_term i r e
filled i r [] = refl
filled zero r (v ∷ e) = refl
filled (suc i) r (v ∷ e) = ap (λ f. v ∷ f) (filled i r e)

pub filled_beyond : {X : Type 0} (i : ℕ) (r : X) (e : List (Option X)) → length e ≤ i → e ≡ with_term i r e
filled_beyond i r [] h = refl
filled_beyond zero r (v ∷ e) h = absurd (omega (arith, h))
filled_beyond (suc i) r (v ∷ e) h = ap (λ f. v ∷ f) (filled_beyond i r e (omega (arith, h)))

pub emptied : {X : Type 0} (i : ℕ) (e : List (Option X)) → slice_set e i None ≡ cleared i e
emptied i [] = refl
emptied zero (v ∷ e) = refl
emptied (suc i) (v ∷ e) = ap (λ f. v ∷ f) (emptied i e)

pub emptied_beyond : {X : Type 0} (i : ℕ) (e : List (Option X)) → length e ≤ i → e ≡ cleared i e
emptied_beyond i e h = sym (cleared_beyond i e h)

pub ruleset placing = (filled, filled_beyond, emptied, emptied_beyond)

-- undoing what is left from here comes to the same as undoing all from the start
pub record IsUndoing {X : Type 0} (height : ℕ) (slots : List (Option X)) (trail : List ℕ) (slots_now : List (Option X))
    (trail_now : List ℕ) : Type 0 where
  pub slots_same : undone (above height (reverse trail_now)) slots_now ≡ undone (above height (reverse trail)) slots
  pub trail_same : down_to height (reverse trail_now) ≡ down_to height (reverse trail)

pub undo_ends : {X : Type 0} (h : ℕ) (e : List (Option X)) (T : List ℕ) (f : List (Option X)) (U : List ℕ) →
    IsUndoing h e T f U → length U ≤ h → (f ≡ undone (above h (reverse T)) e) × (reverse U ≡ down_to h (reverse T))
undo_ends h e T f U undoing low =
    let k = length-reverse U in (
      ap (λ A. undone A f) (sym (above_self (reverse U) h (omega arith))) ∙ undoing.slots_same,
      sym (down_self (reverse U) h (omega arith)) ∙ undoing.trail_same,
    )

pub trim_low : (h b : ℕ) (T U : List ℕ) → trimmed h b (reverse U) ≡ trimmed h b (reverse T) → length U ≤ h →
    reverse U ≡ trimmed h b (reverse T)
trim_low h b T U trimming low = let k = length-reverse U in sym (trimmed_self (reverse U) (omega arith)) ∙ trimming
  where
    trimmed_self : (W : List ℕ) → length W ≤ h → trimmed h b W ≡ W
    trimmed_self [] l = refl
    trimmed_self (i ∷ W) l = if_more _ (i ∷ W) h (suc (length W)) l

-- the last places are given references, from the last one on
pub record IsFilling {X : Type 0} (from : ℕ) (slots : List (Option X)) (terms : List X) (place : ℕ)
    (slots_now : List (Option X)) (terms_now : List X) : Type 0 where
  pub front : terms_now ≡ take (length terms_now) terms
  pub few : length terms_now ≤ length terms
  pub many : min from (length terms) ≤ length terms_now
  pub at : (e : List (Option X)) → slots ≡ e ++ replicate (length terms - from) None →
      place ≡ length e + (length terms_now - from)
  pub given : (e : List (Option X)) → slots ≡ e ++ replicate (length terms - from) None →
      slots_now ≡ e ++ (replicate (length terms_now - from) None ++ map (λ r. Some r) (drop (length terms_now) terms))

with_last : {X : Type 0} (e rest : List (Option X)) (j : ℕ) (r : X) →
    with_term (length e + j) r (e ++ (replicate (suc j) None ++ rest)) ≡ e ++ (replicate j None ++ Some r ∷ rest)
with_last [] rest zero r = let z : 0 + 0 ≡ zero = omega arith in ap (λ k. with_term k r (None ∷ rest)) z
with_last [] rest (suc j) r =
    let z : 0 + suc j ≡ suc (0 + j) = omega arith in
    ap (λ k. with_term k r (None ∷ (None ∷ (replicate j None ++ rest)))) z ∙ ap (λ l. None ∷ l) (with_last [] rest j r)
with_last (v ∷ e) rest j r =
    let z : suc (length e) + j ≡ suc (length e + j) = omega arith in
    ap (λ k. with_term k r (v ∷ (e ++ (replicate (suc j) None ++ rest)))) z ∙ ap (λ l. v ∷ l) (with_last e rest j r)

pub fill_step : {X : Type 0} (from : ℕ) (slots : List (Option X)) (terms : List X) (place place2 : ℕ)
    (now after : List (Option X)) (us vs : List X) (r : X) → IsFilling from slots terms place now us →
    from < length us → us ≡ vs ++ r ∷ [] →
    place2 ≡ place - 1 → after ≡ with_term place2 r now → IsFilling from slots terms place2 after vs
fill_step from slots terms place place2 now after us vs r f high popped less put =
    let n : length us ≡ suc (length vs) = let a = ap length popped in let b = length-append vs (r ∷ []) in
    omega arith in
    let few = f.few in
    let small : length vs < length terms = omega arith in
    let whole : vs ++ r ∷ [] ≡ take (length vs) terms ++ get_or terms (length vs) r ∷ [] =
    sym popped ∙ (f.front ∙ (ap (λ k. take k terms) (let a : length us ≡ length vs + 1 = omega arith in a) ∙
    take_more terms (length vs) r small)) in
    let front : vs ≡ take (length vs) terms =
    sym (take-append_seam vs (r ∷ [])) ∙
    (ap (take (length vs)) whole ∙
    (ap (λ k. take k (take (length vs) terms ++ get_or terms (length vs) r ∷ []))
    (sym (length-take-le (length vs) terms (omega arith))) ∙
    take-append_seam (take (length vs) terms) (get_or terms (length vs) r ∷ []))) in
    let last : r ∷ [] ≡ get_or terms (length vs) r ∷ [] =
    sym (drop-append_seam vs (r ∷ [])) ∙
    (ap (drop (length vs)) whole ∙
    (ap (λ k. drop k (take (length vs) terms ++ get_or terms (length vs) r ∷ []))
    (sym (length-take-le (length vs) terms (omega arith))) ∙
    drop-append_seam (take (length vs) terms) (get_or terms (length vs) r ∷ []))) in
    let rest : drop (length vs) terms ≡ r ∷ drop (length us) terms =
    drop-cons terms (length vs) r small ∙
    (ap (λ l. l ++ drop (suc (length vs)) terms) (sym last) ∙ ap (λ k. r ∷ drop k terms) (sym n)) in
    let j : length us - from ≡ suc (length vs - from) = omega arith in
    record {
      front = front;
      few = omega arith;
      many = omega (arith, f.many);
      at = λ e are. let a = f.at e are in omega arith;
      given = λ e are.
          let a = f.at e are in
          let at2 : place2 ≡ length e + (length vs - from) = omega arith in
          put ∙ (ap (with_term place2 r) (f.given e are) ∙
          (ap (λ k. with_term k r (e ++
          (replicate (length us - from) None ++ map (λ x. Some x) (drop (length us) terms)))) at2 ∙
          (ap (λ k. with_term (length e + (length vs - from)) r (e ++
          (replicate k None ++ map (λ x. Some x) (drop (length us) terms)))) j ∙
          (with_last e (map (λ x. Some x) (drop (length us) terms)) (length vs - from) r ∙
          ap (λ l. e ++ (replicate (length vs - from) None ++ map (λ x. Some x) l)) (sym rest)))));
    }
