-- What making the instances of patterns says.
use Rattle.std.proofs.Common.{◌≡◌, ℕ, suc, ◌+◌, ◌<◌, ◌≤◌, Option, Some, None, List, [], ◌∷◌, ◌++◌, length, get_or, drop, add-one, refl, sym, ◌∙◌, ap, subst, Vec, Global}
use Rattle.std.specs.Prelude.{Bool, true, false, ◌&&◌}
use Rattle.std.specs.Option.{option_map}
use Rattle.std.proofs.Math.Seq.{drop-cons}
use Rattle.std.proofs.lemmas.List.{drop_all}
use Rattle.std.proofs.lemmas.Bool.{and_left}
use Rattle.std.proofs.Math.Bool.{and-false, and-true}
use Rattle.term_model.specs.declared.made.Made.{Made}
use Rattle.term_model.specs.declared.made.Made.TheVariants as made
use Rattle.term_model.specs.Term.{Tree, Trees, end, trees_of, fits, all_fit, made_of}
use Rattle.term_model.proofs.FitsLaws.{made_is, large_when, all_fit-last}
use Rattle.core_lang.specs.declared.coordinate.Coordinate.{Coordinate}
use Rattle.core_lang.specs.declared.program.CorePattern.{CorePattern}
use Rattle.core_lang.specs.Environment.{Bindings}
use Rattle.core_lang.specs.Building.{with_front, instance, instances}
use Rattle.core_lang.specs.Views.{pattern_of, patterns_of}
use Rattle.core_eval.specs.Instance.{AreMade, Kept}

-- what is made is none where there is no instance, and says whether the instance fits
pub none_made : (o : Option Tree) → None ≡ option_map made_of o → o ≡ None
none_made None h = refl
none_made (Some t) h = absurd (cc)

pub one_made : (o : Option Tree) (u : Tree) → Some (made.Fits u) ≡ option_map made_of o → (o ≡ Some u) × (fits u ≡ true)
one_made None u h = absurd (cc)
one_made (Some t) u h =
    let q : made_of t ≡ made.Fits u = cc in
    let one = made_is t u q in
    (ap (λ z. Some z) (sym one.0), subst (λ z. fits z ≡ true) (sym one.0) one.1)

pub too_large : (o : Option Tree) → Some made.Oversize ≡ option_map made_of o → (t : Tree) × (o ≡ Some t) ×
    (fits t ≡ false)
too_large None h = absurd (cc)
too_large (Some t) h = let q : made_of t ≡ made.Oversize = cc in (t, refl, large_when t q)

-- terms in front of others
abbrev before : List Tree → Option Trees → Option Trees
before [] o = o
before (t ∷ ts) o = with_front (Some t) (before ts o)

before_push : (us : List Tree) (u : Tree) (o : Option Trees) →
    before us (with_front (Some u) o) ≡ before (us ++ u ∷ []) o
before_push [] u o = refl
before_push (t ∷ ts) u o = ap (λ v. with_front (Some t) v) (before_push ts u o)

before_none : (us : List Tree) → before us None ≡ None
before_none [] = refl
before_none (u ∷ us) = ap (λ v. with_front (Some u) v) (before_none us)

before_end : (us : List Tree) → before us (Some end) ≡ Some (trees_of us)
before_end [] = refl
before_end (u ∷ us) = ap (λ v. with_front (Some u) v) (before_end us)

large_last : (us : List Tree) (u : Tree) → fits u ≡ false → all_fit (trees_of (us ++ u ∷ [])) ≡ false
large_last us u h = all_fit-last us u ∙ (ap (λ b. all_fit (trees_of us) && b) h ∙ and-false _)

fitting_last : (us : List Tree) (u : Tree) → all_fit (trees_of us) ≡ true → fits u ≡ true →
    all_fit (trees_of (us ++ u ∷ [])) ≡ true
fitting_last us u h k = all_fit-last us u ∙ (ap (λ b. b && fits u) h ∙ k)

-- all instances, from the terms that are made and the rest; whether all that are made fit
pub data Making (all rest : Option Trees) : List Tree → Bool → Type 0 where
  all_fitting : {ts : List Tree} → all ≡ before ts rest → all_fit (trees_of ts) ≡ true → Making all rest ts true
  not_fitting : {ts : List Tree} (us : List Tree) → all ≡ before us rest → all_fit (trees_of us) ≡ false →
      Making all rest ts false

pub making_starts : (all : Option Trees) (ts : List Tree) → ts ≡ [] → Making all all ts true
making_starts all ts h = all_fitting (ap (λ us. before us all) (sym h)) (ap (λ us. all_fit (trees_of us)) h)

pub making_goes_on : {all rest next : Option Trees} {ts us : List Tree} {b : Bool} (u : Tree) → Making all rest ts b →
    rest ≡ with_front (Some u) next → fits u ≡ true → us ≡ ts ++ u ∷ [] → Making all next us b
making_goes_on {next = next} {ts = ts} u (all_fitting so_far each) is fit at =
    all_fitting (so_far ∙ (ap (λ o. before ts o) is ∙ (before_push ts u next ∙ ap (λ vs. before vs next) (sym at))))
    (ap (λ vs. all_fit (trees_of vs)) at ∙ fitting_last ts u each fit)
making_goes_on {next = next} u (not_fitting vs so_far large) is fit at =
    not_fitting (vs ++ u ∷ []) (so_far ∙ (ap (λ o. before vs o) is ∙ before_push vs u next))
    (all_fit-last vs u ∙ and_left (all_fit (trees_of vs)) (fits u) large)

pub making_too_large : {all rest next : Option Trees} {ts : List Tree} {b : Bool} (u : Tree) → Making all rest ts b →
    rest ≡ with_front (Some u) next → fits u ≡ false → Making all next ts false
making_too_large {next = next} {ts = ts} u (all_fitting so_far each) is large =
    not_fitting (ts ++ u ∷ []) (so_far ∙ (ap (λ o. before ts o) is ∙ before_push ts u next)) (large_last ts u large)
making_too_large {next = next} u (not_fitting vs so_far e) is large =
    not_fitting (vs ++ u ∷ []) (so_far ∙ (ap (λ o. before vs o) is ∙ before_push vs u next)) (large_last vs u large)

pub making_stops : {all rest : Option Trees} {ts : List Tree} {b : Bool} → Making all rest ts b → rest ≡ None →
    all ≡ None
making_stops {ts = ts} (all_fitting so_far each) is = so_far ∙ (ap (λ o. before ts o) is ∙ before_none ts)
making_stops (not_fitting vs so_far e) is = so_far ∙ (ap (λ o. before vs o) is ∙ before_none vs)

pub making_done : {all rest : Option Trees} {ts : List Tree} {b : Bool} → Making all rest ts b → rest ≡ Some end →
    b ≡ true → (all ≡ Some (trees_of ts)) × (all_fit (trees_of ts) ≡ true)
making_done {ts = ts} (all_fitting so_far each) is h = (so_far ∙ (ap (λ o. before ts o) is ∙ before_end ts), each)
making_done (not_fitting vs so_far e) is h = absurd (cc)

pub making_ends : {all rest : Option Trees} {ts : List Tree} {b : Bool} → Making all rest ts b → rest ≡ Some end →
    b ≡ false → (us : Trees) × (all ≡ Some us) × (all_fit us ≡ false)
making_ends (all_fitting so_far each) is h = absurd (cc)
making_ends (not_fitting vs so_far e) is h = (trees_of vs, so_far ∙ (ap (λ o. before vs o) is ∙ before_end vs), e)

pub making_next : {all rest next : Option Trees} {ts us : List Tree} {b : Bool} (o : Option Tree) (m : Made Tree)
    (kept now_fit : Bool) → Making all rest ts b → rest ≡ with_front o next →
    Some m ≡ option_map made_of o → Kept m kept ts us → now_fit ≡ (b && kept) → Making all next us now_fit
making_next {all} {next = next} {us = us} {b = b} o (made.Fits t) kept now_fit so_far is at k h =
    let one = one_made o t at in
    let test : now_fit ≡ b = h ∙ (ap (λ z. b && z) k.0 ∙ and-true b) in
    subst (λ z. Making all next us z) (sym test)
    (making_goes_on t so_far (is ∙ ap (λ v. with_front v next) one.0) one.1 k.1)
making_next {all} {next = next} {ts = ts} {us = us} {b = b} o made.Oversize kept now_fit so_far is at k h =
    let large = too_large o at in
    let test : now_fit ≡ false = h ∙ (ap (λ z. b && z) k.0 ∙ and-false b) in
    subst (λ z. Making all next us z) (sym test)
    (subst (λ vs. Making all next vs false) (sym k.1)
    (making_too_large large.0 so_far (is ∙ ap (λ v. with_front v next) large.1) large.2))

module _ (place : Coordinate → Option ℕ) (e : Bindings) (ps : List CorePattern) (i : ℕ) where
  pub next_instance : (p : CorePattern) (o : Option Tree) → i < length ps → p ≡ get_or ps i p →
      instance place (pattern_of p) e ≡ o →
      instances place (patterns_of (drop i ps)) e ≡ with_front o (instances place (patterns_of (drop (i + 1) ps)) e)
  next_instance p o h is at =
      let cut : drop i ps ≡ p ∷ drop (i + 1) ps =
      rw add-one (drop-cons ps i p h ∙ ap (λ u. u ∷ drop (suc i) ps) (sym is)) in
      ap (λ xs. instances place (patterns_of xs) e) cut ∙
      ap (λ o. with_front o (instances place (patterns_of (drop (i + 1) ps)) e)) at

  pub no_instance : length ps ≤ i → instances place (patterns_of (drop i ps)) e ≡ Some end
  no_instance h = ap (λ xs. instances place (patterns_of xs) e) (drop_all i ps h)

-- one of several terms is too large
pub one_too_large : {vs : Option Trees} {m : Option (Made (Vec Tree Global))} {k : Made (Vec Tree Global)} →
    AreMade vs m → m ≡ Some k → k ≡ made.Oversize → AreMade vs (Some made.Oversize)
one_too_large {vs} fact is at = subst (λ z. AreMade vs z) (is ∙ ap (λ z. Some z) at) fact

-- one of several terms is none, or each of them is made
pub lacks_made : {vs : Option Trees} {m : Option (Made (Vec Tree Global))} → AreMade vs m → m ≡ None → vs ≡ None
lacks_made {vs} fact is = subst (λ z. AreMade vs z) is fact

pub all_made : {vs : Option Trees} {m : Option (Made (Vec Tree Global))} {k : Made (Vec Tree Global)}
    {ts : Vec Tree Global} → AreMade vs m → m ≡ Some k → k ≡ made.Fits ts →
    (vs ≡ Some (trees_of ts.items)) × (all_fit (trees_of ts.items) ≡ true)
all_made {vs} fact is at = subst (λ z. AreMade vs z) (is ∙ ap (λ z. Some z) at) fact
