-- What one step of matching says.
use Rattle.std.proofs.Common.{◌≡◌, ℕ, zero, suc, ◌<◌, ◌≤◌, Option, Some, None, List, [], ◌∷◌, length, map, drop, take, ◌-◌, get_or, refl, sym, ◌∙◌, ap, arith, subst}
use Rattle.std.specs.Prelude.{Bool, true, false, if◌then◌else◌, nat_le}
use Rattle.term_model.specs.declared.term.Head.TheVariants as heads
use Rattle.term_model.specs.Term.{Tree, node, Trees, end, term, list_of, trees_of, weight, weights, depth, depths, fits, Fits, made_of}
use Rattle.term_model.specs.TermParts.{head_of, parts_of, annos_of}
use Rattle.term_model.specs.Limits.{max_weight, max_depth}
use Rattle.term_model.specs.declared.made.Made.{Made}
use Rattle.term_model.specs.declared.made.Made.TheVariants as made
use Rattle.std.proofs.lemmas.Bool.{le-leb}
use Rattle.term_model.specs.Same.{same, same_head}
use Rattle.core_lang.specs.Environment.{Bindings}
use Rattle.core_lang.specs.declared.coordinate.Coordinate.{Coordinate}
use Rattle.core_lang.specs.declared.program.CorePattern.{CorePattern}
use Rattle.core_lang.specs.Program.{Pattern, applied, Patterns, list, annotated, Elements, no_elements}
use Rattle.core_lang.specs.Tried.{put, put_at, and_then, tried, tried_all, tried_elements}
use Rattle.core_lang.specs.Views.{pattern_of, patterns_of, elements_in}
use Rattle.core_lang.proofs.PutLaws.{put_past, put_held}
use Rattle.core_eval.specs.Matching.{Found, FirstFound}
use Rattle.core_eval.specs.Frame.{IsPast}
use Rattle.term_model.proofs.TermLemmas.{trees_of-list_of}
use Rattle.term_model.proofs.FitsLaws.{bare_fits, fits-complete, made_fits}
use Rattle.term_model.specs.Symbol.{Symbol}

found_by_test : (b : Bool) (e : Bindings) (o : Option Bindings) → o ≡ (if b then Some e else None) → Found o b e
found_by_test true e o h = h
found_by_test false e o h = h

-- a place that has a term: whether it is the same
pub bound_before : (i : ℕ) (t u : Tree) (e : Bindings) (v : Option Tree) (test_is : Bool) → i < length e →
    v ≡ get_or e i v → v ≡ Some u → test_is ≡ same u t → Found (put i t e) test_is e
bound_before i t u e v test_is h is at test =
    found_by_test test_is e (put i t e) (put_held i t u e v h is at ∙ ap (λ b. if b then Some e else None) (sym test))

module _ (place : Coordinate → Option ℕ) where
  -- a term by its head and its parts
  applied_tried : (f : Symbol) (ps : Patterns Coordinate) (t : Tree) (e : Bindings) →
      tried place (applied f ps) t e ≡
      (if same_head (head_of t) (heads.App f) then tried_all place ps (trees_of (parts_of t)) e else None)
  applied_tried f ps (node h ts annos) e =
      ap (λ us. if same_head h (heads.App f) then tried_all place ps us e else None) (sym (trees_of-list_of ts))

  pub same_symbol_tried : (p : Pattern Coordinate) (f : Symbol) (ps : Patterns Coordinate) (t : Tree) (e : Bindings)
      (test_is : Bool) → p ≡ applied f ps → test_is ≡ same_head (head_of t) (heads.App f) → test_is ≡ true →
      tried place p t e ≡ tried_all place ps (trees_of (parts_of t)) e
  same_symbol_tried p f ps t e test_is is test out =
      ap (λ q. tried place q t e) is ∙
      (applied_tried f ps t e ∙
      ap (λ b. if b then tried_all place ps (trees_of (parts_of t)) e else None) (sym test ∙ out))

  -- a pattern of a term without its annotations, and those of these
  annotated_tried : (p : Pattern Coordinate) (qs : Patterns Coordinate) (t : Tree) (e : Bindings) →
      tried place (annotated p qs) t e ≡
      and_then (tried place p (term (head_of t) (parts_of t) []) e)
      (λ f. tried_all place qs (trees_of (annos_of t)) f)
  annotated_tried p qs (node h ts annos) e =
      ap (λ us. and_then (tried place p (node h us end) e) (λ f. tried_all place qs annos f))
      (sym (trees_of-list_of ts)) ∙
      ap (λ us. and_then (tried place p (node h (trees_of (list_of ts)) end) e) (λ f. tried_all place qs us f))
      (sym (trees_of-list_of annos))

  stopped : (o : Option Bindings) (go : Bindings → Option Bindings) (test : Bool) (f : Bindings) → Found o test f →
      test ≡ false → and_then o go ≡ None
  stopped o go true f h is = absurd (cc)
  stopped o go false f h is = ap (λ r. and_then r go) h

  gone_on : (o : Option Bindings) (go : Bindings → Option Bindings) (test : Bool) (f : Bindings) → Found o test f →
      test ≡ true → and_then o go ≡ go f
  gone_on o go true f h is = ap (λ r. and_then r go) h
  gone_on o go false f h is = absurd (cc)

  pub annotated_fails : (q p : Pattern Coordinate) (qs : Patterns Coordinate) (t bare : Tree) (e f : Bindings)
      (test : Bool) → q ≡ annotated p qs → bare ≡ term (head_of t) (parts_of t) [] →
      Found (tried place p bare e) test f → test ≡ false → tried place q t e ≡ None
  annotated_fails q p qs t bare e f test is at first so =
      ap (λ r. tried place r t e) is ∙
      (annotated_tried p qs t e ∙
      stopped _ (λ g. tried_all place qs (trees_of (annos_of t)) g)
      test f (subst (λ u. Found (tried place p u e) test f) at first) so)

  pub annotated_goes_on : (q p : Pattern Coordinate) (qs : Patterns Coordinate) (t bare : Tree) (e f g : Bindings)
      (test rest_test : Bool) → q ≡ annotated p qs → bare ≡ term (head_of t) (parts_of t) [] →
      Found (tried place p bare e) test f → test ≡ true →
      Found (tried_all place qs (trees_of (annos_of t)) f) rest_test g → Found (tried place q t e) rest_test g
  annotated_goes_on q p qs t bare e f g test rest_test is at first so others =
      subst (λ o. Found o rest_test g)
      (sym (ap (λ r. tried place r t e) is ∙
      (annotated_tried p qs t e ∙
      gone_on _ (λ h. tried_all place qs (trees_of (annos_of t)) h)
      test f (subst (λ u. Found (tried place p u e) test f) at first) so)))
      others

  -- several patterns
  no_rest : (o : Option Bindings) (go : Bindings → Option Bindings) → ((f : Bindings) → go f ≡ None) →
      and_then o go ≡ None
  no_rest None go h = refl
  no_rest (Some e) go h = h e

  pub other_count : (ps : List CorePattern) (ts : List Tree) (e : Bindings) → (length ps ≡ length ts → ⊥) →
      tried_all place (patterns_of ps) (trees_of ts) e ≡ None
  other_count [] [] e h = absurd (h refl)
  other_count [] (t ∷ ts) e h = refl
  other_count (p ∷ ps) [] e h = refl
  other_count (p ∷ ps) (t ∷ ts) e h =
      no_rest (tried place (pattern_of p) t e) (λ f. tried_all place (patterns_of ps) (trees_of ts) f)
      (λ f. other_count ps ts f (λ x. h (omega arith)))

  -- a list by its elements
  list_tried_by : (ps : Elements Coordinate) (t : Tree) (e : Bindings) →
      tried place (list ps) t e ≡
      (if same_head (head_of t) heads.List then tried_elements place ps (trees_of (parts_of t)) e else None)
  list_tried_by ps (node h ts annos) e =
      ap (λ us. if same_head h heads.List then tried_elements place ps us e else None) (sym (trees_of-list_of ts))

  pub list_tried : (p : Pattern Coordinate) (ps : Elements Coordinate) (t : Tree) (e : Bindings) (test_is : Bool) →
      p ≡ list ps → test_is ≡ same_head (head_of t) heads.List → test_is ≡ true →
      tried place p t e ≡ tried_elements place ps (trees_of (parts_of t)) e
  list_tried p ps t e test_is is test out =
      ap (λ q. tried place q t e) is ∙
      (list_tried_by ps t e ∙
      ap (λ b. if b then tried_elements place ps (trees_of (parts_of t)) e else None) (sym test ∙ out))

  -- the first elements of a list, whatever its rest
  pub too_few : (ps : List CorePattern) (ts : List Tree) (e : Bindings) (rest : Option (Pattern Coordinate)) →
      length ts < length ps → tried_elements place (elements_in (map pattern_of ps) rest) (trees_of ts) e ≡ None
  too_few [] ts e rest h = absurd (omega arith)
  too_few (p ∷ ps) [] e rest h = refl
  too_few (p ∷ ps) (t ∷ ts) e rest h =
      no_rest (tried place (pattern_of p) t e)
      (λ f. tried_elements place (elements_in (map pattern_of ps) rest) (trees_of ts) f)
      (λ f. too_few ps ts f rest (omega arith))

  pub first_lacks : (ps : List (Pattern Coordinate)) (ts us : Trees) (e f : Bindings) (enough : Type 0) (b : Bool) →
      FirstFound place ps ts e b us f enough → b ≡ false →
      (rest : Option (Pattern Coordinate)) → tried_elements place (elements_in ps rest) ts e ≡ None
  first_lacks ps ts us e f enough true h is = absurd (cc)
  first_lacks ps ts us e f enough false h is = h

  pub first_goes_on : (ps : List (Pattern Coordinate)) (ts us : Trees) (e f : Bindings) (enough : Type 0) (b : Bool) →
      FirstFound place ps ts e b us f enough → b ≡ true →
      (rest : Option (Pattern Coordinate)) →
      tried_elements place (elements_in ps rest) ts e ≡ tried_elements place (elements_in [] rest) us f
  first_goes_on ps ts us e f enough true h is = h.0
  first_goes_on ps ts us e f enough false h is = absurd (cc)

  -- an absent rest does not match where parts are left
  pub some_left : (ts : List Tree) (n : ℕ) (e : Bindings) → n < length ts →
      tried_elements place no_elements (trees_of (drop n ts)) e ≡ None
  some_left [] n e h = absurd (omega arith)
  some_left (t ∷ ts) zero e h = refl
  some_left (t ∷ ts) (suc n) e h = some_left ts n e (omega arith)

-- the parts following the first ones weigh no more than all, and are no deeper
parts_after : (ts : List Tree) (n : ℕ) → (weights (trees_of (drop n ts)) ≤ weights (trees_of ts)) ×
    (depths (trees_of (drop n ts)) ≤ depths (trees_of ts))
parts_after [] zero = (omega arith, omega arith)
parts_after [] (suc n) = (omega arith, omega arith)
parts_after (t ∷ ts) zero = (omega arith, omega arith)
parts_after (t ∷ ts) (suc n) = let less = parts_after ts n in let light = less.0 in let flat = less.1 in
    (omega arith, omega arith)

after_fits : (t : Tree) (n : ℕ) → Fits t → fits (term heads.List (drop n (parts_of t)) []) ≡ true
after_fits (node h ts annos) n whole =
    let less = parts_after (list_of ts) n in
    let light_parts : weights (trees_of (drop n (list_of ts))) ≤ weights ts =
    subst (λ us. weights (trees_of (drop n (list_of ts))) ≤ weights us) (trees_of-list_of ts) less.0 in
    let flat_parts : depths (trees_of (drop n (list_of ts))) ≤ depths ts =
    subst (λ us. depths (trees_of (drop n (list_of ts))) ≤ depths us) (trees_of-list_of ts) less.1 in
    let weight_fits = whole.weight in
    let depth_fits = whole.depth in
    let light : nat_le (weight (node heads.List (trees_of (drop n (list_of ts))) end)) max_weight ≡ true =
    le-leb _ _ (omega arith) in
    let flat : nat_le (depth (node heads.List (trees_of (drop n (list_of ts))) end)) max_depth ≡ true =
    le-leb _ _ (omega arith) in
    rw (light, flat) refl

take_enough : (xs : List Tree) (m : ℕ) → length xs ≤ m → take m xs ≡ xs
take_enough [] zero h = refl
take_enough [] (suc m) h = refl
take_enough (x ∷ xs) zero h = absurd (omega arith)
take_enough (x ∷ xs) (suc m) h = ap (λ ys. x ∷ ys) (take_enough xs m (omega arith))

drop_length : (xs : List Tree) (n : ℕ) → length (drop n xs) ≤ length xs - n
drop_length [] zero = omega arith
drop_length [] (suc n) = omega arith
drop_length (x ∷ xs) zero = omega arith
drop_length (x ∷ xs) (suc n) = let less = drop_length xs n in omega arith

-- a slice from a position on
pub slice_after : (xs : List Tree) (n : ℕ) → take (length xs - n) (drop n xs) ≡ drop n xs
slice_after xs n = take_enough (drop n xs) (length xs - n) (drop_length xs n)

pub after_made : (t : Tree) (n : ℕ) (m : Made Tree) → Fits t → m ≡ made_of (term heads.List (drop n (parts_of t)) []) →
    m ≡ made.Oversize → ⊥
after_made t n m whole is large =
    no_oversize (fits (term heads.List (drop n (parts_of t)) [])) (term heads.List (drop n (parts_of t)) [])
    (after_fits t n whole) (sym large ∙ is)
  where
    no_oversize : (b : Bool) (u : Tree) → b ≡ true → made.Oversize ≡ (if b then made.Fits u else made.Oversize) → ⊥
    no_oversize true u h e = cc
    no_oversize false u h e = cc

-- a variable that leads to no place
pub put_nowhere : (o : Option ℕ) (t : Tree) (e : Bindings) (n : ℕ) → IsPast o n → n ≡ length e → put_at o t e ≡ None
put_nowhere None t e n h is = refl
put_nowhere (Some i) t e n h is = put_past i t e (omega arith)

-- what the bare term of a term is, and that it fits
bare_again : (t : Tree) → Fits t → fits (term (head_of t) (parts_of t) []) ≡ true
bare_again (node h ts annos) whole =
    ap (λ us. fits (node h us end)) (trees_of-list_of ts) ∙ bare_fits h ts annos (fits-complete (node h ts annos) whole)

pub bare_made : (t : Tree) (annos : List Tree) (m : Made Tree) → Fits t → annos ≡ [] →
    m ≡ made_of (term (head_of t) (parts_of t) annos) → m ≡ made.Oversize → ⊥
bare_made t annos m whole none is large =
    let fitting = made_fits (term (head_of t) (parts_of t) []) (bare_again t whole) in
    let same = ap (λ xs. made_of (term (head_of t) (parts_of t) xs)) none in
    let wrong : made.Fits (term (head_of t) (parts_of t) []) ≡ made.Oversize =
    sym fitting ∙ (sym same ∙ (sym is ∙ large)) in
    cc
