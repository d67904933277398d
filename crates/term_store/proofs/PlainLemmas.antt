-- The terms of plain shapes.
use Rattle.std.proofs.Common.{◌≡◌, ℕ, zero, suc, ◌+◌, ◌<◌, ◌≤◌, List, [], ◌∷◌, ◌++◌, length, map, get_or, take, drop, refl, sym, ◌∙◌, ap, subst, All, Contains, arith, add-zero, zero-add, length-append}
use Rattle.std.proofs.lemmas.Grind.{common_steps}
use Rattle.std.proofs.lemmas.List.{take-append-drop, length-take-le}
use Rattle.term_model.specs.Term.{Tree, term, trees_of, list_of}
use Rattle.term_model.proofs.TermLemmas.{list_of-trees_of}
use Rattle.term_store.specs.Plain.{Plain, absent, term_in, terms_from, term_at, ArePlain}

terms_from-append : (before : List Tree) (xs ys : List Plain) →
    terms_from before (xs ++ ys) ≡ terms_from (terms_from before xs) ys
terms_from-append before [] ys = refl
terms_from-append before (x ∷ xs) ys = terms_from-append (before ++ term_in before x ∷ []) xs ys

length-terms_from : (before : List Tree) (xs : List Plain) → length (terms_from before xs) ≡ length before + length xs
length-terms_from before [] = omega arith
length-terms_from before (x ∷ xs) =
    length-terms_from (before ++ term_in before x ∷ []) xs ∙ simp length-append (omega arith)

-- the terms before stay
front_stays : (before : List Tree) (xs : List Plain) (i : ℕ) → i < length before →
    get_or (terms_from before xs) i absent ≡ get_or before i absent
front_stays before [] i h = refl
front_stays before (x ∷ xs) i h =
    front_stays (before ++ term_in before x ∷ []) xs i (simp length-append (omega arith)) ∙ grind (arith, common_steps)

-- the term of the shape at k
at_from : (before : List Tree) (xs : List Plain) (k : ℕ) (d : Plain) → k < length xs →
    get_or (terms_from before xs) (length before + k) absent ≡ term_in (terms_from before (take k xs)) (get_or xs k d)
at_from before [] k d h = absurd (omega arith)
at_from before (x ∷ xs) zero d h =
    rw add-zero (front_stays (before ++ term_in before x ∷ []) xs (length before) (simp length-append (omega arith)) ∙
    grind (arith, common_steps))
at_from before (x ∷ xs) (suc k) d h =
    let place : length before + suc k ≡ length (before ++ term_in before x ∷ []) + k =
    simp length-append (omega arith) in
    rw place (at_from (before ++ term_in before x ∷ []) xs k d (omega arith))

-- a place of the first shapes keeps its term when others come after
pub term_at-append : (xs ys : List Plain) (i : ℕ) → i < length xs → term_at (xs ++ ys) i ≡ term_at xs i
term_at-append xs ys i h =
    rw terms_from-append (front_stays (terms_from [] xs) ys i (rw length-terms_from (omega arith)))

-- two functions that agree on a list
pub map_same : {X Y : Type 0} (f g : X → Y) (xs : List X) → All (λ x. f x ≡ g x) xs → map f xs ≡ map g xs
map_same f g [] same = refl
map_same f g (x ∷ xs) same = grind (
  arith,
  common_steps,
  same 0 x (omega arith),
  map_same f g xs (λ k d h. same (suc k) d (omega arith)),
)

-- the term at a place, by those of its parts and annotations
pub term_at_unfolds : (xs : List Plain) (k : ℕ) (d : Plain) → ArePlain xs → k < length xs →
    term_at xs k ≡ term (get_or xs k d).head (map (term_at xs) (get_or xs k d).parts)
    (map (term_at xs) (get_or xs k d).annos)
term_at_unfolds xs k d plain h =
    let p : Plain = get_or xs k d in
    let front : (i : ℕ) → i < k → get_or (terms_from [] (take k xs)) i absent ≡ term_at xs i =
    λ i below. sym (term_at-append (take k xs) (drop k xs) i (rw (length-take-le k xs (omega arith)) below)) ∙
    ap (λ ks. term_at ks i) (take-append-drop k xs) in
    let is = plain k d h in
    let parts : All (λ i. get_or (terms_from [] (take k xs)) i absent ≡ term_at xs i) p.parts =
    λ j e within. front _ (is.parts j e within) in
    let annos : All (λ i. get_or (terms_from [] (take k xs)) i absent ≡ term_at xs i) p.annos =
    λ j e within. front _ (is.annos j e within) in
    let at : get_or (terms_from [] xs) (0 + k) absent ≡ term_in (terms_from [] (take k xs)) p = at_from [] xs k d h in
    rw zero-add at at ∙ (ap (λ ps. term p.head ps (map (λ i. get_or (terms_from [] (take k xs)) i absent) p.annos))
    (map_same _ (term_at xs) p.parts parts) ∙
    ap (λ ts. term p.head (map (term_at xs) p.parts) ts) (map_same _ (term_at xs) p.annos annos))

-- the shapes before n
pub term_at-take : (xs : List Plain) (n i : ℕ) → n ≤ length xs → i < n → term_at (take n xs) i ≡ term_at xs i
term_at-take xs n i within below =
    sym (term_at-append (take n xs) (drop n xs) i (rw (length-take-le n xs within) below)) ∙
    ap (λ ks. term_at ks i) (take-append-drop n xs)

pub trees_inj : (xs ys : List Tree) → trees_of xs ≡ trees_of ys → xs ≡ ys
trees_inj xs ys e = sym (list_of-trees_of xs) ∙ (ap list_of e ∙ list_of-trees_of ys)

-- two lists of places whose terms are equal in order are the same list, where equal terms are at one place
places_same : (keys : List Plain) (xs ys : List ℕ) →
    ((i j : ℕ) → Contains xs i → Contains ys j → term_at keys i ≡ term_at keys j → i ≡ j)
    → map (term_at keys) xs ≡ map (term_at keys) ys → xs ≡ ys
places_same keys [] [] one e = refl
places_same keys [] (y ∷ ys) one e = cc
places_same keys (x ∷ xs) [] one e = cc
places_same keys (x ∷ xs) (y ∷ ys) one e =
    let first : term_at keys x ≡ term_at keys y = cc in
    let rest_same : map (term_at keys) xs ≡ map (term_at keys) ys = cc in
    let same : x ≡ y = one x y (0, omega arith, refl) (0, omega arith, refl) first in
    let others : xs ≡ ys = places_same keys xs ys
    (λ i j ci cj t. one i j (suc ci.0, omega (arith, ci.1), ci.2) (suc cj.0, omega (arith, cj.1), cj.2) t)
    rest_same in
    cc

-- equal terms are at one place: by a bound on the first place
pub one_place : (keys : List Plain) (fuel i j : ℕ) (d : Plain) → ArePlain keys →
    ((a b : ℕ) → a < length keys → b < length keys → get_or keys a d ≡ get_or keys b d → a ≡ b)
    → i < fuel → i < length keys → j < length keys → term_at keys i ≡ term_at keys j → i ≡ j
one_place keys zero i j d plain distinct small hi hj e = absurd (omega arith)
one_place keys (suc fuel) i j d plain distinct small hi hj e =
    let p : Plain = get_or keys i d in
    let q : Plain = get_or keys j d in
    let at_i = term_at_unfolds keys i d plain hi in
    let at_j = term_at_unfolds keys j d plain hj in
    let nodes : term p.head (map (term_at keys) p.parts) (map (term_at keys) p.annos) ≡
    term q.head (map (term_at keys) q.parts) (map (term_at keys) q.annos) = sym at_i ∙ (e ∙ at_j) in
    let heads : p.head ≡ q.head = cc in
    let parts : trees_of (map (term_at keys) p.parts) ≡ trees_of (map (term_at keys) q.parts) = cc in
    let annos : trees_of (map (term_at keys) p.annos) ≡ trees_of (map (term_at keys) q.annos) = cc in
    let ip = plain i d hi in
    let iq = plain j d hj in
    let places : p.parts ≡ q.parts = places_same keys p.parts q.parts
    (λ a b ca cb t.
    let below_i : a < i = subst (λ n. n < i) ca.2 (ip.parts ca.0 a ca.1) in
    let below_j : b < j = subst (λ n. n < j) cb.2 (iq.parts cb.0 b cb.1) in
    one_place keys fuel a b d plain distinct (omega arith) (omega arith) (omega arith) t)
    (trees_inj _ _ parts) in
    let annotations : p.annos ≡ q.annos = places_same keys p.annos q.annos
    (λ a b ca cb t.
    let below_i : a < i = subst (λ n. n < i) ca.2 (ip.annos ca.0 a ca.1) in
    let below_j : b < j = subst (λ n. n < j) cb.2 (iq.annos cb.0 b cb.1) in
    one_place keys fuel a b d plain distinct (omega arith) (omega arith) (omega arith) t)
    (trees_inj _ _ annos) in
    distinct i j hi hj (λ w. record { head = heads w; parts = places w; annos = annotations w })
