-- Laws of the space in which a reference is a term.
use Rattle.std.proofs.Common.{◌≡◌, ◌≤◌, ℕ, ℤ, zero, suc, List, [], ◌∷◌, ◌++◌, map, length, take, drop, ◌-◌, refl, sym, append-nil, ◌∙◌, ap, subst, arith, All, IsTrue}
use Rattle.std.specs.Prelude.{Bool, true, false, if◌then◌else◌}
use Rattle.std.proofs.lemmas.List.Elements.{All-nil, All-cons, All-take, All-drop}
use Rattle.term_model.specs.declared.term.Head.TheVariants as heads
use Rattle.term_model.specs.declared.made.Made.TheVariants as made
use Rattle.term_model.specs.declared.made.Made.{Made}
use Rattle.std.specs.List.{AppendsClones, each_same}
use Rattle.std.proofs.lemmas.List.{map-id, length-drop}
use Rattle.std.proofs.Math.Seq.{take-length, drop-length}
use Rattle.std.proofs.lemmas.Bool.{and_parts}
use Rattle.term_model.specs.Space.{Makes, Pushes}
use Rattle.term_model.specs.SharedTerms.{shared_terms}
use Rattle.term_model.specs.Term.{Tree, node, term, weights, depths, trees_of, fits, Fits, all_fit, made_of}
use Rattle.term_model.specs.TermParts.{head_of, parts_of, annos_of}
use Rattle.term_model.proofs.TermLemmas.{trees_of-list_of}
use Rattle.term_model.proofs.FitsLaws.{fits-sound, fits-complete, parts_fit, annos_fit, made_fits}

-- a term is that of its head, its parts and its annotations
pub whole : (t : Tree) → term (head_of t) (parts_of t) (annos_of t) ≡ t
whole (node h parts annos) = rw (trees_of-list_of parts, trees_of-list_of annos) refl

-- a term that is made of its own parts again
pub made_again : (t : Tree) (parts : List Tree) (m : Made Tree) → IsTrue (fits t) →
    m ≡ made_of (term (head_of t) parts (annos_of t)) → map (λ u. u) parts ≡ parts_of t → m ≡ made.Fits t
made_again t parts m h e same =
    let own : term (head_of t) parts (annos_of t) ≡ t =
    ap (λ us. term (head_of t) us (annos_of t)) (sym (map-id parts) ∙ same) ∙ whole t in
    e ∙ ap made_of own ∙ made_fits t h

pub weights-drop : (n : ℕ) (ts : List Tree) → weights (trees_of (drop n ts)) ≤ weights (trees_of ts)
weights-drop zero ts = omega arith
weights-drop (suc n) [] = omega arith
weights-drop (suc n) (t ∷ ts) = omega (arith, weights-drop n ts)

pub depths-drop : (n : ℕ) (ts : List Tree) → depths (trees_of (drop n ts)) ≤ depths (trees_of ts)
depths-drop zero ts = omega arith
depths-drop (suc n) [] = omega arith
depths-drop (suc n) (t ∷ ts) = omega (arith, depths-drop n ts)

-- the rest of a list fits, as the list does
pub rest_fits : (t : Tree) (n : ℕ) → Fits t → Fits (term heads.List (drop n (parts_of t)) [])
rest_fits (node h parts annos) n f =
    let w = f.weight in
    let d = f.depth in
    let w2 = weights-drop n (parts_of (node h parts annos)) in
    let d2 = depths-drop n (parts_of (node h parts annos)) in
    let e = trees_of-list_of parts in
    let w3 : weights (trees_of (drop n (parts_of (node h parts annos)))) ≤ weights parts = rw e at w2 in
    let d3 : depths (trees_of (drop n (parts_of (node h parts annos)))) ≤ depths parts = rw e at d2 in
    record { weight = omega arith; depth = omega arith }

-- clones of terms are the terms
pub appended : (old new more : List Tree) → AppendsClones (λ t copy. copy ≡ t) old new more → new ≡ old ++ more
appended old new more a = a.1 ∙ ap (λ ts. old ++ ts) (each_same more a.0 a.2)

-- the parts and the annotations of a term that fits stand each
all_stand : (ts : List Tree) → all_fit (trees_of ts) ≡ true → All (λ u. IsTrue (fits u)) ts
all_stand [] h = All-nil (λ u. IsTrue (fits u))
all_stand (t ∷ ts) h = let two = and_parts (fits t) (all_fit (trees_of ts)) h in
    All-cons (λ u. IsTrue (fits u)) t ts two.0 (all_stand ts two.1)

pub parts_stand : (t : Tree) → IsTrue (fits t) → All (λ u. IsTrue (fits u)) (parts_of t)
parts_stand t h = all_stand (parts_of t) (parts_fit t (fits-sound t h))

pub annos_stand : (t : Tree) → IsTrue (fits t) → All (λ u. IsTrue (fits u)) (annos_of t)
annos_stand t h = all_stand (annos_of t) (annos_fit t (fits-sound t h))

-- references that were lent for them
pub lent_parts : (t : Tree) (ts : List Tree) → IsTrue (fits t) → ts ≡ parts_of t → All (λ u. IsTrue (fits u)) ts
lent_parts t ts h is = subst (λ us. All (λ u. IsTrue (fits u)) us) (sym is) (parts_stand t h)

pub lent_annos : (t : Tree) (ts : List Tree) → IsTrue (fits t) → ts ≡ annos_of t → All (λ u. IsTrue (fits u)) ts
lent_annos t ts h is = subst (λ us. All (λ u. IsTrue (fits u)) us) (sym is) (annos_stand t h)

module _ {W : Type 0} (space : W) where
  -- terms that were put on a stack
  pub parts_pushed : (t : Tree) (old new : List Tree) → IsTrue (fits t) → new ≡ old ++ parts_of t →
      Pushes (shared_terms {W = W} {M = Unit {0}}) space (parts_of t) old new
  parts_pushed t old new h e = record {
    pushed = parts_of t;
    after = e;
    standing = parts_stand t h;
    are =
        map-id (parts_of t);
  }

  pub annos_pushed : (t : Tree) (old new : List Tree) → IsTrue (fits t) → new ≡ old ++ annos_of t →
      Pushes (shared_terms {W = W} {M = Unit {0}}) space (annos_of t) old new
  annos_pushed t old new h e = record {
    pushed = annos_of t;
    after = e;
    standing = annos_stand t h;
    are =
        map-id (annos_of t);
  }

-- each reference is its term
pub own_terms : {W : Type 0} (space : W) (ts us : List Tree) → ts ≡ us →
    map ((shared_terms {W = W} {M = Unit {0}}).term_of space) ts ≡ us
own_terms space ts us e = map-id ts ∙ e

-- what was made stands
pub makes_term : {W : Type 0} (space : W) (t : Tree) (m : Made Tree) → m ≡ made_of t →
    Makes (shared_terms {W = W} {M = Unit {0}}) space t m
makes_term {W} space t m e = subst (λ n. Makes (shared_terms {W = W} {M = Unit {0}}) space t n) (sym e)
    (by_test (fits t) refl)
  where
    by_test : (b : Bool) → fits t ≡ b →
        Makes (shared_terms {W = W} {M = Unit {0}}) space t (if b then made.Fits t else made.Oversize)
    by_test true h = (h, refl, fits-sound t h)
    by_test false h = λ f. let k = fits-complete t f in absurd (cc)

-- an integer stands, and so does the rest of a list that does
pub integer_stands : (z : ℤ) → IsTrue (fits (term (heads.Int z) [] []))
integer_stands z = refl

pub rest_stands : (t : Tree) (n : ℕ) → IsTrue (fits t) → IsTrue (fits (term heads.List (drop n (parts_of t)) []))
rest_stands t n h = fits-complete _ (rest_fits t n (fits-sound t h))

pub rest_is_made : (t : Tree) (n : ℕ) → IsTrue (fits t) →
    made_of (term heads.List (drop n (parts_of t)) []) ≡ made.Fits (term heads.List (drop n (parts_of t)) [])
rest_is_made t n h = made_fits _ (rest_stands t n h)

-- all that comes after the first elements
pub to_the_end : (n : ℕ) (ts : List Tree) → take (length ts - n) (drop n ts) ≡ drop n ts
to_the_end n ts = ap (λ k. take k (drop n ts)) (sym (length-drop n ts)) ∙ take-length (drop n ts)

-- some of a term's parts that were put on a stack
pub some_pushed : {W : Type 0} (space : W) (t : Tree) (from many count : ℕ) (ts old new : List Tree) → IsTrue (fits t) →
    ts ≡ parts_of t → many ≡ count → new ≡ old ++ take many (drop from ts) →
    Pushes (shared_terms {W = W} {M = Unit {0}}) space (take count (drop from (parts_of t))) old new
some_pushed space t from many count ts old new h is same e = record {
  pushed = take count (drop from (parts_of t));
  after = e ∙ (ap (λ us. old ++ take many (drop from us)) is ∙ ap (λ k. old ++ take k (drop from (parts_of t))) same);
  standing = All-take (λ u. IsTrue (fits u)) count (drop from (parts_of t))
      (All-drop (λ u. IsTrue (fits u)) from (parts_of t) (parts_stand t h));
  are = map-id (take count (drop from (parts_of t)));
}

-- all of a term's own parts, put together from the first ones and the others
pub own_again : (t : Tree) (parts own zero one two : List Tree) (n : ℕ) → own ≡ parts_of t → zero ≡ [] →
    one ≡ zero ++ parts → two ≡ one ++ take (length own - n) (drop n own) → n ≡ length parts →
    map (λ u. u) parts ≡ parts_of t → map (λ u. u) two ≡ parts_of t
own_again t parts own zero_ one two n is none first all many same =
    let parts_are : parts ≡ parts_of t = sym (map-id parts) ∙ same in
    let own_is : own ≡ parts = is ∙ sym parts_are in
    let nothing : drop n own ≡ [] =
    ap (λ k. drop k own) many ∙ (ap (λ us. drop (length parts) us) own_is ∙ drop-length parts) in
    let rest : take (length own - n) (drop n own) ≡ [] =
    to_the_end n own ∙ nothing in
    map-id two ∙ (all ∙ (ap (λ us. one ++ us) rest ∙ (append-nil one ∙ (first ∙
    (ap (λ us. us ++ parts) none ∙ parts_are)))))

pub ruleset standing = (
  fits-sound,
  fits-complete,
  parts_stand,
  annos_stand,
  lent_parts,
  lent_annos,
  parts_pushed,
  annos_pushed,
  makes_term,
  own_terms,
  integer_stands,
  rest_stands,
)
