-- Places of terms that are brought in one after another.
use Rattle.std.proofs.Common.{◌≡◌, ℕ, zero, suc, ◌-◌, ◌<◌, IsTrue, List, [], ◌∷◌, ◌++◌, length, map, take, drop, refl, ap, sym, subst, append_assoc, length-append, ◌∙◌, All, arith}
use Rattle.std.proofs.lemmas.List.{length-map, map-append}
use Rattle.std.proofs.Math.Seq.{take-length, take-append_seam, drop-append_seam}
use Rattle.term_model.specs.declared.term.Head.TheVariants as heads
use Rattle.term_model.specs.declared.made.Made.{Made}
use Rattle.term_model.specs.declared.made.Made.TheVariants as made
use Rattle.term_model.specs.Symbol.{Symbol}
use Rattle.term_model.specs.Term.{Tree, node, term, IsTerm, Fits}
use Rattle.term_model.specs.TermParts.{head_of, parts_of, annos_of}
use Rattle.term_model.proofs.Joins.{append_nil}
use Rattle.term_model.proofs.SpaceLemmas.{whole as by_parts}
use Rattle.term_model.proofs.TermLemmas.{weight_positive}
use Rattle.term_model.proofs.EqualityLemmas.{weights-parts_of, weights-annos_of, weight-get_or}
use Rattle.term_store.specs.Store.{head_in, is_int}
use Rattle.term_store.specs.Space.{count, term_of, Stand, Keeps, IsMade}
use Rattle.term_store.specs.Entering.{PutsOn, IsPlaced}
use Rattle.term_store.specs.declared.store.StoreSpace.{StoreSpace}
use Rattle.term_store.specs.declared.stored.StoredHead.{StoredHead}
use Rattle.term_store.specs.declared.stored.StoredHead.TheVariants as stored
use Rattle.term_store.proofs.PlainLemmas.{map_same}

pub keeps_same : (s : StoreSpace) → Keeps s s
keeps_same s = record {
  more = omega arith;
  terms = λ k h. refl;
  more_symbols = omega arith;
  symbols =
      λ n h. refl;
  named = omega arith;
}

pub keeps_on : {a b c : StoreSpace} → Keeps a b → Keeps b c → Keeps a c
keeps_on p q =
    let m = p.more in
    let n = q.more in
    let m2 = p.more_symbols in
    let n2 = q.more_symbols in
    let m3 = p.named in
    let n3 = q.named in
    record {
      more = omega (arith, m, n);
      terms = λ k h. q.terms k (omega (arith, h, m)) ∙ p.terms k h;
      more_symbols = omega (arith, m2, n2);
      symbols = λ k h. q.symbols k (omega (arith, h, m2)) ∙ p.symbols k h;
      named = omega (arith, m3, n3);
    }

all_append : (n : ℕ) (xs ys : List ℕ) → All (λ i. i < n) xs → All (λ i. i < n) ys → All (λ i. i < n) (xs ++ ys)
all_append n [] ys p q k d h = q k d h
all_append n (x ∷ xs) ys p q zero d h = p 0 d (omega arith)
all_append n (x ∷ xs) ys p q (suc k) d h =
    all_append n xs ys (λ j e within. p (suc j) e (omega (arith, within))) q k d (omega (arith, h))

all_one : (n x : ℕ) → x < n → All (λ i. i < n) (x ∷ [])
all_one n x h zero d within = h
all_one n x h (suc k) d within = absurd (omega (arith, within))

-- places that stood before still stand, and keep their terms
pub stand_on : (a b : StoreSpace) (places : List ℕ) → Keeps a b → Stand a places → Stand b places
stand_on a b places keeps stand = λ k d h. let below = stand k d h in let more_ = keeps.more in
    omega (arith, below, more_)

pub same_on : (a b : StoreSpace) (places : List ℕ) → Keeps a b → Stand a places →
    map (term_of b) places ≡ map (term_of a) places
same_on a b places keeps stand = map_same (term_of b) (term_of a) places (λ k d h. keeps.terms _ (stand k d h))

pub puts_none : (s : StoreSpace) (terms : List Tree) (old : List ℕ) → terms ≡ [] → PutsOn s terms old old
puts_none s terms old e = record {
  places = [];
  after = sym (append_nil old);
  stand =
      λ k d h. absurd (omega (arith, h));
  are = sym e;
}

-- one more term was brought in and put on the stack
pub puts_more : (a b : StoreSpace) (terms more_ : List Tree) (t : Tree) (old mid new : List ℕ) (place : ℕ) →
    PutsOn a terms old mid → Keeps a b → place < count b → term_of b place ≡ t → new ≡ mid ++ place ∷ [] →
    more_ ≡ terms ++ t ∷ [] → PutsOn b more_ old new
puts_more a b terms more_ t old mid new place puts keeps stands is e f = record {
  places = puts.places ++ place ∷ [];
  after = e ∙ ap (λ xs. xs ++ place ∷ []) puts.after ∙ append_assoc old puts.places (place ∷ []);
  stand = all_append (count b) puts.places (place ∷ []) (stand_on a b puts.places keeps puts.stand)
      (all_one (count b) place stands);
  are = map-append (term_of b) puts.places (place ∷ []) ∙ ap (λ ts. map (term_of b) puts.places ++ ts ∷ []) is ∙
      ap (λ ts. ts ++ t ∷ []) (same_on a b puts.places keeps puts.stand ∙ puts.are) ∙ sym f;
}

middle_part : (old ps rest : List ℕ) →
    take (length (old ++ ps) - length old) (drop (length old) ((old ++ ps) ++ rest)) ≡ ps
middle_part old ps rest =
    let many : length (old ++ ps) - length old ≡ length ps = simp length-append (omega arith) in
    ap (λ n. take n (drop (length old) ((old ++ ps) ++ rest))) many ∙
    ap (λ xs. take (length ps) (drop (length old) xs)) (append_assoc old ps rest) ∙
    ap (take (length ps)) (drop-append_seam old (ps ++ rest)) ∙ take-append_seam ps rest

last_part : (mid xs : List ℕ) → take (length (mid ++ xs) - length mid) (drop (length mid) (mid ++ xs)) ≡ xs
last_part mid xs =
    let many : length (mid ++ xs) - length mid ≡ length xs = simp length-append (omega arith) in
    ap (λ n. take n (drop (length mid) (mid ++ xs))) many ∙ ap (take (length xs)) (drop-append_seam mid xs) ∙
    take-length xs

-- a head that is an integer has no parts
bare_head : (symbols : List Symbol) (h : StoredHead) (t : Tree) → head_in symbols h ≡ head_of t → IsTerm t →
    IsTrue (is_int h) → length (parts_of t) ≡ 0
bare_head symbols (stored.Int z) (node (heads.Int y) ps xs) e is true_ = rw is.0.1 refl
bare_head symbols (stored.Int z) (node (heads.App s) ps xs) e is true_ = cc
bare_head symbols (stored.Int z) (node heads.List ps xs) e is true_ = cc
bare_head symbols (stored.Symbol n) t e is true_ = cc
bare_head symbols stored.List t e is true_ = cc

-- the parts and annotations of a term that were brought in
pub placed : (a b s : StoreSpace) (t : Tree) (h : StoredHead) (ts us : List Tree) (old mid new xs ys : List ℕ)
    (bottom middle : ℕ) → PutsOn a ts old mid → PutsOn b us mid new → Keeps a b → Keeps b s →
    head_in s.symbols.keys h ≡ head_of t → IsTerm t
    → ts ≡ parts_of t → us ≡ annos_of t → bottom ≡ length old → middle ≡ length mid → xs ≡ new → ys ≡ new →
    IsPlaced s t h (take (middle - bottom) (drop bottom xs)) (take (length ys - middle) (drop middle ys))
placed a b s t h ts us old mid new xs ys bottom middle first second keeps1 keeps2 head is_term first_is second_is
    bottom_is middle_is xs_is ys_is =
    let ps : List ℕ = first.places in
    let qs : List ℕ = second.places in
    let parts_are : take (middle - bottom) (drop bottom xs) ≡ ps =
    rw (bottom_is, middle_is, xs_is)
    (ap (λ zs. take (length mid - length old) (drop (length old) zs)) second.after ∙
    ap (λ zs. take (length zs - length old) (drop (length old) (zs ++ qs))) first.after ∙ middle_part old ps qs) in
    let annos_are : take (length ys - middle) (drop middle ys) ≡ qs =
    rw (middle_is, ys_is) (ap (λ zs. take (length zs - length mid) (drop (length mid) zs)) second.after ∙
    last_part mid qs) in
    let parts_terms : map (term_of s) ps ≡ parts_of t =
    same_on a s ps (keeps_on keeps1 keeps2) first.stand ∙ first.are ∙ first_is in
    let annos_terms : map (term_of s) qs ≡ annos_of t = same_on b s qs keeps2 second.stand ∙ second.are ∙ second_is in
    let whole : term (head_in s.symbols.keys h) (map (term_of s) ps) (map (term_of s) qs) ≡ t =
    ap (λ g. term g (map (term_of s) ps) (map (term_of s) qs)) head ∙
    ap (λ vs. term (head_of t) vs (map (term_of s) qs)) parts_terms ∙
    ap (λ vs. term (head_of t) (parts_of t) vs) annos_terms ∙ by_parts t in
    let long : length ps ≡ length (parts_of t) = sym (length-map ps (term_of s)) ∙ ap length parts_terms in
    subst (λ (zs : List ℕ). IsPlaced s t h zs (take (length ys - middle) (drop middle ys))) (sym parts_are)
    (subst (λ (zs : List ℕ). IsPlaced s t h ps zs) (sym annos_are) (record {
      bare = λ int. long ∙ bare_head s.symbols.keys h t head is_term int;
      parts = stand_on a s ps (keeps_on keeps1 keeps2) first.stand;
      annos = stand_on b s qs keeps2 second.stand;
      is = whole;
    }))

-- a term that fits is made
pub not_oversize : (s : StoreSpace) (u t : Tree) (m : Made ℕ) → IsMade s u m → u ≡ t → Fits t → m ≡ made.Oversize → ⊥
not_oversize s u t (made.Fits k) is e fits_ o = cc
not_oversize s u t made.Oversize is e fits_ o = is (subst Fits (sym e) fits_)

pub made_is : (s : StoreSpace) (u t : Tree) (m : Made ℕ) (k : ℕ) → IsMade s u m → u ≡ t → m ≡ made.Fits k →
    term_of s k ≡ t
made_is s u t m k is e f = let there : IsMade s u (made.Fits k) = subst (IsMade s u) f is in there.1 ∙ e

pub ruleset entering = (
  keeps_same,
  keeps_on,
  puts_none,
  weights-parts_of,
  weights-annos_of,
  weight_positive,
  weight-get_or,
)
