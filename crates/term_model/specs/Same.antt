-- The headline does not rest on this file.
-- Whether two terms are the same, as a test.
use Rattle.std.specs.Prelude.{◌≡◌, Bool, true, false, ◌&&◌, nat_eq}
use Rattle.std.specs.Ordering.{int_eq}
use Rattle.std.specs.Bool.{Decides}
use Rattle.std.specs.Cmp.{IsEquivalence, IsPartialEquivalence, decided, unsigned_Decides, signed_Decides, partial_equiv_from_equiv}
use Rattle.std.specs.Cmp.Lexicographic.{pointwise}
use Rattle.std.proofs.Common.{refl, ap, subst}
use Rattle.std.proofs.lemmas.Slice.Eq.{slice_eq-Decides}
use Rattle.term_model.specs.declared.term.Head.{Head}
use Rattle.term_model.specs.declared.term.Head.TheVariants as heads
use Rattle.term_model.specs.Symbol.{Symbol, Plain, Quoted, Tuple}
use Rattle.term_model.specs.Term.{Tree, node, Trees, end, more}

-- the kinds and the bytes are equal
abbrev pub same_symbol : Symbol → Symbol → Bool
same_symbol (Plain xs) (Plain ys) = pointwise nat_eq xs ys
same_symbol (Quoted xs) (Quoted ys) = pointwise nat_eq xs ys
same_symbol Tuple Tuple = true
same_symbol _ _ = false

-- the integers or the symbols are equal, or both are heads of lists
abbrev pub same_head : Head → Head → Bool
same_head (heads.Int m) (heads.Int n) = int_eq m n
same_head (heads.App s) (heads.App t) = same_symbol s t
same_head heads.List heads.List = true
same_head _ _ = false

-- the heads, the parts and the annotations are the same, in order
abbrev mutual
  pub same : Tree → Tree → Bool
  same (node h ps xs) (node k qs ys) = (same_head h k && same_all ps qs) && same_all xs ys

  pub same_all : Trees → Trees → Bool
  same_all end end = true
  same_all end (more _ _) = false
  same_all (more _ _) end = false
  same_all (more s ss) (more t ts) = same s t && same_all ss ts

-- both sides of a conjunction hold
both : (a b : Bool) → (a && b) ≡ true → (a ≡ true) × (b ≡ true)
both true true e = (refl, refl)
both true false e = cc
both false b e = cc

pub same_symbol-refl : (s : Symbol) → same_symbol s s ≡ true
same_symbol-refl (Plain xs) = (slice_eq-Decides unsigned_Decides xs xs _ refl).1 refl
same_symbol-refl (Quoted xs) = (slice_eq-Decides unsigned_Decides xs xs _ refl).1 refl
same_symbol-refl Tuple = refl

pub same_symbol-true : (s t : Symbol) → same_symbol s t ≡ true → s ≡ t
same_symbol-true (Plain xs) (Plain ys) e = ap Plain ((slice_eq-Decides unsigned_Decides xs ys _ refl).0 e)
same_symbol-true (Quoted xs) (Quoted ys) e = ap Quoted ((slice_eq-Decides unsigned_Decides xs ys _ refl).0 e)
same_symbol-true Tuple Tuple e = refl
same_symbol-true (Plain _) (Quoted _) e = cc
same_symbol-true (Plain _) Tuple e = cc
same_symbol-true (Quoted _) (Plain _) e = cc
same_symbol-true (Quoted _) Tuple e = cc
same_symbol-true Tuple (Plain _) e = cc
same_symbol-true Tuple (Quoted _) e = cc

pub same_head-refl : (h : Head) → same_head h h ≡ true
same_head-refl (heads.Int n) = (signed_Decides n n).1 refl
same_head-refl (heads.App s) = same_symbol-refl s
same_head-refl heads.List = refl

pub same_head-true : (h k : Head) → same_head h k ≡ true → h ≡ k
same_head-true (heads.Int m) (heads.Int n) e = ap heads.Int ((signed_Decides m n).0 e)
same_head-true (heads.App s) (heads.App t) e = ap heads.App (same_symbol-true s t e)
same_head-true heads.List heads.List e = refl
same_head-true (heads.Int _) (heads.App _) e = cc
same_head-true (heads.Int _) heads.List e = cc
same_head-true (heads.App _) (heads.Int _) e = cc
same_head-true (heads.App _) heads.List e = cc
same_head-true heads.List (heads.Int _) e = cc
same_head-true heads.List (heads.App _) e = cc

mutual
  pub same-refl : (t : Tree) → same t t ≡ true
  same-refl (node h ps xs) =
      let a : same_head h h ≡ true = same_head-refl h in
      let b : same_all ps ps ≡ true = same_all-refl ps in
      let c : same_all xs xs ≡ true = same_all-refl xs in
      rw (a, b, c) refl

  pub same_all-refl : (ts : Trees) → same_all ts ts ≡ true
  same_all-refl end = refl
  same_all-refl (more t ts) =
      let a : same t t ≡ true = same-refl t in
      let b : same_all ts ts ≡ true = same_all-refl ts in
      rw (a, b) refl

mutual
  pub same-true : (s t : Tree) → same s t ≡ true → s ≡ t
  same-true (node h ps xs) (node k qs ys) e =
      let first : ((same_head h k && same_all ps qs) ≡ true) × (same_all xs ys ≡ true) = both _ _ e in
      let second : (same_head h k ≡ true) × (same_all ps qs ≡ true) = both _ _ first.0 in
      let a : h ≡ k = same_head-true h k second.0 in
      let b : ps ≡ qs = same_all-true ps qs second.1 in
      let c : xs ≡ ys = same_all-true xs ys first.1 in
      cc

  pub same_all-true : (ss ts : Trees) → same_all ss ts ≡ true → ss ≡ ts
  same_all-true end end e = refl
  same_all-true end (more _ _) e = cc
  same_all-true (more _ _) end e = cc
  same_all-true (more s ss) (more t ts) e =
      let parts : (same s t ≡ true) × (same_all ss ts ≡ true) = both _ _ e in
      let a : s ≡ t = same-true s t parts.0 in
      let b : ss ≡ ts = same_all-true ss ts parts.1 in
      cc

-- the test decides whether two terms are equal
pub same-Decides : (s t : Tree) → Decides (same s t) (s ≡ t)
same-Decides s t = (same-true s t, λ e. let P : Tree → Type 0 = λ u. same s u ≡ true in subst P e (same-refl s))

pub same_equiv : IsEquivalence same
same_equiv = decided same same-Decides

pub same_partial_equiv : IsPartialEquivalence same
same_partial_equiv = partial_equiv_from_equiv same_equiv

pub same_symbol-Decides : (s t : Symbol) → Decides (same_symbol s t) (s ≡ t)
same_symbol-Decides s t = (
  same_symbol-true s t,
  λ e. let P : Symbol → Type 0 = λ u. same_symbol s u ≡ true in
      subst P e (same_symbol-refl s),
)

pub same_symbol_equiv : IsEquivalence same_symbol
same_symbol_equiv = decided same_symbol same_symbol-Decides

pub same_symbol_partial_equiv : IsPartialEquivalence same_symbol
same_symbol_partial_equiv = partial_equiv_from_equiv same_symbol_equiv

pub same_head-Decides : (h k : Head) → Decides (same_head h k) (h ≡ k)
same_head-Decides h k = (
  same_head-true h k,
  λ e. let P : Head → Type 0 = λ u. same_head h u ≡ true in
      subst P e (same_head-refl h),
)

pub same_head_equiv : IsEquivalence same_head
same_head_equiv = decided same_head same_head-Decides

pub same_head_partial_equiv : IsPartialEquivalence same_head
same_head_partial_equiv = partial_equiv_from_equiv same_head_equiv
