-- Numbers by which roots of terms are found.
use Rattle.std.proofs.Common.{◌≡◌, ℕ, ℤ, Bool, true, false, Option, Some, ◌<◌, List, zero, suc, ◌∷◌, [], length, get_or, sym, ◌∙◌, ap, subst, arith}
use Rattle.std.specs.Prelude.{IsTrue, unsigned_abs, slice_get, unwrap_or}
use Rattle.std.proofs.lemmas.Bool.{and_parts}
use Rattle.term_model.specs.declared.term.Head.TheVariants as heads
use Rattle.term_model.specs.Symbol.{Symbol}
use Rattle.term_model.specs.Same.{same_head, same_head-Decides}
use Rattle.term_model.specs.Space.{IsList}
use Rattle.term_model.specs.Term.{Tree, node}
use Rattle.term_model.specs.TermParts.{head_of}
use Rattle.core_lang.specs.Roots.{has_root, are_many, integer_root, list_root}
use Rattle.strat_machine.specs.Indexing.{number_in}
use Rattle.strat_machine.specs.Tables.{root_meant, RootKnown, CasesKnown}
use Rattle.strat_machine.specs.declared.tables.LoadedRoot.{LoadedRoot}
use Rattle.strat_machine.specs.declared.tables.LoadedRoot.TheVariants as roots
use Rattle.strat_machine.specs.declared.tables.LoadedCase.{LoadedCase}
use Rattle.strat_machine.proofs.SelectingLaws.{integer_is, symbol_is, list_is}

integer_head : (t : Tree) (z : ℤ) → has_root (integer_root z) t ≡ true → head_of t ≡ heads.Int z
integer_head t z has = (same_head-Decides (head_of t) (heads.Int z)).0 (sym (integer_is t z) ∙ has)

list_head : (t : Tree) (n : ℕ) (o : Bool) → has_root (list_root n o) t ≡ true → head_of t ≡ heads.List
list_head (node h ts annos) n o has =
    (same_head-Decides h heads.List).0 (and_parts (same_head h heads.List) (are_many n o ts) has).0

module _ {N : Type 0} (knows : N → Bool) (symbol_of : N → Symbol) (number_of : N → ℕ) (t : Tree) where
  pub number_of_integer : (z : ℤ) → head_of t ≡ heads.Int z → (r : LoadedRoot N) (n : ℕ) → RootKnown knows r →
      number_in number_of r ≡ Some n → has_root (root_meant symbol_of r) t ≡ true → n ≡ unsigned_abs z
  number_of_integer z head roots.Any n known is has = absurd (cc)
  number_of_integer z head (roots.Integer y) n known is has = let a = integer_head t y has in let same : y ≡ z = cc in
      let b : n ≡ unsigned_abs y = cc in b ∙ ap unsigned_abs same
  number_of_integer z head (roots.Symbol f k) n known is has = let a = ((symbol_is t (symbol_of f) k).0 has).head in
      absurd (cc)
  number_of_integer z head (roots.List k true) n known is has = absurd (cc)
  number_of_integer z head (roots.List k false) n known is has = let a = list_head t k false has in absurd (cc)

  pub number_of_list : (m : ℕ) → IsList t m → (r : LoadedRoot N) (n : ℕ) → RootKnown knows r →
      number_in number_of r ≡ Some n → has_root (root_meant symbol_of r) t ≡ true → n ≡ m
  number_of_list m list roots.Any n known is has = absurd (cc)
  number_of_list m list (roots.Integer y) n known is has = let a = integer_head t y has in let b = list.head in
      absurd (cc)
  number_of_list m list (roots.Symbol f k) n known is has = let a = ((symbol_is t (symbol_of f) k).0 has).head in
      let b = list.head in absurd (cc)
  number_of_list m list (roots.List k true) n known is has = absurd (cc)
  number_of_list m list (roots.List k false) n known is has = let a = (list_is t k m list).0 has in let b : n ≡ k =
      cc in b ∙ a

  pub number_of_app : (o : Option ℕ) → ((z : ℤ) → head_of t ≡ heads.Int z → ⊥) → (head_of t ≡ heads.List → ⊥) →
      ((f : N) → IsTrue (knows f) → head_of t ≡ heads.App (symbol_of f) → o ≡ Some (number_of f)) →
      (r : LoadedRoot N) (n : ℕ) → RootKnown knows r →
      number_in number_of r ≡ Some n → has_root (root_meant symbol_of r) t ≡ true → n ≡ unwrap_or o 0
  number_of_app o no_integer no_list law roots.Any n known is has = absurd (cc)
  number_of_app o no_integer no_list law (roots.Integer y) n known is has = absurd (no_integer y (integer_head t y has))
  number_of_app o no_integer no_list law (roots.Symbol f k) n known is has =
      let a = law f known ((symbol_is t (symbol_of f) k).0 has).head in let b : n ≡ number_of f = cc in
      b ∙ ap (λ x. unwrap_or x 0) (sym a)
  number_of_app o no_integer no_list law (roots.List k true) n known is has = absurd (cc)
  number_of_app o no_integer no_list law (roots.List k false) n known is has =
      absurd (no_list (list_head t k false has))

-- the name of each case is known
pub known_at : {N : Type 0} (knows : N → Bool) (cs : List (LoadedCase N)) (j : ℕ) (c : LoadedCase N) →
    CasesKnown knows cs → slice_get cs j ≡ Some c → RootKnown knows c.root
known_at knows [] j c h is = absurd (cc)
known_at knows (d ∷ cs) zero c h is = let same : d ≡ c = cc in subst (λ x. RootKnown knows x.root) same h.0
known_at knows (d ∷ cs) (suc j) c h is = known_at knows cs j c h.1 is

pub known_read : {N : Type 0} (knows : N → Bool) (cs : List (LoadedCase N)) (i : ℕ) (d : LoadedCase N) →
    CasesKnown knows cs → i < length cs → RootKnown knows (get_or cs i d).root
known_read knows [] i d h below = absurd (omega arith)
known_read knows (c ∷ cs) zero d h below = h.0
known_read knows (c ∷ cs) (suc i) d h below = known_read knows cs i d h.1 (omega arith)
