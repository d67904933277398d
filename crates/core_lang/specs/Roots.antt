-- The headline does not rest on this file.
-- The roots of patterns: what a pattern asks of a term's root, and which strategies begin with such a pattern.
use Rattle.std.specs.Prelude.{ℕ, zero, suc, ℤ, Bool, true, false, ◌&&◌}
use Rattle.term_model.specs.declared.term.Head.TheVariants as heads
use Rattle.term_model.specs.Symbol.{Symbol}
use Rattle.term_model.specs.Term.{Tree, node, Trees, end, more}
use Rattle.term_model.specs.Same.{same_head}
use Rattle.core_lang.specs.Program.{Pattern, anything, variable, alias, integer, applied, list, like, annotated, Patterns, no_patterns, more_patterns, Elements, no_elements, the_rest, more_elements, Strategy, match, seq, scope}

-- what is asked of a root: nothing, an integer, a symbol with n parts, a list of n elements or, where it is
-- open, of at least n
pub data Root : Type 0 where
  any_root : Root
  integer_root : ℤ → Root
  symbol_root : Symbol → (parts : ℕ) → Root
  list_root : (elements : ℕ) → (open_list : Bool) → Root

-- there are n terms or, where it is open, at least n
abbrev pub are_many : ℕ → (open_list : Bool) → Trees → Bool
are_many zero false end = true
are_many zero false (more t ts) = false
are_many zero true ts = true
are_many (suc n) o end = false
are_many (suc n) o (more t ts) = are_many n o ts

-- the term has a root as it is asked for
abbrev pub has_root : Root → Tree → Bool
has_root any_root t = true
has_root (integer_root z) (node h ts annos) = same_head h (heads.Int z)
has_root (symbol_root f n) (node h ts annos) = same_head h (heads.App f) && are_many n false ts
has_root (list_root n o) (node h ts annos) = same_head h heads.List && are_many n o ts

module _ {X : Type 0} where
  abbrev pub count_of_patterns : Patterns X → ℕ
  count_of_patterns no_patterns = zero
  count_of_patterns (more_patterns p ps) = suc (count_of_patterns ps)

  abbrev pub count_of_elements : Elements X → ℕ
  count_of_elements no_elements = zero
  count_of_elements (the_rest p) = zero
  count_of_elements (more_elements p ps) = suc (count_of_elements ps)

  -- the last element is a pattern of the rest
  abbrev pub is_open : Elements X → Bool
  is_open no_elements = false
  is_open (the_rest p) = true
  is_open (more_elements p ps) = is_open ps

  -- what the pattern asks of a term's root
  abbrev pub root_of : Pattern X → Root
  root_of anything = any_root
  root_of (variable x) = any_root
  root_of (alias x p) = root_of p
  root_of (integer z) = integer_root z
  root_of (applied f ps) = symbol_root f (count_of_patterns ps)
  root_of (list ps) = list_root (count_of_elements ps) (is_open ps)
  root_of (like p x) = any_root
  root_of (annotated p qs) = root_of p

-- the strategy begins with a match whose pattern asks for this root, alone, in scopes, and in sequences however they
-- are nested; where a term has another root, its derivation has n nodes
pub data Begins {X B : Type 0} : Strategy X B → Root → (nodes : ℕ) → Type 0 where
  begins_match : {p : Pattern X} → Begins (match p) (root_of p) 1
  begins_seq : {s1 s2 : Strategy X B} {r : Root} {n : ℕ} → Begins s1 r n → Begins (seq s1 s2) r (suc n)
  begins_scope : {xs : B} {s : Strategy X B} {r : Root} {n : ℕ} → Begins s r n → Begins (scope xs s) r (suc n)
