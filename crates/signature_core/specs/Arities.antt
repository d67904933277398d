-- The headline does not rest on this file.
-- The numbers of arguments of names, as the tables keep them.
use Rattle.std.specs.Prelude.{◌≡◌, ℕ, Bool, nat_eq, List, [], ◌∷◌, ◌++◌, Option, None, Some, Vec, if◌then◌else◌}
use Rattle.std.specs.declared.alloc.Global.{Global}
use Rattle.std.specs.Cmp.Lexicographic.{pointwise}
use Rattle.std.specs.List.{list_any}
use Rattle.std.specs.Option.{unwrap_or}
use Rattle.indexmap.specs.IndexMap.{IndexMap, get_by}
use Rattle.str_syntax.specs.SameName.{same_name}
use Rattle.str_syntax.specs.Trees.{Bytes}
use Rattle.signature_core.specs.Signature.{Declared, arity_known}
use Rattle.signature_core.specs.Lookup.{first_arity}

-- the number is among these
abbrev pub has_number : List ℕ → ℕ → Bool
has_number ns n = list_any (nat_eq n) ns

-- these numbers, and the number at the end where it is none of them
abbrev pub with_number : List ℕ → ℕ → List ℕ
with_number ns n = if has_number ns n then ns else ns ++ n ∷ []

-- the first of these numbers
abbrev pub first_number : List ℕ → Option ℕ
first_number [] = None
first_number (n ∷ ns) = Some n

-- the numbers that a table has for a name
abbrev pub numbers_of : {S : Type 0} → IndexMap (Vec ℕ Global) (List ℕ) S → Bytes → List ℕ
numbers_of table f = unwrap_or (get_by (λ key. pointwise nat_eq f key.items) table) []

-- the numbers that a table has are those of the declarations, the first of them first
pub record AreNumbersOf {S : Type 0} (ds : List Declared) (table : IndexMap (Vec ℕ Global) (List ℕ) S) : Type 0 where
  pub known : (f : Bytes) (n : ℕ) → has_number (numbers_of table f) n ≡ arity_known ds f n
  pub first : (f : Bytes) → first_number (numbers_of table f) ≡ first_arity ds f

-- the number is added to those of the name, and other names keep theirs
abbrev pub IsNoted : {S : Type 0} → IndexMap (Vec ℕ Global) (List ℕ) S → Bytes → ℕ →
    IndexMap (Vec ℕ Global) (List ℕ) S → Type 0
IsNoted old name n new = (f : Bytes) →
    numbers_of new f ≡ (if same_name f name then with_number (numbers_of old f) n else numbers_of old f)
