-- The first heads of definitions: which they are, and that they are apart.
use Rattle.std.proofs.Common.{◌≡◌, ◌∙◌, ℕ, zero, suc, Bool, true, false, ◌||◌, not, List, [], ◌∷◌, ◌++◌, map, filter, sym, refl, ap, subst, cond, Option, Some, None, true≢false, arith, length, get_or, ◌<◌}
use Rattle.std.specs.Prelude.{if◌then◌else◌}
use Rattle.std.specs.Cmp.{IsEquivalence, on_equiv}
use Rattle.std.specs.List.{find, list_any, position_or_len}
use Rattle.std.proofs.lemmas.List.Elements.{filter-append}
use Rattle.indexmap.specs.IndexSet.{insert_key}
use Rattle.str_syntax.specs.SameKey.{same_key_equiv}
use Rattle.str_desugar.specs.Alternatives.{Alternative, of_one_definition, firsts}
use Rattle.str_desugar.specs.Groups.{Head, head_in, head_key, same_definition, first_heads, first_for}

laws : IsEquivalence same_definition
laws = on_equiv head_key same_key_equiv

-- those of another definition
abbrev pub others_than : Head → List Head → List Head
others_than h ks = filter (λ k. not (same_definition h k)) ks

pub turned : (h k : Head) (b : Bool) → same_definition h k ≡ b → same_definition k h ≡ b
turned h k b e = laws.symm k h ∙ e

-- heads of one definition are distinguished from no other
pub alike : (h k l : Head) → same_definition h k ≡ true → same_definition h l ≡ same_definition k l
alike h k l e = laws.congr h k l e

-- ---- the table of first heads

-- one that is not of the definition left out is found as before
any_of_others : (h k : Head) (ks : List Head) → same_definition h k ≡ false →
    list_any (same_definition h) (others_than k ks) ≡ list_any (same_definition h) ks
any_of_others h k [] e = refl
any_of_others h k (x ∷ ks) e = by (any_of_others h k ks e) (same_definition k x) refl
  where
    by : list_any (same_definition h) (others_than k ks) ≡ list_any (same_definition h) ks → (b : Bool) →
        same_definition k x ≡ b →
        list_any (same_definition h) (others_than k (x ∷ ks)) ≡ list_any (same_definition h) (x ∷ ks)
    by rest false f =
        ap (λ c. list_any (same_definition h) (if not c then x ∷ others_than k ks else others_than k ks)) f ∙
        ap (λ c. same_definition h x || c) rest
    by rest true f =
        let apart : same_definition h x ≡ false = laws.symm h x ∙ sym (alike k x h f) ∙ turned h k false e in
        ap (λ c. list_any (same_definition h) (if not c then x ∷ others_than k ks else others_than k ks)) f ∙ rest ∙
        ap (λ c. c || list_any (same_definition h) ks) (sym apart)

append_none : (ks : List Head) → ks ++ [] ≡ ks
append_none [] = refl
append_none (k ∷ ks) = ap (λ l. k ∷ l) (append_none ks)

-- noting one more head after these
pub first_heads_more : (hs : List Head) (h : Head) →
    first_heads (hs ++ h ∷ []) ≡ insert_key same_definition (first_heads hs) h
first_heads_more [] h = refl
first_heads_more (k ∷ hs) h = ap (λ ks. k ∷ others_than k ks) (first_heads_more hs h) ∙
    by (list_any (same_definition h) X) (same_definition h k) refl refl
  where
    X : List Head
    X = first_heads hs

    by : (b c : Bool) → list_any (same_definition h) X ≡ b → same_definition h k ≡ c →
        k ∷ others_than k (insert_key same_definition X h) ≡ insert_key same_definition (k ∷ others_than k X) h
    by true true e f =
        ap (λ b. k ∷ others_than k (if b then X else X ++ h ∷ [])) e ∙
        sym (ap (λ b. if b || list_any (same_definition h) (others_than k X) then k ∷ others_than k X
        else (k ∷ others_than k X) ++ h ∷ []) f)
    by true false e f =
        ap (λ b. k ∷ others_than k (if b then X else X ++ h ∷ [])) e ∙
        sym (ap (λ b. if b || list_any (same_definition h) (others_than k X) then k ∷ others_than k X
        else (k ∷ others_than k X) ++ h ∷ []) f ∙
        ap (λ b. if b then k ∷ others_than k X else (k ∷ others_than k X) ++ h ∷ []) (any_of_others h k X f ∙ e))
    by false true e f =
        ap (λ b. k ∷ others_than k (if b then X else X ++ h ∷ [])) e ∙
        ap (λ l. k ∷ l)
        (filter-append (λ l. not (same_definition k l)) X (h ∷ []) ∙
        ap (λ b. others_than k X ++ (if not b then h ∷ [] else [])) (turned h k true f) ∙
        append_none (others_than k X)) ∙
        sym (ap (λ b. if b || list_any (same_definition h) (others_than k X) then k ∷ others_than k X
        else (k ∷ others_than k X) ++ h ∷ []) f)
    by false false e f =
        ap (λ b. k ∷ others_than k (if b then X else X ++ h ∷ [])) e ∙
        ap (λ l. k ∷ l)
        (filter-append (λ l. not (same_definition k l)) X (h ∷ []) ∙
        ap (λ b. others_than k X ++ (if not b then h ∷ [] else [])) (turned h k false f)) ∙
        sym (ap (λ b. if b || list_any (same_definition h) (others_than k X) then k ∷ others_than k X
        else (k ∷ others_than k X) ++ h ∷ []) f ∙
        ap (λ b. if b then k ∷ others_than k X else (k ∷ others_than k X) ++ h ∷ []) (any_of_others h k X f ∙ e))

-- each head is of the definition of a first one
pub found_first : (hs : List Head) (i : ℕ) (h : Head) → i < length hs → h ≡ get_or hs i h →
    list_any (same_definition h) (first_heads hs) ≡ true
found_first [] i h in_range is = absurd (omega (arith, in_range))
found_first (k ∷ hs) zero h in_range is =
    ap (λ c. c || list_any (same_definition h) (others_than k (first_heads hs)))
    (ap (λ l. same_definition h l) (sym is) ∙ laws.refl h)
found_first (k ∷ hs) (suc i) h in_range is =
    by (found_first hs i h (omega (arith, in_range)) is) (same_definition h k) refl
  where
    by : list_any (same_definition h) (first_heads hs) ≡ true → (b : Bool) → same_definition h k ≡ b →
        list_any (same_definition h) (first_heads (k ∷ hs)) ≡ true
    by rest true f = ap (λ c. c || list_any (same_definition h) (others_than k (first_heads hs))) f
    by rest false f =
        ap (λ c. c || list_any (same_definition h) (others_than k (first_heads hs))) f ∙
        any_of_others h k (first_heads hs) f ∙ rest

pub position_within : (test : Head → Bool) (ks : List Head) → list_any test ks ≡ true →
    position_or_len test ks < length ks
position_within test [] e = absurd (true≢false (sym e))
position_within test (k ∷ ks) e = by (position_within test ks) (test k) refl
  where
    by : (list_any test ks ≡ true → position_or_len test ks < length ks) → (b : Bool) → test k ≡ b →
        position_or_len test (k ∷ ks) < length (k ∷ ks)
    by rest true f = rw f (omega arith)
    by rest false f =
        let later : position_or_len test ks < length ks = rest (sym (ap (λ b. b || list_any test ks) f) ∙ e) in
        rw f (omega (arith, later))

-- ---- first heads are of definitions apart

abbrev pub AreApart : List Head → Type 0
AreApart [] = Unit {0}
AreApart (d ∷ ds) = (list_any (same_definition d) ds ≡ false) × AreApart ds

none_among_others : (d k : Head) (ks : List Head) → list_any (same_definition d) ks ≡ false →
    list_any (same_definition d) (others_than k ks) ≡ false
none_among_others d k [] e = refl
none_among_others d k (x ∷ ks) e = by (none_among_others d k ks) (same_definition d x) (same_definition k x) refl refl
  where
    by : (list_any (same_definition d) ks ≡ false → list_any (same_definition d) (others_than k ks) ≡ false) →
        (b c : Bool) → same_definition d x ≡ b → same_definition k x ≡ c →
        list_any (same_definition d) (others_than k (x ∷ ks)) ≡ false
    by rest true c f g = absurd (true≢false (sym (ap (λ b. b || list_any (same_definition d) ks) f) ∙ e))
    by rest false true f g =
        ap (λ c. list_any (same_definition d) (if not c then x ∷ others_than k ks else others_than k ks)) g ∙
        rest (sym (ap (λ b. b || list_any (same_definition d) ks) f) ∙ e)
    by rest false false f g =
        ap (λ c. list_any (same_definition d) (if not c then x ∷ others_than k ks else others_than k ks)) g ∙
        ap (λ b. b || list_any (same_definition d) (others_than k ks)) f ∙
        rest (sym (ap (λ b. b || list_any (same_definition d) ks) f) ∙ e)

others_apart : (k : Head) (ks : List Head) → AreApart ks → AreApart (others_than k ks)
others_apart k [] e = tt
others_apart k (x ∷ ks) e = by (others_apart k ks e.1) (same_definition k x) refl
  where
    by : AreApart (others_than k ks) → (b : Bool) → same_definition k x ≡ b → AreApart (others_than k (x ∷ ks))
    by rest true f = subst AreApart (sym (ap (λ c. if not c then x ∷ others_than k ks else others_than k ks) f)) rest
    by rest false f =
        subst AreApart (sym (ap (λ c. if not c then x ∷ others_than k ks else others_than k ks) f))
        (none_among_others x k ks e.0, rest)

none_of_itself : (h : Head) (ks : List Head) → list_any (same_definition h) (others_than h ks) ≡ false
none_of_itself h [] = refl
none_of_itself h (x ∷ ks) = by (none_of_itself h ks) (same_definition h x) refl
  where
    by : list_any (same_definition h) (others_than h ks) ≡ false → (b : Bool) → same_definition h x ≡ b →
        list_any (same_definition h) (others_than h (x ∷ ks)) ≡ false
    by rest true f = ap (λ c. list_any (same_definition h) (if not c then x ∷ others_than h ks else others_than h ks))
        f ∙ rest
    by rest false f =
        ap (λ c. list_any (same_definition h) (if not c then x ∷ others_than h ks else others_than h ks)) f ∙
        ap (λ b. b || list_any (same_definition h) (others_than h ks)) f ∙ rest

pub first_heads_apart : (hs : List Head) → AreApart (first_heads hs)
first_heads_apart [] = tt
first_heads_apart (h ∷ hs) = (none_of_itself h (first_heads hs), others_apart h (first_heads hs) (first_heads_apart hs))

-- ---- the first of a definition is that of each of its alternatives

abbrev pub IsFirst : List Head → Head → Type 0
IsFirst hs d = (k : Head) → same_definition d k ≡ true → first_for hs k ≡ d

abbrev pub AreFirst : List Head → List Head → Type 0
AreFirst hs [] = Unit {0}
AreFirst hs (d ∷ ds) = IsFirst hs d × AreFirst hs ds

first_of_others : (h : Head) (hs ds : List Head) → AreFirst hs ds → AreFirst (h ∷ hs) (others_than h ds)
first_of_others h hs [] e = tt
first_of_others h hs (d ∷ ds) e = by (first_of_others h hs ds e.1) (same_definition h d) refl
  where
    by : AreFirst (h ∷ hs) (others_than h ds) → (b : Bool) → same_definition h d ≡ b →
        AreFirst (h ∷ hs) (others_than h (d ∷ ds))
    by rest true f = subst (AreFirst (h ∷ hs))
        (sym (ap (λ c. if not c then d ∷ others_than h ds else others_than h ds) f)) rest
    by rest false f =
        let passed : (k : Head) → same_definition d k ≡ true → first_for (h ∷ hs) k ≡ d =
        λ k g. ap (λ c. if c then h else first_for hs k) (sym (alike d k h g) ∙ turned h d false f) ∙ e.0 k g in
        subst (AreFirst (h ∷ hs)) (sym (ap (λ c. if not c then d ∷ others_than h ds else others_than h ds) f))
        (passed, rest)

pub first_heads_first : (hs : List Head) → AreFirst hs (first_heads hs)
first_heads_first [] = tt
first_heads_first (h ∷ hs) = (
  λ k g. ap (λ c. if c then h else first_for hs k) (turned h k true g),
  first_of_others h hs (first_heads hs) (first_heads_first hs),
)

-- ---- the first of a definition, as the table finds it

first_among_others : (h k : Head) (ks : List Head) → same_definition h k ≡ false →
    first_for (others_than k ks) h ≡ first_for ks h
first_among_others h k [] e = refl
first_among_others h k (x ∷ ks) e = by (first_among_others h k ks e) (same_definition k x) refl
  where
    by : first_for (others_than k ks) h ≡ first_for ks h → (b : Bool) → same_definition k x ≡ b →
        first_for (others_than k (x ∷ ks)) h ≡ first_for (x ∷ ks) h
    by rest true f =
        let apart : same_definition h x ≡ false = laws.symm h x ∙ sym (alike k x h f) ∙ turned h k false e in
        ap (λ c. first_for (if not c then x ∷ others_than k ks else others_than k ks) h) f ∙ rest ∙
        sym (ap (λ c. if c then x else first_for ks h) apart)
    by rest false f =
        ap (λ c. first_for (if not c then x ∷ others_than k ks else others_than k ks) h) f ∙
        ap (λ r. if same_definition h x then x else r) rest

first_among_firsts : (hs : List Head) (h : Head) → first_for (first_heads hs) h ≡ first_for hs h
first_among_firsts [] h = refl
first_among_firsts (k ∷ hs) h = by (first_among_firsts hs h) (same_definition h k) refl
  where
    by : first_for (first_heads hs) h ≡ first_for hs h → (b : Bool) → same_definition h k ≡ b →
        first_for (first_heads (k ∷ hs)) h ≡ first_for (k ∷ hs) h
    by rest true f =
        ap (λ c. if c then k else first_for (others_than k (first_heads hs)) h) f ∙
        sym (ap (λ c. if c then k else first_for hs h) f)
    by rest false f =
        ap (λ c. if c then k else first_for (others_than k (first_heads hs)) h) f ∙
        first_among_others h k (first_heads hs) f ∙ rest ∙
        sym (ap (λ c. if c then k else first_for hs h) f)

abbrev pub or_itself : Head → Option Head → Head
or_itself h (Some k) = k
or_itself h None = h

first_found : (ks : List Head) (h : Head) → or_itself h (find (same_definition h) ks) ≡ first_for ks h
first_found [] h = refl
first_found (k ∷ ks) h = by (first_found ks h) (same_definition h k) refl
  where
    by : or_itself h (find (same_definition h) ks) ≡ first_for ks h → (b : Bool) → same_definition h k ≡ b →
        or_itself h (find (same_definition h) (k ∷ ks)) ≡ first_for (k ∷ ks) h
    by rest true f = ap (λ c. or_itself h (cond c (Some k) (find (same_definition h) ks))) f ∙
        sym (ap (λ c. if c then k else first_for ks h) f)
    by rest false f = ap (λ c. or_itself h (cond c (Some k) (find (same_definition h) ks))) f ∙ rest ∙
        sym (ap (λ c. if c then k else first_for ks h) f)

pub first_in_table : (hs : List Head) (h : Head) →
    or_itself h (find (same_definition h) (first_heads hs)) ≡ first_for hs h
first_in_table hs h = first_found (first_heads hs) h ∙ first_among_firsts hs h

-- ---- and of alternatives

filter_heads : (a : Alternative) (all : List Alternative) →
    others_than (head_in a) (map head_in all) ≡ map head_in (filter (λ b. not (of_one_definition a b)) all)
filter_heads a [] = refl
filter_heads a (b ∷ all) = by (filter_heads a all) (of_one_definition a b) refl
  where
    by : others_than (head_in a) (map head_in all) ≡ map head_in (filter (λ d. not (of_one_definition a d)) all) →
        (c : Bool) → of_one_definition a b ≡ c → others_than (head_in a) (map head_in (b ∷ all)) ≡
        map head_in (filter (λ d. not (of_one_definition a d)) (b ∷ all))
    by rest true e =
        ap (λ c. if not c then head_in b ∷ others_than (head_in a) (map head_in all)
        else others_than (head_in a) (map head_in all)) e ∙ rest ∙
        sym (ap (λ c. map head_in (if not c then b ∷ filter (λ d. not (of_one_definition a d)) all
        else filter (λ d. not (of_one_definition a d)) all)) e)
    by rest false e =
        ap (λ c. if not c then head_in b ∷ others_than (head_in a) (map head_in all)
        else others_than (head_in a) (map head_in all)) e ∙
        ap (λ l. head_in b ∷ l) rest ∙
        sym (ap (λ c. map head_in (if not c then b ∷ filter (λ d. not (of_one_definition a d)) all
        else filter (λ d. not (of_one_definition a d)) all)) e)

pub first_heads_of : (all : List Alternative) → first_heads (map head_in all) ≡ map head_in (firsts all)
first_heads_of [] = refl
first_heads_of (a ∷ all) = ap (λ l. head_in a ∷ l) (ap (others_than (head_in a)) (first_heads_of all) ∙
    filter_heads a (firsts all))
