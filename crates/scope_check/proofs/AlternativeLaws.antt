-- Heads that are put into groups one after another: one of them may not stand in its group exactly where parameters
-- differ or a key has too many heads.
use Rattle.std.proofs.Common.{◌≡◌, ◌∙◌, ◌⊎◌, inl, inr, ℕ, ◌+◌, ◌<◌, ◌≤◌, Bool, true, false, cond, not, ◌||◌, ◌&&◌, List, [], ◌∷◌, ◌++◌, Option, None, Some, is_some, take, drop, length, get_or, sym, refl, ap, arith}
use Rattle.std.proofs.lemmas.Bool.Decides.{nat_tests, Decides-and}
use Rattle.std.proofs.lemmas.List.{append_assoc, append-nil, drop_all, drop_more, map_more}
use Rattle.std.proofs.lemmas.List.Folds.{list_any-append}
use Rattle.std.proofs.lemmas.List.Sums.{sum_by-append, sum_by-cons}
use Rattle.std.proofs.lemmas.Slice.Eq.{slice_eq-Decides}
use Rattle.std.proofs.Math.Bool.{or-false, or_assoc}
use Rattle.std.specs.Bool.{Decides}
use Rattle.std.specs.Borrow.{Bor}
use Rattle.std.specs.List.{list_any}
use Rattle.std.specs.Option.{option_map, option_or as first_or}
use Rattle.std.specs.Prelude.{nat_lt}
use Rattle.indexmap.specs.IndexMap.{IndexMap, get}
use Rattle.str_syntax.specs.NameEquality.{same_name-Decides}
use Rattle.str_syntax.specs.Trees.{Bytes, HeadTree, head}
use Rattle.str_syntax.specs.Views.{head_of}
use Rattle.str_syntax.specs.declared.strategy.DefinitionHead.{DefinitionHead}
use Rattle.scope_check.specs.Complaint.{alternatives, bad_parameters, differs, same_names, same_parameters, some_differ, too_many}
use Rattle.scope_check.specs.Found.{Found, found_if, joined}
use Rattle.scope_check.specs.Groups.{Group, with_head}
use Rattle.str_syntax.specs.SameKey.{same_key-Decides, same_key-refl, same_key-true}
use Rattle.scope_check.specs.Seen.{Key, key_of, same_key, strategy_names, term_names}
use Rattle.scope_check.specs.Tables.{heads_of}
use Rattle.scope_check.proofs.FoundLaws.{joined-assoc, nothing_more}
use Rattle.scope_check.proofs.NameLaws.{test-sym, swapped}

abbrev pub is_bad_group : List HeadTree → Bool
is_bad_group hs = some_differ hs || too_many hs

-- the first head of a key
abbrev first_head : List HeadTree → Key → Option HeadTree
first_head [] k = None
first_head (h ∷ hs) k = cond (same_key k (key_of h)) (Some h) (first_head hs k)

-- the group of a key
abbrev group_in : List HeadTree → Key → Option Group
group_in hs k = option_map (λ h. record { first = h; number = alternatives hs k }) (first_head hs k)

-- the head may not stand in its group
abbrev is_refused : List HeadTree → HeadTree → Bool
is_refused hs h = not (is_some (with_head h (group_in hs (key_of h))))

-- one of the heads may not stand in its group, after others
abbrev some_refused : List HeadTree → List HeadTree → Bool
some_refused before [] = false
some_refused before (h ∷ hs) = is_refused before h || some_refused (before ++ h ∷ []) hs

-- the names of the parameters
abbrev strategies : HeadTree → List Bytes
strategies (head f ps) = strategy_names ps

abbrev terms : HeadTree → List Bytes
terms (head f ps) = term_names ps

same_names-Decides : (xs ys : List Bytes) → Decides (same_names xs ys) (xs ≡ ys)
same_names-Decides xs ys = slice_eq-Decides same_name-Decides xs ys _ refl

same_parameters-is : (h g : HeadTree) →
    same_parameters h g ≡ (same_names (strategies h) (strategies g) && same_names (terms h) (terms g))
same_parameters-is (head f ps) (head g qs) = refl

same_parameters-Decides : (h g : HeadTree) →
    Decides (same_parameters h g) ((strategies h ≡ strategies g) × (terms h ≡ terms g))
same_parameters-Decides (head f ps) (head g qs) =
    Decides-and _ _ (same_names-Decides (strategy_names ps) (strategy_names qs))
    (same_names-Decides (term_names ps) (term_names qs))

same_parameters-sym : (h g : HeadTree) → same_parameters h g ≡ same_parameters g h
same_parameters-sym h g =
    same_parameters-is h g ∙
    (λ i. test-sym same_names same_names-Decides (strategies h) (strategies g) i &&
    test-sym same_names same_names-Decides (terms h) (terms g) i) ∙
    sym (same_parameters-is g h)

differs-sym : (h g : HeadTree) → differs h g ≡ differs g h
differs-sym h g = λ i. test-sym same_key same_key-Decides (key_of h) (key_of g) i && not (same_parameters-sym h g i)

differs-self : (h : HeadTree) → differs h h ≡ false
differs-self h =
    let same : same_parameters h h ≡ true = (same_parameters-Decides h h).1 (refl, refl) in
    rw (same_key-refl (key_of h), same) refl

-- heads of one key and the same parameters differ from the same heads
alike : (g h x : HeadTree) → same_key (key_of g) (key_of h) ≡ true → same_parameters g h ≡ true →
    differs h x ≡ differs g x
alike g h x keys parameters =
    let key : key_of g ≡ key_of h = same_key-true (key_of g) (key_of h) keys in
    let names = (same_parameters-Decides g h).0 parameters in
    (λ i. same_key (key_of h) (key_of x) && not (same_parameters-is h x i)) ∙
    (λ i. same_key (sym key i) (key_of x) &&
    not (same_names (sym names.0 i) (strategies x) && same_names (sym names.1 i) (terms x))) ∙
    (λ i. same_key (key_of g) (key_of x) && not (sym (same_parameters-is g x) i))

-- what the first head of a key is, and where there is none
first-same : (hs : List HeadTree) (k : Key) (g : HeadTree) → first_head hs k ≡ Some g → same_key k (key_of g) ≡ true
first-same [] k g is = absurd (cc)
first-same (h ∷ hs) k g is = by (same_key k (key_of h)) refl (first-same hs k g)
  where
    by : (b : Bool) → same_key k (key_of h) ≡ b → (first_head hs k ≡ Some g → same_key k (key_of g) ≡ true) →
        same_key k (key_of g) ≡ true
    by true e rest =
        let there : Some h ≡ Some g = sym (ap (λ b. cond b (Some h) (first_head hs k)) e) ∙ is in
        let equal : h ≡ g = cc in
        ap (λ x. same_key k (key_of x)) (sym equal) ∙ e
    by false e rest = rest (sym (ap (λ b. cond b (Some h) (first_head hs k)) e) ∙ is)

first-among : (p : HeadTree → Bool) (hs : List HeadTree) (k : Key) (g : HeadTree) → first_head hs k ≡ Some g →
    p g ≡ true → list_any p hs ≡ true
first-among p [] k g is holds = absurd (cc)
first-among p (h ∷ hs) k g is holds = by (same_key k (key_of h)) refl (λ there. first-among p hs k g there holds)
  where
    or-true : (b c : Bool) → c ≡ true → (b || c) ≡ true
    or-true true c e = refl
    or-true false c e = e

    by : (b : Bool) → same_key k (key_of h) ≡ b → (first_head hs k ≡ Some g → list_any p hs ≡ true) →
        (p h || list_any p hs) ≡ true
    by true e rest =
        let there : Some h ≡ Some g = sym (ap (λ b. cond b (Some h) (first_head hs k)) e) ∙ is in
        let equal : h ≡ g = cc in
        ap (λ x. p x || list_any p hs) equal ∙ ap (λ b. b || list_any p hs) holds
    by false e rest = or-true (p h) (list_any p hs) (rest (sym (ap (λ b. cond b (Some h) (first_head hs k)) e) ∙ is))

first-not : (p : HeadTree → Bool) (hs : List HeadTree) (k : Key) (g : HeadTree) → first_head hs k ≡ Some g →
    list_any p hs ≡ false → p g ≡ false
first-not p hs k g is none = by (p g) refl
  where
    by : (b : Bool) → p g ≡ b → b ≡ false
    by true e = sym (first-among p hs k g is e) ∙ none
    by false e = refl

none-differs : (h : HeadTree) (hs : List HeadTree) → first_head hs (key_of h) ≡ None → list_any (differs h) hs ≡ false
none-differs h [] none = refl
none-differs h (x ∷ hs) none = by (same_key (key_of h) (key_of x)) refl (none-differs h hs)
  where
    by : (b : Bool) → same_key (key_of h) (key_of x) ≡ b →
        (first_head hs (key_of h) ≡ None → list_any (differs h) hs ≡ false) →
        (differs h x || list_any (differs h) hs) ≡ false
    by true e rest =
        let there : Some x ≡ None = sym (ap (λ b. cond b (Some x) (first_head hs (key_of h))) e) ∙ none in
        absurd (cc)
    by false e rest = ap (λ b. (b && not (same_parameters h x)) || list_any (differs h) hs) e ∙
        rest (sym (ap (λ b. cond b (Some x) (first_head hs (key_of h))) e) ∙ none)

none-before : (n : ℕ) → 0 + n ≡ n
none-before n = omega arith

none-counted : (k : Key) (hs : List HeadTree) → first_head hs k ≡ None → alternatives hs k ≡ 0
none-counted k [] none = refl
none-counted k (x ∷ hs) none = by (same_key k (key_of x)) refl (none-counted k hs)
  where
    by : (b : Bool) → same_key k (key_of x) ≡ b → (first_head hs k ≡ None → alternatives hs k ≡ 0) →
        alternatives (x ∷ hs) k ≡ 0
    by true e rest =
        let there : Some x ≡ None = sym (ap (λ b. cond b (Some x) (first_head hs k)) e) ∙ none in
        absurd (cc)
    by false e rest =
        let more : alternatives hs k ≡ 0 = rest (sym (ap (λ b. cond b (Some x) (first_head hs k)) e) ∙ none) in
        sum_by-cons (λ y. cond (same_key k (key_of y)) 1 0) x hs ∙ ap (λ b. cond b 1 0 + alternatives hs k) e ∙
        none-before (alternatives hs k) ∙ more

-- the parameters are not those of the first head of the key
abbrev differs_from : Option HeadTree → HeadTree → Bool
differs_from None h = false
differs_from (Some g) h = not (same_parameters g h)

-- among heads of which no two differ, a head differs from some where it differs from the first of its key
differs-first : (hs : List HeadTree) (h : HeadTree) → some_differ hs ≡ false →
    list_any (differs h) hs ≡ differs_from (first_head hs (key_of h)) h
differs-first hs h none = by (first_head hs (key_of h)) refl
  where
    within : (g : HeadTree) (b : Bool) → first_head hs (key_of h) ≡ Some g → same_parameters g h ≡ b →
        list_any (differs h) hs ≡ not b
    within g true is same =
        let keys : same_key (key_of g) (key_of h) ≡ true =
        test-sym same_key same_key-Decides (key_of g) (key_of h) ∙ first-same hs (key_of h) g is in
        (λ i. list_any (λ x. alike g h x keys same i) hs) ∙
        first-not (λ x. list_any (differs x) hs) hs (key_of h) g is none
    within g false is same =
        let keys : same_key (key_of h) (key_of g) ≡ true = first-same hs (key_of h) g is in
        let other : same_parameters h g ≡ false = same_parameters-sym h g ∙ same in
        first-among (differs h) hs (key_of h) g is ((λ i. keys i && not (other i)))

    by : (r : Option HeadTree) → first_head hs (key_of h) ≡ r → list_any (differs h) hs ≡ differs_from r h
    by None is = none-differs h hs is
    by (Some g) is = within g (same_parameters g h) is refl

any-or : (p q : HeadTree → Bool) (hs : List HeadTree) →
    list_any (λ x. p x || (q x || false)) hs ≡ (list_any p hs || list_any q hs)
any-or p q [] = refl
any-or p q (h ∷ hs) = ap (λ b. (p h || (q h || false)) || b) (any-or p q hs) ∙
    crossed (p h) (q h) (list_any p hs) (list_any q hs)
  where
    crossed : (a b c d : Bool) → ((a || (b || false)) || (c || d)) ≡ ((a || c) || (b || d))
    crossed true b c d = refl
    crossed false true true d = refl
    crossed false true false d = refl
    crossed false false true d = refl
    crossed false false false d = refl

-- one head more
differ-more : (hs : List HeadTree) (h : HeadTree) →
    some_differ (hs ++ h ∷ []) ≡ (some_differ hs || list_any (differs h) hs)
differ-more hs h =
    (λ i. list_any (λ x. list_any-append (differs x) hs (h ∷ []) i) (hs ++ h ∷ [])) ∙
    list_any-append (λ x. list_any (differs x) hs || (differs x h || false)) hs (h ∷ []) ∙
    (λ i. any-or (λ x. list_any (differs x) hs) (λ x. differs x h) hs i ||
    ((list_any (differs h) hs || (differs-self h i || false)) || false)) ∙
    (λ i. (some_differ hs || list_any (λ x. differs-sym x h i) hs) ||
    ((list_any (differs h) hs || (false || false)) || false)) ∙
    twice (some_differ hs) (list_any (differs h) hs)
  where
    twice : (a b : Bool) → ((a || b) || ((b || (false || false)) || false)) ≡ (a || b)
    twice true b = refl
    twice false true = refl
    twice false false = refl

counted-more : (hs : List HeadTree) (h : HeadTree) (k : Key) →
    alternatives (hs ++ h ∷ []) k ≡ alternatives hs k + cond (same_key k (key_of h)) 1 0
counted-more hs h k = sum_by-append (λ x. cond (same_key k (key_of x)) 1 0) hs (h ∷ []) ∙
    zero (alternatives hs k) (cond (same_key k (key_of h)) 1 0)
  where
    zero : (a b : ℕ) → a + (0 + b) ≡ a + b
    zero a b = omega arith

no_more : (n : ℕ) → n + 0 ≡ n
no_more n = omega arith

lesser : (n : ℕ) → nat_lt 1000 (n + 1) ≡ false → nat_lt 1000 n ≡ false
lesser n e = grind (arith, nat_tests)

many-more : (hs : List HeadTree) (h : HeadTree) →
    too_many (hs ++ h ∷ []) ≡ (too_many hs || nat_lt 1000 (alternatives hs (key_of h) + 1))
many-more hs h =
    (λ i. list_any (λ x. nat_lt 1000 (counted-more hs h (key_of x) i)) (hs ++ h ∷ [])) ∙
    list_any-append over hs (h ∷ []) ∙
    (λ i. list_any over hs || (nat_lt 1000 (alternatives hs (key_of h) + cond (same_key-refl (key_of h) i) 1 0) ||
    false)) ∙
    by (nat_lt 1000 (alternatives hs (key_of h) + 1)) refl
  where
    over : HeadTree → Bool
    over x = nat_lt 1000 (alternatives hs (key_of x) + cond (same_key (key_of x) (key_of h)) 1 0)

    each : (x : HeadTree) (b : Bool) → same_key (key_of x) (key_of h) ≡ b →
        nat_lt 1000 (alternatives hs (key_of h) + 1) ≡ false
        → nat_lt 1000 (alternatives hs (key_of x) + cond b 1 0) ≡ nat_lt 1000 (alternatives hs (key_of x))
    each x true same within =
        let at : nat_lt 1000 (alternatives hs (key_of x) + 1) ≡ false =
        ap (λ k. nat_lt 1000 (alternatives hs k + 1)) (same_key-true (key_of x) (key_of h) same) ∙ within in
        at ∙ sym (lesser (alternatives hs (key_of x)) at)
    each x false same within = ap (λ n. nat_lt 1000 n) (no_more (alternatives hs (key_of x)))

    both : (a c : Bool) → (a || (true || false)) ≡ (c || true)
    both true true = refl
    both true false = refl
    both false true = refl
    both false false = refl

    neither : (a : Bool) → (a || (false || false)) ≡ (a || false)
    neither true = refl
    neither false = refl

    by : (b : Bool) → nat_lt 1000 (alternatives hs (key_of h) + 1) ≡ b →
        (list_any over hs || (b || false)) ≡ (too_many hs || b)
    by true e = both (list_any over hs) (too_many hs)
    by false e = neither (list_any over hs) ∙ (λ i. list_any (λ x. each' x i) hs || false)
      where
        each' : (x : HeadTree) → over x ≡ nat_lt 1000 (alternatives hs (key_of x))
        each' x = each x (same_key (key_of x) (key_of h)) refl e

full : (n : ℕ) → nat_lt 1000 (n + 1) ≡ not (nat_lt n 1000)
full n = by (nat_lt n 1000) refl
  where
    by : (b : Bool) → nat_lt n 1000 ≡ b → nat_lt 1000 (n + 1) ≡ not b
    by true e = grind (arith, nat_tests)
    by false e = grind (arith, nat_tests)

refused-is : (hs : List HeadTree) (h : HeadTree) →
    is_refused hs h ≡ (differs_from (first_head hs (key_of h)) h || nat_lt 1000 (alternatives hs (key_of h) + 1))
refused-is hs h = by (first_head hs (key_of h)) refl
  where
    some : (b c : Bool) (g : Group) → not (is_some (cond (b && c) (Some g) None)) ≡ (not c || not b)
    some true true g = refl
    some true false g = refl
    some false true g = refl
    some false false g = refl

    by : (r : Option HeadTree) → first_head hs (key_of h) ≡ r
        → not (is_some (with_head h (option_map (λ x. record { first = x; number = alternatives hs (key_of h) }) r))) ≡
        (differs_from r h || nat_lt 1000 (alternatives hs (key_of h) + 1))
    by None is = ap (λ n. nat_lt 1000 (n + 1)) (sym (none-counted (key_of h) hs is))
    by (Some g) is =
        some (nat_lt (alternatives hs (key_of h)) 1000) (same_parameters g h)
        (record { first = g; number = alternatives hs (key_of h) + 1 }) ∙
        ap (λ b. not (same_parameters g h) || b) (sym (full (alternatives hs (key_of h))))

bad-more : (hs : List HeadTree) (h : HeadTree) → is_bad_group (hs ++ h ∷ []) ≡ (is_bad_group hs || is_refused hs h)
bad-more hs h =
    (λ i. (differ-more hs h ∙ first (some_differ hs) refl) i || many-more hs h i) ∙
    swapped (some_differ hs) (differs_from (first_head hs (key_of h)) h) (too_many hs)
    (nat_lt 1000 (alternatives hs (key_of h) + 1)) ∙
    ap (λ b. is_bad_group hs || b) (sym (refused-is hs h))
  where
    first : (b : Bool) → some_differ hs ≡ b →
        (b || list_any (differs h) hs) ≡ (b || differs_from (first_head hs (key_of h)) h)
    first true e = refl
    first false e = differs-first hs h e

bad-after : (before hs : List HeadTree) → is_bad_group (before ++ hs) ≡ (is_bad_group before || some_refused before hs)
bad-after before [] = ap is_bad_group (append-nil before) ∙ sym (or-false (is_bad_group before))
bad-after before (h ∷ hs) =
    ap is_bad_group (sym (append_assoc before (h ∷ []) hs)) ∙ bad-after (before ++ h ∷ []) hs ∙
    ap (λ b. b || some_refused (before ++ h ∷ []) hs) (bad-more before h) ∙
    or_assoc (is_bad_group before) (is_refused before h) (some_refused (before ++ h ∷ []) hs)

-- the group with one head more, whether it may stand there or not
abbrev grown : HeadTree → Option Group → Group
grown h None = record { first = h; number = 1 }
grown h (Some g) = record { first = g.first; number = g.number + 1 }

grown-is : (h : HeadTree) (r : Option Group) → is_some (with_head h r) ≡ true → with_head h r ≡ Some (grown h r)
grown-is h None fits = refl
grown-is h (Some g) fits = by (nat_lt g.number 1000 && same_parameters g.first h) fits
  where
    by : (b : Bool) → is_some (cond b (Some (grown h (Some g))) None) ≡ true →
        cond b (Some (grown h (Some g))) None ≡ Some (grown h (Some g))
    by true e = refl
    by false e = absurd (cc)

first-more : (hs : List HeadTree) (h : HeadTree) (k : Key) →
    first_head (hs ++ h ∷ []) k ≡ first_or (first_head hs k) (cond (same_key k (key_of h)) (Some h) None)
first-more [] h k = refl
first-more (x ∷ hs) h k = ap (cond (same_key k (key_of x)) (Some x)) (first-more hs h k) ∙ by (same_key k (key_of x))
  where
    by : (b : Bool) → cond b (Some x) (first_or (first_head hs k) (cond (same_key k (key_of h)) (Some h) None)) ≡
        first_or (cond b (Some x) (first_head hs k)) (cond (same_key k (key_of h)) (Some h) None)
    by true = refl
    by false = refl

group-more : (hs : List HeadTree) (h : HeadTree) (k : Key) →
    group_in (hs ++ h ∷ []) k ≡ cond (same_key k (key_of h)) (Some (grown h (group_in hs k))) (group_in hs k)
group-more hs h k =
    (λ i. option_map (λ x. record { first = x; number = counted-more hs h k i }) (first-more hs h k i)) ∙
    by (same_key k (key_of h)) (first_head hs k) refl
  where
    by : (b : Bool) (r : Option HeadTree) → first_head hs k ≡ r
        → option_map (λ x. record { first = x; number = alternatives hs k + cond b 1 0 })
        (first_or r (cond b (Some h) None))
        ≡ cond b (Some (grown h (option_map (λ x. record { first = x; number = alternatives hs k }) r)))
        (option_map (λ x. record { first = x; number = alternatives hs k }) r)
    by true None is = ap (λ n. Some (record { first = h; number = n + 1 })) (none-counted k hs is)
    by true (Some g) is = refl
    by false None is = refl
    by false (Some g) is = ap (λ n. Some (record { first = g; number = n })) (no_more (alternatives hs k))

-- a table has the groups of the heads up to a place, and the heads from there on say whether they are bad together
pub record Grouping {S : Type 0} (hs : List (Bor DefinitionHead)) (i : ℕ) (table : IndexMap Key Group S) : Type 0 where
  pub groups : (k : Key) → get same_key table k ≡ group_in (heads_of (take i hs)) k
  pub rest : some_refused (heads_of (take i hs)) (heads_of (drop i hs)) ≡ is_bad_group (heads_of hs)

pub grouping_begins : {S : Type 0} (hs : List (Bor DefinitionHead)) (table : IndexMap Key Group S) →
    table.entries ≡ [] → Grouping hs 0 table
grouping_begins hs table empty = record { groups = λ k. rw empty refl; rest = sym (bad-after [] (heads_of hs)) }

module _ {S : Type 0} (hs : List (Bor DefinitionHead)) (i : ℕ) (h : Bor DefinitionHead) (table : IndexMap Key Group S)
    (within : i < length hs) (is : h ≡ get_or hs i h) (before : Grouping hs i table) where
  abbrev key : Key
  key = key_of (head_of h.now)

  abbrev entered : Option Group
  entered = with_head (head_of h.now) (get same_key table key)

  dropped : heads_of (drop i hs) ≡ head_of h.now ∷ heads_of (drop (i + 1) hs)
  dropped = ap heads_of (drop_more hs i h within ∙ ap (λ y. y ∷ drop (i + 1) hs) (sym is))

  pub grouping_refused : is_some entered ≡ false → is_bad_group (heads_of hs) ≡ true
  grouping_refused refused =
      sym before.rest ∙ ap (some_refused (heads_of (take i hs))) dropped ∙
      ap (λ b. b || some_refused (heads_of (take i hs) ++ head_of h.now ∷ []) (heads_of (drop (i + 1) hs)))
      (ap (λ r. not (is_some (with_head (head_of h.now) r))) (sym (before.groups key)) ∙ ap not refused)

  pub grouping_goes : (new : IndexMap Key Group S) → is_some entered ≡ true →
      ((k : Key) → get same_key new k ≡ cond (same_key key k) entered (get same_key table k)) → Grouping hs (i + 1) new
  grouping_goes new fits put = record {
    groups = λ k. put k ∙ at k (same_key key k) refl ∙ sym (group-more (heads_of (take i hs)) (head_of h.now) k) ∙
        ap (λ gs. group_in gs k) (sym taken);
    rest = ap (λ gs. some_refused gs (heads_of (drop (i + 1) hs))) taken ∙
        ap (λ b. b || some_refused (heads_of (take i hs) ++ head_of h.now ∷ []) (heads_of (drop (i + 1) hs)))
        (sym (ap (λ r. not (is_some (with_head (head_of h.now) r))) (sym (before.groups key)) ∙ ap not fits)) ∙
        ap (some_refused (heads_of (take i hs))) (sym dropped) ∙ before.rest;
  }
    where
      taken : heads_of (take (i + 1) hs) ≡ heads_of (take i hs) ++ head_of h.now ∷ []
      taken = map_more (λ (x : Bor DefinitionHead). head_of x.now) hs i h within ∙
          ap (λ (y : Bor DefinitionHead). heads_of (take i hs) ++ head_of y.now ∷ []) (sym is)

      at : (k : Key) (b : Bool) → same_key key k ≡ b →
          cond b entered (get same_key table k) ≡
          cond (same_key k key) (Some (grown (head_of h.now) (group_in (heads_of (take i hs)) k)))
          (group_in (heads_of (take i hs)) k)
      at k true e =
          let equal : key ≡ k = same_key-true key k e in
          rw (test-sym same_key same_key-Decides k key ∙ e)
          (grown-is (head_of h.now) (get same_key table key) fits ∙
          ap (λ r. Some (grown (head_of h.now) r)) (before.groups key ∙ ap (group_in (heads_of (take i hs))) equal))
      at k false e = rw (test-sym same_key same_key-Decides k key ∙ e) (before.groups k)

pub grouping_ends : {S : Type 0} (hs : List (Bor DefinitionHead)) (i : ℕ) (table : IndexMap Key Group S) →
    length hs ≤ i → Grouping hs i table → is_bad_group (heads_of hs) ≡ false
grouping_ends hs i table past at =
    sym at.rest ∙ ap (λ xs. some_refused (heads_of (take i hs)) (heads_of xs)) (drop_all i hs past)

-- no head up to a place was refused, and nothing was found, or the heads are bad together, and this was found
abbrev pub Judging : {S : Type 0} → List (Bor DefinitionHead) → ℕ → IndexMap Key Group S → Option (Bor DefinitionHead) →
    Found → Found → Type 0
Judging hs i table refused before now =
    ((is_some refused ≡ false) × (Grouping hs i table × (now ≡ before))) ⊎
    ((is_bad_group (heads_of hs) ≡ true) × (now ≡ joined before (found_if bad_parameters true)))

pub judging_begins : {S : Type 0} (hs : List (Bor DefinitionHead)) (table : IndexMap Key Group S) (before : Found) →
    table.entries ≡ [] → Judging hs 0 table None before before
judging_begins hs table before empty = inl (refl, (grouping_begins hs table empty, refl))

pub judging_ends : {S : Type 0} (hs : List (Bor DefinitionHead)) (i : ℕ) (table : IndexMap Key Group S)
    (refused : Option (Bor DefinitionHead)) (before now : Found) → length hs ≤ i →
    Judging hs i table refused before now →
    now ≡ joined before (found_if bad_parameters (is_bad_group (heads_of hs)))
judging_ends hs i table refused before now past (inl at) =
    at.1.1 ∙ nothing_more before ∙
    ap (λ b. joined before (found_if bad_parameters b)) (sym (grouping_ends hs i table past at.1.0))
judging_ends hs i table refused before now past (inr at) =
    at.1 ∙ ap (λ b. joined before (found_if bad_parameters b)) (sym at.0)

-- a head that is refused is found, unless one like it was
found_again : (before now new : Found) → now ≡ joined before (found_if bad_parameters true) →
    new ≡ joined now (found_if bad_parameters true) → new ≡ joined before (found_if bad_parameters true)
found_again before now new is more =
    more ∙ ap (λ f. joined f (found_if bad_parameters true)) is ∙
    joined-assoc before (found_if bad_parameters true) (found_if bad_parameters true)

module _ {S : Type 0} (hs : List (Bor DefinitionHead)) (i : ℕ) (h : Bor DefinitionHead) (table : IndexMap Key Group S)
    (within : i < length hs) (is : h ≡ get_or hs i h) (refused : Option (Bor DefinitionHead)) (before now : Found) where
  pub judging_goes : Judging hs i table refused before now → (new : IndexMap Key Group S) →
      is_some (with_head (head_of h.now) (get same_key table (key_of (head_of h.now)))) ≡ true →
      ((k : Key) → get same_key new k ≡ cond (same_key (key_of (head_of h.now)) k)
      (with_head (head_of h.now) (get same_key table (key_of (head_of h.now)))) (get same_key table k)) →
      Judging hs (i + 1) new refused before now
  judging_goes (inl at) new fits put = inl (at.0, (grouping_goes hs i h table within is at.1.0 new fits put, at.1.1))
  judging_goes (inr at) new fits put = inr at

  pub judging_refused : Judging hs i table refused before now → (table' : IndexMap Key Group S)
      (refused' : Option (Bor DefinitionHead)) (new : Found) →
      is_some (with_head (head_of h.now) (get same_key table (key_of (head_of h.now)))) ≡ false →
      (is_some refused ≡ false → new ≡ joined now (found_if bad_parameters true)) →
      (new ≡ now) ⊎ (new ≡ joined now (found_if bad_parameters true)) → Judging hs (i + 1) table' refused' before new
  judging_refused (inl at) table' refused' new not_fits first others =
      inr (
        grouping_refused hs i h table within is at.1.0 not_fits,
        first at.0 ∙ ap (λ f. joined f (found_if bad_parameters true)) at.1.1,
      )
  judging_refused (inr at) table' refused' new not_fits first (inl same) = inr (at.0, same ∙ at.1)
  judging_refused (inr at) table' refused' new not_fits first (inr more) =
      inr (at.0, found_again before now new at.1 more)
