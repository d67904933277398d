-- Indexes of tables find the first case that passes a test.
use Rattle.std.proofs.Common.{◌≡◌, ℕ, zero, suc, ◌+◌, ◌-◌, ◌%◌, ◌<◌, ◌≤◌, Bool, true, false, Option, Some, None, List, [], ◌∷◌, ◌++◌, ◌⊎◌, inl, inr, length, take, drop, set, get_or, Vec, Global, refl, sym, ◌∙◌, ap, subst, arith}
use Rattle.std.specs.Prelude.{All, Contains, slice_get}
use Rattle.std.specs.List.{AllWithin}
use Rattle.std.specs.List.Sorted.{IsNonDecreasing, IsPartitionPoint}
use Rattle.std.proofs.Math.Dec.{ltb}
use Rattle.std.proofs.lemmas.Bool.{cases_lt, cases_eq, cases_Bool, ltb-true, ltb-false}
use Rattle.std.proofs.lemmas.List.{get_or-drop, length-drop, length-set, length-append, length-take-le}
use Rattle.std.proofs.lemmas.List.Elements.{All-get_or, All-push, All-weaker, AllWithin-more, Contains-append_left, Contains-get_or, Contains-push}
use Rattle.std.proofs.lemmas.List.Sorted.{IsNonDecreasingBy-push}
use Rattle.std.proofs.lemmas.Nat.{mod_below}
use Rattle.std.proofs.lemmas.Option.{slice_get_within}
use Rattle.strat_machine.specs.declared.tables.LoadedCase.{LoadedCase}
use Rattle.strat_machine.specs.declared.index.Groups.{Groups}
use Rattle.strat_machine.specs.Indexing.{nodes_before, sums_from, group_at, entries_for, OneMore, as_before, one_added, PutsInto, number_in, AreGrouped, IsFirstIn, IsFirst}
use Rattle.strat_machine.proofs.TableLaws.{taken}

-- sums of nodes
module _ {N : Type 0} where
  sums_long : (s : ℕ) (cs : List (LoadedCase N)) → length (sums_from s cs) ≡ length cs + 1
  sums_long s [] = refl
  sums_long s (c ∷ cs) = let h = sums_long (s + c.nodes) cs in omega arith

  pub sums_within : {sums : List ℕ} {n : ℕ} (cs : List (LoadedCase N)) (i : ℕ) → n ≡ length sums →
      sums ≡ sums_from 0 cs → i ≤ length cs → i < n
  sums_within {sums} {n} cs i long are low = let a : length sums ≡ length (sums_from 0 cs) = ap length are in let b =
      sums_long 0 cs in omega (arith, long, a, b, low)

  sum_at : (s : ℕ) (cs : List (LoadedCase N)) (i d : ℕ) → i ≤ length cs →
      get_or (sums_from s cs) i d ≡ s + nodes_before cs i
  sum_at s [] zero d low = omega arith
  sum_at s [] (suc i) d low = absurd (omega arith)
  sum_at s (c ∷ cs) zero d low = omega arith
  sum_at s (c ∷ cs) (suc i) d low = let h = sum_at (s + c.nodes) cs i d (omega arith) in omega arith

  pub nodes_rise : (cs : List (LoadedCase N)) (k i : ℕ) → k ≤ i → nodes_before cs k ≤ nodes_before cs i
  nodes_rise [] k i low = omega arith
  nodes_rise (c ∷ cs) zero i low = omega arith
  nodes_rise (c ∷ cs) (suc k) zero low = absurd (omega arith)
  nodes_rise (c ∷ cs) (suc k) (suc i) low = let h = nodes_rise cs k i (omega arith) in omega arith

  pub sum_read : {sums : List ℕ} (cs : List (LoadedCase N)) (i : ℕ) {x : ℕ} → sums ≡ sums_from 0 cs → i ≤ length cs →
      x ≡ get_or sums i x → x ≡ nodes_before cs i
  sum_read {sums} cs i {x} are low read = let a : get_or sums i x ≡ get_or (sums_from 0 cs) i x =
      ap (λ l. get_or l i x) are in let b = sum_at 0 cs i x low in omega (arith, read, a, b)

any_default : (xs : List ℕ) (k d x : ℕ) → k < length xs → get_or xs k d ≡ get_or xs k x
any_default [] k d x h = absurd (omega arith)
any_default (y ∷ xs) zero d x h = refl
any_default (y ∷ xs) (suc k) d x h = any_default xs k d x (omega arith)

-- groups
set_here : (gs : List (Vec ℕ Global)) (k : ℕ) (g : Vec ℕ Global) → k < length gs → group_at (set gs k g) k ≡ g.items
set_here [] k g below = absurd (omega arith)
set_here (x ∷ gs) zero g below = refl
set_here (x ∷ gs) (suc k) g below = set_here gs k g (omega arith)

set_other : (gs : List (Vec ℕ Global)) (k q : ℕ) (g : Vec ℕ Global) → (q ≡ k → ⊥) →
    group_at (set gs k g) q ≡ group_at gs q
set_other [] k q g other = refl
set_other (x ∷ gs) zero zero g other = absurd (other refl)
set_other (x ∷ gs) zero (suc q) g other = refl
set_other (x ∷ gs) (suc k) zero g other = refl
set_other (x ∷ gs) (suc k) (suc q) g other = set_other gs k q g (λ same. other (ap (λ n. suc n) same))

pub group_is : (gs : List (Vec ℕ Global)) (k : ℕ) (g : Vec ℕ Global) → k < length gs → g ≡ get_or gs k g →
    group_at gs k ≡ g.items
group_is [] k g below read = absurd (omega arith)
group_is (x ∷ gs) zero g below read = ap (λ v. v.items) (sym read)
group_is (x ∷ gs) (suc k) g below read = group_is gs k g (omega arith) read

pub group_read : (gs : List (Vec ℕ Global)) {g : Vec ℕ Global} {xs : List ℕ} {m : ℕ} → 0 < length gs → (n : ℕ) →
    m ≡ length gs → g ≡ get_or gs (n % m) g → xs ≡ g.items → xs ≡ group_at gs (n % length gs)
group_read gs {g} some n many read is =
    is ∙ sym (group_is gs (n % length gs) g (mod_below n (length gs) some) (read ∙ ap (λ k. get_or gs (n % k) g) many))

no_group : (gs : List (Vec ℕ Global)) (g : Vec ℕ Global) → ((k : ℕ) → group_at gs k ≡ []) → g.items ≡ [] → (k : ℕ) →
    group_at (gs ++ g ∷ []) k ≡ []
no_group [] g none empty zero = empty
no_group [] g none empty (suc k) = refl
no_group (x ∷ gs) g none empty zero = none 0
no_group (x ∷ gs) g none empty (suc k) = no_group gs g (λ q. none (suc q)) empty k

pub groups_on : (gs new : List (Vec ℕ Global)) (g : Vec ℕ Global) (i : ℕ) → length gs ≡ i →
    ((k : ℕ) → group_at gs k ≡ []) → g.items ≡ [] → new ≡ gs ++ g ∷ [] → (length new ≡ i + 1) ×
    ((k : ℕ) → group_at new k ≡ [])
groups_on gs new g i long none empty is = (
  ap length is ∙ (length-append gs (g ∷ []) ∙ ap (λ n. n + 1) long),
  λ k. ap (λ l. group_at l k) is ∙
      no_group gs g none empty k,
)

puts_closed : (old new : Groups) (n j at : ℕ) (g : Vec ℕ Global) → at ≡ n % length old.closed.items →
    at < length old.closed.items → new.open ≡ old.open → new.closed.items ≡ set old.closed.items at g →
    g.items ≡ group_at old.closed.items at ++ j ∷ [] →
    PutsInto old (Some n) j new
puts_closed old new n j at g place below same is one = record {
  many = many;
  here = place_of n (sym place) ∙
      (set_here old.closed.items at g below ∙ (one ∙ ap (λ k. group_at old.closed.items k ++ j ∷ []) place));
  others = λ q. by q;
}
  where
    many : length new.closed.items ≡ length old.closed.items
    many = ap length is ∙ length-set old.closed.items at g

    at_place : (q : ℕ) → group_at new.closed.items (q % length new.closed.items) ≡
        group_at (set old.closed.items at g) (q % length old.closed.items)
    at_place q = ap (λ l. group_at l (q % length new.closed.items)) is ∙
        ap (λ k. group_at (set old.closed.items at g) (q % k)) many

    place_of : (q : ℕ) → q % length old.closed.items ≡ at →
        group_at new.closed.items (q % length new.closed.items) ≡ group_at (set old.closed.items at g) at
    place_of q h = at_place q ∙ ap (λ k. group_at (set old.closed.items at g) k) h

    by : (q : Option ℕ) → OneMore (entries_for old q) j (entries_for new q)
    by None = as_before (ap (λ v. v.items) same)
    by (Some q) = split (cases_eq (q % length old.closed.items) at)
      where
        split : (q % length old.closed.items ≡ at) ⊎ (q % length old.closed.items ≡ at → ⊥) →
            OneMore (entries_for old (Some q)) j (entries_for new (Some q))
        split (inl h) = one_added (place_of q h ∙
            (set_here old.closed.items at g below ∙ (one ∙ ap (λ k. group_at old.closed.items k ++ j ∷ []) (sym h))))
        split (inr h) = as_before (at_place q ∙ set_other old.closed.items at (q % length old.closed.items) g h)

pub puts_some : (old new : Groups) (number : Option ℕ) (n j m : ℕ) (was g : Vec ℕ Global) → number ≡ Some n →
    m ≡ length old.closed.items → 0 < length old.closed.items → was ≡ get_or old.closed.items (n % m) was →
    g.items ≡ was.items ++ j ∷ [] → new.open ≡ old.open →
    new.closed.items ≡ set old.closed.items (n % m) g → PutsInto old number j new
puts_some old new number n j m was g is many some read one same put =
    let place : n % m ≡ n % length old.closed.items = ap (λ k. n % k) many in
    let below : n % m < length old.closed.items =
    subst (λ k. k < length old.closed.items) (sym place) (mod_below n (length old.closed.items) some) in
    subst (λ q. PutsInto old q j new) (sym is)
    (puts_closed old new n j (n % m) g place below same put (one ∙
    ap (λ l. l ++ j ∷ []) (sym (group_is old.closed.items (n % m) was below read))))

more_within : (xs ys : List ℕ) (j n : ℕ) → OneMore xs j ys → All (λ k. k < j) xs → n ≡ j + 1 → All (λ k. k < n) ys
more_within xs ys j n (as_before is) h top =
    subst (λ zs. All (λ k. k < n) zs) (sym is)
    (All-weaker (λ k. k < j) (λ k. k < n) (λ k low. omega (arith, low, top)) xs h)
more_within xs ys j n (one_added is) h top =
    subst (λ zs. All (λ k. k < n) zs) (sym is)
    (All-push (λ k. k < n) xs j (All-weaker (λ k. k < j) (λ k. k < n) (λ k low. omega (arith, low, top)) xs h)
    (omega (arith, top)))

more_rising : (xs ys : List ℕ) (j : ℕ) → OneMore xs j ys → All (λ k. k < j) xs → IsNonDecreasing xs → IsNonDecreasing ys
more_rising xs ys j (as_before is) low h = subst IsNonDecreasing (sym is) h
more_rising xs ys j (one_added is) low h =
    subst IsNonDecreasing (sym is)
    (IsNonDecreasingBy-push (λ x. x) xs j h (λ d some. let last : get_or xs (length xs - 1) d < j =
    All-get_or (λ k. k < j) xs (length xs - 1) d (omega arith) low in omega arith))

more_there : (xs ys : List ℕ) (j k : ℕ) → OneMore xs j ys → Contains xs k → Contains ys k
more_there xs ys j k (as_before is) h = subst (λ zs. Contains zs k) (sym is) h
more_there xs ys j k (one_added is) h = subst (λ zs. Contains zs k) (sym is) (Contains-append_left xs (j ∷ []) k h)

module _ {N : Type 0} where
  one_before : (cs : List (LoadedCase N)) (c d : LoadedCase N) (j : ℕ) → slice_get (cs ++ c ∷ []) j ≡ Some d →
      (slice_get cs j ≡ Some d) ⊎ ((j ≡ length cs) × (d ≡ c))
  one_before [] c d zero h = inr (refl, cc)
  one_before [] c d (suc j) h = absurd (cc)
  one_before (x ∷ cs) c d zero h = inl h
  one_before (x ∷ cs) c d (suc j) h = shift (one_before cs c d j h)
    where
      shift : (slice_get cs j ≡ Some d) ⊎ ((j ≡ length cs) × (d ≡ c)) →
          (slice_get cs j ≡ Some d) ⊎ ((suc j ≡ suc (length cs)) × (d ≡ c))
      shift (inl k) = inl k
      shift (inr k) = inr (ap (λ n. suc n) k.0, k.1)

  module _ (number_of : N → ℕ) where
    pub none_grouped : (gs : Groups) → 0 < length gs.closed.items → ((k : ℕ) → group_at gs.closed.items k ≡ []) →
        gs.open.items ≡ [] → AreGrouped number_of [] gs
    none_grouped gs some none empty = record {
      some = some;
      each = λ j c h. absurd (cc);
      rising = λ q. subst IsNonDecreasing (sym (no_entry q)) (λ i j d low below. absurd (omega arith));
      within = λ q. subst (λ xs. All (λ j. j < 0) xs) (sym (no_entry q)) (λ k d below. absurd (omega arith));
    }
      where
        no_entry : (q : Option ℕ) → entries_for gs q ≡ []
        no_entry None = empty
        no_entry (Some n) = none (n % length gs.closed.items)

    one_grouped : (cs : List (LoadedCase N)) (c : LoadedCase N) (old new : Groups) → AreGrouped number_of cs old →
        PutsInto old (number_in number_of c.root) (length cs) new → AreGrouped number_of (cs ++ c ∷ []) new
    one_grouped cs c old new h p = record {
      some = let many = p.many in let some = h.some in omega arith;
      each = λ j d is. split j d (one_before cs c d j is);
      rising = λ q. more_rising (entries_for old q) (entries_for new q) (length cs) (p.others q) (h.within q)
          (h.rising q);
      within = λ q. more_within (entries_for old q) (entries_for new q) (length cs) (length (cs ++ c ∷ [])) (p.others q)
          (h.within q) (length-append cs (c ∷ []));
    }
      where
        split : (j : ℕ) (d : LoadedCase N) → (slice_get cs j ≡ Some d) ⊎ ((j ≡ length cs) × (d ≡ c)) →
            Contains (entries_for new (number_in number_of d.root)) j
        split j d (inl is) = more_there (entries_for old (number_in number_of d.root))
            (entries_for new (number_in number_of d.root)) (length cs) j (p.others (number_in number_of d.root))
            (h.each j d is)
        split j d (inr k) =
            subst (λ x. Contains (entries_for new (number_in number_of x.root)) j) (sym k.1)
            (subst (λ n. Contains (entries_for new (number_in number_of c.root)) n) (sym k.0)
            (subst (λ xs. Contains xs (length cs)) (sym p.here)
            (Contains-push (entries_for old (number_in number_of c.root)) (length cs))))

    pub grouped_on : (cs : List (LoadedCase N)) (i entry : ℕ) (c : LoadedCase N) (old new : Groups)
        (number : Option ℕ) → i < length cs → c ≡ get_or cs i c → entry ≡ i → AreGrouped number_of (take i cs) old →
        number ≡ number_in number_of c.root → PutsInto old number entry new →
        AreGrouped number_of (take (i + 1) cs) new
    grouped_on cs i entry c old new number below read same h is p =
        let long : entry ≡ length (take i cs) = same ∙ sym (length-take-le i cs (omega arith)) in
        subst (λ xs. AreGrouped number_of xs new) (sym (taken cs i c below read))
        (one_grouped (take i cs)
        c old new h (subst (λ n. PutsInto old (number_in number_of c.root) n new)
        long (subst (λ q. PutsInto old q entry new) is p)))

    pub open_rises : {cs : List (LoadedCase N)} {gs : Groups} {xs : List ℕ} → AreGrouped number_of cs gs →
        xs ≡ gs.open.items → IsNonDecreasing xs
    open_rises h is = subst IsNonDecreasing (sym is) (h.rising None)

    pub group_rises : {cs : List (LoadedCase N)} {gs : Groups} {xs : List ℕ} → AreGrouped number_of cs gs → (n : ℕ) →
        xs ≡ group_at gs.closed.items (n % length gs.closed.items) → IsNonDecreasing xs
    group_rises h n is = subst IsNonDecreasing (sym is) (h.rising (Some n))

  -- along a list
  module _ (has : LoadedCase N → Bool) (cs : List (LoadedCase N)) where
    abbrev pub Lacks : ℕ → Type 0
    Lacks j = (c : LoadedCase N) → slice_get cs j ≡ Some c → has c ≡ false

    module _ (list : List ℕ) (limit i : ℕ) (rising : IsNonDecreasing list) (so_far : AllWithin Lacks list 0 i) where
      stops : (r : ℕ) → ((d : ℕ) → i < length list → r ≤ get_or list i d) → (j : ℕ) (c : LoadedCase N) →
          Contains list j → j < r → slice_get cs j ≡ Some c → has c ≡ false
      stops r least j c (k, below, at) under is = split (cases_lt k i)
        where
          split : (k < i) ⊎ (i ≤ k) → has c ≡ false
          split (inl low) = subst Lacks at (so_far k j (omega arith) low) c is
          split (inr high) = let a = least j (omega arith) in let b : get_or list i j ≤ get_or list k j =
              rising i k j high below in absurd (omega (arith, a, b, at, under))

      module _ (below : i < length list) where
        pub first_here : (c : LoadedCase N) → get_or list i 0 < limit → slice_get cs (get_or list i 0) ≡ Some c →
            has c ≡ true → IsFirstIn has cs list 0 limit (get_or list i 0)
        first_here c low at passed = record {
          low = omega arith;
          passed = λ j d there z under is. stops (get_or list i 0) (λ x h. let same = any_default list i x 0 below in
              omega (arith, same)) j d there under is;
          from = λ h. (omega arith, Contains-get_or list i 0 below);
          has_it = λ h d is. let same : c ≡ d = cc in subst (λ x. has x ≡ true) same passed;
        }

        pub passes_entry : (c : LoadedCase N) → slice_get cs (get_or list i 0) ≡ Some c → has c ≡ false →
            AllWithin Lacks list 0 (i + 1)
        passes_entry c at lacks =
            AllWithin-more Lacks list 0 i so_far
            (λ d. subst Lacks (any_default list i 0 d below) (λ x is. let same : c ≡ x = cc in
            subst (λ y. has y ≡ false) same lacks))

    -- in the part of a list from an entry on
    pub first_from : (list : List ℕ) (k p limit r : ℕ) → p ≤ length list →
        IsPartitionPoint (λ y. ltb y k ≡ true) (λ y. ltb y k ≡ false) list p →
        IsFirstIn has cs (drop p list) 0 limit r → IsFirstIn has cs list k limit r
    first_from list k p limit r bound point h = record {
      low = h.low;
      passed = λ j c there low under is. passes j c there low under is;
      from = λ under. since (h.from under).1;
      has_it = h.has_it;
    }
      where
        long : length (drop p list) ≡ length list - p
        long = length-drop p list

        passes : (j : ℕ) (c : LoadedCase N) → Contains list j → k ≤ j → j < r → slice_get cs j ≡ Some c → has c ≡ false
        passes j c (q, below, at) low under is = split (cases_lt q p)
          where
            split : (q < p) ⊎ (p ≤ q) → has c ≡ false
            split (inl early) = let less = ltb-true (get_or list q j) k (point.0 q j (omega arith) early) in
                absurd (omega (arith, less, low, at))
            split (inr late) =
                let place : p + (q - p) ≡ q = omega arith in
                h.passed j c (
                  q - p,
                  omega (arith, long, late, below),
                  get_or-drop p list (q - p) j ∙
                      (ap (λ n. get_or list n j) place ∙ at),
                ) (omega arith) under is

        since : Contains (drop p list) r → (k ≤ r) × Contains list r
        since (q, below, at) =
            let read : get_or list (p + q) r ≡ r = sym (get_or-drop p list q r) ∙ at in
            let within : p + q < length list = omega (arith, long, below) in
            let least = ltb-false (get_or list (p + q) r) k (point.1 (p + q) r (omega arith) within) in
            (omega (arith, least, read), (p + q, within, read))

    -- the first in the open list and in the group of a number that each closed case with the root has
    module _ (number_of : N → ℕ) (gs : Groups) (grouped : AreGrouped number_of cs gs) (n : ℕ)
        (law : (j : ℕ) (c : LoadedCase N) (m : ℕ) → slice_get cs j ≡ Some c → number_in number_of c.root ≡ Some m →
        has c ≡ true → m ≡ n) where
      pub finds_first : (k limit i : ℕ) (group : List ℕ) → k ≤ length cs →
          group ≡ group_at gs.closed.items (n % length gs.closed.items) →
          IsFirstIn has cs gs.open.items k (length cs) limit → IsFirstIn has cs group k limit i → IsFirst has cs k i
      finds_first k limit i group start are a b = record {
        from = least (cases_lt i limit) (cases_lt limit (length cs));
        within = let x = a.low in let y = b.low in omega arith;
        passed = λ j c low under is. passes j c low under is (number_in number_of c.root) refl (cases_Bool (has c));
        has_it = λ c is. here c is (cases_lt i limit) (cases_lt limit (length cs));
      }
        where
          least : (i < limit) ⊎ (limit ≤ i) → (limit < length cs) ⊎ (length cs ≤ limit) → k ≤ i
          least (inl h) x = (b.from h).0
          least (inr h) (inl x) = let y = (a.from x).0 in omega arith
          least (inr h) (inr x) = omega arith

          here : (c : LoadedCase N) → slice_get cs i ≡ Some c → (i < limit) ⊎ (limit ≤ i) →
              (limit < length cs) ⊎ (length cs ≤ limit) → has c ≡ true
          here c is (inl h) x = b.has_it h c is
          here c is (inr h) (inl x) = let y = b.low in let same : i ≡ limit = omega arith in
              a.has_it x c (subst (λ z. slice_get cs z ≡ Some c) same is)
          here c is (inr h) (inr x) = let y = slice_get_within cs i c is in absurd (omega arith)

          passes : (j : ℕ) (c : LoadedCase N) → k ≤ j → j < i → slice_get cs j ≡ Some c → (q : Option ℕ) →
              q ≡ number_in number_of c.root → (has c ≡ true) ⊎ (has c ≡ false) → has c ≡ false
          passes j c low under is q at (inr lacks) = lacks
          passes j c low under is None at (inl held) =
              let y = b.low in a.passed j c (subst (λ x. Contains (entries_for gs x) j) (sym at) (grouped.each j c is))
              low (omega arith) is
          passes j c low under is (Some m) at (inl held) =
              let same : m ≡ n = law j c m is (sym at) held in
              b.passed j c (subst (λ l. Contains l j) (sym are)
              (subst (λ x. Contains (group_at gs.closed.items (x % length gs.closed.items)) j)
              same (subst (λ x. Contains (entries_for gs x) j) (sym at) (grouped.each j c is)))) low under is

  pub same_list : {has : LoadedCase N → Bool} {cs : List (LoadedCase N)} {xs ys : List ℕ} {k limit limit1 i : ℕ} →
      xs ≡ ys → limit ≡ limit1 → IsFirstIn has cs xs k limit i → IsFirstIn has cs ys k limit1 i
  same_list {has} {cs} {xs} {ys} {k} {limit} {limit1} {i} are is h =
      subst (λ l. IsFirstIn has cs ys k l i) is (subst (λ l. IsFirstIn has cs l k limit i) are h)
