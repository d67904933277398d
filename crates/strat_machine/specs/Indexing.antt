-- The headline does not rest on this file.
-- Indexes of tables: the cases by the numbers of the roots that they ask for.
use Rattle.std.specs.Prelude.{◌≡◌, ℕ, zero, suc, ◌+◌, ◌%◌, ◌<◌, ◌≤◌, Bool, true, false, Option, Some, None, List, [], ◌∷◌, ◌++◌, length, All, Contains, slice_get, unsigned_abs, Vec}
use Rattle.std.specs.Option.{IfSome}
use Rattle.std.specs.List.Sorted.{IsNonDecreasing}
use Rattle.std.specs.declared.alloc.Global.{Global}
use Rattle.strat_machine.specs.declared.tables.LoadedRoot.{LoadedRoot}
use Rattle.strat_machine.specs.declared.tables.LoadedRoot.TheVariants as roots
use Rattle.strat_machine.specs.declared.tables.LoadedCase.{LoadedCase}
use Rattle.strat_machine.specs.declared.tables.LoadedTable.{LoadedTable}
use Rattle.strat_machine.specs.declared.index.Groups.{Groups}
use Rattle.strat_machine.specs.declared.index.Index.{Index}

-- the nodes of the first i cases
abbrev pub nodes_before : {N : Type 0} → List (LoadedCase N) → ℕ → ℕ
nodes_before [] i = 0
nodes_before (c ∷ cs) zero = 0
nodes_before (c ∷ cs) (suc i) = c.nodes + nodes_before cs i

-- s, and s with the nodes of the first one, two and more cases
abbrev pub sums_from : {N : Type 0} → ℕ → List (LoadedCase N) → List ℕ
sums_from s [] = s ∷ []
sums_from s (c ∷ cs) = s ∷ sums_from (s + c.nodes) cs

-- the list at a position, if there is one
abbrev pub group_at : List (Vec ℕ Global) → ℕ → List ℕ
group_at [] k = []
group_at (g ∷ gs) zero = g.items
group_at (g ∷ gs) (suc k) = group_at gs k

-- the cases in the group of a number, or in none
abbrev pub entries_for : Groups → Option ℕ → List ℕ
entries_for gs None = gs.open.items
entries_for gs (Some n) = group_at gs.closed.items (n % length gs.closed.items)

-- the same, or with one entry more
pub data OneMore (xs : List ℕ) (j : ℕ) (ys : List ℕ) : Type 0 where
  as_before : ys ≡ xs → OneMore xs j ys
  one_added : ys ≡ xs ++ j ∷ [] → OneMore xs j ys

-- a case was put into the group of its number
pub record PutsInto (old : Groups) (number : Option ℕ) (j : ℕ) (new : Groups) : Type 0 where
  pub many : length new.closed.items ≡ length old.closed.items
  pub here : entries_for new number ≡ entries_for old number ++ j ∷ []
  pub others : (q : Option ℕ) → OneMore (entries_for old q) j (entries_for new q)

module _ {N : Type 0} where
  module _ (number_of : N → ℕ) where
    -- the number by which a root is found; none where terms of several numbers have it
    abbrev pub number_in : LoadedRoot N → Option ℕ
    number_in roots.Any = None
    number_in (roots.Integer z) = Some (unsigned_abs z)
    number_in (roots.Symbol f n) = Some (number_of f)
    number_in (roots.List n true) = None
    number_in (roots.List n false) = Some n

    -- each case is in the group of its number, in their order
    pub record AreGrouped (cs : List (LoadedCase N)) (gs : Groups) : Type 0 where
      pub some : 0 < length gs.closed.items
      pub each : (j : ℕ) (c : LoadedCase N) → slice_get cs j ≡ Some c → Contains (entries_for gs (number_in c.root)) j
      pub rising : (q : Option ℕ) → IsNonDecreasing (entries_for gs q)
      pub within : (q : Option ℕ) → All (λ j. j < length cs) (entries_for gs q)

    pub record IsIndex (cs : List (LoadedCase N)) (x : Index) : Type 0 where
      pub sums : x.sums.items ≡ sums_from 0 cs
      pub groups : AreGrouped cs x.groups

    -- the table has an index, or none
    abbrev pub IsIndexed : LoadedTable N → Type 0
    IsIndexed t = IfSome t.index (IsIndex t.cases.items)

  -- those that pass a test
  module _ (has : LoadedCase N → Bool) (cs : List (LoadedCase N)) where
    -- the first entry of the list, from k on and below a limit, whose case passes; the limit where there is none
    pub record IsFirstIn (list : List ℕ) (k limit i : ℕ) : Type 0 where
      pub low : i ≤ limit
      pub passed : (j : ℕ) (c : LoadedCase N) → Contains list j → k ≤ j → j < i → slice_get cs j ≡ Some c →
          has c ≡ false
      pub from : i < limit → (k ≤ i) × Contains list i
      pub has_it : i < limit → (c : LoadedCase N) → slice_get cs i ≡ Some c → has c ≡ true

    -- the first case from number k on that passes; their number where none does
    pub record IsFirst (k i : ℕ) : Type 0 where
      pub from : k ≤ i
      pub within : i ≤ length cs
      pub passed : (j : ℕ) (c : LoadedCase N) → k ≤ j → j < i → slice_get cs j ≡ Some c → has c ≡ false
      pub has_it : (c : LoadedCase N) → slice_get cs i ≡ Some c → has c ≡ true
