-- The headline does not rest on this file.
-- The tables of a loaded program.
use Rattle.std.specs.Prelude.{◌≡◌, ℕ, ◌<◌, Bool, IsTrue, Option, Some, None, List, [], ◌∷◌, length, drop, map, Contains, zero, suc, Vec}
use Rattle.std.specs.declared.alloc.Global.{Global}
use Rattle.term_model.specs.Symbol.{Symbol}
use Rattle.term_model.specs.PrimNames.{NameKey}
use Rattle.term_model.specs.NameSet.{key_at}
use Rattle.term_model.specs.Term.{Tree}
use Rattle.core_lang.specs.Roots.{Root, has_root, any_root, integer_root, symbol_root, list_root}
use Rattle.strat_code.specs.Code.{Case, case}
use Rattle.strat_code.specs.CodeOf.{case_of}
use Rattle.strat_code.specs.declared.instr.Case as coded
use Rattle.strat_machine.specs.Indexing.{IsIndexed}
use Rattle.strat_machine.specs.declared.tables.LoadedRoot.{LoadedRoot}
use Rattle.strat_machine.specs.declared.tables.LoadedRoot.TheVariants as roots
use Rattle.strat_machine.specs.declared.tables.LoadedCase.{LoadedCase}
use Rattle.strat_machine.specs.declared.tables.LoadedTable.{LoadedTable}

-- what a root over names stands for
abbrev pub root_meant : {N : Type 0} → (N → Symbol) → LoadedRoot N → Root
root_meant symbol_of roots.Any = any_root
root_meant symbol_of (roots.Integer z) = integer_root z
root_meant symbol_of (roots.Symbol f n) = symbol_root (symbol_of f) n
root_meant symbol_of (roots.List n o) = list_root n o

abbrev pub case_meant : {N : Type 0} → (N → Symbol) → LoadedCase N → Case
case_meant symbol_of c = case (root_meant symbol_of c.root) c.nodes c.body c.otherwise

-- the term has the root of the case
abbrev pub case_has : {N : Type 0} → (N → Symbol) → Tree → LoadedCase N → Bool
case_has symbol_of t c = has_root (root_meant symbol_of c.root) t

-- the name in the root is known, if it has one
abbrev pub RootKnown : {N : Type 0} → (N → Bool) → LoadedRoot N → Type 0
RootKnown knows roots.Any = Unit {0}
RootKnown knows (roots.Integer z) = Unit {0}
RootKnown knows (roots.Symbol f n) = IsTrue (knows f)
RootKnown knows (roots.List n o) = Unit {0}

abbrev pub CasesKnown : {N : Type 0} → (N → Bool) → List (LoadedCase N) → Type 0
CasesKnown knows [] = Unit {0}
CasesKnown knows (c ∷ cs) = RootKnown knows c.root × CasesKnown knows cs

-- the names of the cases are known, and what index there is is theirs
pub record TableKnown {N : Type 0} (knows : N → Bool) (number_of : N → ℕ) (t : LoadedTable N) : Type 0 where
  pub cases : CasesKnown knows t.cases.items
  pub index : IsIndexed number_of t

abbrev pub TablesKnown : {N : Type 0} → (N → Bool) → (N → ℕ) → List (LoadedTable N) → Type 0
TablesKnown knows number_of [] = Unit {0}
TablesKnown knows number_of (t ∷ ts) = TableKnown knows number_of t × TablesKnown knows number_of ts

-- the cases of a table, if there is one at this position
abbrev pub loaded_at : {N : Type 0} → List (LoadedTable N) → ℕ → List (LoadedCase N)
loaded_at [] j = []
loaded_at (t ∷ ts) zero = t.cases.items
loaded_at (t ∷ ts) (suc j) = loaded_at ts j

-- what the cases of a table stand for, without its first k ones
abbrev pub cases_meant : {N : Type 0} → (N → Symbol) → List (LoadedTable N) → (table k : ℕ) → List Case
cases_meant symbol_of ts j k = drop k (map (case_meant symbol_of) (loaded_at ts j))

-- the primitive of this name with this number of arguments is at this position, or there is none
abbrev pub IsPosition : List NameKey → Option ℕ → NameKey → Type 0
IsPosition keys None key = Contains keys key → ⊥
IsPosition keys (Some i) key = (i < length keys) × (key_at keys i ≡ key)

-- the names in these are known, and they stand for those of a core
module _ {N : Type 0} (knows : N → Bool) (symbol_of : N → Symbol) where
  pub record IsLoadedRoot (r : LoadedRoot N) (q : Root) : Type 0 where
    pub known : RootKnown knows r
    pub is : root_meant symbol_of r ≡ q

  pub record AreLoadedCases (cs : List (LoadedCase N)) (ds : List Case) : Type 0 where
    pub known : CasesKnown knows cs
    pub are : map (case_meant symbol_of) cs ≡ ds

  module _ (number_of : N → ℕ) where
    pub record IsLoadedTable (t : LoadedTable N) (ds : List Case) : Type 0 where
      pub cases : AreLoadedCases t.cases.items ds
      pub index : IsIndexed number_of t

    abbrev pub AreLoadedTables : List (LoadedTable N) → List (Vec coded.Case Global) → Type 0
    AreLoadedTables [] [] = Unit {0}
    AreLoadedTables (t ∷ ts) (u ∷ us) = IsLoadedTable t (map case_of u.items) × AreLoadedTables ts us
    AreLoadedTables [] (u ∷ us) = ⊥
    AreLoadedTables (t ∷ ts) [] = ⊥
