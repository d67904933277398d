-- The headline does not rest on this file.
-- Chains of alternatives: the cases of their tables, and the selects in front of their code.
use Rattle.std.specs.Prelude.{ℕ, zero, suc, ◌+◌, Bool, true, false, List, [], ◌∷◌, length, drop}
use Rattle.core_lang.specs.Roots.{Root, any_root, integer_root, symbol_root, list_root}
use Rattle.strat_code.specs.Code.{Case, case, select, Code}
use Rattle.strat_compile.specs.Output.{Emitted, onto}

-- whether anything is asked of a root
abbrev pub asks : Root → Bool
asks any_root = false
asks (integer_root z) = true
asks (symbol_root f n) = true
asks (list_root n o) = true

-- an alternative whose code has been emitted: the roots that it asks for, the nodes of its derivation where the term
-- has none of them, and the place of its code
pub record Body : Type 0 where
  pub roots : List Root
  pub nodes : ℕ
  pub start : ℕ

-- the nodes of a case, after which there are this number of further ones of its alternative: the last one has them
abbrev pub nodes_of_case : (others nodes : ℕ) → ℕ
nodes_of_case zero nodes = nodes
nodes_of_case (suc others) nodes = 0

-- a case for each root, in front of others
abbrev pub cases_onto : List Root → (nodes start otherwise : ℕ) → List Case → List Case
cases_onto [] nodes start otherwise cs = cs
cases_onto (r ∷ rs) nodes start otherwise cs =
    case r (nodes_of_case (length rs) nodes) start otherwise ∷ cases_onto rs nodes start otherwise cs

-- the nodes of an alternative after which `left` others come, where the term has another root: with that of the next
-- choice
abbrev pub nodes_passed : (left nodes : ℕ) → ℕ
nodes_passed zero nodes = nodes
nodes_passed (suc left) nodes = suc nodes

-- Where a failure in an alternative goes on after which `left` others come. After the last one it is the place `last`,
-- and the end of the choice; after another it is the select for those that are left. The code without the selects
-- begins at the place `base`
abbrev pub place_passed : (left base last : ℕ) → ℕ
place_passed zero base last = last
place_passed (suc left) base last = base + suc left

abbrev pub cases_between : List Body → (base last : ℕ) → List Case
cases_between [] base last = []
cases_between (b ∷ bs) base last =
    cases_onto b.roots (nodes_passed (length bs) b.nodes) b.start (place_passed (length bs) base last)
    (cases_between bs base last)

-- for each alternative, how many cases come before its own, where this number come before those of the first
abbrev pub skipped_from : ℕ → List Body → List ℕ
skipped_from k [] = []
skipped_from k (b ∷ bs) = k ∷ skipped_from (k + length b.roots) bs

-- a select for the cases from each of these positions on, one node each, in front of the code
abbrev pub selects_at : List ℕ → List Case → (last : ℕ) → Code → Code
selects_at [] ks last c = c
selects_at (j ∷ js) ks last c = select 1 (drop j ks) last ∷ selects_at js ks last c

abbrev pub selects_from : List ℕ → List Case → (last : ℕ) → Emitted → Emitted
selects_from js ks last o = record { code = selects_at js ks last o.code; starts = o.starts }

-- a select for the cases of each alternative and those after it, one node each, in front of the code
abbrev pub selects : List Body → (base last : ℕ) → Code → Code
selects [] base last c = c
selects (b ∷ bs) base last c = select 1 (cases_between (b ∷ bs) base last) last ∷ selects bs base last c

-- the same, but for the first select, which is charged n nodes
abbrev pub selects_onto : (n : ℕ) → List Body → (base last : ℕ) → Emitted → Emitted
selects_onto n bs base last o =
    onto (select n (cases_between bs base last) last)
    (record { code = selects (drop 1 bs) base last o.code; starts = o.starts })
