-- Instructions and the tables that they select from.
use Rattle.std.proofs.Common.{◌≡◌, ◌<◌, ◌≤◌, ◌++◌, ℕ, zero, suc, Bool, true, false, List, [], ◌∷◌, map, length, length-append, drop, reverse, refl, ap, ap₂, sym, ◌∙◌, subst, arith, Vec, Global}
use Rattle.std.specs.Prelude.{IsTrue, nat_lt, ◌&&◌, if◌then◌else◌}
use Rattle.std.proofs.lemmas.Bool.{ltb-true, lt-ltb}
use Rattle.std.specs.List.{list_all}
use Rattle.strat_code.specs.Code as model
use Rattle.strat_code.specs.Code.{select}
use Rattle.strat_code.specs.CodeOf.{instr_of, code_of, cases_of, case_of, table_at}
use Rattle.strat_code.specs.declared.instr.Case.{Case}
use Rattle.strat_code.specs.declared.instr.Instr.{Instr}
use Rattle.strat_code.specs.declared.instr.Instr.TheVariants as forms
use Rattle.strat_compile.specs.Located.{AreLocated, address, case_located}
use Rattle.strat_compile.specs.Output.{Emitted}
use Rattle.strat_compile.specs.Tables.{has_table, SelectsNot, HaveTables, IsTable}

below : (j n : ℕ) → IsTrue (nat_lt j n) → j < n
below j n h = ltb-true j n h

both : (a b : Bool) → IsTrue a → IsTrue b → IsTrue (a && b)
both true b h k = k
both false b h k = cc

first : (a b : Bool) → IsTrue (a && b) → IsTrue a
first true b h = refl
first false b h = cc

second : (a b : Bool) → IsTrue (a && b) → IsTrue b
second true b h = h
second false b h = cc

-- an instruction that selects from no table is the same with all tables
pub same_tables : (ts us : List (Vec Case Global)) (v : Instr) → SelectsNot v → instr_of ts v ≡ instr_of us v
same_tables ts us (forms.Count k) h = refl
same_tables ts us (forms.GiveUp k) h = refl
same_tables ts us (forms.Match k p) h = refl
same_tables ts us (forms.Build k p) h = refl
same_tables ts us (forms.Enter k m) h = refl
same_tables ts us forms.Leave h = refl
same_tables ts us (forms.Extend k m) h = refl
same_tables ts us (forms.Shrink m) h = refl
same_tables ts us (forms.Try k a) h = refl
same_tables ts us (forms.Commit k a) h = refl
same_tables ts us (forms.Select k j m a) h = absurd (none (below j 0 h))
  where
    none : {i : ℕ} → i < 0 → ⊥
    none h = omega (arith, h)
same_tables ts us (forms.Jump a) h = refl
same_tables ts us (forms.Traverse k m a) h = refl
same_tables ts us forms.PartDone h = refl
same_tables ts us (forms.CallDefinition k f a m to vs ps) h = refl
same_tables ts us (forms.CallClosure k y) h = refl
same_tables ts us forms.EndDefinition h = refl
same_tables ts us forms.EndArgument h = refl
same_tables ts us (forms.ApplyPrimitive k f ps) h = refl
same_tables ts us forms.Finish h = refl

-- with further tables each table is still there
pub has_more : {m n : ℕ} → m ≤ n → (v : Instr) → IsTrue (has_table m v) → IsTrue (has_table n v)
has_more more (forms.Count k) h = refl
has_more more (forms.GiveUp k) h = refl
has_more more (forms.Match k p) h = refl
has_more more (forms.Build k p) h = refl
has_more more (forms.Enter k m) h = refl
has_more more forms.Leave h = refl
has_more more (forms.Extend k m) h = refl
has_more more (forms.Shrink m) h = refl
has_more more (forms.Try k a) h = refl
has_more more (forms.Commit k a) h = refl
has_more {m} {n} more (forms.Select k j i a) h = let there = below j m h in lt-ltb j n (omega arith)
has_more more (forms.Jump a) h = refl
has_more more (forms.Traverse k m a) h = refl
has_more more forms.PartDone h = refl
has_more more (forms.CallDefinition k f a m to vs ps) h = refl
has_more more (forms.CallClosure k y) h = refl
has_more more forms.EndDefinition h = refl
has_more more forms.EndArgument h = refl
has_more more (forms.ApplyPrimitive k f ps) h = refl
has_more more forms.Finish h = refl

all_more : {m n : ℕ} → m ≤ n → (vs : List Instr) → IsTrue (list_all (has_table m) vs) →
    IsTrue (list_all (has_table n) vs)
all_more more [] h = refl
all_more {m} {n} more (v ∷ vs) h =
    both (has_table n v) (list_all (has_table n) vs)
    (has_more more v (first (has_table m v) (list_all (has_table m) vs) h))
    (all_more more vs (second (has_table m v) (list_all (has_table m) vs) h))

pub tables_more : (ts us : List (Vec Case Global)) (vs : List Instr) → HaveTables ts vs → HaveTables (ts ++ us) vs
tables_more ts us vs h = all_more (let longer = length-append ts us in omega arith) vs h

pub one_more : (ts : List (Vec Case Global)) (vs : List Instr) (v : Instr) → HaveTables ts vs →
    IsTrue (has_table (length ts) v) → HaveTables ts (vs ++ v ∷ [])
one_more ts [] v h k = both (has_table (length ts) v) true k refl
one_more ts (u ∷ vs) v h k =
    both (has_table (length ts) u) (list_all (has_table (length ts)) (vs ++ v ∷ []))
    (first (has_table (length ts) u) (list_all (has_table (length ts)) vs) h)
    (one_more ts vs v (second (has_table (length ts) u) (list_all (has_table (length ts)) vs) h) k)

got_first : (ts us : List (Vec Case Global)) (j : ℕ) → j < length ts → table_at (ts ++ us) j ≡ table_at ts j
got_first [] us j h = absurd (omega arith)
got_first (t ∷ ts) us zero h = refl
got_first (t ∷ ts) us (suc j) h = got_first ts us j (omega arith)

pub got_last : (ts : List (Vec Case Global)) (t : Vec Case Global) → table_at (ts ++ t ∷ []) (length ts) ≡ t.items
got_last [] t = refl
got_last (u ∷ ts) t = got_last ts t

-- with further tables an instruction is the same
instr_kept : (ts us : List (Vec Case Global)) (v : Instr) → IsTrue (has_table (length ts) v) →
    instr_of (ts ++ us) v ≡ instr_of ts v
instr_kept ts us (forms.Count k) h = refl
instr_kept ts us (forms.GiveUp k) h = refl
instr_kept ts us (forms.Match k p) h = refl
instr_kept ts us (forms.Build k p) h = refl
instr_kept ts us (forms.Enter k m) h = refl
instr_kept ts us forms.Leave h = refl
instr_kept ts us (forms.Extend k m) h = refl
instr_kept ts us (forms.Shrink m) h = refl
instr_kept ts us (forms.Try k a) h = refl
instr_kept ts us (forms.Commit k a) h = refl
instr_kept ts us (forms.Select k j m a) h =
    ap (λ cs. select k (drop m (map case_of cs)) a) (got_first ts us j (below j (length ts) h))
instr_kept ts us (forms.Jump a) h = refl
instr_kept ts us (forms.Traverse k m a) h = refl
instr_kept ts us forms.PartDone h = refl
instr_kept ts us (forms.CallDefinition k f a m to vs ps) h = refl
instr_kept ts us (forms.CallClosure k y) h = refl
instr_kept ts us forms.EndDefinition h = refl
instr_kept ts us forms.EndArgument h = refl
instr_kept ts us (forms.ApplyPrimitive k f ps) h = refl
instr_kept ts us forms.Finish h = refl

pub code_kept : (ts us : List (Vec Case Global)) (vs : List Instr) → HaveTables ts vs →
    code_of (ts ++ us) vs ≡ code_of ts vs
code_kept ts us [] h = refl
code_kept ts us (v ∷ vs) h =
    ap₂ (λ w ws. w ∷ ws) (instr_kept ts us v (first (has_table (length ts) v) (list_all (has_table (length ts)) vs) h))
    (code_kept ts us vs (second (has_table (length ts) v) (list_all (has_table (length ts)) vs) h))

abbrev pub table_of : Vec Case Global → List model.Case
table_of t = map case_of t.items

abbrev pub table_located : ℕ → Vec Case Global → List model.Case
table_located n t = map (case_located n) (table_of t)

-- tables of which each has addresses in place of places
one_located : (n : ℕ) (ts us : List (Vec Case Global)) → map table_of us ≡ map (table_located n) ts → (j : ℕ) →
    map case_of (table_at us j) ≡ map (case_located n) (map case_of (table_at ts j))
one_located n [] [] h j = refl
one_located n [] (u ∷ us) h j = cc
one_located n (t ∷ ts) [] h j = cc
one_located n (t ∷ ts) (u ∷ us) h zero = cc
one_located n (t ∷ ts) (u ∷ us) h (suc j) = one_located n ts us (cc) j

drop_located : (n k : ℕ) (cs : List model.Case) → drop k (map (case_located n) cs) ≡ map (case_located n) (drop k cs)
drop_located n zero cs = refl
drop_located n (suc k) [] = refl
drop_located n (suc k) (c ∷ cs) = drop_located n k cs

pub are_located : (n : ℕ) (ts us : List (Vec Case Global)) → map table_of us ≡ map (table_located n) ts →
    AreLocated n ts us
are_located n ts us h = record {
  each =
      λ j k. ap (λ cs. drop k cs) (one_located n ts us h j) ∙ drop_located n k (map case_of (table_at ts j));
}

-- an instruction with addresses, for other tables that are equal in what it selects from
pub select_located : (n : ℕ) (ts us : List (Vec Case Global)) (k j m a b : ℕ) → b ≡ address n a → AreLocated n ts us →
    select k (cases_of us j m) b ≡ select k (map (case_located n) (cases_of ts j m)) (address n a)
select_located n ts us k j m a b is h = ap₂ (λ cs c. select k cs c) (h.each j m) is

pub is_table : (ts us : List (Vec Case Global)) (t : Vec Case Global) (j : ℕ) → j ≡ length ts → us ≡ ts ++ t ∷ [] →
    IsTable us j (map case_of t.items)
is_table ts us t j last all =
    subst (λ ws. IsTable ws j (map case_of t.items)) (sym all)
    (subst (λ i. IsTable (ts ++ t ∷ []) i (map case_of t.items)) (sym last)
    (record {
      there = (let longer = length-append ts (t ∷ []) in omega (arith, longer));
      cases =
          ap (λ cs. map case_of cs) (got_last ts t);
    }))

pub view_kept : (ts us : List (Vec Case Global)) (t : Vec Case Global) (vs : List Instr) (A : List ℕ) →
    HaveTables ts vs → us ≡ ts ++ t ∷ [] →
    (let view : List (Vec Case Global) → Emitted = λ ws. record { code = reverse (code_of ws vs); starts = A } in
    view us ≡ view ts)
view_kept ts us t vs A h is = ap (λ c. record { code = reverse c; starts = A }) (ap (λ ws. code_of ws vs) is ∙
    code_kept ts (t ∷ []) vs h)

-- whether a table was added or not, each that instructions select from is there
pub tables_pushed : (b : Bool) (ts us : List (Vec Case Global)) (t : Vec Case Global) (vs : List Instr) →
    HaveTables ts vs → us ≡ (if b then (ts ++ t ∷ []) else ts) → HaveTables us vs
tables_pushed true ts us t vs h is = subst (λ ws. HaveTables ws vs) (sym is) (tables_more ts (t ∷ []) vs h)
tables_pushed false ts us t vs h is = subst (λ ws. HaveTables ws vs) (sym is) h
