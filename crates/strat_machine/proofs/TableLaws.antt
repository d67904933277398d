-- Tables stay those of code for as long as their names are known.
use Rattle.std.proofs.Common.{◌≡◌, ◌+◌, ◌<◌, ℕ, List, [], ◌∷◌, ◌++◌, length, take, get_or, map, Vec, Global, refl, sym, ◌∙◌, ap, subst}
use Rattle.std.specs.Prelude.{Bool, IsTrue}
use Rattle.std.proofs.lemmas.List.{map-append, take_more}
use Rattle.term_model.specs.Symbol.{Symbol}
use Rattle.core_lang.specs.Roots.{symbol_root}
use Rattle.strat_code.specs.Code.{Case, case}
use Rattle.strat_code.specs.CodeOf.{case_of, root_of}
use Rattle.strat_code.specs.declared.instr.Case as coded
use Rattle.strat_machine.specs.declared.tables.LoadedRoot.{LoadedRoot}
use Rattle.strat_machine.specs.declared.tables.LoadedRoot.TheVariants as roots
use Rattle.strat_machine.specs.declared.tables.LoadedCase.{LoadedCase}
use Rattle.strat_machine.specs.declared.tables.LoadedTable.{LoadedTable}
use Rattle.strat_machine.specs.Tables.{root_meant, case_meant, RootKnown, CasesKnown, IsLoadedRoot, AreLoadedCases, IsLoadedTable, AreLoadedTables}

module _ {N : Type 0} {knows knows1 : N → Bool} {symbol_of symbol_of1 : N → Symbol} (later : (n : N) →
    IsTrue (knows n) → IsTrue (knows1 n)) (same : (n : N) → IsTrue (knows n) → symbol_of1 n ≡ symbol_of n) where
  root_known_later : (r : LoadedRoot N) → RootKnown knows r → RootKnown knows1 r
  root_known_later roots.Any h = tt
  root_known_later (roots.Integer z) h = tt
  root_known_later (roots.Symbol f n) h = later f h
  root_known_later (roots.List n o) h = tt

  root_same : (r : LoadedRoot N) → RootKnown knows r → root_meant symbol_of1 r ≡ root_meant symbol_of r
  root_same roots.Any h = refl
  root_same (roots.Integer z) h = refl
  root_same (roots.Symbol f n) h = ap (λ s. symbol_root s n) (same f h)
  root_same (roots.List n o) h = refl

  cases_known_later : (cs : List (LoadedCase N)) → CasesKnown knows cs → CasesKnown knows1 cs
  cases_known_later [] h = tt
  cases_known_later (c ∷ cs) h = (root_known_later c.root h.0, cases_known_later cs h.1)

  cases_same : (cs : List (LoadedCase N)) → CasesKnown knows cs →
      map (case_meant symbol_of1) cs ≡ map (case_meant symbol_of) cs
  cases_same [] h = refl
  cases_same (c ∷ cs) h = ap (λ r. case r c.nodes c.body c.otherwise ∷ map (case_meant symbol_of1) cs)
      (root_same c.root h.0) ∙ ap (λ ds. case_meant symbol_of c ∷ ds) (cases_same cs h.1)

  pub cases_later : {cs : List (LoadedCase N)} {ds : List Case} → AreLoadedCases knows symbol_of cs ds →
      AreLoadedCases knows1 symbol_of1 cs ds
  cases_later {cs} h = record { known = cases_known_later cs h.known; are = cases_same cs h.known ∙ h.are }

  pub tables_kept : (number_of : N → ℕ) (ts : List (LoadedTable N)) (us : List (Vec coded.Case Global)) →
      AreLoadedTables knows symbol_of number_of ts us → AreLoadedTables knows1 symbol_of1 number_of ts us
  tables_kept number_of [] [] h = tt
  tables_kept number_of (t ∷ ts) (u ∷ us) h =
      (record { cases = cases_later h.0.cases; index = h.0.index }, tables_kept number_of ts us h.1)
  tables_kept number_of [] (u ∷ us) h = absurd h
  tables_kept number_of (t ∷ ts) [] h = absurd h

-- one more
pub taken : {A : Type 0} (xs : List A) (i : ℕ) (x : A) → i < length xs → x ≡ get_or xs i x →
    take (i + 1) xs ≡ take i xs ++ x ∷ []
taken xs i x within at = take_more xs i x within ∙ ap (λ y. take i xs ++ y ∷ []) (sym at)

cases_known_push : {N : Type 0} (knows : N → Bool) (cs : List (LoadedCase N)) (c : LoadedCase N) → CasesKnown knows cs →
    RootKnown knows c.root → CasesKnown knows (cs ++ c ∷ [])
cases_known_push knows [] c h k = (k, tt)
cases_known_push knows (x ∷ cs) c h k = (h.0, cases_known_push knows cs c h.1 k)

module _ {N : Type 0} {knows : N → Bool} {symbol_of : N → Symbol} where
  pub one_more_case : (cs new : List (LoadedCase N)) (r : LoadedRoot N) (xs : List coded.Case) (i : ℕ)
      (x : coded.Case) → AreLoadedCases knows symbol_of cs (map case_of (take i xs)) →
      IsLoadedRoot knows symbol_of r (root_of x.root) → i < length xs → x ≡ get_or xs i x →
      new ≡ cs ++ record { root = r; nodes = x.nodes; body = x.body; otherwise = x.otherwise } ∷ [] →
      AreLoadedCases knows symbol_of new (map case_of (take (i + 1) xs))
  one_more_case cs new r xs i x h k within at is =
      let c : LoadedCase N = record { root = r; nodes = x.nodes; body = x.body; otherwise = x.otherwise } in
      subst (λ ys. AreLoadedCases knows symbol_of ys (map case_of (take (i + 1) xs))) (sym is) (record {
        known = cases_known_push knows cs c h.known k.known;
        are = map-append (case_meant symbol_of) cs (c ∷ []) ∙
            (ap (λ ys. ys ++ case_meant symbol_of c ∷ []) h.are ∙
            (ap (λ q. map case_of (take i xs) ++ case q x.nodes x.body x.otherwise ∷ []) k.is ∙
            sym (ap (map case_of) (taken xs i x within at) ∙ map-append case_of (take i xs) (x ∷ []))));
      })

  tables_push : {number_of : N →
      ℕ} (ts : List (LoadedTable N)) (us : List (Vec coded.Case Global)) (t : LoadedTable N)
      (u : Vec coded.Case Global) → AreLoadedTables knows symbol_of number_of ts us →
      IsLoadedTable knows symbol_of number_of t (map case_of u.items) →
      AreLoadedTables knows symbol_of number_of (ts ++ t ∷ []) (us ++ u ∷ [])
  tables_push [] [] t u h k = (k, tt)
  tables_push (a ∷ ts) (b ∷ us) t u h k = (h.0, tables_push ts us t u h.1 k)
  tables_push [] (b ∷ us) t u h k = absurd h
  tables_push (a ∷ ts) [] t u h k = absurd h

  pub one_more_table : {number_of : N →
      ℕ} (ts new : List (LoadedTable N)) (t : LoadedTable N) (xs : List (Vec coded.Case Global)) (i : ℕ)
      (x : Vec coded.Case Global) {cs : List coded.Case} → AreLoadedTables knows symbol_of number_of ts (take i xs) →
      cs ≡ x.items → IsLoadedTable knows symbol_of number_of t (map case_of cs) →
      i < length xs → x ≡ get_or xs i x → new ≡ ts ++ t ∷ [] →
      AreLoadedTables knows symbol_of number_of new (take (i + 1) xs)
  one_more_table {number_of} ts new t xs i x h are k within at is =
      subst (λ ys. AreLoadedTables knows symbol_of number_of ys (take (i + 1) xs)) (sym is)
      (subst (λ us. AreLoadedTables knows symbol_of number_of (ts ++ t ∷ []) us) (sym (taken xs i x within at))
      (tables_push ts (take i xs)
      t x h (subst (λ ds. IsLoadedTable knows symbol_of number_of t (map case_of ds)) are k)))
