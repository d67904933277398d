-- The forms that the equations make are resolved where their items are.
use Rattle.std.proofs.Common.{◌≡◌, ℕ, zero, suc, ◌+◌, ◌<◌, List, [], ◌∷◌, ◌++◌, map, refl, sym, subst, arith}
use Rattle.std.specs.Prelude.{false}
use Rattle.term_model.specs.Symbol.{Symbol}
use Rattle.core_lang.specs.Named.{NamedStrategy, NamedStrategies, Name, written, brought}
use Rattle.core_lang.specs.Program.{Pattern, Patterns, alias, like, applied, list, match, build, call, variable, strategies_count, patterns_count}
use Rattle.core_lang.specs.Resolution.{Scopes, names, to_variable, to_alias, to_applied, to_list, to_like, to_no_patterns, to_no_elements, Resolves, to_id, to_fail, to_seq, to_choice, to_match, to_build, to_scope, to_call, ResolvesStrategies}
use Rattle.scope_check.specs.Seen.{Seen}
use Rattle.str_syntax.specs.Trees.{Bytes}
use Rattle.str_desugar.specs.Alternatives.{first_success}
use Rattle.str_desugar.specs.Brought.{first_names, kept, patterns_from, elements_from, elements_and_rest_from}
use Rattle.str_desugar.specs.Equations.{in_turn, scoped, keeping, where_core, build_after, call_after, congruence_of, symbol_congruence, elements_congruence, rest_congruence, part_of, result_of}
use Rattle.str_desugar.specs.Frames.{frames_of, strategy_at, strategies_at}
use Rattle.str_desugar.proofs.BoundLaws.{IsBound, IsCallable, bound_in_names}
use Rattle.str_desugar.proofs.BroughtNames.{Brings, BringsResults, brings, patterns_resolved, elements_resolved, elements_and_rest_resolved}
use Rattle.str_desugar.proofs.NameLists.{is_in, AreBound, bound_further, not_in}
use Rattle.str_desugar.proofs.PatternResolution.{PatternResolved, PatternsResolved}
use Rattle.str_desugar.proofs.SeenLaws.{Sees, sees_further}

-- the strategy over coordinates that these layers give is the strategy, resolved
abbrev pub IsResolved : Scopes → NamedStrategy → Type 0
IsResolved S s = Resolves S s (strategy_at (frames_of S) s)

abbrev pub StrategiesResolved : Scopes → NamedStrategies → Type 0
StrategiesResolved S ss = ResolvesStrategies S ss (strategies_at (frames_of S) ss)

abbrev pub AllResolved : Scopes → List NamedStrategy → Type 0
AllResolved S [] = Unit {0}
AllResolved S (s ∷ ss) = IsResolved S s × AllResolved S ss

pub all_and : (S : Scopes) (ss ts : List NamedStrategy) → AllResolved S ss → AllResolved S ts → AllResolved S (ss ++ ts)
all_and S [] ts r q = q
all_and S (s ∷ ss) ts r q = (r.0, all_and S ss ts r.1 q)

pub in_turn_resolved : (S : Scopes) (s : NamedStrategy) (ss : List NamedStrategy) → IsResolved S s → AllResolved S ss →
    IsResolved S (in_turn s ss)
in_turn_resolved S s [] r q = r
in_turn_resolved S s (t ∷ ss) r q = to_seq r (in_turn_resolved S t ss q.0 q.1)

pub first_success_resolved : (S : Scopes) (ss : List NamedStrategy) → AllResolved S ss → IsResolved S (first_success ss)
first_success_resolved S [] r = to_fail
first_success_resolved S (s ∷ []) r = r.0
first_success_resolved S (s ∷ t ∷ ss) r = to_choice r.0 to_id (first_success_resolved S (t ∷ ss) r.1)

-- ---- scopes of written names

-- the layers in a scope of these names, if there are any
abbrev pub within : Scopes → List Bytes → Scopes
within S [] = S
within S (x ∷ xs) = names [] (map written (x ∷ xs)) S

pub scoped_resolved : (S : Scopes) (xs : List Bytes) (s : NamedStrategy) → IsResolved (within S xs) s →
    IsResolved S (scoped xs s)
scoped_resolved S [] s r = r
scoped_resolved S (x ∷ xs) s r = to_scope refl r

pub bound_in_scope : (S : Scopes) (xs : List Bytes) (y : Bytes) → (is_in y xs ≡ false → IsBound S (written y)) →
    IsBound (within S xs) (written y)
bound_in_scope S [] y outer = outer refl
bound_in_scope S (x ∷ xs) y outer =
    bound_in_names S [] (map written (x ∷ xs)) (written y) (λ none. outer (not_in y (x ∷ xs) none))

pub sees_in_scope : (S : Scopes) (xs : List Bytes) (L : Seen) → Sees S L → Sees (within S xs) L
sees_in_scope S [] L sees = sees
sees_in_scope S (x ∷ xs) L sees = sees_further S [] (map written (x ∷ xs)) L sees

-- ---- scopes that keep the current term

-- the layers in a scope that keeps the current term, with place for k results; without results there is no such scope
abbrev pub keeps : Scopes → ℕ → Scopes
keeps S zero = S
keeps S (suc k) = names [] (first_names (suc (suc k))) S

pub results_brought : (S : Scopes) (k : ℕ) → BringsResults (keeps S k) k
results_brought S zero = λ j h. absurd (omega arith)
results_brought S (suc k) = λ j h. brings S (suc (suc k)) (suc j) (omega arith)

pub bound_kept : (S : Scopes) (k : ℕ) (xs : List Bytes) → AreBound S xs → AreBound (keeps S k) xs
bound_kept S zero xs bound = bound
bound_kept S (suc k) xs bound = bound_further S [] (first_names (suc (suc k))) xs bound

pub sees_kept : (S : Scopes) (k : ℕ) (L : Seen) → Sees S L → Sees (keeps S k) L
sees_kept S zero L sees = sees
sees_kept S (suc k) L sees = sees_further S [] (first_names (suc (suc k))) L sees

keeping_resolved : (S : Scopes) (k : ℕ) (items : List NamedStrategy) →
    AllResolved (names [] (first_names (suc k)) S) items → IsResolved S (keeping k items)
keeping_resolved S k items r =
    to_scope refl (in_turn_resolved (names [] (first_names (suc k)) S) (match (variable kept))
    items (to_match (to_variable (brings S (suc k) 0 (omega arith)))) r)

pub where_resolved : (S : Scopes) (s : NamedStrategy) → IsResolved (names [] (first_names 1) S) s →
    IsResolved S (where_core s)
where_resolved S s r =
    keeping_resolved S 0 (s ∷ build (variable kept) ∷ []) (r, (to_build (to_variable (brings S 1 0 (omega arith))), tt))

-- a build after the items for its results
pub build_resolved : (S : Scopes) (k : ℕ) (items : List NamedStrategy) (p : Pattern Name) →
    (IsBound (keeps S k) kept → AllResolved (keeps S k) items) →
    PatternResolved (keeps S k) p → IsResolved S (build_after k items p)
build_resolved S zero items p r q = to_build q
build_resolved S (suc k) items p r q =
    let T : Scopes = names [] (first_names (suc (suc k))) S in
    keeping_resolved S (suc k) (items ++ build p ∷ [])
    (all_and T items (build p ∷ []) (r (brings S (suc (suc k)) 0 (omega arith))) (to_build q, tt))

-- a call or a primitive after the items for its arguments
pub call_resolved : (S : Scopes) (k : ℕ) (items : List NamedStrategy) (s : NamedStrategy) →
    (IsBound (keeps S k) kept → AllResolved (keeps S k) items) →
    IsResolved (keeps S k) s → IsResolved S (call_after k items s)
call_resolved S zero items s r q = q
call_resolved S (suc k) items s r q =
    let T : Scopes = names [] (first_names (suc (suc k))) S in
    let kept_bound : IsBound T kept = brings S (suc (suc k)) 0 (omega arith) in
    keeping_resolved S (suc k) (items ++ build (variable kept) ∷ s ∷ [])
    (all_and T items (build (variable kept) ∷ s ∷ []) (r kept_bound) (to_build (to_variable kept_bound), (q, tt)))

-- the items for one result
pub result_resolved : (T : Scopes) (n i : ℕ) (items : List NamedStrategy) → IsBound T kept → BringsResults T n → i < n →
    AllResolved T items →
    AllResolved T (result_of i items)
result_resolved T n i items kept_bound results h r = (
  to_build (to_variable kept_bound),
  all_and T items (match (variable (brought (suc i))) ∷ []) r (to_match (to_variable (results i h)), tt),
)

-- ---- congruences

-- the items for the ith part of n
pub part_resolved : (T : Scopes) (n i : ℕ) (s : NamedStrategy) → Brings T (suc (n + n)) → i < n → IsResolved T s →
    AllResolved T (part_of n i s)
part_resolved T n i s bound h r = (
  to_build (to_variable (bound (suc i) (omega arith))),
  (r, (to_match (to_variable (bound (suc (n + i)) (omega arith))), tt)),
)

-- the layers in a congruence of n parts
abbrev pub congruent : Scopes → ℕ → Scopes
congruent S n = names [] (first_names (suc (n + n))) S

congruence_resolved : (S : Scopes) (n : ℕ) (p : Pattern Name) (items : List NamedStrategy) (q : Pattern Name) →
    PatternResolved (congruent S n) p →
    AllResolved (congruent S n) items → PatternResolved (congruent S n) q → IsResolved S (congruence_of n p items q)
congruence_resolved S n p items q matches r builds =
    let T : Scopes = congruent S n in
    let kept_bound : IsBound T kept = brings S (suc (n + n)) 0 (omega arith) in
    to_scope refl (in_turn_resolved T (match (alias kept p)) (items ++ build (like q kept) ∷ [])
    (to_match (to_alias kept_bound matches))
    (all_and T items (build (like q kept) ∷ []) r (to_build (to_like builds kept_bound), tt)))

pub symbol_resolved : (S : Scopes) (f : Symbol) (n : ℕ) (items : List NamedStrategy) →
    AllResolved (congruent S n) items → IsResolved S (symbol_congruence f n items)
symbol_resolved S f zero items r = to_match (to_applied to_no_patterns)
symbol_resolved S f (suc m) items r =
    let T : Scopes = congruent S (suc m) in
    let bound : Brings T (suc (suc m + suc m)) = brings S (suc (suc m + suc m)) in
    congruence_resolved S (suc m) (applied f (patterns_from 1 (suc m)))
    items (applied f (patterns_from (suc (suc m)) (suc m)))
    (to_applied (patterns_resolved T (suc (suc m + suc m)) 1 (suc m) bound (omega arith))) r
    (to_applied (patterns_resolved T (suc (suc m + suc m)) (suc (suc m)) (suc m) bound (omega arith)))

pub list_resolved : (S : Scopes) (n : ℕ) (items : List NamedStrategy) → AllResolved (congruent S n) items →
    IsResolved S (elements_congruence n items)
list_resolved S zero items r = to_match (to_list to_no_elements)
list_resolved S (suc m) items r =
    let T : Scopes = congruent S (suc m) in
    let bound : Brings T (suc (suc m + suc m)) = brings S (suc (suc m + suc m)) in
    congruence_resolved S (suc m) (list (elements_from 1 (suc m))) items (list (elements_from (suc (suc m)) (suc m)))
    (to_list (elements_resolved T (suc (suc m + suc m)) 1 (suc m) bound (omega arith))) r
    (to_list (elements_resolved T (suc (suc m + suc m)) (suc (suc m)) (suc m) bound (omega arith)))

pub rest_resolved : (S : Scopes) (n : ℕ) (items : List NamedStrategy) → AllResolved (congruent S (suc n)) items →
    IsResolved S (rest_congruence n items)
rest_resolved S n items r =
    let T : Scopes = congruent S (suc n) in
    let bound : Brings T (suc (suc n + suc n)) = brings S (suc (suc n + suc n)) in
    congruence_resolved S (suc n) (list (elements_and_rest_from 1 n))
    items (list (elements_and_rest_from (suc (suc n)) n))
    (to_list (elements_and_rest_resolved T (suc (suc n + suc n)) 1 n bound (omega arith))) r
    (to_list (elements_and_rest_resolved T (suc (suc n + suc n)) (suc (suc n)) n bound (omega arith)))

-- ---- calls

pub called_resolved : (S : Scopes) (f : Name) (m k : ℕ) (ss : NamedStrategies) (ps : Patterns Name) →
    IsCallable S f m k →
    strategies_count ss ≡ m → patterns_count ps ≡ k → StrategiesResolved S ss → PatternsResolved S ps →
    IsResolved S (call f ss ps)
called_resolved S f m k ss ps callable as_many so_many r q =
    to_call (subst (λ i. IsCallable S f i (patterns_count ps)) (sym as_many)
    (subst (λ j. IsCallable S f m j) (sym so_many) callable)) r q
