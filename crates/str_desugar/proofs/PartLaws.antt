-- What the induction over strategies cites: facts of parts, and scopes around what has items in front of it.
use Rattle.std.proofs.Common.{◌≡◌, ℕ, ◌+◌, List, [], ◌∷◌, map, refl, sym, ◌∙◌, ap, arith}
use Rattle.std.specs.Prelude.{Bool, true, false, not, ◌||◌, cond}
use Rattle.std.proofs.lemmas.Bool.{or_parts}
use Rattle.core_lang.specs.Named.{NamedStrategy, NamedDefinitions, Name, written}
use Rattle.core_lang.specs.Program.{strategies_count, patterns_count}
use Rattle.core_lang.specs.Resolution.{Scopes, names, defined}
use Rattle.scope_check.specs.Seen.{Seen, among, inner, plain_key, in_body}
use Rattle.str_syntax.specs.Arity.{number_of_patterns, number_of_strategies, strategy_names}
use Rattle.str_syntax.specs.Trees.{Bytes, ParameterTree, head, PatternTree, PatternTrees, no_patterns, more_patterns, StrategyTrees, no_strategies, more_strategies}
use Rattle.str_desugar.specs.Brought.{kept}
use Rattle.str_desugar.specs.Equations.{applications, applications_among, built, built_parts, results, results_among, build_after, call_after, strategies_core}
use Rattle.str_desugar.specs.Variables.{each_once, without, names_of, names_among}
use Rattle.str_desugar.proofs.BoundLaws.{IsBound, bound_in_definitions}
use Rattle.str_desugar.proofs.BroughtNames.{BringsResults}
use Rattle.str_desugar.proofs.FormLaws.{IsResolved, AllResolved, within, bound_in_scope, keeps, results_brought, bound_kept, sees_kept, build_resolved, call_resolved}
use Rattle.str_desugar.proofs.NameLists.{AreBound, in_without, in_once, same_self}
use Rattle.str_desugar.proofs.PatternResolution.{built_resolved}
use Rattle.str_desugar.proofs.SeenLaws.{Sees, sees_parameters}

-- ---- tests that fail

-- both tests fail
abbrev pub Neither : Bool → Bool → Type 0
Neither a b = (a ≡ false) × (b ≡ false)

pub neither_first : (a b c d : Bool) → Neither (a || b) (c || d) → Neither a c
neither_first a b c d h = ((or_parts a b h.0).0, (or_parts c d h.1).0)

pub neither_rest : (a b c d : Bool) → Neither (a || b) (c || d) → Neither b d
neither_rest a b c d h = ((or_parts a b h.0).1, (or_parts c d h.1).1)

-- what is no congruence is seen
pub is_known : (b c : Bool) → not (b || c) ≡ false → b ≡ false → c ≡ true
is_known b true e h = refl
is_known true false e h = absurd (cc)
is_known false false e h = absurd (cc)

pub either_resolved : (S : Scopes) (b : Bool) (s t : NamedStrategy) → (b ≡ true → IsResolved S s) →
    (b ≡ false → IsResolved S t) →
    IsResolved S (cond b s t)
either_resolved S true s t r q = r refl
either_resolved S false s t r q = q refl

-- ---- names and calls in further layers

pub bound_past : (S : Scopes) (ds : NamedDefinitions) (xs : List Bytes) → AreBound S xs → AreBound (defined ds S) xs
bound_past S ds xs bound = λ x e. bound_in_definitions S ds (written x) (bound x e)

-- a scope of each of the names once binds them
pub bound_once : (S : Scopes) (zs xs : List Bytes) → AreBound S (without zs xs) → AreBound (within S (each_once zs)) xs
bound_once S zs xs bound = λ y e. bound_in_scope S (each_once zs)
    y (λ none. bound y (in_without y zs xs e (sym (in_once y zs) ∙ none)))

pub sees_body : (S : Scopes) (f : Bytes) (ps : ParameterTree) (xs : List Name) (L : Seen) → Sees S L →
    Sees (names (map written (strategy_names ps)) xs S) (in_body (head f ps) L)
sees_body S f ps xs L sees = sees_parameters S (strategy_names ps) xs L sees

pub seen_first : (f : Bytes) (L : Seen) → inner (among (plain_key f ∷ [])) L (plain_key f) ≡ true
seen_first f L = rw (same_self f) refl

-- ---- as many as there are

module _ (declared : Bytes → ℕ → Bool) where
  pub as_many_strategies : (ss : StrategyTrees) →
      strategies_count (strategies_core declared ss) ≡ number_of_strategies ss
  as_many_strategies no_strategies = refl
  as_many_strategies (more_strategies s ss) = ap (λ k. 1 + k) (as_many_strategies ss) ∙ omega arith

  -- ---- what has items in front of it

  pub built_by : (S : Scopes) (L : Seen) (p : PatternTree) → AreBound S (names_of p) → Sees S L →
      ((T : Scopes) → IsBound T kept → BringsResults T (applications p) → AreBound T (names_of p) → Sees T L →
      AllResolved T (results declared 0 p)) →
      IsResolved S (build_after (applications p) (results declared 0 p) (built 0 p))
  built_by S L p bound sees items =
      let n : ℕ = applications p in
      build_resolved S n (results declared 0 p) (built 0 p)
      (λ kept_bound. items (keeps S n) kept_bound (results_brought S n) (bound_kept S n (names_of p) bound)
      (sees_kept S n L sees))
      (built_resolved (keeps S n) n 0 p (bound_kept S n (names_of p) bound) (results_brought S n) (omega arith))

  pub called_by : (S : Scopes) (L : Seen) (ps : PatternTrees) (s : NamedStrategy) → AreBound S (names_among ps) →
      Sees S L →
      ((T : Scopes) → IsBound T kept → BringsResults T (applications_among ps) → AreBound T (names_among ps) →
      Sees T L → AllResolved T (results_among declared 0 ps)) →
      IsResolved (keeps S (applications_among ps)) s →
      IsResolved S (call_after (applications_among ps) (results_among declared 0 ps) s)
  called_by S L ps s bound sees items r =
      let n : ℕ = applications_among ps in
      call_resolved S n (results_among declared 0 ps) s
      (λ kept_bound. items (keeps S n) kept_bound (results_brought S n) (bound_kept S n (names_among ps) bound)
      (sees_kept S n L sees)) r

pub as_many_patterns : (i : ℕ) (ps : PatternTrees) → patterns_count (built_parts i ps) ≡ number_of_patterns ps
as_many_patterns i no_patterns = refl
as_many_patterns i (more_patterns p ps) = ap (λ k. 1 + k) (as_many_patterns (i + applications p) ps) ∙ omega arith
