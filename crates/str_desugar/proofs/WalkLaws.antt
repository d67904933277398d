-- Steps of the walk over strategies: what the code puts together is what the equations say, over coordinates.
use Rattle.std.proofs.Common.{◌≡◌, ℕ, zero, suc, ◌+◌, ◌<◌, Some, None, Bool, true, false, List, [], ◌∷◌, ◌++◌, map, refl, sym, ◌∙◌, ap, ap₂, arith, length, get_or, drop, Box, Global}
use Rattle.std.specs.Prelude.{cond}
use Rattle.std.specs.Borrow.{Bor}
use Rattle.std.proofs.lemmas.List.{append_assoc, append-nil}
use Rattle.term_model.specs.Symbol.{Symbol}
use Rattle.core_lang.specs.declared.coordinate.Coordinate.{Coordinate}
use Rattle.core_lang.specs.declared.program.CoreStrategy.{CoreStrategy}
use Rattle.core_lang.specs.Named.{NamedStrategy, NamedStrategies, Name, written}
use Rattle.core_lang.specs.Program.{Pattern, Patterns, Strategies, strategies_count, patterns_count}
use Rattle.core_lang.specs.Program as core
use Rattle.core_lang.specs.Resolved.{ResolvedStrategy}
use Rattle.core_lang.specs.Views as views
use Rattle.str_syntax.specs.declared.strategy.Strategy.{Strategy as StrategySource}
use Rattle.str_syntax.specs.declared.strategy.Rule.{Rule}
use Rattle.str_syntax.specs.declared.strategy.Arguments.TheViews.{out-Rule}
use Rattle.str_syntax.specs.Arity.{number_of_strategies}
use Rattle.str_syntax.specs.Trees.{build, list_congruence, one_strategy, rewrites, Bytes, PatternTree, PatternTrees, no_patterns, more_patterns, StrategyTree, StrategyTrees, no_strategies, more_strategies}
use Rattle.str_syntax.specs.Views.{optional_strategy_of, pattern_of, rule_of, strategy_of, strategies_of}
use Rattle.str_syntax.proofs.ArityLaws.{strategies_counted}
use Rattle.str_desugar.specs.declared.scopes.Scopes.{Scopes}
use Rattle.str_desugar.specs.declared.scopes.Scopes.TheViews as code
use Rattle.str_desugar.specs.Assembled.{keeping_here, congruence_here, part_here}
use Rattle.str_desugar.specs.Brought.{kept, patterns_from, elements_from, elements_and_rest_from}
use Rattle.str_desugar.specs.Equations.{applications, applications_among, build_after, call_after, congruence_of, symbol_congruence, elements_congruence, rest_congruence, part_of, parts, results, results_among, strategy_core, strategies_core, scoped, matched, primary_core, rule_core, where_core}
use Rattle.str_desugar.specs.Frames.{Frames, of_names, strategy_at, strategies_at, pattern_at, patterns_at, callee_at, variable_at}
use Rattle.str_desugar.specs.Layers.{inside, inside_congruence, items_at, layers_of}
use Rattle.str_desugar.proofs.AssembledLaws.{items_append, congruence_at, build_after_at, call_after_at}
use Rattle.str_desugar.proofs.GatheredSteps.{next_is, reads_rule}
use Rattle.str_desugar.proofs.ScopeLaws.{reads_brought, reads_variables}

pub counted : (ss : List StrategySource) → length ss ≡ number_of_strategies (strategies_of ss)
counted ss = sym (strategies_counted ss)

pub next_strategy : (all : List StrategySource) (i : ℕ) (s : StrategySource) → i < length all → s ≡ get_or all i s →
    strategies_of (drop i all) ≡ more_strategies (strategy_of s) (strategies_of (drop (i + 1) all))
next_strategy all i s h is = ap (λ ss. strategies_of ss) (next_is all i s h is)

-- ---- results

-- the items of all patterns are those put so far, and then those of the rest
pub record Gives (F : Frames) (declared : Bytes → ℕ →
    Bool) (first : ℕ) (all : PatternTrees) (before : List ResolvedStrategy) (next : ℕ) (made : List ResolvedStrategy)
    (rest : PatternTrees) : Type 0 where
  pub put : before ++ items_at F (results_among declared first all) ≡ made ++
      items_at F (results_among declared next rest)
  pub number : first + applications_among all ≡ next + applications_among rest

module _ (F : Frames) (declared : Bytes → ℕ →
    Bool) (first : ℕ) (all : PatternTrees) (before : List ResolvedStrategy) (next : ℕ) (made : List ResolvedStrategy)
  where
    pub gives_more : (p : PatternTree) (ps : PatternTrees) (after : ℕ) (more : List ResolvedStrategy) →
        Gives F declared first all before next made (more_patterns p ps) →
        more ≡ made ++ items_at F (results declared next p) → after ≡ next + applications p →
        Gives F declared first all before after more ps
    gives_more p ps after more so_far is e = record {
      put = so_far.put ∙
          ap (λ l. made ++ l) (items_append F (results declared next p)
          (results_among declared (next + applications p) ps)) ∙
          sym (append_assoc made (items_at F (results declared next p))
          (items_at F (results_among declared (next + applications p) ps))) ∙
          ap₂ (λ l n. l ++ items_at F (results_among declared n ps)) (sym is) (sym e);
      number = let before_it = so_far.number in omega arith;
    }

    pub gives_all : Gives F declared first all before next made no_patterns →
        made ≡ before ++ items_at F (results_among declared first all)
    gives_all so_far = sym (so_far.put ∙ append-nil made)

    pub gives_counted : Gives F declared first all before next made no_patterns → next ≡ first + applications_among all
    gives_counted so_far = let before_it = so_far.number in omega arith

-- items that were put where there were none
pub from_none : (xs : List CoreStrategy) (new put : List ResolvedStrategy) → xs ≡ [] →
    new ≡ map views.strategy_of xs ++ put → new ≡ put
from_none [] new put e h = h
from_none (x ∷ xs) new put e h = absurd (cc)

-- ---- congruences

pub record Parts (F : Frames) (declared : Bytes → ℕ →
    Bool) (n : ℕ) (all : StrategyTrees) (index : ℕ) (made : List ResolvedStrategy) (rest : StrategyTrees) : Type 0 where
  pub put : items_at F (parts declared n 0 all) ≡ made ++ items_at F (parts declared n index rest)

module _ (F : Frames) (declared : Bytes → ℕ →
    Bool) (n : ℕ) (all : StrategyTrees) (index : ℕ) (made : List ResolvedStrategy) where
  pub parts_more : (s : StrategyTree) (ss : StrategyTrees) (more : List ResolvedStrategy) (q : ResolvedStrategy) →
      Parts F declared n all index made (more_strategies s ss) →
      q ≡ strategy_at F (strategy_core declared s) → more ≡ made ++ part_here F n index q →
      Parts F declared n all (index + 1) more ss
  parts_more s ss more q so_far is e = record {
    put = so_far.put ∙
        ap (λ l. made ++ l) (items_append F (part_of n index (strategy_core declared s))
        (parts declared n (suc index) ss)) ∙
        sym (append_assoc made (part_here F n index (strategy_at F (strategy_core declared s)))
        (items_at F (parts declared n (suc index) ss))) ∙
        ap (λ r. (made ++ part_here F n index r) ++ items_at F (parts declared n (suc index) ss)) (sym is) ∙
        ap₂ (λ l i. l ++ items_at F (parts declared n i ss)) (sym e) (let step : suc index ≡ index + 1 = omega arith in
        step);
  }

  pub parts_all : Parts F declared n all index made no_strategies → made ≡ items_at F (parts declared n 0 all)
  parts_all so_far = sym (so_far.put ∙ append-nil made)

-- what is made inside a layer of brought names
congruence_made : (k n : ℕ) (up : Bor Scopes) (p q : Pattern Name) (items : List NamedStrategy)
    (made : ResolvedStrategy) (each : List ResolvedStrategy) → k ≡ suc (n + n) →
    each ≡ items_at (layers_of (code.Brought k up)) items →
    made ≡ congruence_here n (pattern_at (layers_of (code.Brought k up)) p)
    each (pattern_at (layers_of (code.Brought k up)) q) →
    made ≡ strategy_at (layers_of up.now) (congruence_of n p items q)
congruence_made k n up p q items made each e is h =
    let F = layers_of (code.Brought k up) in
    let same : F ≡ inside (suc (n + n)) (layers_of up.now) =
    reads_brought k up ∙ ap (λ m. inside m (layers_of up.now)) e in
    h ∙ ap (λ l. congruence_here n (pattern_at F p) l (pattern_at F q)) is ∙
    ap (λ G. congruence_here n (pattern_at G p) (items_at G items) (pattern_at G q)) same ∙
    sym (congruence_at (layers_of up.now) n p q items)

pub symbol_made : (k n : ℕ) (up : Bor Scopes) (f : Symbol) (items : List NamedStrategy) (made : ResolvedStrategy)
    (each : List ResolvedStrategy) → (n ≡ 0 → ⊥) → k ≡ suc (n + n) →
    each ≡ items_at (layers_of (code.Brought k up)) items →
    made ≡ congruence_here n (pattern_at (layers_of (code.Brought k up)) (core.applied f (patterns_from 1 n)))
    each (pattern_at (layers_of (code.Brought k up)) (core.applied f (patterns_from (suc n) n))) →
    made ≡ strategy_at (layers_of up.now) (symbol_congruence f n items)
symbol_made k zero up f items made each some e is h = absurd (some refl)
symbol_made k (suc m) up f items made each some e is h =
    congruence_made k (suc m) up (core.applied f (patterns_from 1 (suc m)))
    (core.applied f (patterns_from (suc (suc m)) (suc m))) items made each e is h

pub elements_made : (k n : ℕ) (up : Bor Scopes) (items : List NamedStrategy) (made : ResolvedStrategy)
    (each : List ResolvedStrategy) → (n ≡ 0 → ⊥) → k ≡ suc (n + n) →
    each ≡ items_at (layers_of (code.Brought k up)) items →
    made ≡ congruence_here n (pattern_at (layers_of (code.Brought k up)) (core.list (elements_from 1 n)))
    each (pattern_at (layers_of (code.Brought k up)) (core.list (elements_from (suc n) n))) →
    made ≡ strategy_at (layers_of up.now) (elements_congruence n items)
elements_made k zero up items made each some e is h = absurd (some refl)
elements_made k (suc m) up items made each some e is h =
    congruence_made k (suc m) up (core.list (elements_from 1 (suc m))) (core.list (elements_from (suc (suc m)) (suc m)))
    items made each e is h

pub rest_made : (k n c : ℕ) (up : Bor Scopes) (items : List NamedStrategy) (made : ResolvedStrategy)
    (each : List ResolvedStrategy) → c ≡ suc n → k ≡ suc (c + c) →
    each ≡ items_at (layers_of (code.Brought k up)) items →
    made ≡ congruence_here c (pattern_at (layers_of (code.Brought k up)) (core.list (elements_and_rest_from 1 n)))
    each (pattern_at (layers_of (code.Brought k up)) (core.list (elements_and_rest_from (suc c) n))) →
    made ≡ strategy_at (layers_of up.now) (rest_congruence n items)
rest_made k n c up items made each counts e is h =
    congruence_made k (suc n) up (core.list (elements_and_rest_from 1 n))
    (core.list (elements_and_rest_from (suc (suc n)) n)) items made each (e ∙ ap (λ m. suc (m + m)) counts) is
    (h ∙ ap (λ m. congruence_here m
    (pattern_at (layers_of (code.Brought k up)) (core.list (elements_and_rest_from 1 n)))
    each (pattern_at (layers_of (code.Brought k up)) (core.list (elements_and_rest_from (suc m) n)))) counts)

-- the items of the elements, and then those of the rest
pub before_rest_made : (k n c : ℕ) (up : Bor Scopes) (declared : Bytes → ℕ →
    Bool) (ss : StrategyTrees) (each : List ResolvedStrategy) → n ≡ number_of_strategies ss → c ≡ suc n →
    k ≡ suc (c + c) →
    each ≡ items_at (layers_of (code.Brought k up)) (parts declared c 0 ss) →
    each ≡ items_at (inside_congruence (suc (number_of_strategies ss)) (layers_of up.now))
    (parts declared (suc (number_of_strategies ss)) 0 ss)
before_rest_made k n c up declared ss each number counts e is =
    is ∙ ap (λ G. items_at G (parts declared c 0 ss)) (reads_brought k up ∙ ap (λ m. inside m (layers_of up.now)) e) ∙
    ap (λ m. items_at (inside_congruence m (layers_of up.now)) (parts declared m 0 ss)) (counts ∙ ap suc number)

pub with_rest_made : (k n c : ℕ) (up : Bor Scopes) (items : List NamedStrategy) (s : NamedStrategy)
    (last made : ResolvedStrategy) (before each : List ResolvedStrategy) → c ≡ suc n → k ≡ suc (c + c) →
    before ≡ items_at (inside_congruence (suc n) (layers_of up.now)) items →
    last ≡ strategy_at (layers_of (code.Brought k up)) s →
    each ≡ before ++ part_here (layers_of (code.Brought k up)) c n last →
    made ≡ congruence_here c (pattern_at (layers_of (code.Brought k up)) (core.list (elements_and_rest_from 1 n)))
    each (pattern_at (layers_of (code.Brought k up)) (core.list (elements_and_rest_from (suc c) n))) →
    made ≡ strategy_at (layers_of up.now) (rest_congruence n (items ++ part_of (suc n) n s))
with_rest_made k n c up items s last made before each counts e is ends put h =
    let F = layers_of (code.Brought k up) in
    let same : F ≡ inside_congruence (suc n) (layers_of up.now) =
    reads_brought k up ∙ ap (λ m. inside m (layers_of up.now)) (e ∙ ap (λ m. suc (m + m)) counts) in
    rest_made k n c up (items ++ part_of (suc n) n s) made each counts e
    (put ∙ ap₂ (λ l r. l ++ part_here F c n r) (is ∙ ap (λ G. items_at G items) (sym same)) ends ∙
    ap (λ m. items_at F items ++ part_here F m n (strategy_at F s)) counts ∙
    sym (items_append F items (part_of (suc n) n s))) h

pub list_rest_made : (F : Frames) (declared : Bytes → ℕ →
    Bool) (ss : StrategyTrees) (s : StrategyTree) (n : ℕ) (made : ResolvedStrategy) (each : List ResolvedStrategy) →
    n ≡ number_of_strategies ss →
    each ≡ items_at (inside_congruence (suc (number_of_strategies ss)) F)
    (parts declared (suc (number_of_strategies ss)) 0 ss) →
    ((items : List NamedStrategy) → each ≡ items_at (inside_congruence (suc n) F) items →
    made ≡ strategy_at F (rest_congruence n (items ++ part_of (suc n) n (strategy_core declared s)))) →
    made ≡ strategy_at F (primary_core declared (list_congruence ss (one_strategy s)))
list_rest_made F declared ss s n made each number is h =
    let items = parts declared (suc (number_of_strategies ss)) 0 ss in
    h items (is ∙ ap (λ m. items_at (inside_congruence (suc m) F) items) (sym number)) ∙
    ap (λ m. strategy_at F (rest_congruence m (items ++ part_of (suc m) m (strategy_core declared s)))) number

-- no parts
pub symbol_empty : (F : Frames) (n : ℕ) (f : Symbol) (items : List NamedStrategy) → n ≡ 0 →
    core.match (core.applied f core.no_patterns) ≡ strategy_at F (symbol_congruence f n items)
symbol_empty F zero f items e = refl
symbol_empty F (suc n) f items e = absurd (omega (arith, e))

pub elements_empty : (F : Frames) (n : ℕ) (items : List NamedStrategy) → n ≡ 0 →
    core.match (core.list core.no_elements) ≡ strategy_at F (elements_congruence n items)
elements_empty F zero items e = refl
elements_empty F (suc n) items e = absurd (omega (arith, e))

-- ---- builds and calls

pub build_made : (k n : ℕ) (up : Bor Scopes) (p : Pattern Name) (items : List NamedStrategy)
    (made last : ResolvedStrategy) (each : List ResolvedStrategy) →
    (n ≡ 0 → ⊥) → k ≡ suc n → each ≡ items_at (layers_of (code.Brought k up)) items →
    last ≡ strategy_at (layers_of (code.Brought k up)) (core.build p) →
    made ≡ keeping_here n (each ++ last ∷ []) → made ≡ strategy_at (layers_of up.now) (build_after n items p)
build_made k n up p items made last each some e is builds h =
    let same : layers_of (code.Brought k up) ≡ inside (suc n) (layers_of up.now) =
    reads_brought k up ∙ ap (λ m. inside m (layers_of up.now)) e in
    h ∙ ap₂ (λ l q. keeping_here n (l ++ q ∷ [])) is builds ∙
    ap (λ G. keeping_here n (items_at G items ++ core.build (pattern_at G p) ∷ [])) same ∙
    sym (build_after_at (layers_of up.now) n items p some)

pub build_plain : (F : Frames) (n : ℕ) (p : Pattern Name) (items : List NamedStrategy) (made : ResolvedStrategy) →
    n ≡ 0 → made ≡ strategy_at F (core.build p) →
    made ≡ strategy_at F (build_after n items p)
build_plain F zero p items made e h = h
build_plain F (suc n) p items made e h = absurd (omega (arith, e))

pub call_made : (k n : ℕ) (up : Bor Scopes) (s : NamedStrategy) (items : List NamedStrategy)
    (made last : ResolvedStrategy) (each : List ResolvedStrategy) →
    (n ≡ 0 → ⊥) → k ≡ suc n → each ≡ items_at (layers_of (code.Brought k up)) items →
    last ≡ strategy_at (layers_of (code.Brought k up)) s →
    made ≡ keeping_here n (each ++
    core.build (core.variable (variable_at (layers_of (code.Brought k up)) kept)) ∷ last ∷ []) →
    made ≡ strategy_at (layers_of up.now) (call_after n items s)
call_made k n up s items made last each some e is calls h =
    let F = layers_of (code.Brought k up) in
    let same : F ≡ inside (suc n) (layers_of up.now) = reads_brought k up ∙ ap (λ m. inside m (layers_of up.now)) e in
    h ∙ ap₂ (λ l q. keeping_here n (l ++ core.build (core.variable (variable_at F kept)) ∷ q ∷ [])) is calls ∙
    ap (λ G. keeping_here n (items_at G items ++
    core.build (core.variable (variable_at G kept)) ∷ strategy_at G s ∷ [])) same ∙
    sym (call_after_at (layers_of up.now) n items s some)

pub call_plain : (F : Frames) (n : ℕ) (s : NamedStrategy) (items : List NamedStrategy) (made : ResolvedStrategy) →
    n ≡ 0 → made ≡ strategy_at F s → made ≡ strategy_at F (call_after n items s)
call_plain F zero s items made e h = h
call_plain F (suc n) s items made e h = absurd (omega (arith, e))

-- how many arguments there are, by name and in the code
strategies_length : (F : Frames) (ss : NamedStrategies) (xs : List ResolvedStrategy) →
    views.strategies_in xs ≡ strategies_at F ss → length xs ≡ strategies_count ss
strategies_length F core.no_strategies [] e = refl
strategies_length F core.no_strategies (x ∷ xs) e = absurd (cc)
strategies_length F (core.more_strategies s ss) [] e = absurd (cc)
strategies_length F (core.more_strategies s ss) (x ∷ xs) e = let rest : length xs ≡ strategies_count ss =
    strategies_length F ss xs (cc) in omega arith

patterns_length : (F : Frames) (ps : Patterns Name) (xs : List (Pattern Coordinate)) →
    views.patterns_in xs ≡ patterns_at F ps → length xs ≡ patterns_count ps
patterns_length F core.no_patterns [] e = refl
patterns_length F core.no_patterns (x ∷ xs) e = absurd (cc)
patterns_length F (core.more_patterns p ps) [] e = absurd (cc)
patterns_length F (core.more_patterns p ps) (x ∷ xs) e = let rest : length xs ≡ patterns_count ps =
    patterns_length F ps xs (cc) in omega arith

pub called_made : (F : Frames) (f : Name) (at : Coordinate) (xs : List ResolvedStrategy)
    (qs : List (Pattern Coordinate)) (ss : NamedStrategies) (ps : Patterns Name) →
    at ≡ callee_at F f (length xs) (length qs) → views.strategies_in xs ≡ strategies_at F ss →
    views.patterns_in qs ≡ patterns_at F ps →
    core.call at (views.strategies_in xs) (views.patterns_in qs) ≡ strategy_at F (core.call f ss ps)
called_made F f at xs qs ss ps is e h =
    ap (λ y. core.call y (views.strategies_in xs) (views.patterns_in qs)) (is ∙
    ap₂ (λ m k. callee_at F f m k) (strategies_length F ss xs e) (patterns_length F ps qs h)) ∙
    ap₂ (λ l r. core.call (callee_at F f (strategies_count ss) (patterns_count ps)) l r) e h

-- ---- arguments of calls

abbrev pub strategies_then : List ResolvedStrategy → Strategies Coordinate ℕ → Strategies Coordinate ℕ
strategies_then [] qs = qs
strategies_then (s ∷ ss) qs = core.more_strategies s (strategies_then ss qs)

then_one : (ss : List ResolvedStrategy) (s : ResolvedStrategy) (qs : Strategies Coordinate ℕ) →
    strategies_then (ss ++ s ∷ []) qs ≡ strategies_then ss (core.more_strategies s qs)
then_one [] s qs = refl
then_one (r ∷ ss) s qs = ap (λ rs. core.more_strategies r rs) (then_one ss s qs)

then_none : (ss : List ResolvedStrategy) → strategies_then ss core.no_strategies ≡ views.strategies_in ss
then_none [] = refl
then_none (s ∷ ss) = ap (λ rs. core.more_strategies s rs) (then_none ss)

pub record Hands (F : Frames) (declared : Bytes → ℕ →
    Bool) (all : StrategyTrees) (made : List ResolvedStrategy) (rest : StrategyTrees) : Type 0 where
  pub strategies : strategies_at F (strategies_core declared all) ≡
      strategies_then made (strategies_at F (strategies_core declared rest))

module _ (F : Frames) (declared : Bytes → ℕ → Bool) (all : StrategyTrees) (made : List ResolvedStrategy) where
  pub hands_more : (s : StrategyTree) (ss : StrategyTrees) (q : ResolvedStrategy) →
      Hands F declared all made (more_strategies s ss) →
      q ≡ strategy_at F (strategy_core declared s) → Hands F declared all (made ++ q ∷ []) ss
  hands_more s ss q so_far is = record {
    strategies = so_far.strategies ∙
        ap (λ r. strategies_then made (core.more_strategies r (strategies_at F (strategies_core declared ss))))
        (sym is) ∙
        sym (then_one made q (strategies_at F (strategies_core declared ss)));
  }

  pub hands_all : Hands F declared all made no_strategies →
      views.strategies_in made ≡ strategies_at F (strategies_core declared all)
  hands_all so_far = sym (then_none made) ∙ sym so_far.strategies

-- ---- scopes of written names

written_length : (xs : List Bytes) → length xs ≡ length (map written xs)
written_length [] = refl
written_length (x ∷ xs) = ap suc (written_length xs)

pub scope_made : (xs : Bor (List Bytes)) (up : Bor Scopes) (ys : List Bytes) (s : NamedStrategy) (n : ℕ)
    (body : ResolvedStrategy) → xs.now ≡ ys → n ≡ length ys →
    body ≡ strategy_at (layers_of (code.Variables xs up)) s →
    core.scope n body ≡ strategy_at (layers_of up.now) (core.scope (map written ys) s)
scope_made xs up ys s n body same e is =
    let inner : layers_of (code.Variables xs up) ≡ of_names [] (map written ys) (layers_of up.now) =
    reads_variables xs up ∙ ap (λ zs. of_names [] (map written zs) (layers_of up.now)) same in
    ap₂ (λ k t. core.scope k t) (e ∙ written_length ys) (is ∙ ap (λ G. strategy_at G s) inner)

pub scoped_made : (xs : Bor (List Bytes)) (up : Bor Scopes) (s : NamedStrategy) (n : ℕ) (made : ResolvedStrategy) →
    n ≡ length xs.now → (n ≡ 0 → ⊥) →
    made ≡ strategy_at (layers_of (code.Variables xs up)) s →
    core.scope n made ≡ strategy_at (layers_of up.now) (scoped xs.now s)
scoped_made xs up s n made e some is = by xs.now e (is ∙ ap (λ G. strategy_at G s) (reads_variables xs up))
  where
    by : (ys : List Bytes) → n ≡ length ys → made ≡ strategy_at (of_names [] (map written ys) (layers_of up.now)) s →
        core.scope n made ≡ strategy_at (layers_of up.now) (scoped ys s)
    by [] h m = absurd (some h)
    by (y ∷ ys) h m = ap₂ (λ k t. core.scope k t) (h ∙ ap suc (written_length ys)) m

pub scoped_plain : (F : Frames) (xs : List Bytes) (s : NamedStrategy) (n : ℕ) → n ≡ length xs → n ≡ 0 →
    strategy_at F s ≡ strategy_at F (scoped xs s)
scoped_plain F [] s n e h = refl
scoped_plain F (x ∷ xs) s n e h = absurd (omega (arith, e, h))

-- ---- rules

module _ (F : Frames) (declared : Bytes → ℕ →
    Bool) (r : Rule) (first last : ResolvedStrategy)
    (matches : first ≡ strategy_at F (core.match (matched (pattern_of (out-Rule r).left.value))))
    (builds : last ≡ strategy_at F (primary_core declared (build (pattern_of (out-Rule r).right.value)))) where
  pub rule_plain_made : (out-Rule r).condition ≡ None →
      core.seq first last ≡ strategy_at F (rule_core declared (rule_of r))
  rule_plain_made is =
      ap₂ (λ p s. core.seq p s) matches builds ∙
      sym (ap (λ t. strategy_at F (rule_core declared t)) (reads_rule r ∙
      ap (λ o. rewrites (pattern_of (out-Rule r).left.value) (pattern_of (out-Rule r).right.value)
      (optional_strategy_of o)) is))

  pub rule_made : (s : Box StrategySource Global) (middle : ResolvedStrategy) → (out-Rule r).condition ≡ Some s →
      middle ≡ strategy_at F (where_core (strategy_core declared (strategy_of s.value))) →
      core.seq first (core.seq middle last) ≡ strategy_at F (rule_core declared (rule_of r))
  rule_made s middle is where_is =
      ap₂ (λ p q. core.seq p q) matches (ap₂ (λ m b. core.seq m b) where_is builds) ∙
      sym (ap (λ t. strategy_at F (rule_core declared t)) (reads_rule r ∙
      ap (λ o. rewrites (pattern_of (out-Rule r).left.value) (pattern_of (out-Rule r).right.value)
      (optional_strategy_of o)) is))

-- ---- a call or a congruence

pub chosen : (F : Frames) (b : Bool) (s t : NamedStrategy) (made : ResolvedStrategy) → b ≡ true →
    made ≡ strategy_at F s → made ≡ strategy_at F (cond b s t)
chosen F true s t made e is = is
chosen F false s t made e is = absurd (cc)

pub other : (F : Frames) (b : Bool) (s t : NamedStrategy) (made : ResolvedStrategy) → b ≡ false →
    made ≡ strategy_at F t → made ≡ strategy_at F (cond b s t)
other F true s t made e is = absurd (cc)
other F false s t made e is = is
