-- Definitions inside strategies: that of a `rec`, and the alternatives of a `let` with their heads and bodies.
use Rattle.std.proofs.Common.{◌≡◌, ◌∙◌, ℕ, Bool, List, [], ◌∷◌, map, length, refl, sym, ap, ap₂}
use Rattle.std.specs.Borrow.{Bor}
use Rattle.std.proofs.lemmas.List.{length-map}
use Rattle.core_lang.specs.declared.program.CoreStrategy.{CoreStrategy}
use Rattle.core_lang.specs.Views as views
use Rattle.core_lang.specs.Named.{written}
use Rattle.core_lang.specs.Named.{NamedStrategy}
use Rattle.core_lang.specs.Program.{with_definitions, more_definitions as more_core, no_definitions as no_core, call, no_strategies, no_patterns}
use Rattle.core_lang.specs.Resolved.{ResolvedStrategy, ResolvedDefinitions, here}
use Rattle.str_syntax.specs.declared.strategy.DefinitionHead.{DefinitionHead}
use Rattle.str_syntax.specs.declared.strategy.StrategyDefinition.{StrategyDefinition}
use Rattle.str_syntax.specs.declared.strategy.Arguments.TheViews.{out-StrategyDefinition}
use Rattle.str_syntax.specs.Key.{Key}
use Rattle.str_syntax.specs.Trees.{Bytes, DefinitionTree, definition, head}
use Rattle.str_syntax.specs.Views.{definition_of, definitions_of, parameters_of, strategy_of}
use Rattle.str_desugar.specs.declared.scopes.Scopes.{Scopes}
use Rattle.str_desugar.specs.declared.scopes.Scopes.TheOpen as forms
use Rattle.str_desugar.specs.declared.scopes.Scopes.TheFolds.{fold-roll-Scopes}
use Rattle.str_desugar.specs.declared.scopes.Scopes.TheViews as code
use Rattle.str_desugar.specs.Alternatives.{Alternative, definitions_of_all}
use Rattle.str_desugar.specs.Equations.{alternative_core, alternatives, strategy_core}
use Rattle.str_desugar.specs.Frames.{Frames, NamedKey, of_names, of_definitions, keys_of, callee_at, strategy_at, definitions_at}
use Rattle.str_desugar.specs.Groups.{Head, written_head, head_in, first_for, under_head, body_among, bodies_at, within}
use Rattle.str_desugar.specs.Heads.{read_head}
use Rattle.str_desugar.specs.Keys.{named_key}
use Rattle.str_desugar.specs.Layers.{layers_of, scopes_step}
use Rattle.str_syntax.specs.Arity.{strategy_names, term_names}
use Rattle.str_desugar.proofs.GatheredSteps.{reads_definition}
use Rattle.str_desugar.proofs.ScopeLaws.{reads_parameters}

abbrev pub head_of_definition : DefinitionTree → Head
head_of_definition (definition h s) = written_head h

same_head : (declared : Bytes → ℕ → Bool) (d : DefinitionTree) →
    head_of_definition d ≡ head_in (alternative_core declared d)
same_head declared (definition (head f parameters) s) = refl

pub heads_all : (declared : Bytes → ℕ → Bool) (ds : List StrategyDefinition) →
    map (λ d. head_of_definition (definition_of d)) ds ≡ map head_in (alternatives declared (definitions_of ds))
heads_all declared [] = refl
heads_all declared (d ∷ ds) = ap₂ (λ h hs. h ∷ hs) (same_head declared (definition_of d)) (heads_all declared ds)

pub head_read : (d : StrategyDefinition) →
    read_head (out-StrategyDefinition d).head ≡ head_of_definition (definition_of d)
head_read d = sym (ap head_of_definition (reads_definition d))

bodies_among : (F : Frames) (hs : List Head) (declared : Bytes → ℕ → Bool) (ds : List StrategyDefinition) →
    map (λ d. body_among F hs (alternative_core declared (definition_of d))) ds ≡
    map (λ a. body_among F hs a) (alternatives declared (definitions_of ds))
bodies_among F hs declared [] = refl
bodies_among F hs declared (d ∷ ds) =
    ap (λ l. body_among F hs (alternative_core declared (definition_of d)) ∷ l) (bodies_among F hs declared ds)

pub bodies_all : (F : Frames) (hs : List Head) (declared : Bytes → ℕ → Bool) (ds : List StrategyDefinition) →
    hs ≡ map head_in (alternatives declared (definitions_of ds)) →
    map (λ d. body_among F hs (alternative_core declared (definition_of d))) ds ≡
    bodies_at F (alternatives declared (definitions_of ds))
bodies_all F hs declared ds e =
    bodies_among F hs declared ds ∙
    ap (λ gs. map (λ a. body_among F gs a) (alternatives declared (definitions_of ds))) e

pub alternative_made : (fs xs : Bor (List Bytes)) (up : Bor Scopes) (first : DefinitionHead) (d : StrategyDefinition)
    (hs : List Head) (declared : Bytes → ℕ → Bool) (made : ResolvedStrategy) →
    read_head first ≡ first_for hs (read_head (out-StrategyDefinition d).head) →
    fs.now ≡ strategy_names (parameters_of first.parameters) →
    xs.now ≡ term_names (parameters_of first.parameters) →
    made ≡ strategy_at (layers_of (code.Parameters fs xs up))
    (strategy_core declared (strategy_of (out-StrategyDefinition d).body.value)) →
    made ≡ body_among (layers_of up.now) hs (alternative_core declared (definition_of d))
alternative_made fs xs up first d hs declared made is strategies terms e =
    let body = strategy_core declared (strategy_of (out-StrategyDefinition d).body.value) in
    e ∙ ap (λ G. strategy_at G body) (reads_parameters fs xs up ∙
    ap₂ (λ l r. of_names (map written l) (map written r) (layers_of up.now)) strategies terms) ∙
    ap (λ h. strategy_at (under_head (layers_of up.now) h) body) is ∙
    sym (ap (λ t. body_among (layers_of up.now) hs (alternative_core declared t)) (reads_definition d))

-- ---- the layers of definitions

reads_recursive : (f : Bor Bytes) (up : Bor Scopes) →
    layers_of (code.Recursive f up) ≡
    of_definitions (record { name = written f.now; strategies = 0; terms = 0 } ∷ []) (layers_of up.now)
reads_recursive f up = ap layers_of (sym (code.rolls-Recursive f up)) ∙
    fold-roll-Scopes Frames scopes_step (forms.Recursive f up)

pub reads_defined : (ds : Bor (List Key)) (up : Bor Scopes) →
    layers_of (code.Defined ds up) ≡ of_definitions (map named_key ds.now) (layers_of up.now)
reads_defined ds up = ap layers_of (sym (code.rolls-Defined ds up)) ∙
    fold-roll-Scopes Frames scopes_step (forms.Defined ds up)

-- a definition without parameters, and a call of it
pub recursive_made : (f : Bor Bytes) (up : Bor Scopes) (fs xs : Bor (List Bytes)) (layer : Bor Scopes)
    (s : NamedStrategy) (body made : ResolvedStrategy) →
    layer.now ≡ code.Recursive f up → fs.now ≡ [] → xs.now ≡ [] →
    body ≡ strategy_at (layers_of (code.Parameters fs xs layer)) s →
    made ≡ with_definitions (more_core (here 0) 0 0 body no_core)
    (call (callee_at (layers_of layer.now) (written f.now) 0 0) no_strategies no_patterns) →
    made ≡ strategy_at (layers_of up.now)
    (with_definitions (more_core (written f.now) [] [] s no_core) (call (written f.now) no_strategies no_patterns))
recursive_made f up fs xs layer s body made is no_strategy no_term e h =
    let keys : List NamedKey = record { name = written f.now; strategies = 0; terms = 0 } ∷ [] in
    let same : layers_of layer.now ≡ of_definitions keys (layers_of up.now) = ap layers_of is ∙ reads_recursive f up in
    let inner : layers_of (code.Parameters fs xs layer) ≡ of_names [] [] (of_definitions keys (layers_of up.now)) =
    reads_parameters fs xs layer ∙
    ap₂ (λ l r. of_names (map written l) (map written r) (layers_of layer.now)) no_strategy no_term ∙
    ap (λ G. of_names [] [] G) same in
    h ∙ ap₂ (λ b y. with_definitions (more_core (here 0) 0 0 b no_core) (call y no_strategies no_patterns)) (e ∙
    ap (λ G. strategy_at G s) inner) (ap (λ G. callee_at G (written f.now) 0 0) same)

-- the definitions of all alternatives, and what is in them
module _ (ds : Bor (List Key)) (up : Bor Scopes) (all : List Alternative)
    (keys : map named_key ds.now ≡ keys_of (definitions_of_all all)) where
  inside_let : layers_of (code.Defined ds up) ≡ within all (layers_of up.now)
  inside_let = reads_defined ds up ∙ ap (λ ks. of_definitions ks (layers_of up.now)) keys

  pub definitions_made : (made : ResolvedDefinitions) →
      made ≡ definitions_at (layers_of (code.Defined ds up)) (definitions_of_all all) →
      made ≡ definitions_at (within all (layers_of up.now)) (definitions_of_all all)
  definitions_made made is = is ∙ ap (λ G. definitions_at G (definitions_of_all all)) inside_let

  pub body_made : (s : NamedStrategy) (made : ResolvedStrategy) →
      made ≡ strategy_at (layers_of (code.Defined ds up)) s → made ≡ strategy_at (within all (layers_of up.now)) s
  body_made s made is = is ∙ ap (λ G. strategy_at G s) inside_let

-- there is a body for each head
pub bodies_counted : (F : Frames) (all : List Alternative) (hs : List Head) (each : List CoreStrategy) →
    hs ≡ map head_in all → map views.strategy_of each ≡ bodies_at F all → length each ≡ length hs
bodies_counted F all hs each e is =
    sym (length-map each views.strategy_of) ∙ ap length is ∙ length-map all (λ a. body_among F (map head_in all) a) ∙
    sym (length-map all head_in) ∙ ap length (sym e)
