-- The headline does not rest on this file.
-- Alternatives in groups, one for each definition, where their heads are known apart from their bodies.
use Rattle.std.specs.Prelude.{◌≡◌, ℕ, zero, suc, Bool, not, List, [], ◌∷◌, ◌++◌, length, map, filter, if◌then◌else◌}
use Rattle.str_syntax.specs.Key.{Key, same_key}
use Rattle.str_syntax.specs.Trees.{Bytes, HeadTree, head}
use Rattle.core_lang.specs.Named.{written}
use Rattle.core_lang.specs.Program.{id, fail, choice}
use Rattle.core_lang.specs.Resolved.{ResolvedStrategy}
use Rattle.core_lang.specs.Views.{Arm, Def}
use Rattle.str_desugar.specs.Alternatives.{Alternative, definitions_of_all}
use Rattle.str_desugar.specs.Frames.{Frames, of_names, of_definitions, keys_of, strategy_at}
use Rattle.str_syntax.specs.Arity.{strategy_names, term_names}

-- the name of an alternative, and its parameters
pub record Head : Type 0 where
  pub name : Bytes
  pub strategies : List Bytes
  pub terms : List Bytes

abbrev pub written_head : HeadTree → Head
written_head (head f parameters) =
    record { name = f; strategies = strategy_names parameters; terms = term_names parameters }

abbrev pub head_in : Alternative → Head
head_in a = record { name = a.name; strategies = a.strategies; terms = a.terms }

abbrev pub head_key : Head → Key
head_key h = record { name = h.name; strategies = length h.strategies; terms = length h.terms }

-- alternatives with these heads are of one definition
abbrev pub same_definition : Head → Head → Bool
same_definition h k = same_key (head_key h) (head_key k)

-- the first head of each definition, in the order of the text
abbrev pub first_heads : List Head → List Head
first_heads [] = []
first_heads (h ∷ others) = h ∷ filter (λ k. not (same_definition h k)) (first_heads others)

-- the first head of the definition that has an alternative with this head
abbrev pub first_for : List Head → Head → Head
first_for [] h = h
first_for (k ∷ ks) h = if same_definition h k then k else first_for ks h

-- these are the first heads of the definitions, and these are their keys
pub record AreGrouped (heads firsts : List Head) (keys : List Key) : Type 0 where
  pub first : firsts ≡ first_heads heads
  pub keyed : keys ≡ map head_key firsts

-- the layer of the parameters, with the names that this head gives them
abbrev pub under_head : Frames → Head → Frames
under_head F h = of_names (map written h.strategies) (map written h.terms) F

-- the body of an alternative among those with these heads; its parameters have the names that the first of its
-- definition gives them
abbrev pub body_among : Frames → List Head → Alternative → ResolvedStrategy
body_among F heads a = strategy_at (under_head F (first_for heads (head_in a))) a.body

-- the layers around what sees the definitions of these alternatives
abbrev pub within : List Alternative → Frames → Frames
within all F = of_definitions (keys_of (definitions_of_all all)) F

-- the bodies of the alternatives
abbrev pub bodies_at : Frames → List Alternative → List ResolvedStrategy
bodies_at F all = map (λ a. body_among F (map head_in all) a) all

-- s1 <+ .. <+ sn
abbrev pub first_success_of : List ResolvedStrategy → ResolvedStrategy
first_success_of [] = fail
first_success_of (s ∷ []) = s
first_success_of (s ∷ t ∷ ss) = choice s id (first_success_of (t ∷ ss))

-- those of the bodies, one for each of the heads, that are of the definition with this head
abbrev pub bodies_for : Head → List Head → List ResolvedStrategy → List ResolvedStrategy
bodies_for d [] ss = []
bodies_for d (h ∷ hs) [] = []
bodies_for d (h ∷ hs) (s ∷ ss) = if same_definition d h then s ∷ bodies_for d hs ss else bodies_for d hs ss

-- the first head of a definition, and the bodies of its alternatives
pub record Gathered : Type 0 where
  pub first : Head
  pub bodies : List ResolvedStrategy

abbrev pub gathered_for : List Head → List Head → List ResolvedStrategy → List Gathered
gathered_for firsts hs ss = map (λ d. record { first = d; bodies = bodies_for d hs ss }) firsts

-- with one more body at this position
abbrev pub with_body : ℕ → ResolvedStrategy → List Gathered → List Gathered
with_body n s [] = []
with_body zero s (g ∷ gs) = record { first = g.first; bodies = g.bodies ++ s ∷ [] } ∷ gs
with_body (suc n) s (g ∷ gs) = g ∷ with_body n s gs

-- the guard, and nothing more where it succeeds
abbrev pub plain_arm : ResolvedStrategy → Arm
plain_arm s = record { guard = s; then = id }

-- the definition of which these are the bodies
abbrev pub joined : Gathered → Def
joined g = record { strats = length g.first.strategies; terms = length g.first.terms; body = first_success_of g.bodies }
