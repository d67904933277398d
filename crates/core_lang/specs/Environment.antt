-- Environments and bindings: what an identifier means at a place of a program, while it runs.
use Rattle.std.specs.Prelude.{ℕ, zero, suc, Option, Some, None, List, [], ◌∷◌, replicate}
use Rattle.term_model.specs.Term.{Tree, Trees, end, more}
use Rattle.core_lang.specs.Program.{Strategy, call, Strategies, no_strategies, more_strategies, Definitions, no_definitions, more_definitions, strategies_count, patterns_count}

-- each place has a term, or nothing; a new place is the next position
abbrev pub Bindings : Type 0
Bindings = List (Option Tree)

-- layers, innermost first
mutual
  pub data Environment (X B : Type 0) : Type 0 where
    -- no layer
    outermost : Environment X B
    -- of a scope or a call: the closures are those of the strategy parameters, the places from base on those of the
    -- variables
    layer : (base : ℕ) (parameters variables : B) → Closures X B → Environment X B → Environment X B
    -- of a program, or of a let
    definitions : Definitions X B → Environment X B → Environment X B

  -- strategies, each with an environment
  pub data Closures (X B : Type 0) : Type 0 where
    no_closures : Closures X B
    more_closures : Strategy X B → Environment X B → Closures X B → Closures X B

-- what a call is of: a closure, or a definition with the environment from its own layer on
pub data Callee (X B : Type 0) : Type 0 where
  closure : Strategy X B → Environment X B → Callee X B
  definition : (strategies terms : B) → Strategy X B → Environment X B → Callee X B

-- how identifiers are looked up
pub record Reading (X B : Type 0) : Type 0 where
  -- how many a binder binds, and the binder that binds none
  pub count : B → ℕ
  pub none : B
  -- the place of a variable
  pub place_of : Environment X B → X → Option ℕ
  -- the callee of an identifier with these numbers of strategy and term arguments
  pub callee_of : Environment X B → X → ℕ → ℕ → Option (Callee X B)

-- this number of new places, with nothing
abbrev pub empty_places : ℕ → Bindings
empty_places k = replicate k None

-- new places with these terms
abbrev pub filled_places : Trees → Bindings
filled_places end = []
filled_places (more t ts) = Some t ∷ filled_places ts

-- the closure at a position
abbrev pub closure_at : {X B : Type 0} → Closures X B → ℕ → Option (Callee X B)
closure_at no_closures i = None
closure_at (more_closures s V cs) zero = Some (closure s V)
closure_at (more_closures s V cs) (suc i) = closure_at cs i

-- the definition at a position, where the environment begins with the layer of these definitions
abbrev pub definition_at : {X B : Type 0} → Definitions X B → Environment X B → ℕ → Option (Callee X B)
definition_at no_definitions V i = None
definition_at (more_definitions f fs xs s ds) V zero = Some (definition fs xs s V)
definition_at (more_definitions f fs xs s ds) V (suc i) = definition_at ds V i

module _ {X B : Type 0} (R : Reading X B) where
  -- a call of a strategy parameter is handed on as the closure that this is, any other strategy with the environment
  abbrev pub handed_on : Option (Callee X B) → Strategy X B → Environment X B → Closures X B → Closures X B
  handed_on None s V = more_closures s V
  handed_on (Some (closure s1 W)) s V = more_closures s1 W
  handed_on (Some (definition fs xs s1 W)) s V = more_closures s V

  -- one more closure in front: that of an argument of a call in this environment
  abbrev pub with_closure : Environment X B → Strategy X B → Closures X B → Closures X B
  with_closure V (call f ss ps) = handed_on (R.callee_of V f (strategies_count ss) (patterns_count ps)) (call f ss ps) V
  with_closure V s = more_closures s V

  -- the closures of the arguments of a call
  abbrev pub closures_of : Environment X B → Strategies X B → Closures X B
  closures_of V no_strategies = no_closures
  closures_of V (more_strategies s ss) = with_closure V s (closures_of V ss)
