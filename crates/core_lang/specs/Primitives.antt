-- The headline does not rest on this file.
-- The primitives that occur in a program.
use Rattle.std.specs.Prelude.{◌≡◌, ◌↔◌, ℕ, ◌⊎◌, List, Contains, length}
use Rattle.term_model.specs.Flat.{FlatValue, Meaning}
use Rattle.term_model.specs.PrimNames.{NameKey}
use Rattle.core_lang.specs.Environment.{Environment, outermost, layer, definitions, Closures, no_closures, more_closures}
use Rattle.core_lang.specs.Program.{Strategy, id, fail, seq, choice, match, build, scope, all, one, some, with_definitions, call, primitive, Strategies, no_strategies, more_strategies, Definitions, no_definitions, more_definitions, patterns_count}

-- the primitive of this name, with k arguments
module _ {X B : Type 0} (f : List ℕ) (k : ℕ) where
  abbrev mutual
    pub OccursIn : Strategy X B → Type 0
    OccursIn id = ⊥
    OccursIn fail = ⊥
    OccursIn (seq s1 s2) = OccursIn s1 ⊎ OccursIn s2
    OccursIn (choice s1 s2 s3) = OccursIn s1 ⊎ OccursIn s2 ⊎ OccursIn s3
    OccursIn (match p) = ⊥
    OccursIn (build p) = ⊥
    OccursIn (scope xs s) = OccursIn s
    OccursIn (all s) = OccursIn s
    OccursIn (one s) = OccursIn s
    OccursIn (some s) = OccursIn s
    OccursIn (with_definitions ds s) = OccursInDefinitions ds ⊎ OccursIn s
    OccursIn (call g ss ps) = OccursInAny ss
    OccursIn (primitive g ps) = (g ≡ f) × (patterns_count ps ≡ k)

    -- in an argument of a call
    pub OccursInAny : Strategies X B → Type 0
    OccursInAny no_strategies = ⊥
    OccursInAny (more_strategies s ss) = OccursIn s ⊎ OccursInAny ss

    -- in a body
    pub OccursInDefinitions : Definitions X B → Type 0
    OccursInDefinitions no_definitions = ⊥
    OccursInDefinitions (more_definitions g fs xs s ds) = OccursIn s ⊎ OccursInDefinitions ds

  abbrev mutual
    -- in a definition that is seen there, or in a closure
    pub OccursInEnvironment : Environment X B → Type 0
    OccursInEnvironment outermost = ⊥
    OccursInEnvironment (layer base fs xs cs V) = OccursInClosures cs ⊎ OccursInEnvironment V
    OccursInEnvironment (definitions ds V) = OccursInDefinitions ds ⊎ OccursInEnvironment V

    pub OccursInClosures : Closures X B → Type 0
    OccursInClosures no_closures = ⊥
    OccursInClosures (more_closures s V cs) = OccursIn s ⊎ OccursInEnvironment V ⊎ OccursInClosures cs

-- the names are those of the primitives that occur, with their numbers of arguments
abbrev pub AreOccurring : {X B : Type 0} → List NameKey → Definitions X B → Type 0
AreOccurring names ds = (f : List ℕ) (k : ℕ) → Contains names (f, k) ↔ OccursInDefinitions f k ds

-- at this name, both meanings answer the same to each k arguments
abbrev pub AnswerSame : Meaning → Meaning → List ℕ → ℕ → Type 0
AnswerSame M N f k = (vs : List FlatValue) → length vs ≡ k → M f vs ≡ N f vs
