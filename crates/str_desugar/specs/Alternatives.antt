-- Definitions from alternatives: those with one name and as many strategy and term parameters are one definition.
use Rattle.std.specs.Prelude.{Bool, not, List, [], ◌∷◌, length, map, filter}
use Rattle.str_syntax.specs.Key.{Key, same_key}
use Rattle.str_syntax.specs.Trees.{Bytes}
use Rattle.core_lang.specs.Named.{written, NamedStrategy, NamedDefinitions}
use Rattle.core_lang.specs.Program.{id, fail, choice, no_definitions, more_definitions}

-- a rule or a definition: its name, its strategy and term parameters, and what it does
pub record Alternative : Type 0 where
  pub name : Bytes
  pub strategies : List Bytes
  pub terms : List Bytes
  pub body : NamedStrategy

abbrev pub alternative_key : Alternative → Key
alternative_key a = record { name = a.name; strategies = length a.strategies; terms = length a.terms }

-- two alternatives are of one definition
abbrev pub of_one_definition : Alternative → Alternative → Bool
of_one_definition a b = same_key (alternative_key a) (alternative_key b)

-- the first alternative of each definition, in the order of the text
abbrev pub firsts : List Alternative → List Alternative
firsts [] = []
firsts (a ∷ others) = a ∷ filter (λ b. not (of_one_definition a b)) (firsts others)

-- s1 <+ .. <+ sn
abbrev pub first_success : List NamedStrategy → NamedStrategy
first_success [] = fail
first_success (s ∷ []) = s
first_success (s ∷ t ∷ ss) = choice s id (first_success (t ∷ ss))

-- the definitions of which these are the first alternatives, where these are all of them; the parameters have the names
-- that the first alternative gives them
abbrev pub definitions_among : List Alternative → List Alternative → NamedDefinitions
definitions_among all [] = no_definitions
definitions_among all (a ∷ others) =
    more_definitions (written a.name) (map written a.strategies) (map written a.terms)
    (first_success (map (λ b. b.body) (filter (of_one_definition a) all))) (definitions_among all others)

-- each definition stands at the place of its first alternative
abbrev pub definitions_of_all : List Alternative → NamedDefinitions
definitions_of_all all = definitions_among all (firsts all)
