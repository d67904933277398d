-- The headline does not rest on this file.
-- The phrases that single functions of the parser read, and what may come after them.
use Rattle.std.specs.Prelude.{◌≡◌, ℕ, Bool, true, false, List, [], ◌∷◌, Box}
use Rattle.std.specs.declared.vec.Vec.{Vec}
use Rattle.std.specs.declared.alloc.Global.{Global}
use Rattle.str_lexer.specs.declared.token.Mark.{Mark}
use Rattle.str_lexer.specs.declared.token.Mark.TheVariants as M
use Rattle.str_lexer.specs.declared.token.Keyword.TheVariants as K
use Rattle.str_syntax.specs.declared.strategy.Pattern.{Pattern}
use Rattle.str_syntax.specs.declared.strategy.Primary.{Primary}
use Rattle.str_syntax.specs.declared.strategy.Strategy.{Strategy}
use Rattle.str_syntax.specs.declared.strategy.StrategyDefinition.{StrategyDefinition}
use Rattle.str_syntax.specs.Trees.{Bytes, PatternTree, grouped, tuple, PatternTrees, no_patterns, more_patterns, OptionalPattern, no_pattern, one_pattern, StrategyTree, StrategyTrees, no_strategies, more_strategies, OptionalStrategy, no_strategy, one_strategy, SequenceTree, PrimaryTree, parenthesized, tuple_congruence, DefinitionTrees, no_definitions, more_definitions, ArgumentTree, no_arguments, strategy_arguments, all_arguments}
use Rattle.str_syntax.specs.Views.{strategy_of, primary_of, patterns_of, strategies_of, definitions_of}
use Rattle.str_parser.specs.Lexemes.{Lexeme, name, quoted, mark, strategy_part}
use Rattle.str_parser.specs.Items.{Item, token, part, only, either, Runs}
use Rattle.str_parser.specs.Phrases.{sign, word, pattern_part, takes_annotations, pattern, patterns, other_patterns, strategy, strategy_list, other_strategies, sequence, led_by, defined, definitions}
use Rattle.str_parser.specs.Readings.{AtMost}
use Rattle.str_parser.specs.Runs.{NoneOf, is_comma}
use Rattle.str_parser.specs.Parsing.{is_name}
use Rattle.str_parser.specs.declared.pattern.Leading.{Leading}
use Rattle.str_parser.specs.declared.pattern.Leading.TheVariants as leading
use Rattle.str_parser.specs.declared.pattern.Closing.{Closing}
use Rattle.str_parser.specs.declared.pattern.Closing.TheVariants as closings

-- ---- parts at a level

-- a strategy that is a part at this level
abbrev pub inner_strategy : ℕ → StrategyTree → List Item → List Item
inner_strategy k s is = part strategy_part k ∷ strategy k s is

-- a sequence that is a part at this level
abbrev pub inner_sequence : ℕ → SequenceTree → List Item → List Item
inner_sequence k q is = part strategy_part k ∷ sequence k q is

-- a pattern that is a part at this level
abbrev pub inner_pattern : Bool → ℕ → PatternTree → List Item → List Item
inner_pattern in_match k p is = part (pattern_part in_match) k ∷ pattern in_match k p is

abbrev pub boxed_primary_of : Box Primary Global → PrimaryTree
boxed_primary_of t = primary_of t.value

abbrev pub boxed_strategy_of : Box Strategy Global → StrategyTree
boxed_strategy_of s = strategy_of s.value

-- ---- what comes after a part

-- what a closing token ends may stand in front of anything
abbrev pub Anything : List Item → Type 0
Anything is = Unit {0}

-- a strategy and this token after it
abbrev pub closed_strategy : Lexeme → ℕ → StrategyTree → List Item → List Item
closed_strategy t k s is = inner_strategy k s (token t ∷ is)

-- ---- lists with commas between, one part at least

abbrev pub some_patterns : Bool → ℕ → PatternTrees → List Item → List Item
some_patterns in_match k no_patterns is = only false ∷ is
some_patterns in_match k (more_patterns p ps) is = inner_pattern in_match k p (other_patterns in_match k ps is)

abbrev pub some_strategies : ℕ → StrategyTrees → List Item → List Item
some_strategies k no_strategies is = only false ∷ is
some_strategies k (more_strategies s ss) is = inner_strategy k s (other_strategies k ss is)

-- no annotations and no further pattern come
abbrev pub EndsPatterns : List Item → Type 0
EndsPatterns is = AtMost 3 is × NoneOf is_comma is

-- no operator and no further strategy come
abbrev pub EndsStrategies : List Item → Type 0
EndsStrategies is = AtMost 0 is × NoneOf is_comma is

abbrev pub patterns_from : Vec Pattern Global → PatternTrees
patterns_from ps = patterns_of ps.items

abbrev pub strategies_from : Vec Strategy Global → StrategyTrees
strategies_from ss = strategies_of ss.items

-- what patterns in parentheses are
abbrev pub patterns_in_parentheses : PatternTrees → PatternTree
patterns_in_parentheses (more_patterns p no_patterns) = grouped p
patterns_in_parentheses ps = tuple ps

-- what strategies in parentheses are
abbrev pub in_parentheses : StrategyTrees → PrimaryTree
in_parentheses (more_strategies s no_strategies) = parenthesized s
in_parentheses ss = tuple_congruence ss

-- the end of a list: its bracket, or | and what it ends with
abbrev pub pattern_list_end : Bool → ℕ → OptionalPattern → List Item → List Item
pattern_list_end in_match k no_pattern is = sign M.CloseBracket ∷ is
pattern_list_end in_match k (one_pattern p) is = sign M.Bar ∷ inner_pattern in_match k p (sign M.CloseBracket ∷ is)

abbrev pub strategy_list_end : ℕ → OptionalStrategy → List Item → List Item
strategy_list_end k no_strategy is = sign M.CloseBracket ∷ is
strategy_list_end k (one_strategy s) is = sign M.Bar ∷ inner_strategy k s (sign M.CloseBracket ∷ is)

-- ---- patterns

-- a pattern that may have annotations, without them
abbrev pub plain_pattern : Bool → ℕ → PatternTree → List Item → List Item
plain_pattern in_match k p is = only (takes_annotations p) ∷ pattern in_match k p is

-- no alias and no strategy that is applied begins here
pub record IsOther (in_match : Bool) (ts : List Lexeme) : Type 0 where
  pub no_alias : (x : List ℕ) (rest : List Lexeme) → ts ≡ name x ∷ mark M.At ∷ rest → ⊥
  pub no_strategy : (rest : List Lexeme) → in_match ≡ false → ts ≡ mark M.Less ∷ rest → ⊥

-- the tokens begin with x@, with the < of a build, or with neither
abbrev pub IsLeading : Bool → List Lexeme → Leading → Type 0
IsLeading in_match ts (leading.Alias x rest) = ts ≡ name x.now ∷ mark M.At ∷ rest
IsLeading in_match ts (leading.Applied rest) = (in_match ≡ false) × (ts ≡ mark M.Less ∷ rest)
IsLeading in_match ts leading.Other = IsOther in_match ts

-- the mark after patterns
abbrev pub closing_mark : Closing → Mark
closing_mark closings.Parenthesis = M.CloseParenthesis
closing_mark closings.Brace = M.CloseBrace

-- patterns, or none, and the mark after them
abbrev pub closed_patterns : Mark → Bool → ℕ → PatternTrees → List Item → List Item
closed_patterns m in_match k ps is = patterns in_match k ps (sign m ∷ is)

-- ---- primaries

-- a strategy in parentheses
abbrev pub written_operand : ℕ → StrategyTree → List Item → List Item
written_operand k s is = sign M.OpenParenthesis ∷ inner_strategy k s (sign M.CloseParenthesis ∷ is)

-- the end of a conditional: else and a strategy, or nothing, and end
abbrev pub conditional_end : ℕ → OptionalStrategy → List Item → List Item
conditional_end k o is = led_by K.Else k o (word K.End ∷ is)

-- definitions of a let, one at least
abbrev pub some_definitions : ℕ → DefinitionTrees → List Item → List Item
some_definitions k no_definitions is = only false ∷ is
some_definitions k (more_definitions d ds) is = defined k d (definitions k ds is)

-- no operator and no further definition come
abbrev pub EndsDefinitions : List Item → Type 0
EndsDefinitions is = AtMost 0 is × NoneOf is_name is

abbrev pub definitions_from : Vec StrategyDefinition Global → DefinitionTrees
definitions_from ds = definitions_of ds.items

-- a parenthesis and the name of a primitive
abbrev pub primitive_name : Bytes → List Item → List Item
primitive_name text is = sign M.OpenParenthesis ∷ token (quoted text) ∷ is

-- the patterns of a primitive, with a comma before each, and its parenthesis
abbrev pub primitive_patterns : ℕ → PatternTrees → List Item → List Item
primitive_patterns k ps is = other_patterns false k ps (sign M.CloseParenthesis ∷ is)

-- the arguments of a call after its parenthesis
abbrev pub arguments_inside : ℕ → ArgumentTree → List Item → List Item
arguments_inside k no_arguments is = only false ∷ is
arguments_inside k (strategy_arguments ss) is = strategy_list k ss (sign M.CloseParenthesis ∷ is)
arguments_inside k (all_arguments ss ps) is =
    strategy_list k ss (sign M.Bar ∷ patterns false k ps (sign M.CloseParenthesis ∷ is))

-- the tokens that may come after the strategies of a call: ) and |
abbrev pub ends_strategies : Lexeme → Bool
ends_strategies (mark M.CloseParenthesis) = true
ends_strategies (mark M.Bar) = true
ends_strategies _ = false

abbrev pub first_ends_strategies : List Lexeme → Bool
first_ends_strategies [] = false
first_ends_strategies (t ∷ ts) = ends_strategies t

-- the strategies of a call end
abbrev pub EndsArguments : List Item → Type 0
EndsArguments is = EndsStrategies is × ((ts : List Lexeme) → Runs either is ts → first_ends_strategies ts ≡ true)
