-- The phrases of definition files: how each tree is written.
use Rattle.std.specs.Prelude.{◌≡◌, ℕ, ◌+◌, Bool, true, false, ◌==◌, ◌&&◌, List, [], ◌∷◌}
use Rattle.str_lexer.specs.declared.token.Mark.{Mark}
use Rattle.str_lexer.specs.declared.token.Mark.TheVariants as M
use Rattle.str_lexer.specs.declared.token.Keyword.{Keyword}
use Rattle.str_lexer.specs.declared.token.Keyword.TheVariants as K
use Rattle.str_syntax.specs.declared.strategy.Operator.{Operator}
use Rattle.str_syntax.specs.declared.strategy.Operator.TheVariants as O
use Rattle.str_syntax.specs.declared.definition.Origin.{Origin}
use Rattle.str_syntax.specs.declared.definition.Origin.TheVariants as origins
use Rattle.str_syntax.specs.Trees.{Bytes, ParameterTree, absent, strategies_only, with_terms, HeadTree, PatternTree, variable, wildcard, alias, integer, quoted, application, grouped, tuple, list, annotated, applied, applied_to, PatternTrees, no_patterns, more_patterns, StrategyTree, plain_sequence, left_choice, guarded_choice, StrategyTrees, no_strategies, more_strategies, OptionalStrategy, SequenceTree, last, then, StepTree, plain_step, matching, PrimaryTree, identity, failure, match, build, apply, parenthesized, scope, operator, conditional, recursive, let_in, primitive, lambda, call, tuple_congruence, list_congruence, ArgumentTree, RuleTree, rewrites, DefinitionTree, definition, DefinitionTrees, no_definitions, more_definitions, SortTree, sort, sort_of, SortTrees, no_sorts, more_sorts, DeclarationTree, constant, constructor, injection, SignatureTree, sorts, constructors, FormTree, rule_form, strategy_form, TopTree, SectionTree, signature, rules, strategies, FileTree, no_strategy, one_strategy, no_pattern, one_pattern, no_arguments, strategy_arguments, all_arguments, head}
use Rattle.str_parser.specs.Lexemes.{Lexeme, Part, strategy_part, match_part, build_part, sort_part, first_begins}
use Rattle.str_parser.specs.Lexemes.{Lexeme as L}
use Rattle.str_parser.specs.Items.{Item, token, part, no_build, only, too_deep, Runs}

abbrev pub sign : Mark → Item
sign m = token (L.mark m)

abbrev pub word : Keyword → Item
word k = token (L.keyword k)

abbrev pub named : Bytes → Item
named x = token (L.name x)

-- ---- names

-- names, with a comma before each
abbrev pub other_names : List Bytes → List Item → List Item
other_names [] is = is
other_names (x ∷ xs) is = sign M.Comma ∷ named x ∷ other_names xs is

-- names, with commas between
abbrev pub names : List Bytes → List Item → List Item
names [] is = is
names (x ∷ xs) is = named x ∷ other_names xs is

-- the same, where there is one at least
abbrev pub some_names : List Bytes → List Item → List Item
some_names [] is = only false ∷ is
some_names (x ∷ xs) is = named x ∷ other_names xs is

abbrev pub parameters : ParameterTree → List Item → List Item
parameters absent is = is
parameters (strategies_only fs) is = sign M.OpenParenthesis ∷ names fs (sign M.CloseParenthesis ∷ is)
parameters (with_terms fs xs) is =
    sign M.OpenParenthesis ∷ names fs (sign M.Bar ∷ names xs (sign M.CloseParenthesis ∷ is))

-- a name with parameters
abbrev pub headed : HeadTree → List Item → List Item
headed (head x ps) is = named x ∷ parameters ps is

abbrev pub is_not : Bool → Bool
is_not true = false
is_not false = true

-- no '
abbrev pub is_constructor : Bytes → Bool
is_constructor [] = true
is_constructor (b ∷ bs) = is_not (b == 39) && is_constructor bs

-- ---- patterns and strategies

abbrev pub pattern_part : Bool → Part
pattern_part true = match_part
pattern_part false = build_part

abbrev pub keyword_of : Operator → Keyword
keyword_of O.Where = K.Where
keyword_of O.Not = K.Not
keyword_of O.All = K.All
keyword_of O.One = K.One
keyword_of O.Some = K.Some

-- not exactly one pattern
abbrev pub are_parts : PatternTrees → Bool
are_parts (more_patterns p no_patterns) = false
are_parts _ = true

-- not exactly one strategy
abbrev pub are_operands : StrategyTrees → Bool
are_operands (more_strategies s no_strategies) = false
are_operands _ = true

abbrev pub any_patterns : PatternTrees → Bool
any_patterns no_patterns = false
any_patterns (more_patterns p ps) = true

abbrev pub any_strategies : StrategyTrees → Bool
any_strategies no_strategies = false
any_strategies (more_strategies s ss) = true

-- annotations may follow the pattern: after x@p they are those of p, after <s> p too, and after <s> or annotations
-- there are none
abbrev pub takes_annotations : PatternTree → Bool
takes_annotations (alias x p) = false
takes_annotations (annotated p qs) = false
takes_annotations (applied s) = false
takes_annotations (applied_to s p) = false
takes_annotations _ = true

abbrev mutual
  -- The pattern at this level, in a match or in a build. What stands in a pattern is one level further in.
  pub pattern : Bool → ℕ → PatternTree → List Item → List Item
  pattern in_match k (variable x) is = named x ∷ is
  pattern in_match k wildcard is = token L.wildcard ∷ is
  pattern in_match k (alias x p) is =
      named x ∷ sign M.At ∷ part (pattern_part in_match) (k + 1) ∷ pattern in_match (k + 1) p is
  pattern in_match k (integer z) is = token (L.integer z) ∷ is
  pattern in_match k (quoted text) is = token (L.quoted text) ∷ is
  pattern in_match k (application c ps) is =
      only (is_constructor c) ∷ named c ∷ sign M.OpenParenthesis ∷
      patterns in_match (k + 1) ps (sign M.CloseParenthesis ∷ is)
  pattern in_match k (grouped p) is =
      sign M.OpenParenthesis ∷ part (pattern_part in_match) (k + 1) ∷
      pattern in_match (k + 1) p (sign M.CloseParenthesis ∷ is)
  pattern in_match k (tuple ps) is =
      only (are_parts ps) ∷ sign M.OpenParenthesis ∷ patterns in_match (k + 1) ps (sign M.CloseParenthesis ∷ is)
  pattern in_match k (list ps no_pattern) is =
      sign M.OpenBracket ∷ patterns in_match (k + 1) ps (sign M.CloseBracket ∷ is)
  pattern in_match k (list ps (one_pattern p)) is =
      only (any_patterns ps) ∷ sign M.OpenBracket ∷
      patterns in_match (k + 1)
      ps (sign M.Bar ∷ part (pattern_part in_match) (k + 1) ∷ pattern in_match (k + 1) p (sign M.CloseBracket ∷ is))
  pattern in_match k (annotated p qs) is =
      only (takes_annotations p) ∷
      pattern in_match k p (sign M.OpenBrace ∷ patterns in_match (k + 1) qs (sign M.CloseBrace ∷ is))
  pattern in_match k (applied s) is =
      only (is_not in_match) ∷ sign M.Less ∷ part strategy_part (k + 1) ∷
      strategy (k + 1) s (sign M.Greater ∷ no_build ∷ is)
  pattern in_match k (applied_to s p) is =
      only (is_not in_match) ∷ sign M.Less ∷ part strategy_part (k + 1) ∷
      strategy (k + 1) s (sign M.Greater ∷ part build_part (k + 1) ∷ pattern in_match (k + 1) p is)

  -- patterns at this level, with commas between
  pub patterns : Bool → ℕ → PatternTrees → List Item → List Item
  patterns in_match k no_patterns is = is
  patterns in_match k (more_patterns p ps) is =
      part (pattern_part in_match) k ∷ pattern in_match k p (other_patterns in_match k ps is)

  -- patterns at this level, with a comma before each
  pub other_patterns : Bool → ℕ → PatternTrees → List Item → List Item
  other_patterns in_match k no_patterns is = is
  other_patterns in_match k (more_patterns p ps) is =
      sign M.Comma ∷ part (pattern_part in_match) k ∷ pattern in_match k p (other_patterns in_match k ps is)

  -- The strategy at this level. What stands left of an operator is at its level, what stands right of it one level
  -- further in.
  pub strategy : ℕ → StrategyTree → List Item → List Item
  strategy k (plain_sequence q) is = sequence k q is
  strategy k (left_choice q s) is =
      sequence k q (sign M.LeftChoice ∷ part strategy_part (k + 1) ∷ strategy (k + 1) s is)
  strategy k (guarded_choice q s t) is =
      sequence k q (sign M.Less ∷ part strategy_part (k + 1) ∷
      strategy (k + 1) s (sign M.Plus ∷ part strategy_part (k + 1) ∷ strategy (k + 1) t is))

  -- strategies at this level, with commas between
  pub strategy_list : ℕ → StrategyTrees → List Item → List Item
  strategy_list k no_strategies is = is
  strategy_list k (more_strategies s ss) is = part strategy_part k ∷ strategy k s (other_strategies k ss is)

  -- strategies at this level, with a comma before each
  pub other_strategies : ℕ → StrategyTrees → List Item → List Item
  other_strategies k no_strategies is = is
  other_strategies k (more_strategies s ss) is =
      sign M.Comma ∷ part strategy_part k ∷ strategy k s (other_strategies k ss is)

  pub sequence : ℕ → SequenceTree → List Item → List Item
  sequence k (last a) is = step k a is
  sequence k (then a q) is = step k a (sign M.Semicolon ∷ part strategy_part (k + 1) ∷ sequence (k + 1) q is)

  pub step : ℕ → StepTree → List Item → List Item
  step k (plain_step a) is = primary k a is
  step k (matching a p) is = primary k a (sign M.DoubleArrow ∷ part match_part (k + 1) ∷ pattern true (k + 1) p is)

  -- a strategy that no operator splits
  pub primary : ℕ → PrimaryTree → List Item → List Item
  primary k identity is = word K.Id ∷ is
  primary k failure is = word K.Fail ∷ is
  primary k (match p) is = sign M.Question ∷ part match_part (k + 1) ∷ pattern true (k + 1) p is
  primary k (build p) is = sign M.Exclamation ∷ part build_part (k + 1) ∷ pattern false (k + 1) p is
  primary k (apply s p) is = sign M.Less ∷ part strategy_part (k + 1) ∷
      strategy (k + 1) s (sign M.Greater ∷ part build_part (k + 1) ∷ pattern false (k + 1) p is)
  primary k (parenthesized s) is =
      sign M.OpenParenthesis ∷ part strategy_part (k + 1) ∷ strategy (k + 1) s (sign M.CloseParenthesis ∷ is)
  primary k (scope xs s) is = sign M.OpenBrace ∷
      some_names xs (sign M.Colon ∷ part strategy_part (k + 1) ∷ strategy (k + 1) s (sign M.CloseBrace ∷ is))
  primary k (operator o s) is =
      word (keyword_of o) ∷ sign M.OpenParenthesis ∷ part strategy_part (k + 1) ∷
      strategy (k + 1) s (sign M.CloseParenthesis ∷ is)
  primary k (conditional c s o) is =
      word K.If ∷ part strategy_part (k + 1) ∷
      strategy (k + 1) c (word K.Then ∷ part strategy_part (k + 1) ∷
      strategy (k + 1) s (led_by K.Else (k + 1) o (word K.End ∷ is)))
  primary k (recursive x s) is =
      word K.Rec ∷ named x ∷ sign M.OpenParenthesis ∷ part strategy_part (k + 1) ∷
      strategy (k + 1) s (sign M.CloseParenthesis ∷ is)
  primary k (let_in no_definitions s) is = only false ∷ is
  primary k (let_in (more_definitions d ds) s) is =
      word K.Let ∷ defined (k + 1)
      d (definitions (k + 1) ds (word K.In ∷ part strategy_part (k + 1) ∷ strategy (k + 1) s (word K.End ∷ is)))
  primary k (primitive text ps) is =
      word K.Prim ∷ sign M.OpenParenthesis ∷ token (L.quoted text) ∷
      other_patterns false (k + 1) ps (sign M.CloseParenthesis ∷ is)
  primary k (lambda r) is = sign M.Backslash ∷ rule (k + 1) r (sign M.Backslash ∷ is)
  primary k (call x a) is = named x ∷ arguments (k + 1) a is
  primary k (tuple_congruence ss) is =
      only (are_operands ss) ∷ sign M.OpenParenthesis ∷ strategy_list (k + 1) ss (sign M.CloseParenthesis ∷ is)
  primary k (list_congruence ss no_strategy) is =
      sign M.OpenBracket ∷ strategy_list (k + 1) ss (sign M.CloseBracket ∷ is)
  primary k (list_congruence ss (one_strategy s)) is =
      only (any_strategies ss) ∷ sign M.OpenBracket ∷
      strategy_list (k + 1) ss (sign M.Bar ∷ part strategy_part (k + 1) ∷ strategy (k + 1) s (sign M.CloseBracket ∷ is))

  -- an optional strategy at this level, with this keyword before it
  pub led_by : Keyword → ℕ → OptionalStrategy → List Item → List Item
  led_by w k no_strategy is = is
  led_by w k (one_strategy s) is = word w ∷ part strategy_part k ∷ strategy k s is

  -- the arguments of a call, at this level
  pub arguments : ℕ → ArgumentTree → List Item → List Item
  arguments k no_arguments is = is
  arguments k (strategy_arguments ss) is = sign M.OpenParenthesis ∷ strategy_list k ss (sign M.CloseParenthesis ∷ is)
  arguments k (all_arguments ss ps) is =
      sign M.OpenParenthesis ∷ strategy_list k ss (sign M.Bar ∷ patterns false k ps (sign M.CloseParenthesis ∷ is))

  -- the sides and the condition of a rule, at this level
  pub rule : ℕ → RuleTree → List Item → List Item
  rule k (rewrites l r o) is = part match_part k ∷
      pattern true k l (sign M.Arrow ∷ part build_part k ∷ pattern false k r (led_by K.Where k o is))

  -- a definition whose body is at this level
  pub defined : ℕ → DefinitionTree → List Item → List Item
  defined k (definition h s) is = headed h (sign M.Equals ∷ part strategy_part k ∷ strategy k s is)

  pub definitions : ℕ → DefinitionTrees → List Item → List Item
  definitions k no_definitions is = is
  definitions k (more_definitions d ds) is = defined k d (definitions k ds is)

-- ---- signatures

abbrev pub any_sorts : SortTrees → Bool
any_sorts no_sorts = false
any_sorts (more_sorts s ss) = true

abbrev mutual
  pub sorted : ℕ → SortTree → List Item → List Item
  sorted k (sort x) is = named x ∷ is
  sorted k (sort_of x ss) is = only (any_sorts ss) ∷ named x ∷ sign M.OpenParenthesis ∷
      sort_list (k + 1) ss (sign M.CloseParenthesis ∷ is)

  -- sorts at this level, with commas between
  pub sort_list : ℕ → SortTrees → List Item → List Item
  sort_list k no_sorts is = is
  sort_list k (more_sorts s ss) is = part sort_part k ∷ sorted k s (other_sorts k ss is)

  pub other_sorts : ℕ → SortTrees → List Item → List Item
  other_sorts k no_sorts is = is
  other_sorts k (more_sorts s ss) is = sign M.Comma ∷ part sort_part k ∷ sorted k s (other_sorts k ss is)

-- the sorts of a signature, one after the other
abbrev pub sort_run : SortTrees → List Item → List Item
sort_run no_sorts is = is
sort_run (more_sorts s ss) is = part sort_part 1 ∷ sorted 1 s (sort_run ss is)

-- sorts with * between them, then -> and a sort
abbrev pub factors : SortTrees → SortTree → List Item → List Item
factors no_sorts to is = sign M.Arrow ∷ part sort_part 1 ∷ sorted 1 to is
factors (more_sorts s ss) to is = sign M.Star ∷ part sort_part 1 ∷ sorted 1 s (factors ss to is)

abbrev pub declared_type : SortTrees → SortTree → List Item → List Item
declared_type no_sorts to is = only false ∷ is
declared_type (more_sorts s ss) to is = sign M.Colon ∷ part sort_part 1 ∷ sorted 1 s (factors ss to is)

abbrev pub declaration : DeclarationTree → List Item → List Item
declaration (constant c s) is = only (is_constructor c) ∷ named c ∷ sign M.Colon ∷ part sort_part 1 ∷ sorted 1 s is
declaration (constructor c ss s) is = only (is_constructor c) ∷ named c ∷ declared_type ss s is
declaration (injection ss s) is = declared_type ss s is

abbrev pub declarations : List DeclarationTree → List Item → List Item
declarations [] is = is
declarations (d ∷ ds) is = declaration d (declarations ds is)

abbrev pub signature_part : SignatureTree → List Item → List Item
signature_part (sorts ss) is = word K.Sorts ∷ sort_run ss is
signature_part (constructors ds) is = word K.Constructors ∷ declarations ds is

abbrev pub signature_parts : List SignatureTree → List Item → List Item
signature_parts [] is = is
signature_parts (s ∷ ss) is = signature_part s (signature_parts ss is)

-- ---- files

abbrev pub form : FormTree → List Item → List Item
form (rule_form h r) is = headed h (sign M.Colon ∷ rule 1 r is)
form (strategy_form d) is = defined 1 d is

-- a definition of the library is not written
abbrev pub from_file : Origin → Bool
from_file origins.File = true
from_file origins.Library = false

abbrev pub top_forms : List TopTree → List Item → List Item
top_forms [] is = is
top_forms (d ∷ ds) is = only (from_file d.origin) ∷ form d.form (top_forms ds is)

abbrev pub section : SectionTree → List Item → List Item
section (signature ss) is = word K.Signature ∷ signature_parts ss is
section (rules ds) is = word K.Rules ∷ top_forms ds is
section (strategies ds) is = word K.Strategies ∷ top_forms ds is

abbrev pub sections : List SectionTree → List Item → List Item
sections [] is = is
sections (s ∷ ss) is = section s (sections ss is)

abbrev pub file : FileTree → List Item
file f = sections f.sections []

-- the tokens are written so, whatever the levels of parts
abbrev pub Spelled : List Item → List Lexeme → Type 0
Spelled [] ts = ts ≡ []
Spelled (token u ∷ is) [] = ⊥
Spelled (token u ∷ is) (t ∷ ts) = (t ≡ u) × Spelled is ts
Spelled (part p k ∷ is) ts = Spelled is ts
Spelled (no_build ∷ is) ts = (first_begins build_part ts ≡ false) × Spelled is ts
Spelled (only b ∷ is) ts = (b ≡ true) × Spelled is ts

-- the tokens are the phrase of this file
abbrev pub IsPhrase : List Lexeme → FileTree → Type 0
IsPhrase ts f = Spelled (file f) ts

-- the tokens are the phrase of this file, and of no other
pub record OnlyPhrase (ts : List Lexeme) (f : FileTree) : Type 0 where
  pub phrase : IsPhrase ts f
  pub only_one : (g : FileTree) → IsPhrase ts g → g ≡ f

-- some first tokens are the first of a phrase, of any depth, in which a part at level 201 comes next, and the next
-- token can begin it
pub record TooNested (ts : List Lexeme) : Type 0 where
  pub f : FileTree
  pub runs : Runs too_deep (file f) ts
