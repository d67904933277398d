-- The trees of definition files as values.
use Rattle.std.specs.Prelude.{ℕ, ℤ, List}
use Rattle.str_syntax.specs.declared.strategy.Operator.{Operator}
use Rattle.str_syntax.specs.declared.definition.Origin.{Origin}

-- a name, or what a quoted text stands for
abbrev pub Bytes : Type 0
Bytes = List ℕ

-- the parameters of a rule or a definition
pub data ParameterTree : Type 0 where
  absent : ParameterTree
  strategies_only : List Bytes → ParameterTree
  with_terms : List Bytes → List Bytes → ParameterTree

-- the name and the parameters of a rule or a definition
pub data HeadTree : Type 0 where
  head : Bytes → ParameterTree → HeadTree

mutual
  pub data PatternTree : Type 0 where
    variable : Bytes → PatternTree
    wildcard : PatternTree
    alias : Bytes → PatternTree → PatternTree
    integer : ℤ → PatternTree
    quoted : Bytes → PatternTree
    application : Bytes → PatternTrees → PatternTree
    grouped : PatternTree → PatternTree
    tuple : PatternTrees → PatternTree
    list : PatternTrees → OptionalPattern → PatternTree
    -- a pattern, and those of its annotations
    annotated : PatternTree → PatternTrees → PatternTree
    applied : StrategyTree → PatternTree
    applied_to : StrategyTree → PatternTree → PatternTree

  pub data PatternTrees : Type 0 where
    no_patterns : PatternTrees
    more_patterns : PatternTree → PatternTrees → PatternTrees

  pub data OptionalPattern : Type 0 where
    no_pattern : OptionalPattern
    one_pattern : PatternTree → OptionalPattern

  -- sequences with <+, or < and +, between them
  pub data StrategyTree : Type 0 where
    plain_sequence : SequenceTree → StrategyTree
    left_choice : SequenceTree → StrategyTree → StrategyTree
    guarded_choice : SequenceTree → StrategyTree → StrategyTree → StrategyTree

  pub data StrategyTrees : Type 0 where
    no_strategies : StrategyTrees
    more_strategies : StrategyTree → StrategyTrees → StrategyTrees

  pub data OptionalStrategy : Type 0 where
    no_strategy : OptionalStrategy
    one_strategy : StrategyTree → OptionalStrategy

  -- steps with ; between them
  pub data SequenceTree : Type 0 where
    last : StepTree → SequenceTree
    then : StepTree → SequenceTree → SequenceTree

  -- a primary, or one with => after it
  pub data StepTree : Type 0 where
    plain_step : PrimaryTree → StepTree
    matching : PrimaryTree → PatternTree → StepTree

  pub data PrimaryTree : Type 0 where
    identity : PrimaryTree
    failure : PrimaryTree
    match : PatternTree → PrimaryTree
    build : PatternTree → PrimaryTree
    apply : StrategyTree → PatternTree → PrimaryTree
    parenthesized : StrategyTree → PrimaryTree
    scope : List Bytes → StrategyTree → PrimaryTree
    operator : Operator → StrategyTree → PrimaryTree
    conditional : StrategyTree → StrategyTree → OptionalStrategy → PrimaryTree
    recursive : Bytes → StrategyTree → PrimaryTree
    let_in : DefinitionTrees → StrategyTree → PrimaryTree
    primitive : Bytes → PatternTrees → PrimaryTree
    lambda : RuleTree → PrimaryTree
    call : Bytes → ArgumentTree → PrimaryTree
    tuple_congruence : StrategyTrees → PrimaryTree
    list_congruence : StrategyTrees → OptionalStrategy → PrimaryTree

  -- the arguments of a call
  pub data ArgumentTree : Type 0 where
    no_arguments : ArgumentTree
    strategy_arguments : StrategyTrees → ArgumentTree
    all_arguments : StrategyTrees → PatternTrees → ArgumentTree

  -- a left side, a right side and a condition
  pub data RuleTree : Type 0 where
    rewrites : PatternTree → PatternTree → OptionalStrategy → RuleTree

  pub data DefinitionTree : Type 0 where
    definition : HeadTree → StrategyTree → DefinitionTree

  pub data DefinitionTrees : Type 0 where
    no_definitions : DefinitionTrees
    more_definitions : DefinitionTree → DefinitionTrees → DefinitionTrees

mutual
  pub data SortTree : Type 0 where
    sort : Bytes → SortTree
    sort_of : Bytes → SortTrees → SortTree

  pub data SortTrees : Type 0 where
    no_sorts : SortTrees
    more_sorts : SortTree → SortTrees → SortTrees

pub data DeclarationTree : Type 0 where
  constant : Bytes → SortTree → DeclarationTree
  constructor : Bytes → SortTrees → SortTree → DeclarationTree
  injection : SortTrees → SortTree → DeclarationTree

pub data SignatureTree : Type 0 where
  sorts : SortTrees → SignatureTree
  constructors : List DeclarationTree → SignatureTree

-- a rule or a definition of a section
pub data FormTree : Type 0 where
  rule_form : HeadTree → RuleTree → FormTree
  strategy_form : DefinitionTree → FormTree

-- and where it comes from
pub record TopTree : Type 0 where
  pub origin : Origin
  pub form : FormTree

pub data SectionTree : Type 0 where
  signature : List SignatureTree → SectionTree
  rules : List TopTree → SectionTree
  strategies : List TopTree → SectionTree

pub record FileTree : Type 0 where
  pub sections : List SectionTree
