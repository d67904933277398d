-- The library: the strategy definitions that are added to every file.
use Rattle.std.specs.Prelude.{List, [], ◌∷◌, ◌++◌, map, codes}
use Rattle.str_syntax.specs.declared.definition.Origin.{Origin}
use Rattle.str_syntax.specs.declared.definition.Origin.TheVariants as origins
use Rattle.str_syntax.specs.declared.strategy.Operator.TheVariants as operators
use Rattle.str_syntax.specs.Trees.{Bytes, strategies_only, head, StrategyTree, plain_sequence, left_choice, no_strategies, more_strategies, no_strategy, one_strategy, last, then, plain_step, PrimaryTree, identity, operator, call, list_congruence, no_arguments, strategy_arguments, DefinitionTree, definition, strategy_form, TopTree, SectionTree, strategies, FileTree}

-- ---- the forms of strategies that the library is made of

-- p, which no operator splits
abbrev pub alone : PrimaryTree → StrategyTree
alone p = plain_sequence (last (plain_step p))

-- p; q
infix 30 ◌⨟◌
abbrev pub ◌⨟◌ : PrimaryTree → PrimaryTree → StrategyTree
p ⨟ q = plain_sequence (then (plain_step p) (last (plain_step q)))

-- p <+ q
infix 20 ◌<+◌
abbrev pub ◌<+◌ : PrimaryTree → PrimaryTree → StrategyTree
p <+ q = left_choice (last (plain_step p)) (alone q)

-- all(p) and one(p)
abbrev pub all : PrimaryTree → PrimaryTree
all p = operator operators.All (alone p)

abbrev pub one : PrimaryTree → PrimaryTree
one p = operator operators.One (alone p)

-- f(t)
abbrev pub called : Bytes → StrategyTree → PrimaryTree
called f t = call f (strategy_arguments (more_strategies t no_strategies))

-- the parameter s of each definition, and f(s)
abbrev pub s : PrimaryTree
s = call (codes "s") no_arguments

abbrev pub with_s : Bytes → PrimaryTree
with_s f = called f (alone s)

-- [] and [p | q]
abbrev pub empty_list : PrimaryTree
empty_list = list_congruence no_strategies no_strategy

abbrev pub list_of : PrimaryTree → PrimaryTree → PrimaryTree
list_of p q = list_congruence (more_strategies (alone p) no_strategies) (one_strategy (alone q))

-- f(s) = body
infix 10 ◌≔◌
abbrev pub ◌≔◌ : Bytes → StrategyTree → DefinitionTree
f ≔ body = definition (head f (strategies_only (codes "s" ∷ []))) body

-- ---- the definitions

-- try(s) = s <+ id
abbrev pub try_definition : DefinitionTree
try_definition = codes "try" ≔ s <+ identity

-- repeat(s) = try(s; repeat(s))
abbrev pub repeat_definition : DefinitionTree
repeat_definition = codes "repeat" ≔ alone (called (codes "try") (s ⨟ with_s (codes "repeat")))

-- topdown(s) = s; all(topdown(s))
abbrev pub topdown_definition : DefinitionTree
topdown_definition = codes "topdown" ≔ s ⨟ all (with_s (codes "topdown"))

-- bottomup(s) = all(bottomup(s)); s
abbrev pub bottomup_definition : DefinitionTree
bottomup_definition = codes "bottomup" ≔ all (with_s (codes "bottomup")) ⨟ s

-- oncetd(s) = s <+ one(oncetd(s))
abbrev pub oncetd_definition : DefinitionTree
oncetd_definition = codes "oncetd" ≔ s <+ one (with_s (codes "oncetd"))

-- oncebu(s) = one(oncebu(s)) <+ s
abbrev pub oncebu_definition : DefinitionTree
oncebu_definition = codes "oncebu" ≔ one (with_s (codes "oncebu")) <+ s

-- alltd(s) = s <+ all(alltd(s))
abbrev pub alltd_definition : DefinitionTree
alltd_definition = codes "alltd" ≔ s <+ all (with_s (codes "alltd"))

-- innermost(s) = bottomup(try(s; innermost(s)))
abbrev pub innermost_definition : DefinitionTree
innermost_definition = codes "innermost" ≔ alone
    (called (codes "bottomup") (alone (called (codes "try") (s ⨟ with_s (codes "innermost")))))

-- map(s) = [] <+ [s | map(s)]
abbrev pub map_definition : DefinitionTree
map_definition = codes "map" ≔ empty_list <+ list_of s (with_s (codes "map"))

abbrev pub library : List DefinitionTree
library = try_definition ∷ repeat_definition ∷ topdown_definition ∷ bottomup_definition ∷ oncetd_definition ∷
    oncebu_definition ∷ alltd_definition ∷ innermost_definition ∷ map_definition ∷ []

-- ---- a file with the library

-- a definition of this origin
abbrev pub from : Origin → DefinitionTree → TopTree
from o d = record { origin = o; form = strategy_form d }

-- The section of the library. With the origin of a file it is what the text of the library is read as.
abbrev pub library_section : Origin → SectionTree
library_section o = strategies (map (from o) library)

-- the file's sections as they are, and then that of the library
abbrev pub with_library : FileTree → FileTree
with_library f = record { sections = f.sections ++ library_section origins.Library ∷ [] }
