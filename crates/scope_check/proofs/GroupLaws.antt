-- The heads of definitions that stand together.
use Rattle.std.proofs.Common.{◌≡◌, ◌∙◌, ℕ, ◌<◌, Bool, true, ◌||◌, List, [], ◌∷◌, map, length, get_or, sym, refl, ap}
use Rattle.std.specs.Borrow.{Bor}
use Rattle.std.specs.List.{list_any}
use Rattle.std.proofs.lemmas.List.Folds.{list_any_at}
use Rattle.str_syntax.specs.declared.strategy.DefinitionHead.{DefinitionHead}
use Rattle.scope_check.specs.Tables.{heads_of}
use Rattle.str_syntax.specs.declared.strategy.StrategyDefinition.{StrategyDefinition}
use Rattle.str_syntax.specs.declared.strategy.Arguments.TheFolds.{fold_out-StrategyDefinition}
use Rattle.str_syntax.specs.Trees.{definition, more_definitions, ArgumentTree, PatternTree, PrimaryTree, SequenceTree, StepTree, StrategyTree, RuleTree, DefinitionTree, HeadTree}
use Rattle.str_syntax.specs.Views.{argument_step, pattern_step, primary_step, rule_step, sequence_step, step_step, strategy_step, definition_step, head_of, definition_of, definitions_of, strategy_of}
use Rattle.scope_check.specs.Seen.{heads_in}

-- a definition is its head and its body
pub reads_definition : (d : StrategyDefinition) →
    definition_of d ≡ definition (head_of d.head) (strategy_of d.body.value)
reads_definition d = fold_out-StrategyDefinition ArgumentTree PatternTree PrimaryTree SequenceTree StepTree StrategyTree
    RuleTree DefinitionTree argument_step pattern_step primary_step sequence_step step_step strategy_step rule_step
    definition_step d

pub heads_of_definitions : (ds : List StrategyDefinition) → heads_in (definitions_of ds) ≡ map (λ d. head_of d.head) ds
heads_of_definitions [] = refl
heads_of_definitions (d ∷ ds) = ap (λ t. heads_in (more_definitions t (definitions_of ds))) (reads_definition d) ∙
    ap (λ hs. head_of d.head ∷ hs) (heads_of_definitions ds)

-- a test of heads that are pointed at
any-map : (p : HeadTree → Bool) (hs : List (Bor DefinitionHead)) →
    list_any p (heads_of hs) ≡ list_any (λ h. p (head_of h.now)) hs
any-map p [] = refl
any-map p (h ∷ hs) = ap (λ b. p (head_of h.now) || b) (any-map p hs)

pub one_head : (p : HeadTree → Bool) (hs : List (Bor DefinitionHead)) (i : ℕ) (h : Bor DefinitionHead) → i < length hs →
    h ≡ get_or hs i h → p (head_of h.now) ≡ true → list_any p (heads_of hs) ≡ true
one_head p hs i h within is test =
    any-map p hs ∙ list_any_at (λ g. p (head_of g.now))
    hs i h within (ap (λ (g : Bor DefinitionHead). p (head_of g.now)) (sym is) ∙ test)
