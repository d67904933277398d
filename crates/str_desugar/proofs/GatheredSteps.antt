-- Steps of the walk that gathers names.
use Rattle.std.proofs.Common.{◌≡◌, ℕ, ◌+◌, ◌<◌, List, [], ◌∷◌, ◌++◌, sym, ◌∙◌, ap, length, get_or, drop}
use Rattle.std.specs.Prelude.{Result, Ok, Err, OnOk}
use Rattle.std.specs.Borrow.{Bor}
use Rattle.std.proofs.lemmas.List.{drop_more}
use Rattle.str_syntax.specs.declared.strategy.Pattern.{Pattern}
use Rattle.str_syntax.specs.declared.strategy.Strategy.{Strategy}
use Rattle.str_syntax.specs.declared.strategy.Rule.{Rule}
use Rattle.str_syntax.specs.declared.strategy.StrategyDefinition.{StrategyDefinition}
use Rattle.str_syntax.specs.declared.strategy.Arguments.TheViews.{out-Rule, out-StrategyDefinition, roll-out-Rule, roll-out-StrategyDefinition}
use Rattle.str_syntax.proofs.ReadLaws.{reads_made_rule, reads_made_definition}
use Rattle.str_syntax.specs.Trees.{Bytes, rewrites, definition}
use Rattle.str_syntax.specs.Views.{head_of, optional_strategy_of, pattern_of, patterns_of, rule_of, strategy_of, strategies_of, definition_of, definitions_of}
use Rattle.str_desugar.specs.declared.bound.Bound.{Bound}
use Rattle.str_desugar.specs.declared.bound.Bound.TheViews as code
use Rattle.str_desugar.specs.declared.bound.Bound.TheVariants as variants
use Rattle.str_desugar.specs.declared.bound.Bound.TheOpen as forms
use Rattle.str_desugar.specs.declared.bound.Bound.TheFolds.{fold-roll-Bound}
use Rattle.str_desugar.specs.Gathered.{gathered, bound_names, bound_step}
use Rattle.str_desugar.specs.Variables.{names_of, names_among, free_in, free_among, free_in_definition, free_in_definitions, each_once, without}
use Rattle.str_desugar.proofs.GatheredLaws.{gathered_then, gathered_within, gathered_once, gathered_all, gathered_free, gathered_without_none}

pub next_is : {A : Type 0} (items : List A) (i : ℕ) (a : A) → i < length items → a ≡ get_or items i a →
    drop i items ≡ a ∷ drop (i + 1) items
next_is items i a h is = drop_more items i a h ∙ ap (λ u. u ∷ drop (i + 1) items) (sym is)

gathered_next : (bound found new xs ys : List Bytes) → new ≡ gathered bound found xs →
    gathered bound found (xs ++ ys) ≡ gathered bound new ys
gathered_next bound found new xs ys e = gathered_then bound found xs ys ∙ ap (λ f. gathered bound f ys) (sym e)

module _ (bound found new : List Bytes) (i : ℕ) where
  pub next_pattern : (all : List Pattern) (p : Pattern) → i < length all → p ≡ get_or all i p →
      new ≡ gathered bound found (names_of (pattern_of p)) →
      gathered bound found (names_among (patterns_of (drop i all))) ≡
      gathered bound new (names_among (patterns_of (drop (i + 1) all)))
  next_pattern all p h is e =
      ap (λ ps. gathered bound found (names_among (patterns_of ps))) (next_is all i p h is) ∙
      gathered_next bound found new (names_of (pattern_of p)) (names_among (patterns_of (drop (i + 1) all))) e

  pub next_strategy : (all : List Strategy) (s : Strategy) → i < length all → s ≡ get_or all i s →
      new ≡ gathered bound found (free_in (strategy_of s)) →
      gathered bound found (free_among (strategies_of (drop i all))) ≡
      gathered bound new (free_among (strategies_of (drop (i + 1) all)))
  next_strategy all s h is e =
      ap (λ ss. gathered bound found (free_among (strategies_of ss))) (next_is all i s h is) ∙
      gathered_next bound found new (free_in (strategy_of s)) (free_among (strategies_of (drop (i + 1) all))) e

  pub next_definition : (all : List StrategyDefinition) (d : StrategyDefinition) → i < length all → d ≡ get_or all i d →
      new ≡ gathered bound found (free_in_definition (definition_of d)) →
      gathered bound found (free_in_definitions (definitions_of (drop i all))) ≡
      gathered bound new (free_in_definitions (definitions_of (drop (i + 1) all)))
  next_definition all d h is e =
      ap (λ ds. gathered bound found (free_in_definitions (definitions_of ds))) (next_is all i d h is) ∙
      gathered_next bound found new (free_in_definition (definition_of d))
      (free_in_definitions (definitions_of (drop (i + 1) all))) e

-- what each layer of the code binds
pub reads_nothing : bound_names variants.Nothing ≡ []
reads_nothing = ap bound_names (sym variants.rolls-Nothing) ∙ fold-roll-Bound (List Bytes) bound_step forms.Nothing

pub reads_terms : (xs : Bor (List Bytes)) → bound_names (variants.Terms xs) ≡ xs.now
reads_terms xs = ap bound_names (sym (variants.rolls-Terms xs)) ∙
    fold-roll-Bound (List Bytes) bound_step (forms.Terms xs)

pub reads_layer : (xs : Bor (List Bytes)) (up : Bor Bound) →
    bound_names (code.Scope xs up) ≡ xs.now ++ bound_names up.now
reads_layer xs up = ap bound_names (sym (code.rolls-Scope xs up)) ∙
    fold-roll-Bound (List Bytes) bound_step (forms.Scope xs up)

module _ {A E : Type 0} (r : Result A E) where
  on_ok : (P Q : Type 0) → (P → Q) → OnOk r P → OnOk r Q
  on_ok P Q f h = by r h
    where
      by : (o : Result A E) → OnOk o P → OnOk o Q
      by (Ok x) p = f p
      by (Err e) p = tt

  -- one part, and then another
  pub then_ok : (bound old mid new whole xs ys : List Bytes) → whole ≡ xs ++ ys → mid ≡ gathered bound old xs →
      OnOk r (new ≡ gathered bound mid ys) →
      OnOk r (new ≡ gathered bound old whole)
  then_ok bound old mid new whole xs ys all first second =
      on_ok (new ≡ gathered bound mid ys) (new ≡ gathered bound old whole)
      (λ e. e ∙ sym (ap (gathered bound old) all ∙ gathered_next bound old mid xs ys first)) second

  -- a part in which more names are bound
  pub scope_ok : (xs : Bor (List Bytes)) (up : Bor Bound) (old new names ys : List Bytes) → xs.now ≡ names →
      OnOk r (new ≡ gathered (bound_names (code.Scope xs up)) old ys) →
      OnOk r (new ≡ gathered (bound_names up.now) old (without names ys))
  scope_ok xs up old new names ys is h =
      on_ok (new ≡ gathered (bound_names (code.Scope xs up)) old ys)
      (new ≡ gathered (bound_names up.now) old (without names ys))
      (λ e. e ∙ ap (λ b. gathered b old ys) (reads_layer xs up ∙ ap (λ l. l ++ bound_names up.now) is) ∙
      sym (gathered_within names (bound_names up.now) old ys)) h

  pub lambda_ok : (xs : Bor (List Bytes)) (up : Bor Bound) (old new names ys : List Bytes) → xs.now ≡ each_once names →
      OnOk r (new ≡ gathered (bound_names (code.Scope xs up)) old ys) →
      OnOk r (new ≡ gathered (bound_names up.now) old (without names ys))
  lambda_ok xs up old new names ys is h =
      on_ok (new ≡ gathered (bound_names (code.Scope xs up)) old ys)
      (new ≡ gathered (bound_names up.now) old (without names ys))
      (λ e. e ∙ ap (λ b. gathered b old ys) (reads_layer xs up ∙ ap (λ l. l ++ bound_names up.now) is) ∙
      gathered_once names (bound_names up.now) old ys) h

  -- a part in which no more names are bound
  pub plain_ok : (bound old new whole ys : List Bytes) → whole ≡ without [] ys → OnOk r (new ≡ gathered bound old ys) →
      OnOk r (new ≡ gathered bound old whole)
  plain_ok bound old new whole ys all h =
      on_ok (new ≡ gathered bound old ys) (new ≡ gathered bound old whole)
      (λ e. e ∙ sym (ap (gathered bound old) all ∙ gathered_without_none bound old ys)) h

-- all names of a left side
pub left_all : (found new ys whole : List Bytes) → found ≡ [] → new ≡ gathered (bound_names variants.Nothing) found ys →
    whole ≡ ys → new ≡ each_once whole
left_all found new ys whole none e all =
    e ∙ ap (λ b. gathered b found ys) reads_nothing ∙ ap (λ f. gathered [] f ys) none ∙ gathered_free ys ∙
    sym (ap each_once all)

-- all names that are free with these term parameters
pub free_all : (xs : Bor (List Bytes)) (found new terms ys : List Bytes) → xs.now ≡ terms → found ≡ [] →
    new ≡ gathered (bound_names (variants.Terms xs)) found ys →
    new ≡ each_once (without terms ys)
free_all xs found new terms ys is none e =
    e ∙ ap (λ b. gathered b found ys) (reads_terms xs ∙ is) ∙ ap (λ f. gathered terms f ys) none ∙ gathered_all terms ys

-- what a rule and a definition stand for
pub reads_rule : (r : Rule) → rule_of r ≡
    rewrites (pattern_of (out-Rule r).left.value) (pattern_of (out-Rule r).right.value)
    (optional_strategy_of (out-Rule r).condition)
reads_rule r = ap rule_of (sym (roll-out-Rule r)) ∙ reads_made_rule (out-Rule r)

pub reads_definition : (d : StrategyDefinition) →
    definition_of d ≡ definition (head_of (out-StrategyDefinition d).head)
    (strategy_of (out-StrategyDefinition d).body.value)
reads_definition d = ap definition_of (sym (roll-out-StrategyDefinition d)) ∙
    reads_made_definition (out-StrategyDefinition d)
