-- Primaries: how each form is made of what comes after its first token.
use Rattle.std.proofs.Common.{◌≡◌, ℕ, ◌+◌, true, false, List, [], ◌∷◌, refl, ap, arith}
use Rattle.str_lexer.specs.declared.token.Mark.TheVariants as M
use Rattle.str_lexer.specs.declared.token.Keyword.TheVariants as K
use Rattle.str_syntax.specs.declared.strategy.Operator.{Operator}
use Rattle.str_syntax.specs.declared.strategy.Operator.TheVariants as O
use Rattle.str_syntax.specs.Trees.{Bytes, PatternTree, StrategyTree, OptionalStrategy, no_strategy, one_strategy, PrimaryTree, identity, failure, match, build, apply, scope, operator, conditional, recursive, lambda}
use Rattle.str_parser.specs.Lexemes.{Lexeme, mark, keyword, begins_strategy}
use Rattle.str_parser.specs.Items.{Item, either, Runs}
use Rattle.str_parser.specs.Phrases.{sign, keyword_of, some_names, primary, rule}
use Rattle.str_parser.specs.Readings.{NotAt, AtMost, Found, Missing, one_name}
use Rattle.str_parser.specs.Runs.{NoneOf, is_comma}
use Rattle.str_parser.specs.Parsing.{EndsRule, is_where}
use Rattle.str_parser.specs.Parts.{inner_strategy, inner_pattern, Anything, closed_strategy, written_operand, conditional_end}
use Rattle.str_parser.proofs.WayLaws.{not_along}
use Rattle.str_parser.proofs.PhraseLaws.{Made, Makes, Pairs, both, both_pairs, behind, is_behind, no_token, closed}
use Rattle.str_parser.proofs.NameLaws.{at_most_five}
use Rattle.str_parser.proofs.PrimaryLeads.{LedPrimary, led_identity, led_failure, led_match, led_build, led_apply, led_scope, led_where, led_not, led_all, led_one, led_some, led_conditional, led_conditional_else, led_recursive, led_lambda, primary_led, none_led, not_led}

-- ---- tokens with which no primary begins

module _ (k : ℕ) where
  pub no_primary : (ts : List Lexeme) → ts ≡ [] → Missing (primary k) (AtMost 3) ts
  no_primary ts e = rw e (record { none = λ u is h r. none_led either k u is r })

  pub primary_missing : (t : Lexeme) (ts : List Lexeme) → begins_strategy t ≡ false →
      Missing (primary k) (AtMost 3) (t ∷ ts)
  primary_missing t ts e = record { none = λ u is h r. not_led t e u (primary_led either k u is t ts r) }

-- ---- id and fail

module _ (k : ℕ) (ts : List Lexeme) where
  identity_only : (u : PrimaryTree) (is : List Item) → Runs either (primary k u is) (keyword K.Id ∷ ts) →
      LedPrimary (keyword K.Id) u → (u ≡ identity) × Runs either is ts
  identity_only u is r led_identity = (refl, r.1)

  pub identity_found : Found (primary k) (AtMost 3) (keyword K.Id ∷ ts) identity ts
  identity_found = record {
    sound = λ way is r. (refl, r);
    only_one = λ u is h r. identity_only u is r (primary_led either k u is (keyword K.Id) ts r);
    shorter = omega arith;
  }

  failure_only : (u : PrimaryTree) (is : List Item) → Runs either (primary k u is) (keyword K.Fail ∷ ts) →
      LedPrimary (keyword K.Fail) u → (u ≡ failure) × Runs either is ts
  failure_only u is r led_failure = (refl, r.1)

  pub failure_found : Found (primary k) (AtMost 3) (keyword K.Fail ∷ ts) failure ts
  failure_found = record {
    sound = λ way is r. (refl, r);
    only_one = λ u is h r. failure_only u is r (primary_led either k u is (keyword K.Fail) ts r);
    shorter = omega arith;
  }

-- ---- ? and ! with a pattern

module _ (k : ℕ) {ts : List Lexeme} where
  match_only : (u : PrimaryTree) (is : List Item) → AtMost 3 is →
      Runs either (primary k u is) (mark M.Question ∷ ts) → LedPrimary (mark M.Question) u →
      Made (inner_pattern true (k + 1)) (AtMost 3) ts match u is
  match_only u is h r led_match = record { from = _; are = refl; ends = h; runs = r.1 }

  pub is_match : Makes (inner_pattern true (k + 1)) (AtMost 3) ts (primary k) (AtMost 3) (mark M.Question ∷ ts) match
  is_match = record {
    sound = λ way p is r. (refl, r);
    only = λ u is h r. match_only u is h r (primary_led either k u is (mark M.Question) ts r);
    no_longer = omega arith;
  }

  build_only : (u : PrimaryTree) (is : List Item) → AtMost 3 is →
      Runs either (primary k u is) (mark M.Exclamation ∷ ts) → LedPrimary (mark M.Exclamation) u →
      Made (inner_pattern false (k + 1)) (AtMost 3) ts build u is
  build_only u is h r led_build = record { from = _; are = refl; ends = h; runs = r.1 }

  pub is_build : Makes (inner_pattern false (k + 1)) (AtMost 3) ts (primary k) (AtMost 3) (mark M.Exclamation ∷ ts)
      build
  is_build = record {
    sound = λ way p is r. (refl, r);
    only = λ u is h r. build_only u is h r (primary_led either k u is (mark M.Exclamation) ts r);
    no_longer = omega arith;
  }

-- ---- a strategy that is applied to a pattern

-- the strategy with its > and the pattern
abbrev pub applied_to_pattern : ℕ → StrategyTree × PatternTree → List Item → List Item
applied_to_pattern k = both (closed_strategy (mark M.Greater) k) (inner_pattern false k)

abbrev pub as_apply : StrategyTree × PatternTree → PrimaryTree
as_apply q = apply q.0 q.1

pub application_pairs : (k : ℕ) →
    Pairs (closed_strategy (mark M.Greater) k) Anything (inner_pattern false k) (applied_to_pattern k) (AtMost 3)
    (λ s p. (s, p))
application_pairs k = both_pairs (λ p is h. tt)

module _ (k : ℕ) {ts : List Lexeme} where
  apply_only : (u : PrimaryTree) (is : List Item) → AtMost 3 is → Runs either (primary k u is) (mark M.Less ∷ ts) →
      LedPrimary (mark M.Less) u → Made (applied_to_pattern (k + 1)) (AtMost 3) ts as_apply u is
  apply_only u is h r (led_apply {s} {p}) = record { from = (s, p); are = refl; ends = h; runs = r.1 }

  pub is_apply : Makes (applied_to_pattern (k + 1)) (AtMost 3) ts (primary k) (AtMost 3) (mark M.Less ∷ ts) as_apply
  is_apply = record {
    sound = λ way q is r. (refl, r);
    only = λ u is h r. apply_only u is h r (primary_led either k u is (mark M.Less) ts r);
    no_longer = omega arith;
  }

-- ---- scopes

-- a colon and the strategy with its }
abbrev pub scope_body : ℕ → StrategyTree → List Item → List Item
scope_body k = behind (mark M.Colon) (closed_strategy (mark M.CloseBrace) k)

-- the variables and what comes after them
abbrev pub scope_parts : ℕ → List Bytes × StrategyTree → List Item → List Item
scope_parts k = both some_names (scope_body k)

abbrev pub as_scope : List Bytes × StrategyTree → PrimaryTree
as_scope q = scope q.0 q.1

pub scope_pairs : (k : ℕ) →
    Pairs some_names (NoneOf is_comma) (scope_body k) (scope_parts k) Anything (λ xs s. (xs, s))
scope_pairs k = both_pairs (λ s is h t rest r. ap is_comma r.0)

module _ (k : ℕ) {ts : List Lexeme} where
  scope_only : (u : PrimaryTree) (is : List Item) → Runs either (primary k u is) (mark M.OpenBrace ∷ ts) →
      LedPrimary (mark M.OpenBrace) u → Made (scope_parts (k + 1)) Anything ts as_scope u is
  scope_only u is r (led_scope {xs} {s}) = record { from = (xs, s); are = refl; ends = tt; runs = r.1 }

  pub is_scope : Makes (scope_parts (k + 1)) Anything ts (primary k) (AtMost 3) (mark M.OpenBrace ∷ ts) as_scope
  is_scope = record {
    sound = λ way q is r. (refl, r);
    only = λ u is h r. scope_only u is r (primary_led either k u is (mark M.OpenBrace) ts r);
    no_longer = omega arith;
  }

-- ---- operators and rec

-- the parentheses of a strategy
pub in_operand : (k : ℕ) {ts ahead : List Lexeme} → ts ≡ mark M.OpenParenthesis ∷ ahead →
    Makes (closed_strategy (mark M.CloseParenthesis) k) Anything ahead (written_operand k) Anything ts (λ s. s)
in_operand k e = is_behind e

pub no_operand : (k : ℕ) {ts : List Lexeme} → NotAt (mark M.OpenParenthesis) ts →
    Missing (written_operand k) Anything ts
no_operand k n = no_token {write = closed_strategy (mark M.CloseParenthesis) k} n

-- the name of a rec and its operand
abbrev pub recursive_parts : ℕ → Bytes × StrategyTree → List Item → List Item
recursive_parts k = both one_name (written_operand k)

abbrev pub as_recursive : Bytes × StrategyTree → PrimaryTree
as_recursive q = recursive q.0 q.1

pub recursive_pairs : (k : ℕ) →
    Pairs one_name (AtMost 5) (written_operand k) (recursive_parts k) Anything (λ x s. (x, s))
recursive_pairs k = both_pairs (λ s is h. at_most_five (written_operand k s is))

module _ (k : ℕ) {ts : List Lexeme} where
  operator_only : (o : Operator) (u : PrimaryTree) (is : List Item) →
      Runs either (primary k u is) (keyword (keyword_of o) ∷ ts) → LedPrimary (keyword (keyword_of o)) u →
      Made (written_operand (k + 1)) Anything ts (operator o) u is
  operator_only O.Where u is r led_where = record { from = _; are = refl; ends = tt; runs = r.1 }
  operator_only O.Not u is r led_not = record { from = _; are = refl; ends = tt; runs = r.1 }
  operator_only O.All u is r led_all = record { from = _; are = refl; ends = tt; runs = r.1 }
  operator_only O.One u is r led_one = record { from = _; are = refl; ends = tt; runs = r.1 }
  operator_only O.Some u is r led_some = record { from = _; are = refl; ends = tt; runs = r.1 }

  pub is_operator : (o : Operator) →
      Makes (written_operand (k + 1)) Anything ts (primary k) (AtMost 3) (keyword (keyword_of o) ∷ ts) (operator o)
  is_operator o = record {
    sound = λ way s is r. (refl, r);
    only = λ u is h r. operator_only o u is r (primary_led either k u is (keyword (keyword_of o)) ts r);
    no_longer = omega arith;
  }

  recursive_only : (u : PrimaryTree) (is : List Item) → Runs either (primary k u is) (keyword K.Rec ∷ ts) →
      LedPrimary (keyword K.Rec) u → Made (recursive_parts (k + 1)) Anything ts as_recursive u is
  recursive_only u is r (led_recursive {x} {s}) = record { from = (x, s); are = refl; ends = tt; runs = r.1 }

  pub is_recursive :
      Makes (recursive_parts (k + 1)) Anything ts (primary k) (AtMost 3) (keyword K.Rec ∷ ts) as_recursive
  is_recursive = record {
    sound = λ way q is r. (refl, r);
    only = λ u is h r. recursive_only u is r (primary_led either k u is (keyword K.Rec) ts r);
    no_longer = omega arith;
  }

-- ---- conditionals

-- what comes after then
abbrev pub consequence : ℕ → StrategyTree × OptionalStrategy → List Item → List Item
consequence k = both (inner_strategy k) (conditional_end k)

abbrev pub conditional_parts : ℕ → StrategyTree × (StrategyTree × OptionalStrategy) → List Item → List Item
conditional_parts k = both (closed_strategy (keyword K.Then) k) (consequence k)

abbrev pub as_conditional : StrategyTree × (StrategyTree × OptionalStrategy) → PrimaryTree
as_conditional q = conditional q.0 q.1.0 q.1.1

pub conditional_pairs : (k : ℕ) →
    Pairs (closed_strategy (keyword K.Then) k) Anything (consequence k) (conditional_parts k) Anything
    (λ c q. (c, q))
conditional_pairs k = both_pairs (λ q is h. tt)

module _ (k : ℕ) where
  end_at_most : (o : OptionalStrategy) (is : List Item) → AtMost 0 (conditional_end k o is)
  end_at_most no_strategy is = omega arith
  end_at_most (one_strategy s) is = omega arith

  pub consequence_pairs : Pairs (inner_strategy k) (AtMost 0) (conditional_end k) (consequence k) Anything
      (λ s o. (s, o))
  consequence_pairs = both_pairs (λ o is h. end_at_most o is)

module _ (k : ℕ) {ts : List Lexeme} where
  conditional_only : (u : PrimaryTree) (is : List Item) → Runs either (primary k u is) (keyword K.If ∷ ts) →
      LedPrimary (keyword K.If) u → Made (conditional_parts (k + 1)) Anything ts as_conditional u is
  conditional_only u is r (led_conditional {c} {s}) =
      record { from = (c, (s, no_strategy)); are = refl; ends = tt; runs = r.1 }
  conditional_only u is r (led_conditional_else {c} {s} {t}) =
      record { from = (c, (s, one_strategy t)); are = refl; ends = tt; runs = r.1 }

  pub is_conditional :
      Makes (conditional_parts (k + 1)) Anything ts (primary k) (AtMost 3) (keyword K.If ∷ ts) as_conditional
  is_conditional = record {
    sound = λ way q is r. (refl, r);
    only = λ u is h r. conditional_only u is r (primary_led either k u is (keyword K.If) ts r);
    no_longer = omega arith;
  }

-- the end of one
module _ (k : ℕ) (ts : List Lexeme) where
  end_only : (o : OptionalStrategy) (is : List Item) → Runs either (conditional_end k o is) (keyword K.End ∷ ts) →
      (o ≡ no_strategy) × Runs either is ts
  end_only no_strategy is r = (refl, r.1)
  end_only (one_strategy s) is r = let e = r.0 in cc

  pub at_conditional_end : Found (conditional_end k) Anything (keyword K.End ∷ ts) no_strategy ts
  at_conditional_end = record {
    sound = λ way is r. (refl, r);
    only_one = λ o is h r. end_only o is r;
    shorter = omega arith;
  }

-- else, a strategy and end
module _ (k : ℕ) {ts : List Lexeme} where
  else_only : (o : OptionalStrategy) (is : List Item) → Runs either (conditional_end k o is) (keyword K.Else ∷ ts) →
      Made (closed_strategy (keyword K.End) k) Anything ts one_strategy o is
  else_only no_strategy is r = let e = r.0 in cc
  else_only (one_strategy s) is r = record { from = s; are = refl; ends = tt; runs = r.1 }

  pub after_else : Makes (closed_strategy (keyword K.End) k) Anything ts (conditional_end k) Anything
      (keyword K.Else ∷ ts) one_strategy
  after_else = record {
    sound = λ way s is r. (refl, r);
    only = λ o is h r. else_only o is r;
    no_longer = omega arith;
  }

  -- neither
  no_end : NotAt (keyword K.End) ts → NotAt (keyword K.Else) ts → (o : OptionalStrategy) (is : List Item) →
      Runs either (conditional_end k o is) ts → ⊥
  no_end n m no_strategy is r = not_along (keyword K.End) is ts n r
  no_end n m (one_strategy s) is r = not_along (keyword K.Else) (closed_strategy (keyword K.End) k s is) ts m r

  pub conditional_end_missing : NotAt (keyword K.End) ts → NotAt (keyword K.Else) ts →
      Missing (conditional_end k) Anything ts
  conditional_end_missing n m = record { none = λ o is h r. no_end n m o is r }

-- ---- rules between backslashes

pub backslash_ends : (is : List Item) → EndsRule (sign M.Backslash ∷ is)
backslash_ends is = (omega arith, λ t rest r. ap is_where r.0)

module _ (k : ℕ) {ts : List Lexeme} where
  lambda_only : (u : PrimaryTree) (is : List Item) → Runs either (primary k u is) (mark M.Backslash ∷ ts) →
      LedPrimary (mark M.Backslash) u → Made (closed (mark M.Backslash) (rule (k + 1))) Anything ts lambda u is
  lambda_only u is r led_lambda = record { from = _; are = refl; ends = tt; runs = r.1 }

  pub is_lambda : Makes (closed (mark M.Backslash) (rule (k + 1))) Anything ts (primary k) (AtMost 3)
      (mark M.Backslash ∷ ts) lambda
  is_lambda = record {
    sound = λ way x is r. (refl, r);
    only = λ u is h r. lambda_only u is r (primary_led either k u is (mark M.Backslash) ts r);
    no_longer = omega arith;
  }
