-- Strategies in parentheses and in brackets: how they are made of their parts.
use Rattle.std.proofs.Common.{◌≡◌, ℕ, ◌+◌, List, [], ◌∷◌, length, refl, arith}
use Rattle.str_lexer.specs.declared.token.Mark.TheVariants as M
use Rattle.str_syntax.specs.declared.strategy.Strategy.{Strategy}
use Rattle.str_syntax.specs.Trees.{StrategyTrees, no_strategies, more_strategies, OptionalStrategy, no_strategy, one_strategy, PrimaryTree, tuple_congruence, list_congruence}
use Rattle.str_syntax.specs.Views.{strategies_of}
use Rattle.str_parser.specs.Lexemes.{Lexeme, mark}
use Rattle.str_parser.specs.Items.{Item, Way, either, Runs}
use Rattle.str_parser.specs.Phrases.{sign, primary}
use Rattle.str_parser.specs.Readings.{NotAt, AtMost, Found, Missing}
use Rattle.str_parser.specs.Parts.{inner_strategy, closed_strategy, some_strategies, in_parentheses, strategy_list_end, EndsStrategies, Anything}
use Rattle.str_parser.proofs.WayLaws.{not_along}
use Rattle.str_parser.proofs.PhraseLaws.{Made, Makes, Pairs, closed}
use Rattle.str_parser.proofs.PrimaryLeads.{LedPrimary, led_parenthesized, led_tuple, led_list, led_list_with_tail, primary_led}
use Rattle.str_parser.proofs.StrategyLists.{no_strategy_at, strategies_end}

-- ---- in parentheses

-- strategies of which there is not one only are a tuple
pub not_sole : (ss : List Strategy) → (length ss ≡ 1 → ⊥) →
    tuple_congruence (strategies_of ss) ≡ in_parentheses (strategies_of ss)
not_sole [] n = refl
not_sole (s ∷ []) n = absurd (n refl)
not_sole (s ∷ t ∷ ss) n = refl

-- no strategies
module _ (k : ℕ) (ts : List Lexeme) where
  empty_tuple_only : (u : PrimaryTree) (is : List Item) → LedPrimary (mark M.OpenParenthesis) u →
      Runs either (primary k u is) (mark M.OpenParenthesis ∷ mark M.CloseParenthesis ∷ ts) →
      (u ≡ tuple_congruence no_strategies) × Runs either is ts
  empty_tuple_only u is (led_parenthesized {s = s}) r = absurd (no_strategy_at (k + 1) s _ _ ts refl r.1)
  empty_tuple_only u is (led_tuple {ss = no_strategies} o) r = (refl, r.1.1.1)
  empty_tuple_only u is (led_tuple {ss = more_strategies s ss} o) r =
      absurd (no_strategy_at (k + 1) s _ _ ts refl r.1.1)

  pub empty_tuple : Found (primary k) (AtMost 3) (mark M.OpenParenthesis ∷ mark M.CloseParenthesis ∷ ts)
      (tuple_congruence no_strategies) ts
  empty_tuple = record {
    sound = λ way is r. (refl, (refl, (refl, r)));
    only_one = λ u is h r. empty_tuple_only u is (primary_led either k u is _ _ r) r;
    shorter = omega arith;
  }

-- some strategies
module _ (k : ℕ) (ts : List Lexeme) where
  tuple_sound : (way : Way) (ss : StrategyTrees) (is : List Item) →
      Runs way (some_strategies (k + 1) ss (sign M.CloseParenthesis ∷ is)) ts →
      Runs way (primary k (in_parentheses ss) is) (mark M.OpenParenthesis ∷ ts)
  tuple_sound way no_strategies is r = let e = r.0 in cc
  tuple_sound way (more_strategies s no_strategies) is r = (refl, r)
  tuple_sound way (more_strategies s (more_strategies t ss)) is r = (refl, (refl, r))

  tuple_only : NotAt (mark M.CloseParenthesis) ts → (u : PrimaryTree) (is : List Item) →
      LedPrimary (mark M.OpenParenthesis) u → Runs either (primary k u is) (mark M.OpenParenthesis ∷ ts) →
      Made (closed (mark M.CloseParenthesis) (some_strategies (k + 1))) Anything ts in_parentheses u is
  tuple_only n u is (led_parenthesized {s = s}) r =
      record { from = more_strategies s no_strategies; are = refl; ends = tt; runs = r.1 }
  tuple_only n u is (led_tuple {ss = no_strategies} o) r = absurd (not_along _ is ts n r.1.1)
  tuple_only n u is (led_tuple {ss = more_strategies s no_strategies} o) r = cc
  tuple_only n u is (led_tuple {ss = more_strategies s (more_strategies t ss)} o) r =
      record { from = more_strategies s (more_strategies t ss); are = refl; ends = tt; runs = r.1.1 }

  pub made_tuple : NotAt (mark M.CloseParenthesis) ts →
      Makes (closed (mark M.CloseParenthesis) (some_strategies (k + 1))) Anything ts (primary k) (AtMost 3)
      (mark M.OpenParenthesis ∷ ts) in_parentheses
  made_tuple n = record {
    sound = tuple_sound;
    only = λ u is h r. tuple_only n u is (primary_led either k u is _ _ r) r;
    no_longer = omega arith;
  }

pub tuple_ends : (is : List Item) → EndsStrategies (sign M.CloseParenthesis ∷ is)
tuple_ends = strategies_end M.CloseParenthesis refl refl

-- ---- in brackets

-- no strategies
module _ (k : ℕ) (ts : List Lexeme) where
  empty_list_only : (u : PrimaryTree) (is : List Item) → LedPrimary (mark M.OpenBracket) u →
      Runs either (primary k u is) (mark M.OpenBracket ∷ mark M.CloseBracket ∷ ts) →
      (u ≡ list_congruence no_strategies no_strategy) × Runs either is ts
  empty_list_only u is (led_list {ss = no_strategies}) r = (refl, r.1.1)
  empty_list_only u is (led_list {ss = more_strategies s ss}) r = absurd (no_strategy_at (k + 1) s _ _ ts refl r.1)
  empty_list_only u is (led_list_with_tail {ss = no_strategies} o) r = cc
  empty_list_only u is (led_list_with_tail {ss = more_strategies s ss} o) r =
      absurd (no_strategy_at (k + 1) s _ _ ts refl r.1.1)

  pub empty_list : Found (primary k) (AtMost 3) (mark M.OpenBracket ∷ mark M.CloseBracket ∷ ts)
      (list_congruence no_strategies no_strategy) ts
  empty_list = record {
    sound = λ way is r. (refl, (refl, r));
    only_one = λ u is h r. empty_list_only u is (primary_led either k u is _ _ r) r;
    shorter = omega arith;
  }

-- the end of a list
module _ (k : ℕ) (ts : List Lexeme) where
  bracket_only : (o : OptionalStrategy) (is : List Item) →
      Runs either (strategy_list_end k o is) (mark M.CloseBracket ∷ ts) → (o ≡ no_strategy) × Runs either is ts
  bracket_only no_strategy is r = (refl, r.1)
  bracket_only (one_strategy s) is r = let e = r.0 in cc

  pub list_closed : Found (strategy_list_end k) Anything (mark M.CloseBracket ∷ ts) no_strategy ts
  list_closed = record {
    sound = λ way is r. (refl, r);
    only_one = λ o is h r. bracket_only o is r;
    shorter = omega arith;
  }

  bar_only : (o : OptionalStrategy) (is : List Item) → Runs either (strategy_list_end k o is) (mark M.Bar ∷ ts) →
      Made (closed_strategy (mark M.CloseBracket) k) Anything ts one_strategy o is
  bar_only no_strategy is r = let e = r.0 in cc
  bar_only (one_strategy s) is r = record { from = s; are = refl; ends = tt; runs = r.1 }

  pub list_barred : Makes (closed_strategy (mark M.CloseBracket) k) Anything ts (strategy_list_end k) Anything
      (mark M.Bar ∷ ts) one_strategy
  list_barred = record {
    sound = λ way s is r. (refl, r);
    only = λ o is h r. bar_only o is r;
    no_longer = omega arith;
  }

  no_list_end : NotAt (mark M.CloseBracket) ts → NotAt (mark M.Bar) ts → (o : OptionalStrategy) (is : List Item) →
      Runs either (strategy_list_end k o is) ts → ⊥
  no_list_end n m no_strategy is r = not_along _ is ts n r
  no_list_end n m (one_strategy s) is r =
      not_along _ (inner_strategy k s (sign M.CloseBracket ∷ is)) ts m r

  pub list_end_missing : NotAt (mark M.CloseBracket) ts → NotAt (mark M.Bar) ts →
      Missing (strategy_list_end k) Anything ts
  list_end_missing n m = record { none = λ o is h r. no_list_end n m o is r }

-- some strategies and the end of the list
abbrev pub list_inside : ℕ → StrategyTrees × OptionalStrategy → List Item → List Item
list_inside k l is = some_strategies k l.0 (strategy_list_end k l.1 is)

abbrev pub as_list : StrategyTrees × OptionalStrategy → PrimaryTree
as_list l = list_congruence l.0 l.1

list_end_stops : (k : ℕ) (o : OptionalStrategy) (is : List Item) → EndsStrategies (strategy_list_end k o is)
list_end_stops k no_strategy is = strategies_end M.CloseBracket refl refl is
list_end_stops k (one_strategy s) is = strategies_end M.Bar refl refl (inner_strategy k s (sign M.CloseBracket ∷ is))

pub list_pairs : (k : ℕ) →
    Pairs (some_strategies k) EndsStrategies (strategy_list_end k) (list_inside k) Anything (λ ss o. (ss, o))
list_pairs k = record {
  sound = λ way ss o is ts r. r;
  only = λ u is ts h r.
      record { one = u.0; other = u.1; are = refl; ends = list_end_stops k u.1 is; runs = r };
}

module _ (k : ℕ) (ts : List Lexeme) where
  list_sound : (way : Way) (l : StrategyTrees × OptionalStrategy) (is : List Item) →
      Runs way (list_inside (k + 1) l is) ts → Runs way (primary k (as_list l) is) (mark M.OpenBracket ∷ ts)
  list_sound way (no_strategies, o) is r = let e = r.0 in cc
  list_sound way (more_strategies s ss, no_strategy) is r = (refl, r)
  list_sound way (more_strategies s ss, one_strategy t) is r = (refl, (refl, r))

  list_only : NotAt (mark M.CloseBracket) ts → (u : PrimaryTree) (is : List Item) → LedPrimary (mark M.OpenBracket) u →
      Runs either (primary k u is) (mark M.OpenBracket ∷ ts) →
      Made (list_inside (k + 1)) Anything ts as_list u is
  list_only n u is (led_list {ss = no_strategies}) r = absurd (not_along _ is ts n r.1)
  list_only n u is (led_list {ss = more_strategies s ss}) r =
      record { from = (more_strategies s ss, no_strategy); are = refl; ends = tt; runs = r.1 }
  list_only n u is (led_list_with_tail {ss = no_strategies} o) r = cc
  list_only n u is (led_list_with_tail {ss = more_strategies s ss} {s = t} o) r =
      record { from = (more_strategies s ss, one_strategy t); are = refl; ends = tt; runs = r.1.1 }

  pub made_list : NotAt (mark M.CloseBracket) ts →
      Makes (list_inside (k + 1)) Anything ts (primary k) (AtMost 3) (mark M.OpenBracket ∷ ts) as_list
  made_list n = record {
    sound = list_sound;
    only = λ u is h r. list_only n u is (primary_led either k u is _ _ r) r;
    no_longer = omega arith;
  }
