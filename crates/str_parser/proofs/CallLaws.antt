-- Calls of strategies and primitives: how they are made of their parts.
use Rattle.std.proofs.Common.{◌≡◌, ℕ, ◌+◌, true, false, List, [], ◌∷◌, Option, Some, None, Result, Ok, Err, refl, ap, arith}
use Rattle.str_parser.specs.declared.refusal.ParseRefusal.{ParseRefusal}
use Rattle.str_lexer.specs.declared.token.Mark.TheVariants as M
use Rattle.str_lexer.specs.declared.token.Keyword.TheVariants as K
use Rattle.str_syntax.specs.Trees.{Bytes, PatternTrees, no_patterns, more_patterns, StrategyTrees, no_strategies, more_strategies, PrimaryTree, call, primitive, ArgumentTree, no_arguments, strategy_arguments, all_arguments}
use Rattle.str_parser.specs.Lexemes.{Lexeme, name, mark, keyword, begins_strategy}
use Rattle.str_parser.specs.Items.{Item, Way, either, Runs}
use Rattle.str_parser.specs.Phrases.{sign, strategy_list, patterns, other_patterns, primary, arguments}
use Rattle.str_parser.specs.Readings.{NotAt, AtMost, Found, Missing, IsReading}
use Rattle.str_parser.specs.Runs.{FoundAny, IsReadingAny, is_comma}
use Rattle.str_parser.specs.Parts.{inner_pattern, closed_patterns, some_patterns, some_strategies, primitive_name, primitive_patterns, arguments_inside, first_ends_strategies, ends_strategies, EndsPatterns, EndsStrategies, EndsArguments, Anything}
use Rattle.str_parser.proofs.PartLaws.{binds_less}
use Rattle.str_parser.proofs.WayLaws.{not_along}
use Rattle.str_parser.proofs.PhraseLaws.{Writes, Ending, Made, Makes, made_any, at_made, carried, found_any, Parts, Pairs, closed}
use Rattle.str_parser.proofs.PrimaryLeads.{LedPrimary, led_primitive, led_call, led_call_with, led_call_with_terms, primary_led}
use Rattle.str_parser.proofs.StrategyLists.{no_strategy_at, strategies_end}

-- what reads the one tree reads the other, which may be of no token and is the same
pub read_any : {T X : Type 0} {write whole : Writes T} {Ends Stops : Ending} {ts us : List Lexeme} →
    Makes write Ends ts whole Stops us (λ t. t) → (tree_of : X → T) (r : Result (X × List Lexeme) ParseRefusal) →
    IsReading write Ends tree_of ts r → IsReadingAny whole Stops tree_of us r
read_any m tree_of (Ok (x, rest)) f = made_any m (found_any f)
read_any m tree_of (Err e) f = carried (at_made m) e f

-- ---- a name and its arguments

module _ (k : ℕ) (x : Bytes) (ts : List Lexeme) where
  call_only : (u : PrimaryTree) (is : List Item) → AtMost 3 is → LedPrimary (name x) u →
      Runs either (primary k u is) (name x ∷ ts) → Made (arguments (k + 1)) (AtMost 3) ts (call x) u is
  call_only u is h led_call r = record { from = no_arguments; are = refl; ends = h; runs = r.1 }
  call_only u is h (led_call_with {ss = ss}) r =
      record { from = strategy_arguments ss; are = refl; ends = h; runs = r.1 }
  call_only u is h (led_call_with_terms {ss = ss} {ps = ps}) r =
      record { from = all_arguments ss ps; are = refl; ends = h; runs = r.1 }

  pub made_call : Makes (arguments (k + 1)) (AtMost 3) ts (primary k) (AtMost 3) (name x ∷ ts) (call x)
  made_call = record {
    sound = λ way a is r. (refl, r);
    only = λ u is h r. call_only u is h (primary_led either k u is _ _ r) r;
    no_longer = omega arith;
  }

module _ (k : ℕ) (ts : List Lexeme) where
  no_arguments_only : NotAt (mark M.OpenParenthesis) ts → (a : ArgumentTree) (is : List Item) →
      Runs either (arguments k a is) ts → (a ≡ no_arguments) × Runs either is ts
  no_arguments_only n no_arguments is r = (refl, r)
  no_arguments_only n (strategy_arguments ss) is r = absurd (not_along (mark M.OpenParenthesis) _ ts n r)
  no_arguments_only n (all_arguments ss ps) is r = absurd (not_along (mark M.OpenParenthesis) _ ts n r)

  pub no_arguments_found : NotAt (mark M.OpenParenthesis) ts → FoundAny (arguments k) (AtMost 3) ts no_arguments ts
  no_arguments_found n = record {
    sound = λ way is r. r;
    only_one = λ a is h r. no_arguments_only n a is r;
    no_longer = omega arith;
  }

  opened_sound : (way : Way) (a : ArgumentTree) (is : List Item) → Runs way (arguments_inside k a is) ts →
      Runs way (arguments k a is) (mark M.OpenParenthesis ∷ ts)
  opened_sound way no_arguments is r = let e = r.0 in cc
  opened_sound way (strategy_arguments ss) is r = (refl, r)
  opened_sound way (all_arguments ss ps) is r = (refl, r)

  opened_only : (a : ArgumentTree) (is : List Item) → AtMost 3 is →
      Runs either (arguments k a is) (mark M.OpenParenthesis ∷ ts) →
      Made (arguments_inside k) Anything ts (λ b. b) a is
  opened_only no_arguments is h r = absurd (omega (arith, binds_less is (mark M.OpenParenthesis) ts r, h))
  opened_only (strategy_arguments ss) is h r =
      record { from = strategy_arguments ss; are = refl; ends = tt; runs = r.1 }
  opened_only (all_arguments ss ps) is h r =
      record { from = all_arguments ss ps; are = refl; ends = tt; runs = r.1 }

  pub opened_arguments : Makes (arguments_inside k) Anything ts (arguments k) (AtMost 3)
      (mark M.OpenParenthesis ∷ ts) (λ a. a)
  opened_arguments = record { sound = opened_sound; only = opened_only; no_longer = omega arith }

-- ---- strategies, or none, and then a parenthesis or | and patterns

abbrev pub arguments_end : ℕ → Option PatternTrees → List Item → List Item
arguments_end k None is = sign M.CloseParenthesis ∷ is
arguments_end k (Some ps) is = sign M.Bar ∷ patterns false k ps (sign M.CloseParenthesis ∷ is)

abbrev pub as_arguments : StrategyTrees → Option PatternTrees → ArgumentTree
as_arguments ss None = strategy_arguments ss
as_arguments ss (Some ps) = all_arguments ss ps

module _ (k : ℕ) where
  -- the strategies of a call end before each of the two
  end_begins : (o : Option PatternTrees) (is : List Item) (ts : List Lexeme) →
      Runs either (arguments_end k o is) ts → first_ends_strategies ts ≡ true
  end_begins None is [] r = absurd r
  end_begins None is (t ∷ ts) r = ap ends_strategies r.0
  end_begins (Some ps) is [] r = absurd r
  end_begins (Some ps) is (t ∷ ts) r = ap ends_strategies r.0

  end_stops : (o : Option PatternTrees) (is : List Item) → EndsArguments (arguments_end k o is)
  end_stops None is = (strategies_end M.CloseParenthesis refl refl is, end_begins None is)
  end_stops (Some ps) is = (strategies_end M.Bar refl refl _, end_begins (Some ps) is)

  inside_sound : (way : Way) (ss : StrategyTrees) (o : Option PatternTrees) (is : List Item) (ts : List Lexeme) →
      Runs way (strategy_list k ss (arguments_end k o is)) ts → Runs way (arguments_inside k (as_arguments ss o) is) ts
  inside_sound way ss None is ts r = r
  inside_sound way ss (Some ps) is ts r = r

  inside_only : (a : ArgumentTree) (is : List Item) (ts : List Lexeme) → Runs either (arguments_inside k a is) ts →
      Parts (strategy_list k) EndsArguments (arguments_end k) as_arguments a is ts
  inside_only no_arguments is ts r = let e = r.0 in cc
  inside_only (strategy_arguments ss) is ts r =
      record { one = ss; other = None; are = refl; ends = end_stops None is; runs = r }
  inside_only (all_arguments ss ps) is ts r =
      record { one = ss; other = Some ps; are = refl; ends = end_stops (Some ps) is; runs = r }

  pub argument_pairs : Pairs (strategy_list k) EndsArguments (arguments_end k) (arguments_inside k) Anything
      as_arguments
  argument_pairs = record { sound = inside_sound; only = λ a is ts h r. inside_only a is ts r }

module _ (k : ℕ) (ts : List Lexeme) where
  closed_only : (o : Option PatternTrees) (is : List Item) →
      Runs either (arguments_end k o is) (mark M.CloseParenthesis ∷ ts) → (o ≡ None) × Runs either is ts
  closed_only None is r = (refl, r.1)
  closed_only (Some ps) is r = let e = r.0 in cc

  -- ) after the strategies
  pub no_terms : Found (arguments_end k) Anything (mark M.CloseParenthesis ∷ ts) None ts
  no_terms = record {
    sound = λ way is r. (refl, r);
    only_one = λ o is h r. closed_only o is r;
    shorter = omega arith;
  }

  barred_only : (o : Option PatternTrees) (is : List Item) → Runs either (arguments_end k o is) (mark M.Bar ∷ ts) →
      Made (closed_patterns M.CloseParenthesis false k) Anything ts Some o is
  barred_only None is r = let e = r.0 in cc
  barred_only (Some ps) is r = record { from = ps; are = refl; ends = tt; runs = r.1 }

  -- | after them
  pub barred_terms : Makes (closed_patterns M.CloseParenthesis false k) Anything ts (arguments_end k) Anything
      (mark M.Bar ∷ ts) Some
  barred_terms = record {
    sound = λ way ps is r. (refl, r);
    only = λ o is h r. barred_only o is r;
    no_longer = omega arith;
  }

  no_end : NotAt (mark M.CloseParenthesis) ts → NotAt (mark M.Bar) ts → (o : Option PatternTrees) (is : List Item) →
      Runs either (arguments_end k o is) ts → ⊥
  no_end n m None is r = not_along (mark M.CloseParenthesis) is ts n r
  no_end n m (Some ps) is r = not_along (mark M.Bar) (patterns false k ps (sign M.CloseParenthesis ∷ is)) ts m r

  -- neither of them
  pub arguments_end_missing : NotAt (mark M.CloseParenthesis) ts → NotAt (mark M.Bar) ts →
      Missing (arguments_end k) Anything ts
  arguments_end_missing n m = record { none = λ o is h r. no_end n m o is r }

-- ---- the strategies of a call

-- no strategy begins with a token that ends them
no_begin : (t : Lexeme) → ends_strategies t ≡ true → begins_strategy t ≡ false
no_begin (mark M.CloseParenthesis) e = refl
no_begin (mark M.Bar) e = refl
no_begin _ e = cc

module _ (k : ℕ) where
  none_only : (ts : List Lexeme) → first_ends_strategies ts ≡ true → (ss : StrategyTrees) (is : List Item) →
      Runs either (strategy_list k ss is) ts → (ss ≡ no_strategies) × Runs either is ts
  none_only ts e no_strategies is r = (refl, r)
  none_only [] e (more_strategies s ss) is r = cc
  none_only (t ∷ ts) e (more_strategies s ss) is r = absurd (no_strategy_at k s _ t ts (no_begin t e) r)

  -- none where they end
  pub none_found : (ts : List Lexeme) → first_ends_strategies ts ≡ true →
      FoundAny (strategy_list k) EndsArguments ts no_strategies ts
  none_found ts e = record {
    sound = λ way is r. r;
    only_one = λ ss is h r. none_only ts e ss is r;
    no_longer = omega arith;
  }

  some_sound : (way : Way) (ss : StrategyTrees) (is : List Item) (ts : List Lexeme) →
      Runs way (some_strategies k ss is) ts → Runs way (strategy_list k ss is) ts
  some_sound way no_strategies is ts r = let e = r.0 in cc
  some_sound way (more_strategies s ss) is ts r = r

  some_only : (ts : List Lexeme) → first_ends_strategies ts ≡ false → (ss : StrategyTrees) (is : List Item) →
      EndsArguments is → Runs either (strategy_list k ss is) ts →
      Made (some_strategies k) EndsStrategies ts (λ us. us) ss is
  some_only ts e no_strategies is h r = let f = h.1 ts r in cc
  some_only ts e (more_strategies s ss) is h r =
      record { from = more_strategies s ss; are = refl; ends = h.0; runs = r }

  -- some where they do not
  pub made_some : (ts : List Lexeme) → first_ends_strategies ts ≡ false →
      Makes (some_strategies k) EndsStrategies ts (strategy_list k) EndsArguments ts (λ ss. ss)
  made_some ts e = record {
    sound = λ way ss is r. some_sound way ss is ts r;
    only = some_only ts e;
    no_longer = omega arith;
  }

-- ---- primitives

-- the patterns of a primitive, if any, and its parenthesis
module _ (k : ℕ) (ts : List Lexeme) where
  alone_only : (ps : PatternTrees) (is : List Item) →
      Runs either (primitive_patterns k ps is) (mark M.CloseParenthesis ∷ ts) → (ps ≡ no_patterns) × Runs either is ts
  alone_only no_patterns is r = (refl, r.1)
  alone_only (more_patterns p ps) is r = let e = r.0 in cc

  pub primitive_alone : Found (primitive_patterns k) Anything (mark M.CloseParenthesis ∷ ts) no_patterns ts
  primitive_alone = record {
    sound = λ way is r. (refl, r);
    only_one = λ ps is h r. alone_only ps is r;
    shorter = omega arith;
  }

  comma_sound : (way : Way) (ps : PatternTrees) (is : List Item) →
      Runs way (some_patterns false k ps (sign M.CloseParenthesis ∷ is)) ts →
      Runs way (primitive_patterns k ps is) (mark M.Comma ∷ ts)
  comma_sound way no_patterns is r = let e = r.0 in cc
  comma_sound way (more_patterns p ps) is r = (refl, r)

  comma_only : (ps : PatternTrees) (is : List Item) → Runs either (primitive_patterns k ps is) (mark M.Comma ∷ ts) →
      Made (closed (mark M.CloseParenthesis) (some_patterns false k)) Anything ts (λ qs. qs) ps is
  comma_only no_patterns is r = let e = r.0 in cc
  comma_only (more_patterns p ps) is r = record { from = more_patterns p ps; are = refl; ends = tt; runs = r.1 }

  pub primitive_terms : Makes (closed (mark M.CloseParenthesis) (some_patterns false k)) Anything ts
      (primitive_patterns k) Anything (mark M.Comma ∷ ts) (λ ps. ps)
  primitive_terms = record { sound = comma_sound; only = λ ps is h r. comma_only ps is r; no_longer = omega arith }

  no_comma : NotAt (mark M.CloseParenthesis) ts → NotAt (mark M.Comma) ts → (ps : PatternTrees) (is : List Item) →
      Runs either (primitive_patterns k ps is) ts → ⊥
  no_comma n m no_patterns is r = not_along (mark M.CloseParenthesis) is ts n r
  no_comma n m (more_patterns p ps) is r =
      not_along (mark M.Comma)
      (inner_pattern false k p (other_patterns false k ps (sign M.CloseParenthesis ∷ is))) ts m r

  pub primitive_end_missing : NotAt (mark M.CloseParenthesis) ts → NotAt (mark M.Comma) ts →
      Missing (primitive_patterns k) Anything ts
  primitive_end_missing n m = record { none = λ ps is h r. no_comma n m ps is r }

pub primitive_ends : (is : List Item) → EndsPatterns (sign M.CloseParenthesis ∷ is)
primitive_ends is = (omega arith, λ t rest r. ap is_comma r.0)

-- the name and the patterns
abbrev pub primitive_inside : ℕ → Bytes × PatternTrees → List Item → List Item
primitive_inside k b is = primitive_name b.0 (primitive_patterns k b.1 is)

abbrev pub as_primitive : Bytes × PatternTrees → PrimaryTree
as_primitive b = primitive b.0 b.1

pub primitive_pairs : (k : ℕ) →
    Pairs primitive_name Anything (primitive_patterns k) (primitive_inside k) Anything (λ x ps. (x, ps))
primitive_pairs k = record {
  sound = λ way x ps is ts r. r;
  only = λ u is ts h r. record { one = u.0; other = u.1; are = refl; ends = tt; runs = r };
}

module _ (k : ℕ) (ts : List Lexeme) where
  primitive_only : (u : PrimaryTree) (is : List Item) → LedPrimary (keyword K.Prim) u →
      Runs either (primary k u is) (keyword K.Prim ∷ ts) →
      Made (primitive_inside (k + 1)) Anything ts as_primitive u is
  primitive_only u is (led_primitive {text = x} {ps = ps}) r =
      record { from = (x, ps); are = refl; ends = tt; runs = r.1 }

  pub made_primitive : Makes (primitive_inside (k + 1)) Anything ts (primary k) (AtMost 3) (keyword K.Prim ∷ ts)
      as_primitive
  made_primitive = record {
    sound = λ way b is r. (refl, r);
    only = λ u is h r. primitive_only u is (primary_led either k u is _ _ r) r;
    no_longer = omega arith;
  }
