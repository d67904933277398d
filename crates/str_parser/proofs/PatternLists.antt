-- Rows of patterns, and what comes after them.
use Rattle.std.proofs.Common.{◌≡◌, ℕ, Bool, true, false, List, [], ◌∷◌, refl, ap, arith}
use Rattle.str_lexer.specs.declared.token.Mark.TheVariants as M
use Rattle.str_syntax.specs.Trees.{PatternTree, PatternTrees, no_patterns, more_patterns, OptionalPattern, no_pattern, one_pattern}
use Rattle.str_syntax.specs.Views.{patterns_in}
use Rattle.str_parser.specs.Lexemes.{Lexeme, mark, begins_pattern}
use Rattle.str_parser.specs.Items.{Item, Way, either, Runs}
use Rattle.str_parser.specs.Phrases.{sign, other_patterns}
use Rattle.str_parser.specs.Readings.{NotAt, AtMost, Found, Missing}
use Rattle.str_parser.specs.Runs.{is_comma}
use Rattle.str_parser.specs.Parts.{inner_pattern, Anything, some_patterns, EndsPatterns, pattern_list_end, closing_mark, closed_patterns}
use Rattle.str_parser.specs.declared.pattern.Closing.{Closing}
use Rattle.str_parser.specs.declared.pattern.Closing.TheVariants as closings
use Rattle.str_parser.proofs.WayLaws.{not_along}
use Rattle.str_parser.proofs.PhraseLaws.{Made, Makes, behind, closed}
use Rattle.str_parser.proofs.RunLaws.{several, some, Row, Lists, Partly, At, token_goes_on}
use Rattle.str_parser.proofs.PatternLeads.{no_inner}

-- ---- patterns as a list

listed : PatternTrees → List PatternTree
listed no_patterns = []
listed (more_patterns p ps) = p ∷ listed ps

in_listed : (ps : PatternTrees) → ps ≡ patterns_in (listed ps)
unfolding listed
in_listed no_patterns = refl
in_listed (more_patterns p ps) = ap (more_patterns p) (in_listed ps)

module _ (m : Bool) (k : ℕ) where
  comma_follows : (us : List PatternTree) (is : List Item) → EndsPatterns is →
      AtMost 3 (several (behind (mark M.Comma) (inner_pattern m k)) us is)
  comma_follows [] is h = h.0
  comma_follows (u ∷ us) is h = omega arith

  pub patterns_row : Row (behind (mark M.Comma) (inner_pattern m k)) (AtMost 3) EndsPatterns (At (mark M.Comma))
      (NotAt (mark M.Comma))
  patterns_row = record {
    follows = comma_follows;
    goes_on = λ rest here is h r. token_goes_on is_comma (mark M.Comma) refl rest here is h.1 r;
    past = λ rest n u is r. not_along (mark M.Comma) (inner_pattern m k u is) rest n r;
  }

  other_patterns_are : (ps : List PatternTree) (is : List Item) →
      several (behind (mark M.Comma) (inner_pattern m k)) ps is ≡ other_patterns m k (patterns_in ps) is
  other_patterns_are [] is = refl
  other_patterns_are (p ∷ ps) is = ap (λ l. sign M.Comma ∷ inner_pattern m k p l) (other_patterns_are ps is)

  some_patterns_are : (ps : List PatternTree) (is : List Item) →
      some (inner_pattern m k) (behind (mark M.Comma) (inner_pattern m k)) ps is ≡ some_patterns m k (patterns_in ps) is
  some_patterns_are [] is = refl
  some_patterns_are (p ∷ ps) is = ap (inner_pattern m k p) (other_patterns_are ps is)

  pub pattern_lists : Lists (some (inner_pattern m k) (behind (mark M.Comma) (inner_pattern m k))) (some_patterns m k)
      patterns_in
  pattern_lists = record { from = listed; back = in_listed; written = some_patterns_are }

  abbrev pub PartlyPatterns : List PatternTree → List Lexeme → List Lexeme → Type 0
  PartlyPatterns = Partly (behind (mark M.Comma) (inner_pattern m k)) EndsPatterns (some_patterns m k) patterns_in 1

-- ---- the mark after patterns

-- no pattern begins with it
closing_begins : (m : Bool) (c : Closing) → begins_pattern m (mark (closing_mark c)) ≡ false
closing_begins true closings.Parenthesis = refl
closing_begins true closings.Brace = refl
closing_begins false closings.Parenthesis = refl
closing_begins false closings.Brace = refl

pub closing_ends : (c : Closing) (is : List Item) → EndsPatterns (sign (closing_mark c) ∷ is)
closing_ends closings.Parenthesis is = (omega arith, λ t rest r. ap is_comma r.0)
closing_ends closings.Brace is = (omega arith, λ t rest r. ap is_comma r.0)

module _ (m : Bool) (k : ℕ) (c : Closing) where
  none_only : (ps : PatternTrees) (is : List Item) (rest : List Lexeme) →
      Runs either (closed_patterns (closing_mark c) m k ps is) (mark (closing_mark c) ∷ rest) →
      (ps ≡ no_patterns) × Runs either is rest
  none_only no_patterns is rest r = (refl, r.1)
  none_only (more_patterns p ps) is rest r =
      absurd (no_inner m k p (other_patterns m k ps (sign (closing_mark c) ∷ is)) _ rest (closing_begins m c) r)

  -- no pattern before it
  pub found_none : {rest : List Lexeme} → Found (closed_patterns (closing_mark c) m k) Anything
      (mark (closing_mark c) ∷ rest) no_patterns rest
  found_none {rest} = record {
    sound = λ way is r. (refl, r);
    only_one = λ ps is h r. none_only ps is rest r;
    shorter = omega arith;
  }

  some_sound : (way : Way) (ps : PatternTrees) (is : List Item) (ts : List Lexeme) →
      Runs way (closed (mark (closing_mark c)) (some_patterns m k) ps is) ts →
      Runs way (closed_patterns (closing_mark c) m k ps is) ts
  some_sound way no_patterns is ts r = let e = r.0 in cc
  some_sound way (more_patterns p ps) is ts r = r

  some_only : {ts : List Lexeme} → NotAt (mark (closing_mark c)) ts → (ps : PatternTrees) (is : List Item) →
      Runs either (closed_patterns (closing_mark c) m k ps is) ts →
      Made (closed (mark (closing_mark c)) (some_patterns m k)) Anything ts (λ qs. qs) ps is
  some_only {ts} n no_patterns is r = absurd (not_along (mark (closing_mark c)) is ts n r)
  some_only n (more_patterns p ps) is r =
      record { from = more_patterns p ps; are = refl; ends = tt; runs = r }

  -- some patterns before it
  pub closed_some : {ts : List Lexeme} → NotAt (mark (closing_mark c)) ts →
      Makes (closed (mark (closing_mark c)) (some_patterns m k)) Anything ts (closed_patterns (closing_mark c) m k)
      Anything ts (λ ps. ps)
  closed_some {ts} n = record {
    sound = λ way ps is r. some_sound way ps is ts r;
    only = λ ps is h r. some_only n ps is r;
    no_longer = omega arith;
  }

-- ---- the end of a list

bracket_only : (m : Bool) (k : ℕ) (o : OptionalPattern) (is : List Item) (rest : List Lexeme) →
    Runs either (pattern_list_end m k o is) (mark M.CloseBracket ∷ rest) → (o ≡ no_pattern) × Runs either is rest
bracket_only m k no_pattern is rest r = (refl, r.1)
bracket_only m k (one_pattern p) is rest r = let e = r.0 in cc

tail_only : (m : Bool) (k : ℕ) (o : OptionalPattern) (is : List Item) (ts : List Lexeme) →
    Runs either (pattern_list_end m k o is) (mark M.Bar ∷ ts) →
    Made (closed (mark M.CloseBracket) (inner_pattern m k)) Anything ts one_pattern o is
tail_only m k no_pattern is ts r = let e = r.0 in cc
tail_only m k (one_pattern p) is ts r = record { from = p; are = refl; ends = tt; runs = r.1 }

no_end : (m : Bool) (k : ℕ) (o : OptionalPattern) (is : List Item) (ts : List Lexeme) → NotAt (mark M.CloseBracket) ts →
    NotAt (mark M.Bar) ts → Runs either (pattern_list_end m k o is) ts → ⊥
no_end m k no_pattern is ts n b r = not_along (mark M.CloseBracket) is ts n r
no_end m k (one_pattern p) is ts n b r =
    not_along (mark M.Bar) (inner_pattern m k p (sign M.CloseBracket ∷ is)) ts b r

module _ (m : Bool) (k : ℕ) where
  pub found_bracket : {rest : List Lexeme} →
      Found (pattern_list_end m k) Anything (mark M.CloseBracket ∷ rest) no_pattern rest
  found_bracket {rest} = record {
    sound = λ way is r. (refl, r);
    only_one = λ o is h r. bracket_only m k o is rest r;
    shorter = omega arith;
  }

  pub list_tail : {ts : List Lexeme} → Makes (closed (mark M.CloseBracket) (inner_pattern m k)) Anything ts
      (pattern_list_end m k) Anything (mark M.Bar ∷ ts) one_pattern
  list_tail {ts} = record {
    sound = λ way p is r. (refl, r);
    only = λ o is h r. tail_only m k o is ts r;
    no_longer = omega arith;
  }

  pub pattern_end_missing : {ts : List Lexeme} → NotAt (mark M.CloseBracket) ts → NotAt (mark M.Bar) ts →
      Missing (pattern_list_end m k) Anything ts
  pattern_end_missing {ts} n b = record { none = λ o is h r. no_end m k o is ts n b r }
