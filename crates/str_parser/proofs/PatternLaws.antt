-- Patterns: how they are made of their parts.
use Rattle.std.proofs.Common.{◌≡◌, inl, IsSome, Option, Some, None, ℕ, ℤ, ◌+◌, ◌≤◌, length, Bool, true, false, List, [], ◌∷◌, refl, ap, arith}
use Rattle.std.specs.Borrow.{Bor}
use Rattle.str_lexer.specs.declared.token.Mark.{Mark}
use Rattle.str_lexer.specs.declared.token.Mark.TheVariants as M
use Rattle.str_lexer.specs.declared.token.Keyword.{Keyword}
use Rattle.str_syntax.specs.declared.strategy.Pattern.{Pattern}
use Rattle.str_syntax.specs.Views.{patterns_of}
use Rattle.str_syntax.specs.Trees.{Bytes, PatternTree, variable, wildcard, alias, integer, quoted, application, tuple, list, annotated, applied, applied_to, PatternTrees, no_patterns, more_patterns, OptionalPattern, no_pattern, one_pattern, StrategyTree}
use Rattle.str_parser.specs.Lexemes.{Lexeme, Lexeme as L, mark, begins_pattern, build_part, first_begins}
use Rattle.str_parser.specs.Items.{Item, token, part, no_build, Way, too_deep, either, Runs}
use Rattle.str_parser.specs.Phrases.{sign, is_not, is_constructor, are_parts, pattern_part, takes_annotations, pattern}
use Rattle.str_parser.specs.declared.input.Lexeme.{Lexeme as CodeLexeme}
use Rattle.str_parser.specs.declared.input.Lexeme.TheVariants as C
use Rattle.str_parser.specs.Readings.{lexeme_in, NotAt, IsAfter, AtMost, Found, Missing, Nested}
use Rattle.str_parser.specs.Runs.{FoundAny, is_comma}
use Rattle.str_parser.specs.Parts.{inner_pattern, inner_strategy, plain_pattern, IsOther, Anything, closed_strategy, some_patterns, EndsPatterns, patterns_in_parentheses, pattern_list_end, closed_patterns}
use Rattle.str_parser.proofs.PartLaws.{passes, passed, binds_less}
use Rattle.str_parser.proofs.WayLaws.{not_along}
use Rattle.str_parser.proofs.PhraseLaws.{Made, Makes, makes_on, made, Carries, carries_on, at_made, Pairs, at_first, after_first, pair, both, both_pairs}
use Rattle.str_parser.proofs.PatternLeads.{pattern_begins, LedPattern, led_variable, led_wildcard, led_alias, led_integer, led_quoted, led_application, led_grouped, led_tuple, led_list, led_list_with_tail, led_applied, led_applied_to, takes_bare, pattern_led, inner_begins, no_inner}

-- ---- at level 201

pub pattern_nested : (m : Bool) (k : ℕ) (ts : List Lexeme) → k ≡ 201 → first_begins (pattern_part m) ts ≡ true →
    Nested (inner_pattern m k) ts
pattern_nested m k ts h b = record { tree = wildcard; runs = λ is. inl (h, b) }

pub pattern_beyond : (m : Bool) (k : ℕ) (ts : List Lexeme) → first_begins (pattern_part m) ts ≡ false →
    Missing (inner_pattern m k) (AtMost 3) ts
pattern_beyond m k ts b = record { none = λ u is h r. let e = inner_begins m k u is ts r in cc }

-- ---- patterns that may have annotations

-- one along which tokens run begins with the first of them
plain_led : (m : Bool) (k : ℕ) (t : Lexeme) (ts : List Lexeme) (u : PatternTree) (is : List Item) →
    Runs either (plain_pattern m k u is) (t ∷ ts) → LedPattern m k ts t u is
plain_led m k t ts u is r = pattern_led m k t ts u is (takes_bare u r.0) r.1

no_alias : (m : Bool) (k : ℕ) {x : Bytes} {ts : List Lexeme} {u : PatternTree} {is : List Item} →
    takes_annotations u ≡ true → AtMost 4 is → LedPattern m k (mark M.At ∷ ts) (L.name x) u is → ⊥
no_alias m k {ts = ts} {is = is} takes h (led_variable r) = omega (arith, h, binds_less is (mark M.At) ts r)
no_alias m k takes h (led_alias p r) = cc
no_alias m k takes h (led_application ps c r) = let e = r.0 in cc

no_applied : (m : Bool) (k : ℕ) {ts : List Lexeme} {u : PatternTree} {is : List Item} →
    takes_annotations u ≡ true → LedPattern m k ts (L.mark M.Less) u is → ⊥
no_applied m k takes (led_applied s h r) = cc
no_applied m k takes (led_applied_to s p h r) = cc

-- ---- aliases

module _ (m : Bool) (k : ℕ) (x : Bytes) (ts : List Lexeme) where
  alias_led : {u : PatternTree} {is : List Item} → AtMost 3 is → LedPattern m k (mark M.At ∷ ts) (L.name x) u is →
      Made (inner_pattern m (k + 1)) (AtMost 3) ts (alias x) u is
  alias_led {is = is} h (led_variable r) = absurd (omega (arith, h, binds_less is (mark M.At) ts r))
  alias_led h (led_alias p r) = record { from = p; are = refl; ends = h; runs = r.1 }
  alias_led h (led_application ps c r) = let e = r.0 in cc

  alias_only : (u : PatternTree) (is : List Item) → AtMost 3 is →
      Runs either (pattern m k u is) (L.name x ∷ mark M.At ∷ ts) →
      Made (inner_pattern m (k + 1)) (AtMost 3) ts (alias x) u is
  alias_only (annotated p qs) is h r =
      absurd (no_alias m k r.0 (omega arith) (plain_led m k _ (mark M.At ∷ ts) p _ r))
  alias_only u is h r = alias_led h (pattern_led m k _ (mark M.At ∷ ts) u is refl r)

-- the pattern after the name and @
pub alias_part : (m : Bool) (k : ℕ) {x : Bytes} {ts : List Lexeme} → k ≤ 200 →
    Makes (inner_pattern m (k + 1)) (AtMost 3) ts (inner_pattern m k) (AtMost 3) (L.name x ∷ mark M.At ∷ ts) (alias x)
alias_part m k {x} {ts} h = record {
  sound = λ way p is r. passes way (pattern_part m) k (pattern m k (alias x p) is) _ h (refl, (refl, r));
  only = λ u is b r. alias_only m k x ts u is b (passed (pattern_part m) k (pattern m k u is) _ h r);
  no_longer = omega arith;
}

-- ---- builds of a strategy that is applied

-- what comes after its > : no pattern, or one
abbrev pub build_rest : ℕ → OptionalPattern → List Item → List Item
build_rest k no_pattern is = no_build ∷ is
build_rest k (one_pattern p) is = inner_pattern false (k + 1) p is

abbrev pub application_rest : ℕ → StrategyTree × OptionalPattern → List Item → List Item
application_rest k = both (closed_strategy (mark M.Greater) (k + 1)) (build_rest k)

abbrev pub as_applied : StrategyTree × OptionalPattern → PatternTree
as_applied (s, no_pattern) = applied s
as_applied (s, one_pattern p) = applied_to s p

module _ (k : ℕ) where
  application_pairs : Pairs (closed_strategy (mark M.Greater) (k + 1)) Anything (build_rest k) (application_rest k)
      (AtMost 3) (λ s o. (s, o))
  application_pairs = both_pairs (λ o is h. tt)

  applied_sound : (way : Way) (a : StrategyTree × OptionalPattern) (is : List Item) (ts : List Lexeme) →
      Runs way (application_rest k a is) ts → Runs way (pattern false k (as_applied a) is) (mark M.Less ∷ ts)
  applied_sound way (s, no_pattern) is ts r = (refl, (refl, r))
  applied_sound way (s, one_pattern p) is ts r = (refl, (refl, r))

  applied_led : {ts : List Lexeme} {u : PatternTree} {is : List Item} → AtMost 3 is →
      LedPattern false k ts (L.mark M.Less) u is → Made (application_rest k) (AtMost 3) ts as_applied u is
  applied_led h (led_applied s b r) = record { from = (s, no_pattern); are = refl; ends = h; runs = r }
  applied_led h (led_applied_to s p b r) = record { from = (s, one_pattern p); are = refl; ends = h; runs = r }

  applied_only : {ts : List Lexeme} (u : PatternTree) (is : List Item) → AtMost 3 is →
      Runs either (pattern false k u is) (mark M.Less ∷ ts) →
      Made (application_rest k) (AtMost 3) ts as_applied u is
  applied_only {ts} (annotated p qs) is h r = absurd (no_applied false k r.0 (plain_led false k _ ts p _ r))
  applied_only {ts} u is h r = applied_led h (pattern_led false k _ ts u is refl r)

  application_made : {ts : List Lexeme} → k ≤ 200 → Makes (application_rest k) (AtMost 3) ts (inner_pattern false k)
      (AtMost 3) (mark M.Less ∷ ts) as_applied
  application_made {ts} h = record {
    sound = λ way a is r. passes way build_part k (pattern false k (as_applied a) is) _ h (applied_sound way a is ts r);
    only = λ u is b r. applied_only u is b (passed build_part k (pattern false k u is) _ h r);
    no_longer = omega arith;
  }

  -- a fault at the strategy
  pub at_applied : {ts : List Lexeme} → k ≤ 200 → Carries (closed_strategy (mark M.Greater) (k + 1)) Anything ts
      (inner_pattern false k) (AtMost 3) (mark M.Less ∷ ts)
  at_applied h = carries_on (at_first application_pairs no_pattern) (at_made (application_made h))

  not_built : (ts : List Lexeme) → first_begins build_part ts ≡ false → (o : OptionalPattern) (is : List Item) →
      Runs either (build_rest k o is) ts → (o ≡ no_pattern) × Runs either is ts
  not_built ts b no_pattern is r = (refl, r.1)
  not_built ts b (one_pattern p) is r = let e = inner_begins false (k + 1) p is ts r in cc

  nothing_built : (ts : List Lexeme) → first_begins build_part ts ≡ false →
      FoundAny (build_rest k) (AtMost 3) ts no_pattern ts
  nothing_built ts b = record {
    sound = λ way is r. (b, r);
    only_one = λ o is h r. not_built ts b o is r;
    no_longer = omega arith;
  }

  -- no pattern comes after it
  pub found_applied : {s : StrategyTree} {ts rest : List Lexeme} → k ≤ 200 →
      Found (closed_strategy (mark M.Greater) (k + 1)) Anything ts s rest → first_begins build_part rest ≡ false →
      Found (inner_pattern false k) (AtMost 3) (mark M.Less ∷ ts) (applied s) rest
  found_applied {rest = rest} h f b = made (application_made h) (pair application_pairs f (nothing_built rest b))

  built_only : {ts : List Lexeme} → first_begins build_part ts ≡ true → (o : OptionalPattern) (is : List Item) →
      AtMost 3 is → Runs either (build_rest k o is) ts →
      Made (inner_pattern false (k + 1)) (AtMost 3) ts one_pattern o is
  built_only b no_pattern is h r = let e = r.0 in cc
  built_only b (one_pattern p) is h r = record { from = p; are = refl; ends = h; runs = r }

  -- the pattern after it
  pub after_applied : {s : StrategyTree} {ts rest : List Lexeme} → k ≤ 200 →
      Found (closed_strategy (mark M.Greater) (k + 1)) Anything ts s rest → first_begins build_part rest ≡ true →
      Makes (inner_pattern false (k + 1)) (AtMost 3) rest (inner_pattern false k) (AtMost 3) (mark M.Less ∷ ts)
      (applied_to s)
  after_applied {rest = rest} h f b = makes_on (makes_on
      (record { sound = λ way p is r. r; only = built_only b; no_longer = omega arith })
      (after_first application_pairs f)) (application_made h)

-- ---- annotations

-- how tokens run along a pattern where neither an alias nor a strategy that is applied begins
data Shape (m : Bool) (k : ℕ) (ts : List Lexeme) : PatternTree → List Item → Type 0 where
  shape_plain : {u : PatternTree} {is : List Item} → Runs either (plain_pattern m k u is) ts → Shape m k ts u is
  shape_annotated : {p : PatternTree} (qs : PatternTrees) {is : List Item} →
      Runs either (plain_pattern m k p (sign M.OpenBrace ∷ closed_patterns M.CloseBrace m (k + 1) qs is)) ts →
      Shape m k ts (annotated p qs) is

not_in_match : (m : Bool) → is_not m ≡ true → m ≡ false
not_in_match true e = cc
not_in_match false e = refl

alias_tokens : (x : Bytes) (is : List Item) (ts : List Lexeme) →
    Runs either (token (L.name x) ∷ sign M.At ∷ is) ts →
    ((rest : List Lexeme) → ts ≡ L.name x ∷ mark M.At ∷ rest → ⊥) → ⊥
alias_tokens x is [] r n = r
alias_tokens x is (t ∷ []) r n = r.1
alias_tokens x is (t ∷ u ∷ ts) r n = n ts (rw (r.0, r.1.0) refl)

module _ (m : Bool) (k : ℕ) {ts : List Lexeme} (o : IsOther m ts) where
  shape : (u : PatternTree) (is : List Item) → Runs either (pattern m k u is) ts → Shape m k ts u is
  shape (alias x p) is r = absurd (alias_tokens x (inner_pattern m (k + 1) p is) ts r (o.no_alias x))
  shape (annotated p qs) is r = shape_annotated qs r
  shape (applied s) is r =
      absurd (not_along (mark M.Less) (inner_strategy (k + 1) s (sign M.Greater ∷ no_build ∷ is)) ts
      (λ rest e. o.no_strategy rest (not_in_match m r.0) e) r.1)
  shape (applied_to s p) is r =
      absurd (not_along (mark M.Less) (inner_strategy (k + 1) s (sign M.Greater ∷ part build_part (k + 1) ∷
      pattern m (k + 1) p is)) ts (λ rest e. o.no_strategy rest (not_in_match m r.0) e) r.1)
  shape u is r = shape_plain (refl, r)

  missing_shape : Missing (plain_pattern m k) (AtMost 4) ts → {u : PatternTree} {is : List Item} → AtMost 3 is →
      Shape m k ts u is → ⊥
  missing_shape n {u} {is} h (shape_plain r) = n.none u is (omega (arith, h)) r
  missing_shape n h (shape_annotated {p} qs r) = n.none p _ (omega arith) r

  -- a fault at the pattern without its annotations
  pub at_plain : k ≤ 200 → Carries (plain_pattern m k) (AtMost 4) ts (inner_pattern m k) (AtMost 3) ts
  at_plain h = record {
    missing = λ n. record {
      none = λ u is b r. missing_shape n b (shape u is (passed (pattern_part m) k (pattern m k u is) ts h r));
    };
    nested = λ n. record {
      tree = n.tree;
      runs = λ is. passes too_deep (pattern_part m) k (pattern m k n.tree is) ts h (n.runs is).1;
    };
  }

  module _ {p : PatternTree} {rest : List Lexeme} (f : Found (plain_pattern m k) (AtMost 4) ts p rest) where
    bare_shape : NotAt (mark M.OpenBrace) rest → {u : PatternTree} {is : List Item} → AtMost 3 is →
        Shape m k ts u is → (u ≡ p) × Runs either is rest
    bare_shape n {u} {is} h (shape_plain r) = f.only_one u is (omega (arith, h)) r
    bare_shape n h (shape_annotated {p = q} qs r) =
        absurd (not_along (mark M.OpenBrace) _ rest n (f.only_one q _ (omega arith) r).1)

    -- no annotations come
    pub found_bare : k ≤ 200 → NotAt (mark M.OpenBrace) rest → Found (inner_pattern m k) (AtMost 3) ts p rest
    found_bare h n = record {
      sound = λ way is r. passes way (pattern_part m) k (pattern m k p is) ts h (f.sound way is r).1;
      only_one = λ u is b r. bare_shape n b (shape u is (passed (pattern_part m) k (pattern m k u is) ts h r));
      shorter = f.shorter;
    }

  module _ {p : PatternTree} {rest : List Lexeme}
      (f : Found (plain_pattern m k) (AtMost 4) ts p (mark M.OpenBrace ∷ rest)) where
    annotated_shape : {u : PatternTree} {is : List Item} → AtMost 3 is → Shape m k ts u is →
        Made (closed_patterns M.CloseBrace m (k + 1)) Anything rest (annotated p) u is
    annotated_shape {u} {is} h (shape_plain r) =
        let e = (f.only_one u is (omega (arith, h)) r).1 in
        absurd (omega (arith, h, binds_less is (mark M.OpenBrace) rest e))
    annotated_shape h (shape_annotated {p = q} qs r) =
        let e = f.only_one q _ (omega arith) r in
        record { from = qs; are = ap (λ v. annotated v qs) e.0; ends = tt; runs = e.1.1 }

    -- annotations
    pub after_bare : k ≤ 200 → Makes (closed_patterns M.CloseBrace m (k + 1)) Anything rest (inner_pattern m k)
        (AtMost 3) ts (annotated p)
    after_bare h = record {
      sound = λ way qs is r. passes way (pattern_part m) k (pattern m k (annotated p qs) is) ts h
          (f.sound way (sign M.OpenBrace ∷ closed_patterns M.CloseBrace m (k + 1) qs is) (refl, r));
      only = λ u is b r. annotated_shape b (shape u is (passed (pattern_part m) k (pattern m k u is) ts h r));
      no_longer = omega (arith, f.shorter);
    }

-- ---- patterns of one token

module _ (m : Bool) (k : ℕ) {rest : List Lexeme} where
  wildcard_led : {u : PatternTree} {is : List Item} → LedPattern m k rest L.wildcard u is →
      (u ≡ wildcard) × Runs either is rest
  wildcard_led (led_wildcard r) = (refl, r)

  pub found_wildcard : Found (plain_pattern m k) (AtMost 4) (L.wildcard ∷ rest) wildcard rest
  found_wildcard = record {
    sound = λ way is r. (refl, (refl, r));
    only_one = λ u is h r. wildcard_led (plain_led m k _ rest u is r);
    shorter = omega arith;
  }

  integer_led : {z : ℤ} {u : PatternTree} {is : List Item} → LedPattern m k rest (L.integer z) u is →
      (u ≡ integer z) × Runs either is rest
  integer_led (led_integer r) = (refl, r)

  pub found_integer : {z : ℤ} → Found (plain_pattern m k) (AtMost 4) (L.integer z ∷ rest) (integer z) rest
  found_integer = record {
    sound = λ way is r. (refl, (refl, r));
    only_one = λ u is h r. integer_led (plain_led m k _ rest u is r);
    shorter = omega arith;
  }

  quoted_led : {text : Bytes} {u : PatternTree} {is : List Item} → LedPattern m k rest (L.quoted text) u is →
      (u ≡ quoted text) × Runs either is rest
  quoted_led (led_quoted r) = (refl, r)

  pub found_quoted : {text : Bytes} → Found (plain_pattern m k) (AtMost 4) (L.quoted text ∷ rest) (quoted text) rest
  found_quoted = record {
    sound = λ way is r. (refl, (refl, r));
    only_one = λ u is h r. quoted_led (plain_led m k _ rest u is r);
    shorter = omega arith;
  }

  -- ---- variables

  variable_led : {x : Bytes} {u : PatternTree} {is : List Item} → takes_annotations u ≡ true →
      (is_constructor x ≡ true → NotAt (mark M.OpenParenthesis) rest) → LedPattern m k rest (L.name x) u is →
      (u ≡ variable x) × Runs either is rest
  variable_led takes n (led_variable r) = (refl, r)
  variable_led takes n (led_alias p r) = cc
  variable_led takes n (led_application ps c r) = absurd (not_along (mark M.OpenParenthesis) _ rest (n c) r)

  -- a name that no arguments follow, or that is no constructor's
  pub found_variable : {x : Bytes} → (is_constructor x ≡ true → NotAt (mark M.OpenParenthesis) rest) →
      Found (plain_pattern m k) (AtMost 4) (L.name x ∷ rest) (variable x) rest
  found_variable n = record {
    sound = λ way is r. (refl, (refl, r));
    only_one = λ u is h r. variable_led r.0 n (plain_led m k _ rest u is r);
    shorter = omega arith;
  }

-- ---- applications

module _ (m : Bool) (k : ℕ) (ts : List Lexeme) where
  application_led : {x : Bytes} {u : PatternTree} {is : List Item} → takes_annotations u ≡ true → AtMost 4 is →
      LedPattern m k (mark M.OpenParenthesis ∷ ts) (L.name x) u is →
      Made (closed_patterns M.CloseParenthesis m (k + 1)) Anything ts (application x) u is
  application_led {is = is} takes h (led_variable r) =
      absurd (omega (arith, h, binds_less is (mark M.OpenParenthesis) ts r))
  application_led takes h (led_alias p r) = cc
  application_led takes h (led_application ps c r) = record { from = ps; are = refl; ends = tt; runs = r.1 }

  pub application_part : {x : Bytes} → is_constructor x ≡ true →
      Makes (closed_patterns M.CloseParenthesis m (k + 1)) Anything ts (plain_pattern m k) (AtMost 4)
      (L.name x ∷ mark M.OpenParenthesis ∷ ts) (application x)
  application_part c = record {
    sound = λ way ps is r. (refl, (c, (refl, (refl, r))));
    only = λ u is h r. application_led r.0 h (plain_led m k _ (mark M.OpenParenthesis ∷ ts) u is r);
    no_longer = omega arith;
  }

  -- ---- patterns in parentheses

  parenthesized_sound : (way : Way) (ps : PatternTrees) (is : List Item) →
      Runs way (closed_patterns M.CloseParenthesis m (k + 1) ps is) ts →
      Runs way (plain_pattern m k (patterns_in_parentheses ps) is) (mark M.OpenParenthesis ∷ ts)
  parenthesized_sound way no_patterns is r = (refl, (refl, (refl, r)))
  parenthesized_sound way (more_patterns p no_patterns) is r = (refl, (refl, r))
  parenthesized_sound way (more_patterns p (more_patterns q ps)) is r = (refl, (refl, (refl, r)))

  tuple_only : (ps : PatternTrees) (is : List Item) → are_parts ps ≡ true →
      Runs either (closed_patterns M.CloseParenthesis m (k + 1) ps is) ts →
      Made (closed_patterns M.CloseParenthesis m (k + 1)) Anything ts patterns_in_parentheses (tuple ps) is
  tuple_only no_patterns is h r = record { from = no_patterns; are = refl; ends = tt; runs = r }
  tuple_only (more_patterns p no_patterns) is h r = cc
  tuple_only (more_patterns p (more_patterns q ps)) is h r =
      record { from = more_patterns p (more_patterns q ps); are = refl; ends = tt; runs = r }

  parenthesized_led : {u : PatternTree} {is : List Item} → LedPattern m k ts (L.mark M.OpenParenthesis) u is →
      Made (closed_patterns M.CloseParenthesis m (k + 1)) Anything ts patterns_in_parentheses u is
  parenthesized_led (led_grouped p r) =
      record { from = more_patterns p no_patterns; are = refl; ends = tt; runs = r }
  parenthesized_led {is = is} (led_tuple ps h r) = tuple_only ps is h r

  pub parenthesized_part : Makes (closed_patterns M.CloseParenthesis m (k + 1)) Anything ts (plain_pattern m k)
      (AtMost 4) (mark M.OpenParenthesis ∷ ts) patterns_in_parentheses
  parenthesized_part = record {
    sound = parenthesized_sound;
    only = λ u is h r. parenthesized_led (plain_led m k _ ts u is r);
    no_longer = omega arith;
  }

-- ---- lists

no_close_bracket : (m : Bool) → begins_pattern m (L.mark M.CloseBracket) ≡ false
no_close_bracket true = refl
no_close_bracket false = refl

-- what comes after the bracket of a list that is not empty
abbrev pub list_inside : Bool → ℕ → PatternTrees × OptionalPattern → List Item → List Item
list_inside m k = both (some_patterns m (k + 1)) (pattern_list_end m (k + 1))

abbrev pub as_list : PatternTrees × OptionalPattern → PatternTree
as_list a = list a.0 a.1

module _ (m : Bool) (k : ℕ) where
  empty_led : {rest : List Lexeme} {u : PatternTree} {is : List Item} →
      LedPattern m k (mark M.CloseBracket ∷ rest) (L.mark M.OpenBracket) u is →
      (u ≡ list no_patterns no_pattern) × Runs either is rest
  empty_led (led_list no_patterns r) = (refl, r.1)
  empty_led (led_list (more_patterns p ps) r) = absurd (no_inner m (k + 1) p _ _ _ (no_close_bracket m) r)
  empty_led (led_list_with_tail no_patterns q h r) = cc
  empty_led (led_list_with_tail (more_patterns p ps) q h r) =
      absurd (no_inner m (k + 1) p _ _ _ (no_close_bracket m) r)

  pub found_empty_list : {rest : List Lexeme} → Found (plain_pattern m k) (AtMost 4)
      (mark M.OpenBracket ∷ mark M.CloseBracket ∷ rest) (list no_patterns no_pattern) rest
  found_empty_list {rest} = record {
    sound = λ way is r. (refl, (refl, (refl, r)));
    only_one = λ u is h r. empty_led (plain_led m k _ (mark M.CloseBracket ∷ rest) u is r);
    shorter = omega arith;
  }

  list_end_stops : (o : OptionalPattern) (is : List Item) → EndsPatterns (pattern_list_end m (k + 1) o is)
  list_end_stops no_pattern is = (omega arith, λ t rest r. ap is_comma r.0)
  list_end_stops (one_pattern p) is = (omega arith, λ t rest r. ap is_comma r.0)

  pub pattern_list_pairs : Pairs (some_patterns m (k + 1)) EndsPatterns (pattern_list_end m (k + 1)) (list_inside m k)
      Anything (λ ps o. (ps, o))
  pattern_list_pairs = both_pairs (λ o is h. list_end_stops o is)

  list_sound : (way : Way) (a : PatternTrees × OptionalPattern) (is : List Item) (ts : List Lexeme) →
      Runs way (list_inside m k a is) ts → Runs way (plain_pattern m k (as_list a) is) (mark M.OpenBracket ∷ ts)
  list_sound way (no_patterns, o) is ts r = let e = r.0 in cc
  list_sound way (more_patterns p ps, no_pattern) is ts r = (refl, (refl, r))
  list_sound way (more_patterns p ps, one_pattern q) is ts r = (refl, (refl, (refl, r)))

  list_led : {ts : List Lexeme} {u : PatternTree} {is : List Item} → NotAt (mark M.CloseBracket) ts →
      LedPattern m k ts (L.mark M.OpenBracket) u is → Made (list_inside m k) Anything ts as_list u is
  list_led {ts} {is = is} n (led_list no_patterns r) = absurd (not_along (mark M.CloseBracket) is ts n r)
  list_led n (led_list (more_patterns p ps) r) =
      record { from = (more_patterns p ps, no_pattern); are = refl; ends = tt; runs = r }
  list_led n (led_list_with_tail no_patterns q h r) = cc
  list_led n (led_list_with_tail (more_patterns p ps) q h r) =
      record { from = (more_patterns p ps, one_pattern q); are = refl; ends = tt; runs = r }

  pub list_part : {ts : List Lexeme} → NotAt (mark M.CloseBracket) ts →
      Makes (list_inside m k) Anything ts (plain_pattern m k) (AtMost 4) (mark M.OpenBracket ∷ ts) as_list
  list_part {ts} n = record {
    sound = λ way a is r. list_sound way a is ts r;
    only = λ u is h r. list_led n (plain_led m k _ ts u is r);
    no_longer = omega arith;
  }

-- ---- tokens with which no pattern begins

pub missing_plain : (m : Bool) (k : ℕ) (ts : List Lexeme) → first_begins (pattern_part m) ts ≡ false →
    Missing (plain_pattern m k) (AtMost 4) ts
missing_plain m k ts b = record { none = λ u is h r. let e = pattern_begins m k u is ts r.1 in cc }

-- ---- braces after a pattern that has been read

brace_follows : (m : Bool) (k : ℕ) {ts : List Lexeme} {p : PatternTree} (following : List Lexeme) →
    Found (inner_pattern m k) (AtMost 3) ts p (mark M.OpenBrace ∷ following) →
    Missing (inner_pattern m k) (AtMost 3) ts
brace_follows m k following f = record {
  none = λ u is h r. omega (arith, h, binds_less is (mark M.OpenBrace) following (f.only_one u is h r).1);
}

-- what is read so is no pattern at all
pub brace_missing : (m : Bool) (k : ℕ) {ts rest : List Lexeme} {p : PatternTree} (o : Option (List Lexeme)) →
    IsAfter M.OpenBrace rest o → IsSome o → Found (inner_pattern m k) (AtMost 3) ts p rest →
    Missing (inner_pattern m k) (AtMost 3) ts
brace_missing m k (Some following) a s f = brace_follows m k following (rw a at f)
brace_missing m k None a s f = cc

-- ---- patterns in parentheses, in the code

pub tuple_of : (xs : List Pattern) → (length xs ≡ 1 → ⊥) →
    patterns_in_parentheses (patterns_of xs) ≡ tuple (patterns_of xs)
tuple_of [] n = refl
tuple_of (x ∷ []) n = absurd (n refl)
tuple_of (x ∷ y ∷ xs) n = refl

-- ---- tokens in the code with which no such pattern begins

less_missing : (m : Bool) (k : ℕ) (rest : List Lexeme) → Missing (plain_pattern m k) (AtMost 4) (mark M.Less ∷ rest)
less_missing m k rest = record { none = λ u is h r. no_applied m k r.0 (plain_led m k _ rest u is r) }

pub mark_missing : (m : Bool) (k : ℕ) (rest : List Lexeme) (s : Mark) → (s ≡ M.OpenParenthesis → ⊥) →
    (s ≡ M.OpenBracket → ⊥) → Missing (plain_pattern m k) (AtMost 4) (mark s ∷ rest)
mark_missing m k rest M.OpenParenthesis p b = absurd (p refl)
mark_missing m k rest M.OpenBracket p b = absurd (b refl)
mark_missing m k rest M.Less p b = less_missing m k rest
mark_missing true k rest _ p b = missing_plain true k _ refl
mark_missing false k rest _ p b = missing_plain false k _ refl

keyword_missing : (m : Bool) (k : ℕ) (rest : List Lexeme) (w : Keyword) →
    Missing (plain_pattern m k) (AtMost 4) (L.keyword w ∷ rest)
keyword_missing true k rest w = missing_plain true k _ refl
keyword_missing false k rest w = missing_plain false k _ refl

rest_missing : (m : Bool) (k : ℕ) (rest : List Lexeme) → Missing (plain_pattern m k) (AtMost 4) (L.left_out ∷ rest)
rest_missing true k rest = missing_plain true k _ refl
rest_missing false k rest = missing_plain false k _ refl

-- a token that is none of these
pub token_missing : (m : Bool) (k : ℕ) (rest : List Lexeme) (t : CodeLexeme) →
    ((x : Bor (List ℕ)) → t ≡ C.Name x → ⊥) → (t ≡ C.Wildcard → ⊥) → ((z : ℤ) → t ≡ C.Integer z → ⊥) →
    ((x : Bor (List ℕ)) → t ≡ C.Quoted x → ⊥) → ((s : Mark) → t ≡ C.Mark s → ⊥) →
    Missing (plain_pattern m k) (AtMost 4) (lexeme_in t ∷ rest)
token_missing m k rest (C.Name x) no_name no_wildcard no_integer no_text no_mark = absurd (no_name x refl)
token_missing m k rest C.Wildcard no_name no_wildcard no_integer no_text no_mark = absurd (no_wildcard refl)
token_missing m k rest (C.Integer z) no_name no_wildcard no_integer no_text no_mark = absurd (no_integer z refl)
token_missing m k rest (C.Quoted x) no_name no_wildcard no_integer no_text no_mark = absurd (no_text x refl)
token_missing m k rest (C.Mark s) no_name no_wildcard no_integer no_text no_mark = absurd (no_mark s refl)
token_missing m k rest (C.Keyword w) no_name no_wildcard no_integer no_text no_mark = keyword_missing m k rest w
token_missing m k rest C.LeftOut no_name no_wildcard no_integer no_text no_mark = rest_missing m k rest
