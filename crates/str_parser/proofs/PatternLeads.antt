-- The first token of a pattern, and what comes after it.
use Rattle.std.proofs.Common.{◌≡◌, inl, inr, ℕ, ℤ, ◌+◌, Bool, true, false, List, [], ◌∷◌, refl}
use Rattle.str_lexer.specs.declared.token.Mark.TheVariants as M
use Rattle.str_syntax.specs.Trees.{Bytes, PatternTree, variable, wildcard, alias, integer, quoted, application, grouped, tuple, list, annotated, applied, applied_to, PatternTrees, StrategyTree, no_pattern, one_pattern}
use Rattle.str_parser.specs.Lexemes.{Lexeme, Lexeme as L, build_part, first_begins, begins_pattern}
use Rattle.str_parser.specs.Items.{Item, part, no_build, either, Runs}
use Rattle.str_parser.specs.Phrases.{sign, is_not, is_constructor, are_parts, any_patterns, pattern_part, takes_annotations, pattern, patterns}
use Rattle.str_parser.specs.Parts.{inner_pattern, inner_strategy}

-- the pattern does not end with annotations of the whole
abbrev pub is_bare : PatternTree → Bool
is_bare (annotated p qs) = false
is_bare _ = true

-- the tree begins with this token, and these run along the rest of it and the items after it
pub data LedPattern (m : Bool) (k : ℕ) (ts : List Lexeme) : Lexeme → PatternTree → List Item → Type 0 where
  led_variable : {x : Bytes} {is : List Item} → Runs either is ts → LedPattern m k ts (L.name x) (variable x) is
  led_wildcard : {is : List Item} → Runs either is ts → LedPattern m k ts L.wildcard wildcard is
  led_alias : {x : Bytes} (p : PatternTree) {is : List Item} →
      Runs either (sign M.At ∷ inner_pattern m (k + 1) p is) ts → LedPattern m k ts (L.name x) (alias x p) is
  led_integer : {z : ℤ} {is : List Item} → Runs either is ts → LedPattern m k ts (L.integer z) (integer z) is
  led_quoted : {text : Bytes} {is : List Item} → Runs either is ts → LedPattern m k ts (L.quoted text) (quoted text) is
  led_application : {x : Bytes} (ps : PatternTrees) {is : List Item} → is_constructor x ≡ true →
      Runs either (sign M.OpenParenthesis ∷ patterns m (k + 1) ps (sign M.CloseParenthesis ∷ is)) ts →
      LedPattern m k ts (L.name x) (application x ps) is
  led_grouped : (p : PatternTree) {is : List Item} →
      Runs either (inner_pattern m (k + 1) p (sign M.CloseParenthesis ∷ is)) ts →
      LedPattern m k ts (L.mark M.OpenParenthesis) (grouped p) is
  led_tuple : (ps : PatternTrees) {is : List Item} → are_parts ps ≡ true →
      Runs either (patterns m (k + 1) ps (sign M.CloseParenthesis ∷ is)) ts →
      LedPattern m k ts (L.mark M.OpenParenthesis) (tuple ps) is
  led_list : (ps : PatternTrees) {is : List Item} → Runs either (patterns m (k + 1) ps (sign M.CloseBracket ∷ is)) ts →
      LedPattern m k ts (L.mark M.OpenBracket) (list ps no_pattern) is
  led_list_with_tail : (ps : PatternTrees) (p : PatternTree) {is : List Item} → any_patterns ps ≡ true →
      Runs either (patterns m (k + 1) ps (sign M.Bar ∷ inner_pattern m (k + 1) p (sign M.CloseBracket ∷ is))) ts →
      LedPattern m k ts (L.mark M.OpenBracket) (list ps (one_pattern p)) is
  led_applied : (s : StrategyTree) {is : List Item} → is_not m ≡ true →
      Runs either (inner_strategy (k + 1) s (sign M.Greater ∷ no_build ∷ is)) ts →
      LedPattern m k ts (L.mark M.Less) (applied s) is
  led_applied_to : (s : StrategyTree) (p : PatternTree) {is : List Item} → is_not m ≡ true →
      Runs either (inner_strategy (k + 1) s (sign M.Greater ∷ part build_part (k + 1) ∷ pattern m (k + 1) p is)) ts →
      LedPattern m k ts (L.mark M.Less) (applied_to s p) is

pub takes_bare : (p : PatternTree) → takes_annotations p ≡ true → is_bare p ≡ true
takes_bare (annotated p qs) a = cc
takes_bare _ a = refl

-- a bare tree that tokens run along begins with the first of them
pub pattern_led : (m : Bool) (k : ℕ) (t : Lexeme) (ts : List Lexeme) (u : PatternTree) (is : List Item) →
    is_bare u ≡ true → Runs either (pattern m k u is) (t ∷ ts) → LedPattern m k ts t u is
pattern_led m k t ts (variable x) is b r = rw r.0 (led_variable r.1)
pattern_led m k t ts wildcard is b r = rw r.0 (led_wildcard r.1)
pattern_led m k t ts (alias x p) is b r = rw r.0 (led_alias p r.1)
pattern_led m k t ts (integer z) is b r = rw r.0 (led_integer r.1)
pattern_led m k t ts (quoted text) is b r = rw r.0 (led_quoted r.1)
pattern_led m k t ts (application x ps) is b r = rw r.1.0 (led_application ps r.0 r.1.1)
pattern_led m k t ts (grouped p) is b r = rw r.0 (led_grouped p r.1)
pattern_led m k t ts (tuple ps) is b r = rw r.1.0 (led_tuple ps r.0 r.1.1)
pattern_led m k t ts (list ps no_pattern) is b r = rw r.0 (led_list ps r.1)
pattern_led m k t ts (list ps (one_pattern p)) is b r = rw r.1.0 (led_list_with_tail ps p r.0 r.1.1)
pattern_led m k t ts (annotated p qs) is b r = cc
pattern_led m k t ts (applied s) is b r = rw r.1.0 (led_applied s r.0 r.1.1)
pattern_led m k t ts (applied_to s p) is b r = rw r.1.0 (led_applied_to s p r.0 r.1.1)

-- ---- what a pattern begins with

pub led_begins : {m : Bool} {k : ℕ} {ts : List Lexeme} {t : Lexeme} {u : PatternTree} {is : List Item} →
    LedPattern m k ts t u is → first_begins (pattern_part m) (t ∷ ts) ≡ true
led_begins {m = true} (led_applied s h r) = cc
led_begins {m = true} (led_applied_to s p h r) = cc
led_begins {m = true} _ = refl
led_begins {m = false} (led_variable r) = refl
led_begins {m = false} _ = refl

pub no_tokens : (m : Bool) (k : ℕ) (u : PatternTree) (is : List Item) → Runs either (pattern m k u is) [] → ⊥
no_tokens m k (application x ps) is r = r.1
no_tokens m k (tuple ps) is r = r.1
no_tokens m k (list ps (one_pattern p)) is r = r.1
no_tokens m k (annotated p qs) is r = no_tokens m k p _ r.1
no_tokens m k (applied s) is r = r.1
no_tokens m k (applied_to s p) is r = r.1
no_tokens m k _ is r = r

pub pattern_begins : (m : Bool) (k : ℕ) (u : PatternTree) (is : List Item) (ts : List Lexeme) →
    Runs either (pattern m k u is) ts → first_begins (pattern_part m) ts ≡ true
pattern_begins m k u is [] r = absurd (no_tokens m k u is r)
pattern_begins m k (annotated p qs) is (t ∷ ts) r = pattern_begins m k p _ (t ∷ ts) r.1
pattern_begins m k u is (t ∷ ts) r = led_begins (pattern_led m k t ts u is refl r)

pub inner_begins : (m : Bool) (k : ℕ) (p : PatternTree) (is : List Item) (ts : List Lexeme) →
    Runs either (inner_pattern m k p is) ts → first_begins (pattern_part m) ts ≡ true
inner_begins m k p is ts (inl b) = b.1
inner_begins m k p is ts (inr r) = pattern_begins m k p is ts r

pub part_begins : (m : Bool) (t : Lexeme) (ts : List Lexeme) →
    first_begins (pattern_part m) (t ∷ ts) ≡ begins_pattern m t
part_begins true t ts = refl
part_begins false t ts = refl

pub no_inner : (m : Bool) (k : ℕ) (p : PatternTree) (is : List Item) (t : Lexeme) (ts : List Lexeme) →
    begins_pattern m t ≡ false → Runs either (inner_pattern m k p is) (t ∷ ts) → ⊥
no_inner m k p is t ts e r = let b = inner_begins m k p is (t ∷ ts) r in let f = part_begins m t ts in cc
