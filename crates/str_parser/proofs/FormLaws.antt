-- Rules and definitions: how they are made of their parts.
use Rattle.std.proofs.Common.{◌≡◌, ℕ, ◌⊎◌, inl, inr, true, false, List, ◌∷◌, refl, arith}
use Rattle.str_lexer.specs.declared.token.Mark.TheVariants as M
use Rattle.str_lexer.specs.declared.token.Keyword.TheVariants as K
use Rattle.str_syntax.specs.Trees.{HeadTree, head, PatternTree, StrategyTree, OptionalStrategy, no_strategy, one_strategy, RuleTree, rewrites, definition, FormTree, rule_form, strategy_form, TopTree}
use Rattle.str_syntax.specs.declared.definition.Origin.{Origin}
use Rattle.str_syntax.specs.declared.definition.Origin.TheVariants as origins
use Rattle.str_parser.specs.Lexemes.{Lexeme, mark, keyword}
use Rattle.str_parser.specs.Items.{Item, Way, either, Runs}
use Rattle.str_parser.specs.Phrases.{sign, parameters, headed, led_by, rule, form, from_file}
use Rattle.str_parser.specs.Readings.{NotAt, AtMost, Found, Missing, one_name}
use Rattle.str_parser.specs.Parts.{inner_strategy, inner_pattern}
use Rattle.str_parser.specs.Runs.{FoundAny}
use Rattle.str_parser.specs.Parsing.{EndsRule, one_top}
use Rattle.str_parser.proofs.WayLaws.{not_along}
use Rattle.str_parser.proofs.PhraseLaws.{Made, Makes, makes_on, Parts, Pairs, after_first, behind, is_behind, both, both_pairs}
use Rattle.str_parser.proofs.NameLaws.{at_most_five}

-- ---- rules

abbrev pub as_rule : PatternTree → PatternTree × OptionalStrategy → RuleTree
as_rule l b = rewrites l b.0 b.1

module _ (k : ℕ) where
  -- the right side and the condition
  abbrev pub right_side : PatternTree × OptionalStrategy → List Item → List Item
  right_side = both (inner_pattern false k) (led_by K.Where k)

  rule_only : (u : RuleTree) (is : List Item) (ts : List Lexeme) → Runs either (rule k u is) ts →
      Parts (inner_pattern true k) (AtMost 3) (behind (mark M.Arrow) right_side) as_rule u is ts
  rule_only (rewrites l q o) is ts r =
      record { one = l; other = (q, o); are = refl; ends = omega arith; runs = r }

  pub rule_pairs : Pairs (inner_pattern true k) (AtMost 3) (behind (mark M.Arrow) right_side) (rule k) EndsRule as_rule
  rule_pairs = record { sound = λ way l b is ts r. r; only = λ u is ts h r. rule_only u is ts r }

  condition_at_most : (o : OptionalStrategy) (is : List Item) → EndsRule is → AtMost 3 (led_by K.Where k o is)
  condition_at_most no_strategy is h = omega (arith, h.0)
  condition_at_most (one_strategy s) is h = omega arith

  pub side_pairs : Pairs (inner_pattern false k) (AtMost 3) (led_by K.Where k) right_side EndsRule (λ r o. (r, o))
  side_pairs = both_pairs condition_at_most

  -- what comes after the left side and the arrow
  pub after_left : {l : PatternTree} {ts ahead : List Lexeme} →
      Found (inner_pattern true k) (AtMost 3) ts l (mark M.Arrow ∷ ahead) →
      Makes right_side EndsRule ahead (rule k) EndsRule ts (as_rule l)
  after_left f = makes_on (is_behind refl) (after_first rule_pairs f)

  -- what comes after where
  condition_only : {ts : List Lexeme} (o : OptionalStrategy) (is : List Item) → EndsRule is →
      Runs either (led_by K.Where k o is) (keyword K.Where ∷ ts) →
      Made (inner_strategy k) (AtMost 0) ts one_strategy o is
  condition_only {ts} no_strategy is h r = let e : true ≡ false = h.1 (keyword K.Where) ts r in cc
  condition_only (one_strategy s) is h r = record { from = s; are = refl; ends = h.0; runs = r.1 }

  pub after_where : {ts : List Lexeme} → Makes (inner_strategy k) (AtMost 0) ts (led_by K.Where k) EndsRule
      (keyword K.Where ∷ ts) one_strategy
  after_where = record { sound = λ way s is r. (refl, r); only = condition_only; no_longer = omega arith }

  no_where_only : {ts : List Lexeme} → NotAt (keyword K.Where) ts → (o : OptionalStrategy) (is : List Item) →
      Runs either (led_by K.Where k o is) ts → (o ≡ no_strategy) × Runs either is ts
  no_where_only n no_strategy is r = (refl, r)
  no_where_only {ts} n (one_strategy s) is r = absurd (not_along (keyword K.Where) (inner_strategy k s is) ts n r)

  pub no_where : {ts : List Lexeme} → NotAt (keyword K.Where) ts →
      FoundAny (led_by K.Where k) EndsRule ts no_strategy ts
  no_where n = record { sound = λ way is r. r; only_one = λ o is h r. no_where_only n o is r; no_longer = omega arith }

-- ---- names with parameters

head_only : (u : HeadTree) (is : List Item) (ts : List Lexeme) → Runs either (headed u is) ts →
    Parts one_name (AtMost 5) parameters head u is ts
head_only (head x ps) is ts r =
    record { one = x; other = ps; are = refl; ends = at_most_five (parameters ps is); runs = r }

pub head_pairs : Pairs one_name (AtMost 5) parameters headed (AtMost 3) head
head_pairs = record { sound = λ way x ps is ts r. r; only = λ u is ts h r. head_only u is ts r }

-- ---- rules and definitions with names

-- a colon and a rule, or an equals sign and a strategy
abbrev pub form_body : RuleTree ⊎ StrategyTree → List Item → List Item
form_body (inl r) is = sign M.Colon ∷ rule 1 r is
form_body (inr s) is = sign M.Equals ∷ inner_strategy 1 s is

abbrev pub as_form : HeadTree → RuleTree ⊎ StrategyTree → FormTree
as_form h (inl r) = rule_form h r
as_form h (inr s) = strategy_form (definition h s)

form_sound : (way : Way) (h : HeadTree) (b : RuleTree ⊎ StrategyTree) (is : List Item) (ts : List Lexeme) →
    Runs way (headed h (form_body b is)) ts → Runs way (form (as_form h b) is) ts
form_sound way h (inl r) is ts w = w
form_sound way h (inr s) is ts w = w

form_only : (u : FormTree) (is : List Item) (ts : List Lexeme) → Runs either (form u is) ts →
    Parts headed (AtMost 3) form_body as_form u is ts
form_only (rule_form h r) is ts w = record { one = h; other = inl r; are = refl; ends = omega arith; runs = w }
form_only (strategy_form (definition h s)) is ts w =
    record { one = h; other = inr s; are = refl; ends = omega arith; runs = w }

pub form_pairs : Pairs headed (AtMost 3) form_body form EndsRule as_form
form_pairs = record { sound = form_sound; only = λ u is ts h w. form_only u is ts w }

module _ {ts : List Lexeme} where
  colon_only : (b : RuleTree ⊎ StrategyTree) (is : List Item) → EndsRule is →
      Runs either (form_body b is) (mark M.Colon ∷ ts) → Made (rule 1) EndsRule ts inl b is
  colon_only (inl r) is h w = record { from = r; are = refl; ends = h; runs = w.1 }
  colon_only (inr s) is h w = let e = w.0 in cc

  pub after_colon : Makes (rule 1) EndsRule ts form_body EndsRule (mark M.Colon ∷ ts) inl
  after_colon = record { sound = λ way r is w. (refl, w); only = colon_only; no_longer = omega arith }

  equals_only : (b : RuleTree ⊎ StrategyTree) (is : List Item) → EndsRule is →
      Runs either (form_body b is) (mark M.Equals ∷ ts) → Made (inner_strategy 1) (AtMost 0) ts inr b is
  equals_only (inl r) is h w = let e = w.0 in cc
  equals_only (inr s) is h w = record { from = s; are = refl; ends = h.0; runs = w.1 }

  pub after_equals : Makes (inner_strategy 1) (AtMost 0) ts form_body EndsRule (mark M.Equals ∷ ts) inr
  after_equals = record { sound = λ way s is w. (refl, w); only = equals_only; no_longer = omega arith }

  no_sign : NotAt (mark M.Colon) ts → NotAt (mark M.Equals) ts → (b : RuleTree ⊎ StrategyTree) (is : List Item) →
      Runs either (form_body b is) ts → ⊥
  no_sign n m (inl r) is w = not_along (mark M.Colon) (rule 1 r is) ts n w
  no_sign n m (inr s) is w = not_along (mark M.Equals) (inner_strategy 1 s is) ts m w

  pub sign_missing : NotAt (mark M.Colon) ts → NotAt (mark M.Equals) ts → Missing form_body EndsRule ts
  sign_missing n m = record { none = λ b is h w. no_sign n m b is w }

-- ---- definitions of the file

-- the file's definition of this form
abbrev pub of_file : FormTree → TopTree
of_file f = record { origin = origins.File; form = f }

the_files : (o : Origin) → from_file o ≡ true → o ≡ origins.File
the_files origins.File e = refl
the_files origins.Library e = cc

pub is_top : {ts : List Lexeme} → Makes form EndsRule ts one_top EndsRule ts of_file
is_top = record {
  sound = λ way f is w. (refl, w);
  only = λ u is h w. record { from = u.form; are = rw (the_files u.origin w.0) refl; ends = h; runs = w.1 };
  no_longer = omega arith;
}
