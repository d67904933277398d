-- Sequences and steps: how they are made of their parts.
use Rattle.std.proofs.Common.{◌≡◌, inl, inr, ℕ, ◌+◌, ◌≤◌, true, false, List, ◌∷◌, Option, Some, None, refl, arith}
use Rattle.str_lexer.specs.declared.token.Mark.TheVariants as M
use Rattle.str_syntax.specs.Trees.{SequenceTree, last, then, StepTree, plain_step, matching, PrimaryTree, identity, PatternTree}
use Rattle.str_parser.specs.Lexemes.{Lexeme, mark, strategy_part, first_begins}
use Rattle.str_parser.specs.Items.{Item, Way, either, Runs}
use Rattle.str_parser.specs.Phrases.{sequence, step, primary}
use Rattle.str_parser.specs.Readings.{AtMost, Found, Missing, Nested}
use Rattle.str_parser.specs.Parts.{inner_sequence, inner_pattern}
use Rattle.str_parser.proofs.PartLaws.{binds_less}
use Rattle.str_parser.proofs.PhraseLaws.{Makes, makes_on, Parts, Pairs, after_first, optional, is_option, is_inside}
use Rattle.str_parser.proofs.BeginningLaws.{sequence_begins}

-- ---- sequences at level 201

pub sequence_nested : (k : ℕ) (ts : List Lexeme) → k ≡ 201 → first_begins strategy_part ts ≡ true →
    Nested (inner_sequence k) ts
sequence_nested k ts h b = record { tree = last (plain_step identity); runs = λ is. inl (h, b) }

not_begun : (k : ℕ) (ts : List Lexeme) → first_begins strategy_part ts ≡ false → (u : SequenceTree) (is : List Item) →
    Runs either (inner_sequence k u is) ts → ⊥
not_begun k ts b u is (inl r) = let e = r.1 in cc
not_begun k ts b u is (inr r) = let e = sequence_begins k u is ts r in cc

pub sequence_beyond : (k : ℕ) (ts : List Lexeme) → first_begins strategy_part ts ≡ false →
    Missing (inner_sequence k) (AtMost 1) ts
sequence_beyond k ts b = record { none = λ u is h r. not_begun k ts b u is r }

-- ---- sequences up to level 200: a step and, after a ;, a sequence

abbrev pub as_sequence : StepTree → Option SequenceTree → SequenceTree
as_sequence a None = last a
as_sequence a (Some q) = then a q

module _ (k : ℕ) where
  sequence_sound : (way : Way) (a : StepTree) (o : Option SequenceTree) (is : List Item) (ts : List Lexeme) →
      Runs way (step k a (optional (mark M.Semicolon) (inner_sequence (k + 1)) o is)) ts →
      Runs way (sequence k (as_sequence a o) is) ts
  sequence_sound way a None is ts r = r
  sequence_sound way a (Some q) is ts r = r

  sequence_only : (u : SequenceTree) (is : List Item) (ts : List Lexeme) → AtMost 1 is →
      Runs either (sequence k u is) ts →
      Parts (step k) (AtMost 2) (optional (mark M.Semicolon) (inner_sequence (k + 1))) as_sequence u is ts
  sequence_only (last a) is ts h r =
      record { one = a; other = None; are = refl; ends = omega (arith, h); runs = r }
  sequence_only (then a q) is ts h r =
      record { one = a; other = Some q; are = refl; ends = omega arith; runs = r }

  pub sequence_pairs : Pairs (step k) (AtMost 2) (optional (mark M.Semicolon) (inner_sequence (k + 1))) (sequence k)
      (AtMost 1) as_sequence
  sequence_pairs = record { sound = sequence_sound; only = sequence_only }

  pub in_sequence : {ts : List Lexeme} → k ≤ 200 →
      Makes (sequence k) (AtMost 1) ts (inner_sequence k) (AtMost 1) ts (λ q. q)
  in_sequence h = is_inside strategy_part k (sequence k) h

  pub after_semicolon : {a : StepTree} {ts rest : List Lexeme} → k ≤ 200 →
      Found (step k) (AtMost 2) ts a (mark M.Semicolon ∷ rest) →
      Makes (inner_sequence (k + 1)) (AtMost 1) rest (inner_sequence k) (AtMost 1) ts (then a)
  after_semicolon {rest = rest} l f = makes_on (makes_on
      (is_option {Stops = AtMost 1} (λ is h. h) (λ is h r. omega (arith, binds_less is (mark M.Semicolon) rest r, h)))
      (after_first sequence_pairs f)) (in_sequence l)

-- ---- steps: a primary and, after a =>, a pattern

abbrev pub as_step : PrimaryTree → Option PatternTree → StepTree
as_step a None = plain_step a
as_step a (Some p) = matching a p

module _ (k : ℕ) where
  step_sound : (way : Way) (a : PrimaryTree) (o : Option PatternTree) (is : List Item) (ts : List Lexeme) →
      Runs way (primary k a (optional (mark M.DoubleArrow) (inner_pattern true (k + 1)) o is)) ts →
      Runs way (step k (as_step a o) is) ts
  step_sound way a None is ts r = r
  step_sound way a (Some p) is ts r = r

  step_only : (u : StepTree) (is : List Item) (ts : List Lexeme) → AtMost 2 is → Runs either (step k u is) ts →
      Parts (primary k) (AtMost 3) (optional (mark M.DoubleArrow) (inner_pattern true (k + 1))) as_step u is ts
  step_only (plain_step a) is ts h r =
      record { one = a; other = None; are = refl; ends = omega (arith, h); runs = r }
  step_only (matching a p) is ts h r =
      record { one = a; other = Some p; are = refl; ends = omega arith; runs = r }

  pub step_pairs : Pairs (primary k) (AtMost 3) (optional (mark M.DoubleArrow) (inner_pattern true (k + 1))) (step k)
      (AtMost 2) as_step
  step_pairs = record { sound = step_sound; only = step_only }

  pub after_double_arrow : {a : PrimaryTree} {ts rest : List Lexeme} →
      Found (primary k) (AtMost 3) ts a (mark M.DoubleArrow ∷ rest) →
      Makes (inner_pattern true (k + 1)) (AtMost 3) rest (step k) (AtMost 2) ts (matching a)
  after_double_arrow {rest = rest} f = makes_on
      (is_option {Ends = AtMost 3} {Stops = AtMost 2} (λ is h. omega (arith, h))
      (λ is h r. omega (arith, binds_less is (mark M.DoubleArrow) rest r, h)))
      (after_first step_pairs f)
