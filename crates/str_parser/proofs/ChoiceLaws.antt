-- Reading strategies: one law for each way that it can go.
use Rattle.std.proofs.Common.{◌≡◌, inl, ℕ, ◌+◌, ◌<◌, true, false, List, ◌∷◌, refl, ◌∙◌, ap, arith}
use Rattle.str_lexer.specs.declared.token.Mark.TheVariants as M
use Rattle.str_syntax.specs.Trees.{StrategyTree, plain_sequence, left_choice, guarded_choice, SequenceTree, last, plain_step, identity}
use Rattle.str_parser.specs.Lexemes.{Lexeme, mark, strategy_part, first_begins}
use Rattle.str_parser.specs.Items.{Item, too_deep, either, Runs}
use Rattle.str_parser.specs.Phrases.{sign}
use Rattle.str_parser.specs.Readings.{NotAt, lexeme_strength, AtMost, Found, Missing, Nested}
use Rattle.str_parser.specs.Parts.{inner_strategy, inner_sequence}
use Rattle.str_parser.proofs.PartLaws.{binds_less, not_at_runs}
use Rattle.str_parser.proofs.BeginningLaws.{inner_strategy_begins}

-- ---- at level 201

pub strategy_nested : (k : ℕ) (ts : List Lexeme) → k ≡ 201 → first_begins strategy_part ts ≡ true →
    Nested (inner_strategy k) ts
strategy_nested k ts h b = record { tree = plain_sequence (last (plain_step identity)); runs = λ is. inl (h, b) }

pub strategy_beyond : (k : ℕ) (ts : List Lexeme) → first_begins strategy_part ts ≡ false →
    Missing (inner_strategy k) (AtMost 0) ts
strategy_beyond k ts b = record { none = λ u is h r. let e = inner_strategy_begins k u is ts r in cc }

-- ---- the sequence on the left

-- what comes after that sequence in a choice
abbrev choice : ℕ → StrategyTree → List Item → List Item
choice k s is = sign M.LeftChoice ∷ inner_strategy (k + 1) s is

abbrev second : ℕ → StrategyTree → List Item → List Item
second k t is = sign M.Plus ∷ inner_strategy (k + 1) t is

abbrev branches : ℕ → StrategyTree → StrategyTree → List Item → List Item
branches k s t is = sign M.Less ∷ inner_strategy (k + 1) s (second k t is)

module _ (k : ℕ) (ts : List Lexeme) where
  pub missing_sequence : Missing (inner_sequence k) (AtMost 1) ts → Missing (inner_strategy k) (AtMost 0) ts
  missing_sequence n = record { none = none }
    where
      none : (u : StrategyTree) (is : List Item) → AtMost 0 is → Runs either (inner_strategy k u is) ts → ⊥
      none (plain_sequence q) is h r = n.none q is (omega (arith, h)) r
      none (left_choice q s) is h r = n.none q (choice k s is) (omega arith) r
      none (guarded_choice q s t) is h r = n.none q (branches k s t is) (omega arith) r

  pub nested_sequence : Nested (inner_sequence k) ts → Nested (inner_strategy k) ts
  nested_sequence n = record { tree = plain_sequence n.tree; runs = n.runs }

-- what stands in front of items that stop a strategy is no operator
no_operator : (is : List Item) (t : Lexeme) (ts : List Lexeme) → AtMost 0 is → 0 < lexeme_strength t →
    Runs either is (t ∷ ts) → ⊥
no_operator is t ts h p r = omega (arith, binds_less is t ts r, h, p)

-- ---- no operator after it

pub found_plain : (k : ℕ) (ts rest : List Lexeme) (q : SequenceTree) → Found (inner_sequence k) (AtMost 1) ts q rest →
    NotAt (mark M.LeftChoice) rest → NotAt (mark M.Less) rest →
    Found (inner_strategy k) (AtMost 0) ts (plain_sequence q) rest
found_plain k ts rest q f c l = record { sound = f.sound; only_one = only; shorter = f.shorter }
  where
    only : (u : StrategyTree) (is : List Item) → AtMost 0 is → Runs either (inner_strategy k u is) ts →
        (u ≡ plain_sequence q) × Runs either is rest
    only (plain_sequence p) is h r =
        let e = f.only_one p is (omega (arith, h)) r in
        (ap plain_sequence e.0, e.1)
    only (left_choice p s) is h r =
        absurd (not_at_runs _ (inner_strategy (k + 1) s is) rest c (f.only_one p (choice k s is) (omega arith) r).1)
    only (guarded_choice p s t) is h r =
        absurd (not_at_runs _ (inner_strategy (k + 1) s (second k t is)) rest l
        (f.only_one p (branches k s t is) (omega arith) r).1)

-- ---- <+ after it

-- a strategy that runs along the tokens is a left choice with this sequence, and goes on with the strategy on its right
record ToRight (k : ℕ) (following : List Lexeme) (q : SequenceTree) (u : StrategyTree) (is : List Item) : Type 0 where
  right : StrategyTree
  is_choice : u ≡ left_choice q right
  runs : Runs either (inner_strategy (k + 1) right is) following

module _ (k : ℕ) (ts following : List Lexeme) (q : SequenceTree)
    (f : Found (inner_sequence k) (AtMost 1) ts q (mark M.LeftChoice ∷ following)) where
  to_right : (u : StrategyTree) (is : List Item) → AtMost 0 is → Runs either (inner_strategy k u is) ts →
      ToRight k following q u is
  to_right (plain_sequence p) is h r =
      absurd (no_operator is _ following h (omega arith) (f.only_one p is (omega (arith, h)) r).1)
  to_right (left_choice p s) is h r =
      let e = f.only_one p (choice k s is) (omega arith) r in
      record { right = s; is_choice = ap (λ x. left_choice x s) e.0; runs = e.1.1 }
  to_right (guarded_choice p s t) is h r =
      let e = f.only_one p (branches k s t is) (omega arith) r in let m = e.1.0 in cc

  pub missing_right : Missing (inner_strategy (k + 1)) (AtMost 0) following → Missing (inner_strategy k) (AtMost 0) ts
  missing_right n = record { none = λ u is h r. let t = to_right u is h r in n.none t.right is h t.runs }

  pub nested_right : Nested (inner_strategy (k + 1)) following → Nested (inner_strategy k) ts
  nested_right n = record {
    tree = left_choice q n.tree;
    runs = λ is. f.sound too_deep (choice k n.tree is) (refl, n.runs is);
  }

  pub found_choice : (rest : List Lexeme) (s : StrategyTree) →
      Found (inner_strategy (k + 1)) (AtMost 0) following s rest →
      Found (inner_strategy k) (AtMost 0) ts (left_choice q s) rest
  found_choice rest s g = record {
    sound = λ way is r. f.sound way (choice k s is) (refl, g.sound way is r);
    only_one = λ u is h r.
        let t = to_right u is h r in
        let e = g.only_one t.right is h t.runs in
        (t.is_choice ∙ ap (left_choice q) e.0, e.1);
    shorter = omega (arith, f.shorter, g.shorter);
  }

-- ---- < after it

-- a strategy that runs along the tokens is a guarded choice with this sequence, and goes on with the two strategies on
-- its right
record ToBranches (k : ℕ) (following : List Lexeme) (q : SequenceTree) (u : StrategyTree)
    (is : List Item) : Type 0 where
  first : StrategyTree
  other : StrategyTree
  is_choice : u ≡ guarded_choice q first other
  runs : Runs either (inner_strategy (k + 1) first (second k other is)) following

module _ (k : ℕ) (ts following : List Lexeme) (q : SequenceTree)
    (f : Found (inner_sequence k) (AtMost 1) ts q (mark M.Less ∷ following)) where
  to_branches : (u : StrategyTree) (is : List Item) → AtMost 0 is → Runs either (inner_strategy k u is) ts →
      ToBranches k following q u is
  to_branches (plain_sequence p) is h r =
      absurd (no_operator is _ following h (omega arith) (f.only_one p is (omega (arith, h)) r).1)
  to_branches (left_choice p s) is h r =
      let e = f.only_one p (choice k s is) (omega arith) r in let m = e.1.0 in cc
  to_branches (guarded_choice p s t) is h r =
      let e = f.only_one p (branches k s t is) (omega arith) r in
      record { first = s; other = t; is_choice = ap (λ x. guarded_choice x s t) e.0; runs = e.1.1 }

  pub missing_first : Missing (inner_strategy (k + 1)) (AtMost 0) following → Missing (inner_strategy k) (AtMost 0) ts
  missing_first n = record {
    none = λ u is h r.
        let t = to_branches u is h r in n.none t.first (second k t.other is) (omega arith) t.runs;
  }

  pub nested_first : Nested (inner_strategy (k + 1)) following → Nested (inner_strategy k) ts
  nested_first n = record {
    tree = guarded_choice q n.tree n.tree;
    runs = λ is. f.sound too_deep (branches k n.tree n.tree is) (refl, n.runs (second k n.tree is));
  }

  module _ (rest : List Lexeme) (s : StrategyTree)
      (g : Found (inner_strategy (k + 1)) (AtMost 0) following s rest) where
    -- what comes after the first of the two
    behind : (u : StrategyTree) (is : List Item) (h : AtMost 0 is) (r : Runs either (inner_strategy k u is) ts) →
        let b = to_branches u is h r in (b.first ≡ s) × Runs either (second k b.other is) rest
    behind u is h r =
        let b = to_branches u is h r in g.only_one b.first (second k b.other is) (omega arith) b.runs

    pub missing_plus : NotAt (mark M.Plus) rest → Missing (inner_strategy k) (AtMost 0) ts
    missing_plus n = record {
      none = λ u is h r. let b = to_branches u is h r in
          not_at_runs _ (inner_strategy (k + 1) b.other is) rest n (behind u is h r).1;
    }

  module _ (after : List Lexeme) (s : StrategyTree)
      (g : Found (inner_strategy (k + 1)) (AtMost 0) following s (mark M.Plus ∷ after)) where
    pub missing_second : Missing (inner_strategy (k + 1)) (AtMost 0) after → Missing (inner_strategy k) (AtMost 0) ts
    missing_second n = record {
      none = λ u is h r. let b = to_branches u is h r in
          n.none b.other is h (behind (mark M.Plus ∷ after) s g u is h r).1.1;
    }

    pub nested_second : Nested (inner_strategy (k + 1)) after → Nested (inner_strategy k) ts
    nested_second n = record {
      tree = guarded_choice q s n.tree;
      runs = λ is. f.sound too_deep (branches k s n.tree is)
          (refl, g.sound too_deep (second k n.tree is) (refl, n.runs is));
    }

    pub found_guarded : (rest : List Lexeme) (t : StrategyTree) →
        Found (inner_strategy (k + 1)) (AtMost 0) after t rest →
        Found (inner_strategy k) (AtMost 0) ts (guarded_choice q s t) rest
    found_guarded rest t j = record {
      sound = λ way is r. f.sound way (branches k s t is)
          (refl, g.sound way (second k t is) (refl, j.sound way is r));
      only_one = λ u is h r.
          let b = to_branches u is h r in
          let e = behind (mark M.Plus ∷ after) s g u is h r in
          let d = j.only_one b.other is h e.1.1 in
          (b.is_choice ∙ ap (λ x. guarded_choice q x b.other) e.0 ∙ ap (guarded_choice q s) d.0, d.1);
      shorter = omega (arith, f.shorter, g.shorter, j.shorter);
    }
