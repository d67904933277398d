-- Strategies: with commas between, and before a closing token.
use Rattle.std.proofs.Common.{◌≡◌, ℕ, false, List, [], ◌∷◌, refl, ap, arith}
use Rattle.str_lexer.specs.declared.token.Mark.{Mark}
use Rattle.str_lexer.specs.declared.token.Mark.TheVariants as M
use Rattle.str_lexer.specs.declared.token.Keyword.{Keyword}
use Rattle.str_syntax.specs.Trees.{StrategyTree, StrategyTrees, no_strategies, more_strategies}
use Rattle.str_syntax.specs.Views.{strategies_in}
use Rattle.str_parser.specs.Lexemes.{Lexeme, mark, begins_strategy}
use Rattle.str_parser.specs.Items.{Item, either, Runs}
use Rattle.str_parser.specs.Phrases.{sign, word, other_strategies}
use Rattle.str_parser.specs.Readings.{mark_strength, NotAt, AtMost}
use Rattle.str_parser.specs.Runs.{is_comma}
use Rattle.str_parser.specs.Parts.{inner_strategy, some_strategies, EndsStrategies}
use Rattle.str_parser.proofs.WayLaws.{not_along}
use Rattle.str_parser.proofs.PhraseLaws.{behind}
use Rattle.str_parser.proofs.RunLaws.{several, some, Row, Lists, Partly, At, token_goes_on}
use Rattle.str_parser.proofs.BeginningLaws.{inner_strategy_begins}

-- ---- before a closing token

pub mark_ends : (m : Mark) → mark_strength m ≡ 0 → (is : List Item) → AtMost 0 (sign m ∷ is)
mark_ends m e is = omega (arith, e)

pub keyword_ends : (w : Keyword) (is : List Item) → AtMost 0 (word w ∷ is)
keyword_ends w is = omega arith

-- no strategy begins with a token that begins none
pub no_strategy_at : (k : ℕ) (s : StrategyTree) (is : List Item) (t : Lexeme) (ts : List Lexeme) →
    begins_strategy t ≡ false → Runs either (inner_strategy k s is) (t ∷ ts) → ⊥
no_strategy_at k s is t ts e r = let b = inner_strategy_begins k s is (t ∷ ts) r in cc

-- ---- strategies as a list

listed : StrategyTrees → List StrategyTree
listed no_strategies = []
listed (more_strategies s ss) = s ∷ listed ss

in_listed : (ss : StrategyTrees) → ss ≡ strategies_in (listed ss)
unfolding listed
in_listed no_strategies = refl
in_listed (more_strategies s ss) = ap (more_strategies s) (in_listed ss)

-- ---- with commas between

comma_follows : (k : ℕ) (us : List StrategyTree) (is : List Item) → EndsStrategies is →
    AtMost 0 (several (behind (mark M.Comma) (inner_strategy k)) us is)
comma_follows k [] is h = h.0
comma_follows k (u ∷ us) is h = omega arith

pub strategies_row : (k : ℕ) → Row (behind (mark M.Comma) (inner_strategy k)) (AtMost 0) EndsStrategies
    (At (mark M.Comma)) (NotAt (mark M.Comma))
strategies_row k = record {
  follows = comma_follows k;
  goes_on = λ rest here is h r. token_goes_on is_comma (mark M.Comma) refl rest here is h.1 r;
  past = λ rest n u is r. not_along (mark M.Comma) (inner_strategy k u is) rest n r;
}

other_strategies_are : (k : ℕ) (ss : List StrategyTree) (is : List Item) →
    several (behind (mark M.Comma) (inner_strategy k)) ss is ≡ other_strategies k (strategies_in ss) is
other_strategies_are k [] is = refl
other_strategies_are k (s ∷ ss) is = ap (λ l. sign M.Comma ∷ inner_strategy k s l) (other_strategies_are k ss is)

some_strategies_are : (k : ℕ) (ss : List StrategyTree) (is : List Item) →
    some (inner_strategy k) (behind (mark M.Comma) (inner_strategy k)) ss is ≡ some_strategies k (strategies_in ss) is
some_strategies_are k [] is = refl
some_strategies_are k (s ∷ ss) is = ap (inner_strategy k s) (other_strategies_are k ss is)

pub strategy_lists : (k : ℕ) →
    Lists (some (inner_strategy k) (behind (mark M.Comma) (inner_strategy k))) (some_strategies k) strategies_in
strategy_lists k = record { from = listed; back = in_listed; written = some_strategies_are k }

abbrev pub PartlyStrategies : ℕ → List StrategyTree → List Lexeme → List Lexeme → Type 0
PartlyStrategies k =
    Partly (behind (mark M.Comma) (inner_strategy k)) EndsStrategies (some_strategies k) strategies_in 1

-- what ends the strategies of tuples, lists and calls
pub strategies_end : (m : Mark) → mark_strength m ≡ 0 → is_comma (mark m) ≡ false → (is : List Item) →
    EndsStrategies (sign m ∷ is)
strategies_end m e f is = (mark_ends m e is, λ t rest r. rw r.0 f)
