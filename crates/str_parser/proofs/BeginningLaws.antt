-- What tokens begin with along which a strategy runs.
use Rattle.std.proofs.Common.{◌≡◌, inl, inr, ℕ, true, List, [], ◌∷◌}
use Rattle.str_syntax.specs.Trees.{StrategyTree, plain_sequence, left_choice, guarded_choice, SequenceTree, last, then, StepTree, plain_step, matching, PrimaryTree}
use Rattle.str_parser.specs.Lexemes.{Lexeme, strategy_part, first_begins}
use Rattle.str_parser.specs.Items.{Item, either, Runs}
use Rattle.str_parser.specs.Phrases.{strategy, sequence, step, primary}
use Rattle.str_parser.specs.Parts.{inner_strategy}
use Rattle.str_parser.proofs.PrimaryLeads.{primary_led, none_led, led_begins}

primary_begins : (k : ℕ) (u : PrimaryTree) (is : List Item) (ts : List Lexeme) → Runs either (primary k u is) ts →
    first_begins strategy_part ts ≡ true
primary_begins k u is [] r = absurd (none_led either k u is r)
primary_begins k u is (t ∷ ts) r = led_begins (primary_led either k u is t ts r)

step_begins : (k : ℕ) (u : StepTree) (is : List Item) (ts : List Lexeme) → Runs either (step k u is) ts →
    first_begins strategy_part ts ≡ true
step_begins k (plain_step a) is ts r = primary_begins k a _ ts r
step_begins k (matching a p) is ts r = primary_begins k a _ ts r

pub sequence_begins : (k : ℕ) (u : SequenceTree) (is : List Item) (ts : List Lexeme) →
    Runs either (sequence k u is) ts → first_begins strategy_part ts ≡ true
sequence_begins k (last a) is ts r = step_begins k a _ ts r
sequence_begins k (then a q) is ts r = step_begins k a _ ts r

pub strategy_begins : (k : ℕ) (u : StrategyTree) (is : List Item) (ts : List Lexeme) →
    Runs either (strategy k u is) ts → first_begins strategy_part ts ≡ true
strategy_begins k (plain_sequence q) is ts r = sequence_begins k q _ ts r
strategy_begins k (left_choice q s) is ts r = sequence_begins k q _ ts r
strategy_begins k (guarded_choice q s t) is ts r = sequence_begins k q _ ts r

-- so does a strategy that is a part
pub inner_strategy_begins : (k : ℕ) (s : StrategyTree) (is : List Item) (ts : List Lexeme) →
    Runs either (inner_strategy k s is) ts → first_begins strategy_part ts ≡ true
inner_strategy_begins k s is ts (inl b) = b.1
inner_strategy_begins k s is ts (inr r) = strategy_begins k s is ts r
