-- The headline does not rest on this file.
-- What an account says of a run.
use Rattle.std.specs.Prelude.{◌≡◌, ℕ, ◌+◌, ◌<◌, ◌≤◌, List, length, sum}
use Rattle.term_model.specs.Flat.{Meaning}
use Rattle.term_model.specs.Space.{Space}
use Rattle.term_model.specs.Term.{Tree}
use Rattle.core_lang.specs.declared.run.Outcome.{Outcome}
use Rattle.core_lang.specs.declared.run.Outcome.TheVariants as outcomes
use Rattle.core_lang.specs.Named.{Name}
use Rattle.core_lang.specs.Program.{Definitions}
use Rattle.core_lang.specs.Run.{IsOutcome}
use Rattle.strat_code.specs.Code.{Code}
use Rattle.strat_steps.specs.Outcomes.{end_ref}
use Rattle.strat_steps.specs.ReferenceSteps.{StepsRef}
use Rattle.strat_steps.specs.Run.{start_ref}
use Rattle.strat_machine.specs.declared.explaining.Account.{Account}
use Rattle.strat_machine.specs.declared.explaining.Ending.{Ending}
use Rattle.strat_machine.specs.declared.explaining.Ending.TheVariants as endings
use Rattle.strat_machine.specs.declared.stacks.Next.{Next}
use Rattle.strat_machine.specs.declared.stacks.Next.TheVariants as nexts

-- how a run with an outcome ends
abbrev pub outcome_ending : {R : Type 0} → Outcome R → Ending
outcome_ending (outcomes.Rewritten t) = endings.Rewritten
outcome_ending outcomes.Failed = endings.Failed
outcome_ending outcomes.Oversize = endings.Oversize
outcome_ending outcomes.Spent = endings.Spent

-- the instructions were charged all nodes of a run with an outcome; where the budget is spent, no more than that
abbrev pub AreRules : {R : Type 0} → Outcome R → (nodes charged : ℕ) → Type 0
AreRules (outcomes.Rewritten t) n charged = charged ≡ n
AreRules outcomes.Failed n charged = charged ≡ n
AreRules outcomes.Oversize n charged = charged ≡ n
AreRules outcomes.Spent n charged = charged ≤ n

-- the account is of a run of the program: it has its ending, and the numbers of its rules
pub record IsAccount (M : Meaning) (P : Definitions Name (List Name)) (main : Name) (t : Tree) (budget : ℕ)
    (account : Account) : Type 0 where
  pub outcome : Outcome Tree
  pub nodes : ℕ
  pub is : IsOutcome M P main t budget outcome nodes
  pub ending : account.ending ≡ outcome_ending outcome
  pub rules : AreRules outcome nodes (sum account.rules.items)

-- there is a number of each kind for each of n instructions
pub record HasCounts (n : ℕ) (account : Account) : Type 0 where
  pub rules : length account.rules.items ≡ n
  pub reached : length account.reached.items ≡ n
  pub passed : length account.passed.items ≡ n
  pub unfinished : length account.unfinished.items ≡ n

-- a run that has ended ends so
abbrev pub IsEnding : Next → Ending → Type 0
IsEnding nexts.Rewritten e = e ≡ endings.Rewritten
IsEnding nexts.Failed e = e ≡ endings.Failed
IsEnding nexts.Oversize e = e ≡ endings.Oversize
IsEnding nexts.Spent e = e ≡ endings.Spent
IsEnding _ e = ⊥

-- the same of a run over references, with what is left of the budget
pub record IsAccountOfRun {W R Y N : Type 0} (S : Space W R Y N) (code : Code) (M : Meaning) (w : W) (t : R)
    (budget : ℕ) (w1 : W) (account : Account) : Type 0 where
  pub outcome : Outcome R
  pub left : ℕ
  pub taken : ℕ
  pub steps : StepsRef S code M taken w (start_ref t budget) w1 (end_ref outcome left)
  pub ending : account.ending ≡ outcome_ending outcome
  pub charged : sum account.rules.items + left ≡ budget

-- the number at a position, if there is one, goes up by n
pub record Charges (old : List ℕ) (i n : ℕ) (new : List ℕ) : Type 0 where
  pub long : length new ≡ length old
  pub least : sum old ≤ sum new
  pub most : sum new ≤ sum old + n
  pub all : i < length old → sum new ≡ sum old + n

-- of a budget, numbers were charged and so much is left: all of it, where each of n instructions has a number
pub record IsCharged (n budget many : ℕ) (numbers : List ℕ) (left : ℕ) : Type 0 where
  pub long : length numbers ≡ many
  pub most : sum numbers + left ≤ budget
  pub all : many ≡ n → sum numbers + left ≡ budget
