-- What an account of a run over references says of the program over names that the code stands for.
use Rattle.std.proofs.Common.{◌≡◌, ℕ, ◌+◌, ◌<◌, List, length, refl, ◌∙◌, subst, arith, Contains}
use Rattle.std.specs.Prelude.{sum}
use Rattle.term_model.specs.Flat.{Meaning}
use Rattle.term_model.specs.PrimNames.{NameKey}
use Rattle.term_model.specs.NameSet.{key_at}
use Rattle.term_model.specs.Space.{Space, Stands}
use Rattle.term_model.specs.Term.{Tree}
use Rattle.core_lang.specs.declared.run.Outcome.{Outcome}
use Rattle.core_lang.specs.declared.run.Outcome.TheVariants as outcomes
use Rattle.core_lang.specs.Named.{Name}
use Rattle.core_lang.specs.Primitives.{AreOccurring}
use Rattle.core_lang.specs.Program.{Definitions}
use Rattle.core_lang.specs.Resolution.{ResolvesProgram}
use Rattle.core_lang.specs.Resolved.{ResolvedDefinitions}
use Rattle.core_lang.specs.Run.{IsOutcome}
use Rattle.prim_registry.specs.Registered.{registered}
use Rattle.strat_code.specs.Code.{Code}
use Rattle.strat_code.specs.StandsFor.{StandsFor}
use Rattle.strat_steps.specs.Outcomes.{outcome_tree}
use Rattle.strat_machine.specs.Accounts.{outcome_ending, AreRules, IsAccount, IsEnding, IsAccountOfRun}
use Rattle.strat_machine.specs.Running.{HasReached, rules_of}
use Rattle.strat_machine.specs.declared.explaining.Account.{Account}
use Rattle.strat_machine.specs.declared.stacks.Next.{Next}
use Rattle.strat_machine.specs.declared.stacks.Next.TheVariants as nexts
use Rattle.strat_machine.specs.declared.stacks.Position.{Position}
use Rattle.strat_machine.specs.declared.stacks.Stacks.{Stacks}
use Rattle.strat_machine.proofs.OutcomeLaws.{registered_says}

-- a run that has ended is the one that the account is of
pub account_made : {W R Y N : Type 0} {S : Space W R Y N} {code : Code} {M : Meaning} {w w1 : W} {t : R} {budget : ℕ}
    (next : Next) (p : Position R) (m : Stacks R Y) (account : Account) →
    HasReached S code M w t budget w1 next p m → IsEnding next account.ending →
    sum account.rules.items + m.left ≡ budget → IsAccountOfRun S code M w t budget w1 account
account_made nexts.Rewritten p m account r ends paid = record {
  outcome = outcomes.Rewritten p.term;
  left = m.left;
  taken = r.taken;
  steps = r.way.steps;
  ending = ends;
  charged = paid;
}
account_made nexts.Failed p m account r ends paid = record {
  outcome = outcomes.Failed;
  left = m.left;
  taken = r.taken;
  steps = r.way.steps;
  ending = ends;
  charged = paid;
}
account_made nexts.Oversize p m account r ends paid = record {
  outcome = outcomes.Oversize;
  left = m.left;
  taken = r.taken;
  steps = r.way.steps;
  ending = ends;
  charged = paid;
}
account_made nexts.Spent p m account r ends paid = record {
  outcome = outcomes.Spent;
  left = m.left;
  taken = r.taken;
  steps = r.way.steps;
  ending = ends;
  charged = paid;
}
account_made _ p m account r ends paid = absurd ends

-- the same of trees
ending_tree : {R : Type 0} (f : R → Tree) (o : Outcome R) → outcome_ending o ≡ outcome_ending (outcome_tree f o)
ending_tree f (outcomes.Rewritten r) = refl
ending_tree f outcomes.Failed = refl
ending_tree f outcomes.Oversize = refl
ending_tree f outcomes.Spent = refl

rules_tree : {R : Type 0} (f : R → Tree) (o : Outcome R) (budget left charged : ℕ) → charged + left ≡ budget →
    AreRules (outcome_tree f o) (rules_of o budget left) charged
rules_tree f (outcomes.Rewritten r) budget left charged h = omega arith
rules_tree f outcomes.Failed budget left charged h = omega arith
rules_tree f outcomes.Oversize budget left charged h = omega arith
rules_tree f outcomes.Spent budget left charged h = omega arith

-- the primitives of the program are registered
pub account_says : (keys names : List NameKey) (M : Meaning)
    {P : Definitions Name (List Name)} {main : Name} {C : ResolvedDefinitions} {i : ℕ} → AreOccurring names C →
    ((j : ℕ) → j < length names → Contains keys (key_at names j)) → ResolvesProgram P main C i →
    {W R Y N : Type 0} {S : Space W R Y N} {code : Code} → StandsFor code C i →
    {w w1 : W} {t : R} {u : Tree} {budget : ℕ} (account : Account) → Stands S w t → S.term_of w t ≡ u →
    IsAccountOfRun S code (registered keys M) w t budget w1 account → IsAccount M P main u budget account
account_says keys names M {P} {main} occurring each resolved {S = S} stands {w1 = w1} {budget = budget} account
    st same a =
    let f = S.term_of w1 in record {
      outcome = outcome_tree f a.outcome;
      nodes = rules_of a.outcome budget a.left;
      is = subst (λ v. IsOutcome M P main v budget (outcome_tree f a.outcome) (rules_of a.outcome budget a.left)) same
          (registered_says keys names M occurring each resolved stands a.left st a.outcome a.steps);
      ending = a.ending ∙ ending_tree f a.outcome;
      rules = rules_tree f a.outcome budget a.left (sum account.rules.items) a.charged;
    }
