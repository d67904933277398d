-- What a whole run says of the space that it began with, into which the names of the code are brought first.
use Rattle.std.proofs.Common.{◌≡◌, ℕ, List, Vec, Global, ◌∙◌, sym, subst}
use Rattle.std.specs.Prelude.{IsTrue}
use Rattle.term_model.specs.Flat.{Meaning}
use Rattle.term_model.specs.PrimNames.{NameKey}
use Rattle.term_model.specs.Space.{Space, Keeps, KeepsNames, MakesNone}
use Rattle.term_model.specs.Term.{Tree}
use Rattle.term_model.proofs.SpaceLaws.{keeps_then, none_then}
use Rattle.core_lang.specs.declared.run.Outcome.{Outcome}
use Rattle.core_lang.specs.declared.run.Run.{Run}
use Rattle.core_lang.specs.Named.{Name}
use Rattle.core_lang.specs.Program.{Definitions}
use Rattle.core_lang.specs.Run.{IsOutcome}
use Rattle.strat_code.specs.Code.{Code}
use Rattle.strat_code.specs.declared.instr.Case.{Case}
use Rattle.strat_code.specs.declared.instr.Instr.{Instr}
use Rattle.strat_steps.specs.Outcomes.{Ran, end_ref}
use Rattle.strat_steps.specs.ReferenceSteps.{StepsRef}
use Rattle.strat_steps.specs.Run.{start_ref}
use Rattle.strat_machine.specs.Actions.{IsLoadedProgram}
use Rattle.strat_machine.specs.declared.program.LoadedProgram.{LoadedProgram}
use Rattle.strat_machine.proofs.ActionLaws.{program_later}

module _ {W R Y N : Type 0} {S : Space W R Y N} {w w1 w2 : W} (keeps : Keeps S w w1) where
  pub kept_then : ((r : R) → IsTrue (S.stands w1 r) → IsTrue (S.stands w2 r) × (S.term_of w2 r ≡ S.term_of w1 r)) →
      (r : R) → IsTrue (S.stands w r) → IsTrue (S.stands w2 r) × (S.term_of w2 r ≡ S.term_of w r)
  kept_then kept r st = let k = kept r (keeps.standing r st) in (k.0, k.1 ∙ keeps.terms r st)

  pub names_kept : KeepsNames S w1 w2 → KeepsNames S w w2
  names_kept names = record {
    known = λ n h. names.known n (keeps.known n h);
    symbols =
        λ n h. names.symbols n (keeps.known n h) ∙ keeps.symbols n h;
  }

  pub ran : MakesNone S w w1 → {code : Code} {M : Meaning} {t : R} {budget : ℕ} (left : ℕ) (run : Run R) →
      StepsRef S code M run.steps w1 (start_ref t budget) w2 (end_ref run.outcome left) → Ran S code M w t budget w2 run
  ran none left run x = record { loaded = w1; kept = keeps; none = none; left = left; steps = x }

  -- the same of a run whose code was loaded before it
  pub ran_loaded : MakesNone S w w1 → {code : Code} {M : Meaning} {t : R} {budget : ℕ} {run : Run R} →
      Ran S code M w1 t budget w2 run → Ran S code M w t budget w2 run
  ran_loaded none x = record {
    loaded = x.loaded;
    kept = keeps_then keeps x.kept;
    none = none_then none x.none;
    left = x.left;
    steps = x.steps;
  }

-- the same outcome of an equal term, with an equal number of rules
pub same_outcome : (M : Meaning) (P : Definitions Name (List Name)) (main : Name) (budget : ℕ) (o : Outcome Tree)
    {t t1 : Tree} {n n1 : ℕ} → t1 ≡ t → n ≡ n1 → IsOutcome M P main t1 budget o n1 → IsOutcome M P main t budget o n
same_outcome M P main budget o {t} {t1} {n} {n1} is rules x =
    subst (λ k. IsOutcome M P main t budget o k) (sym rules) (subst (λ u. IsOutcome M P main u budget o n1) is x)

-- two runs, one after the other, keep terms
pub kept_twice : {W R Y N : Type 0} (S : Space W R Y N) {w w1 w2 : W} →
    ((r : R) → IsTrue (S.stands w r) → IsTrue (S.stands w1 r) × (S.term_of w1 r ≡ S.term_of w r)) →
    ((r : R) → IsTrue (S.stands w1 r) → IsTrue (S.stands w2 r) × (S.term_of w2 r ≡ S.term_of w1 r)) →
    (r : R) → IsTrue (S.stands w r) → IsTrue (S.stands w2 r) × (S.term_of w2 r ≡ S.term_of w r)
kept_twice S first second r st = let k = first r st in let l = second r k.0 in (l.0, l.1 ∙ k.1)

-- a program that is loaded stays so
pub loaded_later : {W R Y N : Type 0} {S : Space W R Y N} {w w1 : W} {keys : List NameKey} {l : LoadedProgram N}
    {tables : List (Vec Case Global)} {instrs : List Instr} → KeepsNames S w w1 →
    IsLoadedProgram (S.knows w) (S.symbol_of w) keys S.number_of l tables instrs →
    IsLoadedProgram (S.knows w1) (S.symbol_of w1) keys S.number_of l tables instrs
loaded_later names h = program_later names.known names.symbols _ h
