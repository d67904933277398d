-- The headline does not rest on this file.
-- What is known of a strategy within a budget of nodes.
use Rattle.std.specs.Prelude.{◌≡◌, ℕ, ◌+◌, ◌<◌, Bool}
use Rattle.term_model.specs.Term.{Tree, Trees}
use Rattle.core_lang.specs.Program.{Strategy}
use Rattle.core_lang.specs.Environment.{Environment, Bindings, Reading}
use Rattle.term_model.specs.Flat.{Meaning}
use Rattle.core_lang.specs.Ending.{Ending, in_front}
use Rattle.core_lang.specs.Derivation.{Derives, DerivesAll, DerivesOne, DerivesSome}

-- an ending within the budget, or none
pub data Verdict (A : Type 0) : Type 0 where
  ends : Ending A → Verdict A
  spent : Verdict A

-- from the budget b: it ends so and leaves the budget c, or no derivation has at most b nodes
pub data Settled {X B : Type 0} (R : Reading X B) (M : Meaning) (V : Environment X B) (s : Strategy X B) (t : Tree)
    (e : Bindings) (b : ℕ) : Verdict Tree → ℕ → Type 0 where
  settled : {o : Ending Tree} {n c : ℕ} → Derives R M V s t e o n → b ≡ n + c → Settled R M V s t e b (ends o) c
  unsettled : {c : ℕ} → ((o : Ending Tree) (n : ℕ) → Derives R M V s t e o n → b < n) → Settled R M V s t e b spent c

-- the same over several terms in a row
pub data AllSettled {X B : Type 0} (R : Reading X B) (M : Meaning) (V : Environment X B) (s : Strategy X B) (ts : Trees)
    (e : Bindings) (b : ℕ) : Verdict Trees → ℕ → Type 0 where
  all_settled : {r : Ending Trees} {n c : ℕ} → DerivesAll R M V s ts e r n → b ≡ n + c →
      AllSettled R M V s ts e b (ends r) c
  all_unsettled : {c : ℕ} → ((r : Ending Trees) (n : ℕ) → DerivesAll R M V s ts e r n → b < n) →
      AllSettled R M V s ts e b spent c

pub data OneSettled {X B : Type 0} (R : Reading X B) (M : Meaning) (V : Environment X B) (s : Strategy X B) (ts : Trees)
    (e : Bindings) (b : ℕ) : Verdict Trees → ℕ → Type 0 where
  one_settled : {r : Ending Trees} {n c : ℕ} → DerivesOne R M V s ts e r n → b ≡ n + c →
      OneSettled R M V s ts e b (ends r) c
  one_unsettled : {c : ℕ} → ((r : Ending Trees) (n : ℕ) → DerivesOne R M V s ts e r n → b < n) →
      OneSettled R M V s ts e b spent c

pub data SomeSettled {X B : Type 0} (R : Reading X B) (M : Meaning) (V : Environment X B) (s : Strategy X B)
    (ts : Trees) (e : Bindings) (found : Bool) (b : ℕ) : Verdict Trees → ℕ → Type 0 where
  some_settled : {r : Ending Trees} {n c : ℕ} → DerivesSome R M V s ts e found r n → b ≡ n + c →
      SomeSettled R M V s ts e found b (ends r) c
  some_unsettled : {c : ℕ} → ((r : Ending Trees) (n : ℕ) → DerivesSome R M V s ts e found r n → b < n) →
      SomeSettled R M V s ts e found b spent c

-- one more term that is done, in front
abbrev pub verdict_in_front : Tree → Verdict Trees → Verdict Trees
verdict_in_front u (ends r) = ends (in_front u r)
verdict_in_front u spent = spent
