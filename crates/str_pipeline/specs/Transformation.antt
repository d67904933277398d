-- What a call of `transform` does.
use Rattle.std.specs.Prelude.{◌≡◌, ◌+◌, ◌≤◌, ℕ, List, Option, Result, IfOk, IfErr, IfSome, IsErrOf, if◌then◌else◌}
use Rattle.term_model.specs.declared.fault.Fault.{Fault}
use Rattle.term_model.specs.declared.fault.Fault.TheVariants.{Memory, Read, Write}
use Rattle.str_pipeline.specs.Device.{Reader, Writer}
use Rattle.str_pipeline.specs.Faults.{HoldsRefusal, IsTransferFault, RefusesDefinitions, is_read_fault, is_write_fault}
use Rattle.str_pipeline.specs.Judged.{AreRefused}
use Rattle.str_pipeline.specs.Limits.{max_definitions, max_term}
use Rattle.str_pipeline.specs.Setting.{Setting}
use Rattle.str_pipeline.specs.Written.{HasWritten, HasBegun}
use Rattle.str_pipeline.specs.declared.status.Status.{Status}

-- this holds of the bytes of two readers, the definitions and the text of a term, if both show them
abbrev pub OfTwo : Option (List ℕ) → Option (List ℕ) → (List ℕ → List ℕ → Type 0) → Type 0
OfTwo defs term holds = IfSome defs (λ d. IfSome term (λ t. holds d t))

-- what is written for the texts in a setting: the line of the answer, and a beginning of it if a write failed.
-- Definitions that are refused decide the line: it is the same whatever the text of the term is, also if that is not
-- shown
pub record Transforms {W : Type 0} (writer : Writer W) (S : Setting)
    (of_texts : (List ℕ → List ℕ → Type 0) → Type 0) (of_definitions : (List ℕ → Type 0) → Type 0)
    (old new : W) (result : Result Status Fault) : Type 0 where
  pub written : IfOk result
      (λ status. of_texts (λ d t. HasWritten d t S status (writer.written old) (writer.written new)))
  pub begun : IsErrOf result Write → of_texts (λ d t. HasBegun d t S (writer.written old) (writer.written new))
  pub refused : IfOk result (λ status. of_definitions (λ d. (fault : Fault) → AreRefused S d fault → (t : List ℕ) →
      HasWritten d t S status (writer.written old) (writer.written new)))

-- how a transformation ends: with a status, with a fault of memory or reading before anything is written, or of writing
pub record Ends {W : Type 0} (writer : Writer W) (old new : W) (result : Result Status Fault) : Type 0 where
  pub status : IfOk result HoldsRefusal
  pub kinds : IfErr result IsTransferFault
  pub untouched_memory : IsErrOf result Memory → new ≡ old
  pub untouched_read : IsErrOf result Read → new ≡ old
  pub write_failed : writer.failed_writes new ≡ writer.failed_writes old + (if is_write_fault result then 1 else 0)

-- what is read of two readers: the term only if the definitions are not refused
pub record ReadsTwo {D T : Type 0} (defs : Reader D) (term : Reader T) (S : Setting) (old new : D) (before after : T)
    (result : Result Status Fault) : Type 0 where
  pub read_failed : defs.failed_reads new + term.failed_reads after ≡
      defs.failed_reads old + term.failed_reads before + (if is_read_fault result then 1 else 0)
  pub unread : IfOk result (λ status. RefusesDefinitions status → after ≡ before)
  pub unread_told : IfSome (defs.coming old) (λ d. (fault : Fault) → AreRefused S d fault → after ≡ before)
  pub defs_bounded : defs.reads new ≤ defs.reads old + max_definitions + 1
  pub term_bounded : term.reads after ≤ term.reads before + max_term + 1
