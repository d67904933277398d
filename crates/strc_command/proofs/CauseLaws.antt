-- Why a run stopped, by the devices' failed calls, and what is reported of it.
use Rattle.std.proofs.Common.{◌≡◌, ◌+◌, ℕ, Bool, List, [], Option, Result, true, is_err, arith, inl, refl, subst, sym}
use Rattle.std.proofs.lemmas.List.{append-nil}
use Rattle.std.specs.Prelude.{Err, if◌then◌else◌}
use Rattle.str_pipeline.specs.Device.{Gains, GainsPrefix, Reader, Writer}
use Rattle.str_pipeline.specs.Setting.{Setting}
use Rattle.str_pipeline.specs.declared.status.Options.{Options}
use Rattle.term_model.specs.declared.fault.Fault.{Fault}
use Rattle.term_model.specs.declared.fault.Fault.TheVariants.{Memory, Read, Write, DefsTooLong, Lexical, ReservedWord, Syntax, Nesting, DuplicateDeclaration, Undeclared, Parameters, Clash, UnknownStrategy, NotBuildable, UnknownPrimitive, NoMain, TermTooLong, TermSyntax, TermOversize, TermUndeclared}
use Rattle.str_pipeline.specs.declared.status.Status.{Status}
use Rattle.str_pipeline.specs.Faults.{IsReadingFault, IsTransferFault, is_read_fault, is_write_fault}
use Rattle.strc_command.specs.Asked.{Asked}
use Rattle.strc_command.specs.Runs.{IsDone, RunsJoined, RunsPlain, Stops, Told, change, reads_of}
use Rattle.strc_command.specs.Report.{diagnostic, AreSome, Failures, IsCause, Tells, TellsMore, TellsFault, TellsStop}

-- the fault that ends a transformation follows from the failed reads and writes in it
pub cause : (fault : Fault) (r s v w : ℕ) → IsTransferFault fault
    → s ≡ r + (if is_read_fault {A = Status} (Err fault) then 1 else 0) →
    w ≡ v + (if is_write_fault {A = Status} (Err fault) then 1 else 0)
    → IsCause (record { before = r; after = s }) (record { before = v; after = w }) fault
cause Memory r s v w kinds read wrote = (omega arith, omega arith)
cause Read r s v w kinds read wrote = (omega arith, omega arith)
cause Write r s v w kinds read wrote = (omega arith, omega arith)
cause DefsTooLong r s v w kinds read wrote = absurd (omega arith)
cause (Lexical at) r s v w kinds read wrote = absurd (omega arith)
cause (ReservedWord at) r s v w kinds read wrote = absurd (omega arith)
cause (Syntax at) r s v w kinds read wrote = absurd (omega arith)
cause (Nesting at) r s v w kinds read wrote = absurd (omega arith)
cause DuplicateDeclaration r s v w kinds read wrote = absurd (omega arith)
cause Undeclared r s v w kinds read wrote = absurd (omega arith)
cause Parameters r s v w kinds read wrote = absurd (omega arith)
cause Clash r s v w kinds read wrote = absurd (omega arith)
cause UnknownStrategy r s v w kinds read wrote = absurd (omega arith)
cause NotBuildable r s v w kinds read wrote = absurd (omega arith)
cause UnknownPrimitive r s v w kinds read wrote = absurd (omega arith)
cause NoMain r s v w kinds read wrote = absurd (omega arith)
cause TermTooLong r s v w kinds read wrote = absurd (omega arith)
cause (TermSyntax at) r s v w kinds read wrote = absurd (omega arith)
cause (TermOversize at) r s v w kinds read wrote = absurd (omega arith)
cause TermUndeclared r s v w kinds read wrote = absurd (omega arith)

-- such a fault is one of memory, of reading or of writing
pub of_transfer : (reads writes : Failures) (fault : Fault) → IsCause reads writes fault → IsTransferFault fault
of_transfer reads writes Memory why = (omega arith, omega arith)
of_transfer reads writes Read why = (omega arith, omega arith)
of_transfer reads writes Write why = (omega arith, omega arith)
of_transfer reads writes _ why = absurd why

-- and so is one of opening a file
pub of_reading : (fault : Fault) → IsReadingFault fault → IsTransferFault fault
of_reading fault reading = (omega arith, omega arith)

-- a fault of writing counts as a failed write
write_counts : (fault : Fault) (v w : ℕ) → w ≡ v + (if is_write_fault {A = Status} (Err fault) then 1 else 0) →
    fault ≡ Write
    → AreSome (record { before = v; after = w })
write_counts fault v w wrote is =
    let one : w ≡ v + 1 = subst (λ f. w ≡ v + (if is_write_fault {A = Status} (Err f) then 1 else 0)) is wrote in
    omega arith

-- what is reported of the fault that ends a transformation
pub stopped : {closed : Bool} (fault : Fault) (v w before after : ℕ) (old new : Option (List ℕ))
    → w ≡ v + (if is_write_fault {A = Status} (Err fault) then 1 else 0)
    → ((writes : Failures) → (fault ≡ Write → AreSome writes) →
    TellsStop closed writes fault before after old new)
    → TellsStop closed (record { before = v; after = w }) fault before after old new
stopped fault v w before after old new wrote told =
    told (record { before = v; after = w }) (write_counts fault v w wrote)

-- what is reported of a whole text that could not be written
pub writing_stopped : {A : Type 0} {closed : Bool} (r : Result A Fault) (v w before after : ℕ)
    (old new : Option (List ℕ)) →
    is_err r ≡ true
    → w ≡ v + (if is_err r then 1 else 0) →
    ((writes : Failures) → AreSome writes → TellsStop closed writes Write before after old new)
    → TellsStop closed (record { before = v; after = w }) Write before after old new
writing_stopped r v w before after old new bad wrote told =
    let one : w ≡ v + 1 = subst (λ b. w ≡ v + (if b then 1 else 0)) bad wrote in
    told (record { before = v; after = w }) (omega arith)

-- a line alone is one after which nothing more is reported
pub alone : (fault : Fault) (before after : ℕ) (old new : Option (List ℕ)) → Tells fault before after old new →
    TellsMore fault before after old new
alone fault before after old new told = record {
  more = [];
  unasked = λ no. refl;
  told = record {
    beginning = subst (λ line. GainsPrefix old new line) (sym (append-nil (diagnostic fault))) told.beginning;
    whole = λ same. subst (λ line. Gains old new line) (sym (append-nil (diagnostic fault))) (told.whole same);
  };
}

pub alone_told : (fault : Fault) (before after : ℕ) (old new : Option (List ℕ)) → Tells fault before after old new →
    TellsFault fault before after old new
alone_told Memory before after old new told = told
alone_told fault before after old new told = alone fault before after old new told

-- what is reported of a fault in whose run no write to the output failed
pub fault_told : {closed : Bool} (writes : Failures) (fault : Fault) (before after : ℕ) (old new : Option (List ℕ)) →
    TellsFault fault before after old new
    → TellsStop closed writes fault before after old new
fault_told writes fault before after old new told = inl told

-- the same where the line stands alone
pub line_told : {closed : Bool} (writes : Failures) (fault : Fault) (before after : ℕ) (old new : Option (List ℕ)) →
    Tells fault before after old new
    → TellsStop closed writes fault before after old new
line_told writes fault before after old new told = inl (alone_told fault before after old new told)

-- if memory is refused before anything is written, the run stops and leaves the output as it was
pub memory_stops : {W E : Type 0} (writer : Writer W) (stream : Writer E) (out : W) (before after : E) (exit : ℕ) →
    (exit ≡ 4 → Told (change stream before after) (Tells Memory)) →
    Stops (change writer out out) (change stream before after) exit
memory_stops writer stream out before after exit told = record {
  stopped = λ four. (Memory, (omega arith, omega arith), line_told _ Memory _ _ _ _ (told four));
  unwritten = λ four same. refl;
  write_failed = λ more. absurd (omega arith);
}

-- what is asked for was not begun, since memory was refused
pub memory_done : {W E : Type 0} (asked : Asked) (text_at : List ℕ → Option (List ℕ)) (coming : Option (List ℕ))
    (setting : Options → Setting) (writer : Writer W) (stream : Writer E) (out : W) (before after : E) (exit : ℕ) →
    exit ≡ 4 → IsDone asked text_at coming setting (change writer out out) (change stream before after) exit
memory_done asked text_at coming setting writer stream out before after exit four = record {
  status = omega arith;
  ended = λ rewrites below. absurd (omega arith);
  judged = λ checks below. absurd (omega arith);
  unwritten = λ checks. refl;
}

-- the same of a run in the joined form, in which nothing was read
pub memory_joined : {I W E : Type 0} (asked : Asked) (coming : Option (List ℕ)) (reader : Reader I)
    (setting : Options → Setting) (writer : Writer W) (stream : Writer E) (input : I) (out : W) (before after : E)
    (exit : ℕ) → exit ≡ 4 → Told (change stream before after) (Tells Memory) →
    RunsJoined asked coming (reads_of reader input input) setting (change writer out out) (change stream before after)
    exit
memory_joined asked coming reader setting writer stream input out before after exit four told = record {
  ended = λ below. absurd (omega arith);
  stopped = λ is. (Memory, (refl, refl), line_told _ Memory _ _ _ _ told);
  begun = λ more. absurd (omega arith);
  read_failed = λ more. four;
}

pub memory_stops_plain : {I W E : Type 0} (coming : Option (List ℕ)) (reader : Reader I)
    (setting : Options → Setting) (writer : Writer W) (stream : Writer E) (input : I) (out : W) (before after : E)
    (exit : ℕ) → exit ≡ 4 → Told (change stream before after) (Tells Memory) →
    RunsPlain coming (reads_of reader input input) setting (change writer out out) (change stream before after) exit
memory_stops_plain coming reader setting writer stream input out before after exit four told = record {
  status = omega arith;
  ended = λ below. absurd (omega arith);
  stopped = λ is. (Memory, (refl, refl), line_told _ Memory _ _ _ _ told);
  begun = λ more. absurd (omega arith);
  read_failed = λ more. four;
}
