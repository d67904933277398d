-- The headline does not rest on this file.
-- How a run of the program ends: below exit status 4 with an answer, and at 4 it stops for a fault.
use Rattle.std.specs.Prelude.{◌≡◌, ◌<◌, ◌≤◌, ℕ, List, Option, length, true, false}
use Rattle.term_model.specs.declared.fault.Fault.{Fault}
use Rattle.str_pipeline.specs.Device.{Gains, Reader, Writer}
use Rattle.str_pipeline.specs.Faults.{HoldsRefusal, IsTransferFault}
use Rattle.str_pipeline.specs.Setting.{Setting}
use Rattle.str_pipeline.specs.Verdict.{IsVerdict}
use Rattle.str_pipeline.specs.Joined.{OfJoined}
use Rattle.str_pipeline.specs.Written.{HasWritten, HasBegun}
use Rattle.str_pipeline.specs.declared.status.Options.{Options}
use Rattle.str_pipeline.specs.declared.status.Status.{Status}
use Rattle.strc_command.specs.Asked.{Asked, HasOptions, plain_asked, plain_output}
use Rattle.strc_command.specs.Files.{OfDefinitions, OfTexts}
use Rattle.strc_command.specs.Forms.{HasWrittenIn, HasBegunIn}
use Rattle.strc_command.specs.Report.{exit_of, exit_of_verdict, AreSome, Failures, IsCause, IsReported, TellsStop, TellsVerdict}
use Rattle.strc_command.specs.declared.request.OutputOptions.{OutputOptions}

-- a stream before and after a run
pub record Change (W : Type 0) : Type 0 where
  pub writer : Writer W
  pub before : W
  pub after : W

abbrev pub change : {W : Type 0} → Writer W → W → W → Change W
change writer before after = record { writer = writer; before = before; after = after }

-- the failed reads of a reader, before and after a run
abbrev pub reads_of : {I : Type 0} → Reader I → I → I → Failures
reads_of reader old new = record { before = reader.failed_reads old; after = reader.failed_reads new }

-- the failed writes of a stream
abbrev pub writes_of : {W : Type 0} → Change W → Failures
writes_of stream = record {
  before = stream.writer.failed_writes stream.before;
  after = stream.writer.failed_writes stream.after;
}

-- this is reported on a stream, by its failed writes and its bytes before and after the run
abbrev pub Told : {E : Type 0} → Change E → (ℕ → ℕ → Option (List ℕ) → Option (List ℕ) → Type 0) → Type 0
Told stream tells = tells (stream.writer.failed_writes stream.before) (stream.writer.failed_writes stream.after)
    (stream.writer.written stream.before) (stream.writer.written stream.after)

-- a relation of the bytes of a stream before and after the run
abbrev pub Gained : {W : Type 0} → Change W → (Option (List ℕ) → Option (List ℕ) → Type 0) → Type 0
Gained stream gains = gains (stream.writer.written stream.before) (stream.writer.written stream.after)

-- the run stopped for a fault of this kind, which is reported if it can be
abbrev pub IsStopped : {W E : Type 0} → Change W → Change E → (Fault → Type 0) → Type 0
IsStopped out diagnostics IsKind = (fault : Fault) × IsKind fault
    × Told diagnostics (TellsStop (out.writer.is_closed out.after) (writes_of out) fault)

-- an answer to the texts was written in the form that is asked for, and reported with what is asked for
abbrev pub IsAnswered : {W E : Type 0} → ((List ℕ → List ℕ → Type 0) → Type 0) → OutputOptions → Setting → Change W →
    Change E → ℕ → Type 0
IsAnswered of_texts output S out diagnostics exit =
    (status : Status) × (exit_of status ≡ exit) × HoldsRefusal status
    × of_texts (λ d t. Gained out (HasWrittenIn output.form d t S status))
    × Told diagnostics (IsReported output S.options.budget status)

-- whether a run stops: it leaves the output as it was unless a write failed, and a failed write stops it
pub record Stops {W E : Type 0} (out : Change W) (diagnostics : Change E) (exit : ℕ) : Type 0 where
  pub stopped : exit ≡ 4 → IsStopped out diagnostics IsTransferFault
  pub unwritten : exit ≡ 4 → out.writer.failed_writes out.after ≡ out.writer.failed_writes out.before →
      out.after ≡ out.before
  pub write_failed : out.writer.failed_writes out.before < out.writer.failed_writes out.after → exit ≡ 4

-- a run over texts from readers with these failed reads
pub record Runs {W E : Type 0} (of_texts : (List ℕ → List ℕ → Type 0) → Type 0) (reads : Failures)
    (output : OutputOptions) (S : Setting) (out : Change W) (diagnostics : Change E) (exit : ℕ) : Type 0 where
  pub ended : exit < 4 → IsAnswered of_texts output S out diagnostics exit
  pub stopped : exit ≡ 4 → IsStopped out diagnostics (IsCause reads (writes_of out))
  pub begun : AreSome (writes_of out) → of_texts (λ d t. Gained out (HasBegunIn output.form d t S))
  pub read_failed : AreSome reads → exit ≡ 4

-- a run over one reader in the joined form, with the plain options, in the setting that belongs to them
pub record RunsPlain {W E : Type 0} (coming : Option (List ℕ)) (reads : Failures) (setting : Options → Setting)
    (out : Change W) (diagnostics : Change E) (exit : ℕ) : Type 0 where
  pub status : exit ≤ 4
  pub ended : exit < 4 → (options : Options) × (status : Status) × HasOptions plain_asked options
      × (exit_of status ≡ exit) × HoldsRefusal status
      × OfJoined coming (λ d t. Gained out (HasWritten d t (setting options) status))
      × Told diagnostics (IsReported plain_output (setting options).options.budget status)
  pub stopped : exit ≡ 4 → IsStopped out diagnostics (IsCause reads (writes_of out))
  pub begun : AreSome (writes_of out) → (options : Options) × HasOptions plain_asked options
      × OfJoined coming (λ d t. Gained out (HasBegun d t (setting options)))
  pub read_failed : AreSome reads → exit ≡ 4

-- definitions were judged, and the verdict is reported
abbrev pub IsJudged : {E : Type 0} → ((List ℕ → Type 0) → Type 0) → Setting → Change E → ℕ → Type 0
IsJudged of_definitions S diagnostics exit = (verdict : Option Fault) × (exit_of_verdict verdict ≡ exit)
    × of_definitions (λ d. IsVerdict S d verdict) × Told diagnostics (TellsVerdict verdict)

-- what is asked for is done over files with these texts and this input: the term is rewritten, or the definitions are
-- judged and nothing is written
pub record IsDone {W E : Type 0} (asked : Asked) (text_at : List ℕ → Option (List ℕ)) (coming : Option (List ℕ))
    (setting : Options → Setting) (out : Change W) (diagnostics : Change E) (exit : ℕ) : Type 0 where
  pub status : exit ≤ 4
  pub ended : asked.checks ≡ false → exit < 4 → (options : Options) × HasOptions asked options
      × IsAnswered (OfTexts text_at coming asked.libraries asked.paths) asked.output (setting options) out diagnostics
      exit
  pub judged : asked.checks ≡ true → exit < 4 → (options : Options) × HasOptions asked options
      × IsJudged (OfDefinitions text_at coming asked.libraries asked.paths) (setting options) diagnostics exit
  pub unwritten : asked.checks ≡ true → out.after ≡ out.before

-- the same over one input in the joined form, of which the failed reads are known, too
pub record RunsJoined {W E : Type 0} (asked : Asked) (coming : Option (List ℕ)) (reads : Failures)
    (setting : Options → Setting) (out : Change W) (diagnostics : Change E) (exit : ℕ) : Type 0 where
  pub ended : exit < 4 → (options : Options) × HasOptions asked options
      × IsAnswered (OfJoined coming) asked.output (setting options) out diagnostics exit
  pub stopped : exit ≡ 4 → IsStopped out diagnostics (IsCause reads (writes_of out))
  pub begun : AreSome (writes_of out) → (options : Options) × HasOptions asked options
      × OfJoined coming (λ d t. Gained out (HasBegunIn asked.output.form d t (setting options)))
  pub read_failed : AreSome reads → exit ≡ 4

-- some text is written
abbrev pub WritesText : {W : Type 0} → Change W → Type 0
WritesText out = (text : List ℕ) × (0 < length text) × Gained out (λ old new. Gains old new text)
