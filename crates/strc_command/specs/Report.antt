-- The headline does not rest on this file.
-- The exit status, and what is reported on the diagnostic stream.
use Rattle.std.specs.Prelude.{◌≡◌, ◌<◌, ◌+◌, ℕ, Bool, true, false, ◌||◌, List, [], ◌∷◌, ◌++◌, ◌⊎◌, codes, decimal, nat_lt, if◌then◌else◌, Option, None, Some}
use Rattle.term_model.specs.declared.fault.Fault.{Fault}
use Rattle.term_model.specs.declared.fault.Fault.TheVariants.{Memory, Read, Write, Lexical, ReservedWord, Syntax, Nesting, TermSyntax, TermOversize}
use Rattle.term_model.specs.Fault.{word_of}
use Rattle.str_pipeline.specs.declared.status.Status.{Status}
use Rattle.str_pipeline.specs.declared.status.Status.TheVariants.{Rewritten, Failed, Oversize, Spent, Refused}
use Rattle.str_pipeline.specs.Device.{Gains, GainsPrefix}
use Rattle.str_pipeline.specs.Faults.{IsReadingFault}
use Rattle.term_model.specs.Limits.{max_budget, max_depth, max_weight}
use Rattle.strc_command.specs.Asked.{max_rules}
use Rattle.strc_command.specs.declared.request.OutputOptions.{OutputOptions}

abbrev pub exit_of : Status → ℕ
exit_of Rewritten = 0
exit_of Failed = 1
exit_of (Refused fault) = 2
exit_of Oversize = 3
exit_of Spent = 3

-- the byte at which a text was refused
abbrev pub place_of : Fault → Option ℕ
place_of (Lexical at) = Some at
place_of (ReservedWord at) = Some at
place_of (Syntax at) = Some at
place_of (Nesting at) = Some at
place_of (TermSyntax at) = Some at
place_of (TermOversize at) = Some at
place_of fault = None

abbrev pub place_text : Option ℕ → List ℕ
place_text None = []
place_text (Some at) = codes " at byte " ++ decimal at

abbrev pub diagnostic : Fault → List ℕ
diagnostic fault = codes "strc: " ++ (word_of fault ++ (place_text (place_of fault) ++ 10 ∷ []))

-- the failed calls of a device, before and after a run
pub record Failures : Type 0 where
  pub before : ℕ
  pub after : ℕ

-- no call failed in the run
abbrev pub AreNone : Failures → Type 0
AreNone calls = calls.after ≡ calls.before

-- a call failed in the run
abbrev pub AreSome : Failures → Type 0
AreSome calls = calls.before < calls.after

-- why a run stopped, by the failed reads and writes in it: Read exactly where a read failed, Write exactly where a
-- write failed, and else Memory
abbrev pub IsCause : Failures → Failures → Fault → Type 0
IsCause reads writes Memory = AreNone reads × AreNone writes
IsCause reads writes Read = AreSome reads × AreNone writes
IsCause reads writes Write = AreNone reads × AreSome writes
IsCause reads writes fault = ⊥

-- a text is on a stream with these numbers of failed writes before and after: a beginning of it, and the whole where no
-- write failed
pub record TellsWhole (text : List ℕ) (before after : ℕ) (old new : Option (List ℕ)) : Type 0 where
  pub beginning : GainsPrefix old new text
  pub whole : after ≡ before → Gains old new text

-- a text was written, or a beginning of it where a write failed
pub record Writes (text : List ℕ) (is_failed : Bool) (before after : ℕ) (old new : Option (List ℕ)) : Type 0 where
  pub beginning : GainsPrefix old new text
  pub whole : is_failed ≡ false → Gains old new text
  pub failed : after ≡ before + (if is_failed then 1 else 0)

-- the line of the fault is on it
abbrev pub Tells : Fault → ℕ → ℕ → Option (List ℕ) → Option (List ℕ) → Type 0
Tells fault before after old new = TellsWhole (diagnostic fault) before after old new

-- a line is on it, and more after it where that is asked for; what that says is for a person
pub record TellsLine (line : List ℕ) (asks : Bool) (before after : ℕ) (old new : Option (List ℕ)) : Type 0 where
  pub more : List ℕ
  pub unasked : asks ≡ false → more ≡ []
  pub told : TellsWhole (line ++ more) before after old new

-- the line of the fault is on it, and a text may say more after the line
abbrev pub TellsMore : Fault → ℕ → ℕ → Option (List ℕ) → Option (List ℕ) → Type 0
TellsMore fault before after old new = TellsLine (diagnostic fault) true before after old new

-- the line of a fault that stops a run is on a stream, and of a failed read or write more may follow; of memory nothing
-- does
abbrev pub TellsFault : Fault → ℕ → ℕ → Option (List ℕ) → Option (List ℕ) → Type 0
TellsFault Memory before after old new = Tells Memory before after old new
TellsFault fault before after old new = TellsMore fault before after old new

-- opening, reading or memory failed, and the fault is reported
abbrev pub IsUnread : ℕ → ℕ → Option (List ℕ) → Option (List ℕ) → Type 0
IsUnread before after old new = (fault : Fault) × IsReadingFault fault × TellsFault fault before after old new

-- nothing is reported, of a write to the output that failed since the output was closed
pub record IsSilent (is_closed : Bool) (writes : Failures) (fault : Fault) (before after : ℕ)
    (old new : Option (List ℕ)) : Type 0 where
  pub writing : fault ≡ Write
  pub failed : AreSome writes
  pub closed : is_closed ≡ true
  pub unfailed : after ≡ before
  pub nothing : new ≡ old

-- a fault that stops a run is reported, but for a failed write to an output that is closed: nobody reads it any more
abbrev pub TellsStop : (is_closed : Bool) → Failures → Fault → ℕ → ℕ → Option (List ℕ) → Option (List ℕ) → Type 0
TellsStop is_closed writes fault before after old new =
    TellsFault fault before after old new ⊎ IsSilent is_closed writes fault before after old new

-- a text for a person is on a stream, as far as it could be written
abbrev pub TellsText : Option (List ℕ) → Option (List ℕ) → Type 0
TellsText old new = (text : List ℕ) × GainsPrefix old new text

-- a text is on a stream where one is asked for, and else nothing new is
abbrev pub TellsIfAsked : Bool → Option (List ℕ) → Option (List ℕ) → Type 0
TellsIfAsked false old new = new ≡ old
TellsIfAsked true old new = TellsText old new

-- how to ask for a larger budget, if there is one
abbrev pub larger_budget : ℕ → List ℕ
larger_budget budget =
    if nat_lt budget max_rules then codes "; write --rules N with a larger N, or --no-limit"
    else (if nat_lt budget max_budget then codes "; write --no-limit" else [])

-- the line of a run that spent its budget
abbrev pub spent_line : ℕ → List ℕ
spent_line budget =
    codes "strc: the budget of " ++ (decimal budget ++ (codes " rules is spent" ++ (larger_budget budget ++ 10 ∷ [])))

-- a line says how large a term was that did not fit, by this measure, and the most by it
abbrev pub size_line : List ℕ → ℕ → ℕ → List ℕ
size_line measure size most = codes "strc: a term of " ++ (measure ++ (32 ∷ [] ++ (decimal size
    ++ (codes " would be made; the most is " ++ (decimal most ++ 10 ∷ [])))))

-- the line of a run in which a term did not fit, whose size may be known; none if it is not
abbrev pub IsSizeLine : List ℕ → Type 0
IsSizeLine line = (line ≡ []) ⊎ (size : ℕ) × ((line ≡ size_line (codes "weight at least") size max_weight)
    ⊎ (line ≡ size_line (codes "depth") size max_depth) ⊎ (line ≡ size_line (codes "depth at least") size max_depth))

-- anything is said of a run that was neither refused nor stopped by a limit
abbrev pub asks_more : OutputOptions → Bool
asks_more output = output.has_stats || (output.explains || (output.has_counts || (output.has_all_counts
    || (output.has_profile || output.has_traces))))

-- a refusal is reported, and for a person that the budget is spent, that a term did not fit, or what may be wrong in
-- definitions that fail. Of a result nothing is, unless more of the run is asked for
abbrev pub IsReported : OutputOptions → ℕ → Status → ℕ → ℕ → Option (List ℕ) → Option (List ℕ) → Type 0
IsReported output budget Rewritten before after old new = TellsIfAsked (asks_more output) old new
IsReported output budget Failed before after old new = TellsText old new
IsReported output budget (Refused fault) before after old new = TellsMore fault before after old new
IsReported output budget Oversize before after old new =
    (line : List ℕ) × IsSizeLine line × TellsLine line (asks_more output) before after old new
IsReported output budget Spent before after old new =
    TellsLine (spent_line budget) (asks_more output) before after old new

-- the exit status of a check of definitions in which nothing is wrong, or that are refused
abbrev pub exit_of_verdict : Option Fault → ℕ
exit_of_verdict None = 0
exit_of_verdict (Some fault) = 2

-- what is reported of such a check: warnings for a person, and of a refusal the line of its fault first
abbrev pub TellsVerdict : Option Fault → ℕ → ℕ → Option (List ℕ) → Option (List ℕ) → Type 0
TellsVerdict None before after old new = TellsText old new
TellsVerdict (Some fault) before after old new = TellsMore fault before after old new
