-- What few words ask for, and how a run over several texts follows from its parts.
use Rattle.std.proofs.Common.{◌≡◌, ◌∙◌, ◌≤◌, ◌∷◌, [], arith, refl, subst, sym, ℕ, List, Option, None, Some, length, map, drop}
use Rattle.std.specs.Prelude.{◌+◌, Err, IfOk, IfSome, Ok, Result, false}
use Rattle.term_model.specs.declared.fault.Fault.TheVariants.{Memory}
use Rattle.str_pipeline.specs.Device.{Reader, Writer}
use Rattle.str_pipeline.specs.Joined.{OfJoined, OfJoinedAfter, OfJoinedDefinitionsAfter}
use Rattle.str_pipeline.specs.Setting.{Setting}
use Rattle.str_pipeline.specs.Transformation.{OfTwo}
use Rattle.str_pipeline.specs.Verdict.{IsVerdict}
use Rattle.str_pipeline.specs.declared.status.Options.{Options}
use Rattle.strc_command.specs.Asked.{Asked, asked_of, paths_in, plain_asked}
use Rattle.strc_command.specs.Files.{AreNamed, OfFiles, OfJoinedFiles, none_named, text_in_front, texts_at, whole_text}
use Rattle.strc_command.specs.Forms.{HasWrittenIn}
use Rattle.strc_command.specs.Report.{Failures, Tells}
use Rattle.strc_command.specs.Runs.{Change, Gained, IsAnswered, IsJudged, Runs, RunsJoined, RunsPlain, Told, change, reads_of}
use Rattle.strc_command.specs.declared.request.Form.TheVariants.{Line}
use Rattle.strc_command.specs.declared.request.OutputOptions.{OutputOptions}
use Rattle.strc_command.specs.declared.request.Texts.{Texts}
use Rattle.strc_command.specs.declared.request.Texts.TheVariants.{Joined, Definitions, Both}
use Rattle.strc_command.proofs.CauseLaws.{memory_joined}
use Rattle.strc_command.proofs.FilesLaws.{after_files}
use Rattle.strc_command.proofs.FormLaws.{joined_beginning, joined_line}
use Rattle.strc_command.proofs.OpeningLaws.{same_whole}

-- no word comes after the name of the program
pub few_words : {A : Type 0} (f : A → List ℕ) (words : List A) → length words ≤ 1 → map f (drop 1 words) ≡ []
few_words f [] few = refl
few_words f (w ∷ []) few = refl
few_words f (w ∷ v ∷ words) few = absurd (omega arith)

pub asks_plain : (words : List (List ℕ)) → words ≡ [] → asked_of words ≡ Some plain_asked
asks_plain words none = rw none refl

-- where no path is named, the texts come in the joined form
pub joined_texts : (texts : Texts) → paths_in texts ≡ [] → texts ≡ Joined
joined_texts Joined none = refl
joined_texts (Definitions path) none = cc
joined_texts (Both path term) none = cc

-- a run in the joined form that asks for nothing more
pub plain_run : {W E : Type 0} (asked : Asked) (coming : Option (List ℕ)) (reads : Failures)
    (setting : Options → Setting) (out : Change W) (diagnostics : Change E) (exit : ℕ) → asked ≡ plain_asked →
    exit ≤ 4 → RunsJoined asked coming reads setting out diagnostics exit →
    RunsPlain coming reads setting out diagnostics exit
plain_run {W} {E} asked coming reads setting out diagnostics exit is most given =
    let run : RunsJoined plain_asked coming reads setting out diagnostics exit =
    subst (λ (a : Asked). RunsJoined a coming reads setting out diagnostics exit) is given in
    record {
      status = most;
      ended = λ below. let ended = run.ended below in (
        ended.0,
        ended.2.0,
        ended.1,
        ended.2.1,
        ended.2.2,
        joined_line coming Line (setting ended.0) ended.2.0 _ _ refl ended.2.3,
        ended.2.4,
      );
      stopped = run.stopped;
      begun = λ writing. let begun = run.begun writing in
          (begun.0, begun.1, joined_beginning coming Line (setting begun.0) _ _ refl begun.2);
      read_failed = run.read_failed;
    }

-- an answer to the text of files is one to the text of the files that words name
pub answered_over : {W E : Type 0} (f g : List ℕ → Option (List ℕ)) → ((path : List ℕ) → f path ≡ g path) →
    (words files : List (List ℕ)) (definitions : List ℕ) (before after : Option (List ℕ)) (output : OutputOptions)
    (S : Setting) (out : Change W) (diagnostics : Change E) (exit : ℕ) → AreNamed words files → before ≡ after →
    IsAnswered (OfTwo (whole_text (texts_at f files definitions)) before) output S out diagnostics exit →
    IsAnswered (λ relates. OfFiles g words definitions (λ d. IfSome after (relates d))) output S out diagnostics exit
answered_over f g same words files definitions before after output S out diagnostics exit named is given = (
  given.0,
  given.1,
  given.2,
  (
    files,
    named,
    subst (λ (whole : Option (List ℕ)). OfTwo whole after (λ d t. Gained out (HasWrittenIn output.form d t S given.0)))
        (same_whole f g same files definitions)
        (subst (λ (term : Option (List ℕ)). OfTwo (whole_text (texts_at f files definitions)) term
        (λ d t. Gained out (HasWrittenIn output.form d t S given.0))) is given.3),
  ),
  given.4,
)

-- and so is what is judged of it
pub judged_over : {E : Type 0} (f g : List ℕ → Option (List ℕ)) → ((path : List ℕ) → f path ≡ g path) →
    (words files : List (List ℕ)) (definitions : List ℕ) (S : Setting) (diagnostics : Change E) (exit : ℕ) →
    AreNamed words files →
    IsJudged (IfSome (whole_text (texts_at f files definitions))) S diagnostics exit →
    IsJudged (OfFiles g words definitions) S diagnostics exit
judged_over f g same words files definitions S diagnostics exit named given = (
  given.0,
  given.1,
  (
    files,
    named,
    subst (λ (whole : Option (List ℕ)). IfSome whole (λ d. IsVerdict S d given.0))
        (same_whole f g same files definitions)
        given.2,
  ),
  given.3,
)

-- no words are none of any form
pub no_texts : {A : Type 0} (f : A → List ℕ) (words : List A) → length words ≡ 0 → map f words ≡ []
no_texts f [] none = refl
no_texts f (word ∷ words) none = absurd (omega (arith, none))

-- a run over an input in front of which no read fails
pub runs_alone : {W E : Type 0} (of_texts : (List ℕ → List ℕ → Type 0) → Type 0) (before after : ℕ)
    (output : OutputOptions) (S : Setting) (out : Change W) (diagnostics : Change E) (exit : ℕ) →
    Runs of_texts (record { before = 0 + before; after = 0 + after }) output S out diagnostics exit →
    Runs of_texts (record { before = before; after = after }) output S out diagnostics exit
runs_alone of_texts before after output S out diagnostics exit given =
    let first : 0 + before ≡ before = omega arith in
    let last : 0 + after ≡ after = omega arith in
    subst (λ (x : ℕ). Runs of_texts (record { before = x; after = after }) output S out diagnostics exit) first
    (subst (λ (x : ℕ). Runs of_texts (record { before = 0 + before; after = x }) output S out diagnostics exit) last
    given)

-- an answer to the joined form after the text of files is one to it and the files that words name
pub answered_after : {W E : Type 0} (g : List ℕ → Option (List ℕ)) (texts : List (Option (List ℕ)))
    (coming : Option (List ℕ)) (words files : List (List ℕ)) (output : OutputOptions) (S : Setting) (out : Change W)
    (diagnostics : Change E) (exit : ℕ) → AreNamed words files → texts ≡ map g files →
    IsAnswered (OfJoinedAfter (text_in_front texts) coming) output S out diagnostics exit →
    IsAnswered (OfJoinedFiles g coming words) output S out diagnostics exit
answered_after g texts coming words files output S out diagnostics exit named is given = (
  given.0,
  given.1,
  given.2,
  (
    files,
    named,
    after_files (map g files) coming (λ d t. Gained out (HasWrittenIn output.form d t S given.0))
        (subst (λ (all : List (Option (List ℕ))). OfJoinedAfter (text_in_front all) coming
        (λ d t. Gained out (HasWrittenIn output.form d t S given.0))) is given.3),
  ),
  given.4,
)

-- and so is one to the joined form alone where they name no file
pub answered_alone : {W E : Type 0} (g : List ℕ → Option (List ℕ)) (coming : Option (List ℕ))
    (words : List (List ℕ)) (output : OutputOptions) (S : Setting) (out : Change W) (diagnostics : Change E)
    (exit : ℕ) → words ≡ [] → IsAnswered (OfJoined coming) output S out diagnostics exit →
    IsAnswered (OfJoinedFiles g coming words) output S out diagnostics exit
answered_alone g coming words output S out diagnostics exit none given = (
  given.0,
  given.1,
  given.2,
  ([], subst (λ (said : List (List ℕ)). AreNamed said []) (sym none) none_named, given.3),
  given.4,
)

-- what is judged of the joined form after the text of files is judged of it and the files that words name
pub judged_after : {E : Type 0} (g : List ℕ → Option (List ℕ)) (texts : List (Option (List ℕ)))
    (coming : Option (List ℕ)) (words files : List (List ℕ)) (S : Setting) (diagnostics : Change E) (exit : ℕ) →
    AreNamed words files → texts ≡ map g files →
    IsJudged (OfJoinedDefinitionsAfter (text_in_front texts) coming) S diagnostics exit →
    IsJudged (λ relates. OfJoinedFiles g coming words (λ d t. relates d)) S diagnostics exit
judged_after g texts coming words files S diagnostics exit named is given = (
  given.0,
  given.1,
  (
    files,
    named,
    after_files (map g files) coming (λ d t. IsVerdict S d given.0)
        (subst (λ (all : List (Option (List ℕ))). OfJoinedAfter (text_in_front all) coming
        (λ d t. IsVerdict S d given.0)) is given.2),
  ),
  given.3,
)

-- no words ask for what is plain
pub is_plain : (words : List (List ℕ)) (asked : Asked) → asked_of words ≡ Some asked → words ≡ [] → asked ≡ plain_asked
is_plain words asked is none =
    let same : Some plain_asked ≡ Some asked = sym (asks_plain words none) ∙ is in cc

-- what holds whatever is asked for
pub whatever : (o : Option Asked) (P : Asked → Type 0) → ((asked : Asked) → P asked) → IfSome o P
whatever None P all = tt
whatever (Some asked) P all = all asked

-- and what holds of nothing
pub nothing_asked : (o : Option Asked) (P : Asked → Type 0) → o ≡ None → IfSome o P
nothing_asked None P none = tt
nothing_asked (Some asked) P none = cc

-- whatever words ask for, a run over one input that was not begun, since memory was refused
pub memory_joined_words : {I W E V F : Type 0} (words : Result V F) (asked_by : V → Option Asked)
    (coming : Option (List ℕ)) (reader : Reader I) (setting : Options → Setting) (writer : Writer W)
    (stream : Writer E) (input : I) (out : W) (before after : E) (exit : ℕ) → exit ≡ 4 →
    Told (change stream before after) (Tells Memory) → IfOk words (λ said. IfSome (asked_by said) (λ asked.
    asked.checks ≡ false → asked.paths ≡ [] → asked.libraries ≡ [] →
    RunsJoined asked coming (reads_of reader input input) setting (change writer out out) (change stream before after)
    exit))
memory_joined_words {V} (Ok said) asked_by coming reader setting writer stream input out before after exit four told =
    whatever (asked_by said) (λ asked. asked.checks ≡ false → asked.paths ≡ [] → asked.libraries ≡ [] →
    RunsJoined asked coming (reads_of reader input input) setting (change writer out out) (change stream before after)
    exit)
    (λ asked rewrites none alone. memory_joined asked coming reader setting writer stream input out before after exit
    four told)
memory_joined_words (Err e) asked_by coming reader setting writer stream input out before after exit four told = tt
