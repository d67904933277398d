-- What a writer has gained after several writes in a row.
use Rattle.std.proofs.Common.{◌≡◌, ◌+◌, ◌<◌, ◌≤◌, ℕ, zero, suc, Bool, List, [], ◌∷◌, ◌++◌, append_assoc, length, take, slice_index_or, Option, None, Some, refl, sym, arith, false, true, true≢false, length-append, subst}
use Rattle.std.proofs.lemmas.List.{append-nil, take-append-le, take_at, drop_at}
use Rattle.std.proofs.Math.Seq.{take-add, take-length}
use Rattle.std.specs.Prelude.{Result, Ok, Err, OnOk, IsErr, is_err, if◌then◌else◌}
use Rattle.term_model.specs.declared.fault.Fault.{Fault}
use Rattle.str_pipeline.specs.Device.{Gains, GainsPrefix}
use Rattle.str_pipeline.proofs.DeviceLemmas.{Gains-append}
use Rattle.std.specs.Prelude.{map}
use Rattle.std.specs.Borrow.{Bor}
use Rattle.std.specs.List.{concat}
use Rattle.std.proofs.lemmas.List.{map-append, take_more, take_all}
use Rattle.std.proofs.lemmas.List.Folds.{concat-append}
use Rattle.strc_command.specs.Report.{TellsIfAsked, TellsLine, TellsMore, TellsText, Tells, Writes, diagnostic}

-- a beginning of the first text
pub begins_first : (a b : Option (List ℕ)) (xs ys : List ℕ) → GainsPrefix a b xs → GainsPrefix a b (xs ++ ys)
begins_first a b xs ys (k, within, gained) =
    let long : k ≤ length (xs ++ ys) = rw length-append (omega arith) in
    (k, long, rw (take-append-le k xs ys within) gained)

-- the first text, and a beginning of the second
pub begins_second : (a b c : Option (List ℕ)) (xs ys : List ℕ) → Gains a b xs → GainsPrefix b c ys →
    GainsPrefix a c (xs ++ ys)
begins_second a b c xs ys first (k, within, gained) =
    let long : length xs + k ≤ length (xs ++ ys) = rw length-append (omega arith) in
    let front : take (length xs + k) (xs ++ ys) ≡ xs ++ take k ys =
    rw (take-add, take_at xs ys (length xs) refl, drop_at xs ys (length xs) refl) in
    (length xs + k, long, rw front (Gains-append a b c xs (take k ys) first gained))

-- a report that was written as far as its result says
pub tells : {A : Type 0} (r : Result A Fault) (fault : Fault) (before after : ℕ) (old new : Option (List ℕ)) →
    OnOk r (Gains old new (diagnostic fault)) → GainsPrefix old new (diagnostic fault) →
    after ≡ before + (if is_err r then 1 else 0) →
    Tells fault before after old new
tells (Ok v) fault before after old new gained begun failed = record { beginning = begun; whole = λ _. gained }
tells (Err e) fault before after old new gained begun failed =
    record { beginning = begun; whole = λ same. absurd (omega arith) }

-- a whole report, and a text after it that was written as far as its result says
pub tells_both : {A : Type 0} (r : Result A Fault) (fault : Fault) (more : List ℕ) (before after : ℕ)
    (old middle new : Option (List ℕ)) →
    Gains old middle (diagnostic fault) → OnOk r (Gains middle new more) → GainsPrefix middle new more →
    after ≡ before + (if is_err r then 1 else 0) → TellsMore fault before after old new
tells_both (Ok v) fault more before after old middle new first gained begun failed =
    record {
      more = more;
      unasked = λ no. absurd (true≢false no);
      told = record {
        beginning = begins_second old middle new (diagnostic fault) more first begun;
        whole = λ _. Gains-append old middle new (diagnostic fault) more first gained;
      };
    }
tells_both (Err e) fault more before after old middle new first gained begun failed =
    record {
      more = more;
      unasked = λ no. absurd (true≢false no);
      told = record {
        beginning = begins_second old middle new (diagnostic fault) more first begun;
        whole = λ same. absurd (omega arith);
      };
    }

-- a report that was written, and a text after it that was written as far as its result says
pub tells_after : {A B : Type 0} (r : Result A Fault) (w : Result B Fault) (fault : Fault) (more : List ℕ)
    (before between after : ℕ) (old middle new : Option (List ℕ)) →
    is_err r ≡ false → OnOk r (Gains old middle (diagnostic fault)) → between ≡ before + (if is_err r then 1 else 0) →
    OnOk w (Gains middle new more) → GainsPrefix middle new more → after ≡ between + (if is_err w then 1 else 0) →
    TellsMore fault before after old new
tells_after {A} {B} (Ok v) (Ok u) fault more before between after old middle new good first still gained begun failed =
    tells_both {A = B} (Ok u) fault more before after old middle new first gained begun (omega arith)
tells_after {A} {B} (Ok v) (Err e) fault more before between after old middle new good first still gained begun failed =
    tells_both {A = B} (Err e) fault more before after old middle new first gained begun (omega arith)
tells_after (Err e) w fault more before between after old middle new good first still gained begun failed =
    absurd (true≢false good)

gains_all : (a b : Option (List ℕ)) (xs : List ℕ) → Gains a b xs → GainsPrefix a b xs
gains_all a b xs gained = (length xs, omega arith, rw (take-length xs) gained)

-- a report that was written, and a text for a person after it
pub text_follows : {A : Type 0} (r : Result A Fault) (fault : Fault) (before after : ℕ)
    (old middle new : Option (List ℕ)) →
    is_err r ≡ false → OnOk r (Gains old middle (diagnostic fault)) → TellsText middle new →
    TellsMore fault before after old new
text_follows (Ok v) fault before after old middle new good first (text, (k, within, gained)) =
    let both = Gains-append old middle new (diagnostic fault) (take k text) first gained in
    record {
      more = take k text;
      unasked = λ no. absurd (true≢false no);
      told = record { beginning = gains_all old new (diagnostic fault ++ take k text) both; whole = λ _. both };
    }
text_follows (Err e) fault before after old middle new good first told = absurd (true≢false good)

gains_nothing : (a : Option (List ℕ)) → GainsPrefix a a []
gains_nothing None = (0, omega arith, tt)
gains_nothing (Some xs) = (0, omega arith, rw append-nil refl)

-- no text at all
pub no_text : (a : Option (List ℕ)) → TellsText a a
no_text a = ([], gains_nothing a)

-- a text, and another one after it
pub text_after : (a b c : Option (List ℕ)) → TellsText a b → TellsText b c → TellsText a c
text_after a b c (text, (k, within, first)) (more, second) =
    (take k text ++ more, begins_second a b c (take k text) more first second)

-- a text, and one after it where that is asked for
pub asked_after : (asked : Bool) (a b c : Option (List ℕ)) → TellsText a b → TellsIfAsked asked b c → TellsText a c
asked_after true a b c first text = text_after a b c first text
asked_after false a b c first same = subst (λ d. TellsText a d) (sym same) first

-- a text that is asked for
pub text_as_asked : (asked : Bool) (a b : Option (List ℕ)) → asked ≡ true → TellsText a b → TellsIfAsked asked a b
text_as_asked true a b is text = text
text_as_asked false a b is text = absurd (true≢false (sym is))

-- a text that was written, as one that is reported
pub writes_text : {text : List ℕ} {is_failed : Bool} (before after : ℕ) (old new : Option (List ℕ)) →
    Writes text is_failed before after old new → TellsText old new
writes_text {text} before after old new writes = (text, writes.beginning)

-- a line that could not be written, and nothing after it
pub line_failed : (line : List ℕ) (asks : Bool) (before after : ℕ) (old new : Option (List ℕ)) →
    Writes line true before after old new → TellsLine line asks before after old new
line_failed line asks before after old new writes = record {
  more = [];
  unasked = λ no. refl;
  told = record {
    beginning = rw (append-nil line) writes.beginning;
    whole = λ same. absurd (omega (arith, writes.failed));
  };
}

-- a line, and after it what is asked for
pub line_told : (line : List ℕ) (asks : Bool) (before between after : ℕ) (old middle new : Option (List ℕ)) →
    Writes line false before between old middle → TellsIfAsked asks middle new →
    TellsLine line asks before after old new
line_told line false before between after old middle new writes same =
    let gained : Gains old new line = subst (λ o. Gains old o line) (sym same) (writes.whole refl) in
    record {
      more = [];
      unasked = λ no. refl;
      told = record {
        beginning = rw (append-nil line) (gains_all old new line gained);
        whole = λ _. rw (append-nil line) gained;
      };
    }
line_told line true before between after old middle new writes (text, (k, within, gained)) =
    let both = Gains-append old middle new line (take k text) (writes.whole refl) gained in
    record {
      more = take k text;
      unasked = λ no. absurd (true≢false no);
      told = record { beginning = gains_all old new (line ++ take k text) both; whole = λ _. both };
    }

-- before anything is written
pub gains_none : (a : Option (List ℕ)) → Gains a a []
gains_none None = tt
gains_none (Some xs) = rw append-nil refl

-- the bytes of pieces
abbrev pub bytes_of : List (Bor (List ℕ)) → List ℕ
bytes_of pieces = concat (map (λ piece. piece.now) pieces)

-- the pieces up to a place and the one there
pub one_more_piece : (pieces : List (Bor (List ℕ))) (i : ℕ) (piece : Bor (List ℕ)) → i < length pieces →
    bytes_of (take (i + 1) pieces) ≡ bytes_of (take i pieces) ++ (slice_index_or pieces i piece).now
one_more_piece pieces i piece below =
    rw (
      take_more pieces i piece below,
      map-append (λ (p : Bor (List ℕ)). p.now) (take i pieces) (slice_index_or pieces i piece ∷ []),
      concat-append (map (λ (p : Bor (List ℕ)). p.now) (take i pieces)) ((slice_index_or pieces i piece).now ∷ []),
      append-nil (slice_index_or pieces i piece).now,
    ) refl

-- the pieces up to a place are a beginning of all
pub pieces_begin : (pieces : List (Bor (List ℕ))) (i : ℕ) →
    (rest : List ℕ) × (bytes_of pieces ≡ bytes_of (take i pieces) ++ rest)
pieces_begin [] zero = ([], refl)
pieces_begin [] (suc i) = ([], refl)
pieces_begin (p ∷ pieces) zero = (bytes_of (p ∷ pieces), refl)
pieces_begin (p ∷ pieces) (suc i) =
    let more = pieces_begin pieces i in
    (more.0, rw more.1 (simp append_assoc))

-- a piece was written after those in front of it
pub piece_written : (pieces : List (Bor (List ℕ))) (i : ℕ) (piece : Bor (List ℕ)) (a b c : Option (List ℕ)) →
    i < length pieces → Gains a b (bytes_of (take i pieces)) → Gains b c (slice_index_or pieces i piece).now →
    Gains a c (bytes_of (take (i + 1) pieces))
piece_written pieces i piece a b c below front written =
    rw (one_more_piece pieces i piece below) (Gains-append a b c (bytes_of (take i pieces))
    (slice_index_or pieces i piece).now front written)

-- a beginning of it was
pub piece_begun : (pieces : List (Bor (List ℕ))) (i : ℕ) (piece : Bor (List ℕ)) (a b c : Option (List ℕ)) →
    i < length pieces → Gains a b (bytes_of (take i pieces)) → GainsPrefix b c (slice_index_or pieces i piece).now →
    GainsPrefix a c (bytes_of pieces)
piece_begun pieces i piece a b c below front begun =
    let more = pieces_begin pieces (i + 1) in
    let both = begins_second a b c (bytes_of (take i pieces)) (slice_index_or pieces i piece).now front begun in
    rw more.1 (begins_first a c (bytes_of (take (i + 1) pieces)) more.0
    (rw (one_more_piece pieces i piece below) both))

-- and all of them were
pub pieces_written : (pieces : List (Bor (List ℕ))) (i : ℕ) (a b : Option (List ℕ)) (before after : ℕ) →
    length pieces ≤ i → Gains a b (bytes_of (take i pieces)) → after ≡ before → Writes (bytes_of pieces) false before
    after a b
pieces_written pieces i a b before after end written same =
    let all : Gains a b (bytes_of pieces) = subst (λ (front : List (Bor (List ℕ))). Gains a b (bytes_of front))
    (take_all i pieces end) written in
    record { beginning = gains_all a b (bytes_of pieces) all; whole = λ _. all; failed = omega arith }

-- a piece could not be written
pub writing_failed : {A : Type 0} (r : Result A Fault) (text : List ℕ) (before after : ℕ) (old new : Option (List ℕ)) →
    IsErr r → GainsPrefix old new text → after ≡ before + 1 → Writes text (is_err r) before after old new
writing_failed (Ok v) text before after old new bad begun failed = absurd (true≢false (sym bad))
writing_failed (Err e) text before after old new bad begun failed =
    record { beginning = begun; whole = λ no. absurd (true≢false no); failed = failed }
