-- Laws of the text of several files.
use Rattle.std.proofs.Common.{◌≡◌, ◌<◌, ◌≤◌, ℕ, Bool, false, List, [], ◌∷◌, ◌++◌, length, append_assoc, slice_index_or, slice_set, arith, Option, None, Some, refl, subst, sym}
use Rattle.std.specs.Prelude.{take, drop, map, option_map, IfSome}
use Rattle.std.specs.Bool.{◌==◌}
use Rattle.std.specs.Option.{option_to_list}
use Rattle.str_pipeline.specs.Joined.{IsSplit, OfJoined, OfJoinedAfter}
use Rattle.str_pipeline.specs.Transfer.{Loses, IsDry, ReadsFront}
use Rattle.strc_command.specs.Files.{text_in_front, whole_text, with_next}

-- the first byte of a slice into which it was put
first_put : (bytes : List ℕ) (byte : ℕ) → 0 < length bytes → take 1 (slice_set bytes 0 byte) ≡ byte ∷ []
first_put [] byte some = absurd (omega (arith, some))
first_put (x ∷ bytes) byte some = refl

has_room : (bytes : List ℕ) (is_empty : Bool) → is_empty ≡ (length bytes == 0) → is_empty ≡ false → 0 < length bytes
has_room [] is_empty is none = cc
has_room (x ∷ bytes) is_empty is none = omega arith

at_feed : (old next : Option (List ℕ)) → old ≡ Some [] → Loses (with_next old next) next (10 ∷ [])
at_feed old None e = rw e tt
at_feed old (Some zs) e = rw e refl

turned : (old new next : Option (List ℕ)) (rest : List (Option (List ℕ)))
    → Loses old new [] → IsDry new → Loses (whole_text (old ∷ next ∷ rest)) (whole_text (next ∷ rest)) (10 ∷ [])
turned None new next rest lost dry = tt
turned (Some xs) None next rest lost dry = absurd lost
turned (Some xs) (Some ys) next rest lost dry = at_feed (Some xs) (whole_text (next ∷ rest)) (rw (lost, dry) refl)

-- where nothing more of a file comes, a read that gives the line feed after it goes on to the next file
pub feed_given : {R : Type 0} (coming : R →
    Option (List ℕ)) (old new next : R) (waiting rest : List R) (popped : Option R)
    (answer : Option ℕ) (count : ℕ) (piece : List ℕ) (is_empty : Bool)
    → ReadsFront (coming old) (coming new) answer piece → answer ≡ Some count → count ≤ 0
    → is_empty ≡ (length piece == 0) → is_empty ≡ false → popped ≡ Some next → waiting ≡ option_to_list popped ++ rest
    → ReadsFront (whole_text (map coming (old ∷ waiting))) (whole_text (map coming (next ∷ rest))) (Some 1)
    (slice_set piece 0 10)
feed_given coming old new next waiting rest popped answer count piece is_empty read given ended told none is whole =
    let none_left : count ≡ 0 = omega (arith, ended) in
    let room : 0 < length piece = has_room piece is_empty told none in
    let front : ReadsFront (coming old) (coming new) (Some 0) piece = rw (given, none_left) at read in
    let feed = turned (coming old) (coming new) (coming next) (map coming rest) front.0 (front.1 refl room) in
    (rw (whole, is, first_put piece 10 room) feed, λ e. absurd (omega (arith, e)))

-- ---- a read of files of which each is followed by a line feed

ended_front : (old new next : Option (List ℕ)) → Loses old new [] → IsDry new →
    Loses (with_next old next) next (10 ∷ [])
ended_front None new next lost dry = tt
ended_front (Some xs) None next lost dry = absurd lost
ended_front (Some xs) (Some ys) next lost dry = at_feed (Some xs) next (rw (lost, dry) refl)

-- one that finds the end of the first file, and gives the line feed after it
pub library_ended : {R : Type 0} (coming : R → Option (List ℕ)) (old new : R) (rest : List R)
    (answer : Option ℕ) (count : ℕ) (piece : List ℕ) (is_empty : Bool) →
    ReadsFront (coming old) (coming new) answer piece → answer ≡ Some count → count ≤ 0 →
    is_empty ≡ (length piece == 0) → is_empty ≡ false →
    ReadsFront (text_in_front (map coming (old ∷ rest))) (text_in_front (map coming rest)) (Some 1)
    (slice_set piece 0 10)
library_ended coming old new rest answer count piece is_empty read given ended told none =
    let none_left : count ≡ 0 = omega (arith, ended) in
    let room : 0 < length piece = has_room piece is_empty told none in
    let front : ReadsFront (coming old) (coming new) (Some 0) piece = rw (given, none_left) at read in (
      rw (first_put piece 10 room)
          (ended_front (coming old) (coming new) (text_in_front (map coming rest)) front.0 (front.1 refl room)),
      λ e. absurd (omega (arith, e)),
    )

-- the same of the first of some readers, which is taken away
pub front_ended : {R : Type 0} (coming : R → Option (List ℕ)) (waiting rest : List R) (file new : R)
    (answer : Option ℕ) (count : ℕ) (piece : List ℕ) (is_empty : Bool) → 0 < length waiting →
    file ≡ slice_index_or waiting 0 file → rest ≡ drop 1 (slice_set waiting 0 new) →
    ReadsFront (coming file) (coming new) answer piece → answer ≡ Some count → count ≤ 0 →
    is_empty ≡ (length piece == 0) → is_empty ≡ false →
    ReadsFront (text_in_front (map coming waiting)) (text_in_front (map coming rest)) (Some 1)
    (slice_set piece 0 10)
front_ended coming [] rest file new answer count piece is_empty some is left read given ended told none =
    absurd (omega (arith, some))
front_ended {R} coming (first ∷ waiting) rest file new answer count piece is_empty some is left read given ended told
    none =
    subst (λ (r : List R). ReadsFront (text_in_front (map coming (first ∷ waiting))) (text_in_front (map coming r))
    (Some 1) (slice_set piece 0 10)) (sym left)
    (library_ended coming first new waiting answer count piece is_empty
    (subst (λ (f : R). ReadsFront (coming f) (coming new) answer piece) is read) given ended told none)

-- ---- the text of such files and of definitions after them

next_longer : (text next : Option (List ℕ)) (d : List ℕ) →
    with_next text (option_map (λ l. l ++ d) next) ≡ option_map (λ l. l ++ d) (with_next text next)
next_longer None next d = refl
next_longer (Some x) None d = refl
next_longer (Some x) (Some l) d = simp append_assoc

whole_longer : (texts : List (Option (List ℕ))) (d : List ℕ) →
    whole_text (texts ++ Some d ∷ []) ≡ option_map (λ l. l ++ d) (text_in_front texts)
whole_longer [] d = refl
whole_longer (text ∷ []) d = next_longer text (Some []) d
whole_longer (text ∷ next ∷ rest) d =
    rw (whole_longer (next ∷ rest) d) (next_longer text (text_in_front (next ∷ rest)) d)

if_longer : (text : Option (List ℕ)) (d : List ℕ) (P : List ℕ → Type 0) → IfSome text (λ l. P (l ++ d)) →
    IfSome (option_map (λ l. l ++ d) text) P
if_longer None d P given = tt
if_longer (Some l) d P given = given

at_split : (text : Option (List ℕ)) (told : List ℕ) (holds : List ℕ → List ℕ → Type 0) →
    OfJoinedAfter text (Some told) holds → (d t : List ℕ) → IsSplit told d t → IfSome text (λ l. holds (l ++ d) t)
at_split None told holds given d t split = tt
at_split (Some l) told holds given d t split = given d t split

-- what holds of the joined form after the text of files holds of the whole text of the files and its definitions
pub after_files : (texts : List (Option (List ℕ))) (coming : Option (List ℕ)) (holds : List ℕ → List ℕ → Type 0) →
    OfJoinedAfter (text_in_front texts) coming holds →
    OfJoined coming (λ d t. IfSome (whole_text (texts ++ Some d ∷ [])) (λ whole. holds whole t))
after_files texts None holds given = tt
after_files texts (Some told) holds given = λ d t split.
    subst (λ (whole : Option (List ℕ)). IfSome whole (λ w. holds w t)) (sym (whole_longer texts d))
    (if_longer (text_in_front texts) d (λ w. holds w t)
    (at_split (text_in_front texts) told holds given d t split))
