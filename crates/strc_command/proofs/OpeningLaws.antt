-- Laws of files that are opened one after another.
use Rattle.std.proofs.Common.{◌≡◌, ◌∙◌, ◌<◌, ◌≤◌, ◌+◌, ◌∷◌, ◌++◌, [], ap, refl, subst, ℕ, List, length, map, take, slice_index_or, Bool, false, Result, Ok, Err, is_err}
use Rattle.std.specs.Prelude.{if◌then◌else◌, is_ok}
use Rattle.std.proofs.lemmas.List.{map-append, take_more, take_all}
use Rattle.std.specs.Prelude.{Option}
use Rattle.strc_command.specs.Files.{AreNamed, IsNamed, one_more_named, path_of, texts_at, whole_text}
use Rattle.strc_command.specs.declared.opening.Library.{Library}

-- one more is opened
pub one_more : {A B C : Type 0} (f : A → C) (g : B → C) (xs ys : List A) (x : A) (bs : List B) (b : B) (i : ℕ) →
    i < length bs
    → map f xs ≡ map g (take i bs) → ys ≡ xs ++ x ∷ [] → f x ≡ g (slice_index_or bs i b) →
    map f ys ≡ map g (take (i + 1) bs)
one_more f g xs ys x bs b i below so added same =
    rw (
      added,
      map-append f xs (x ∷ []),
      so,
      same,
      take_more bs i b below,
      map-append g (take i bs) (slice_index_or bs i b ∷ []),
    ) refl

-- all are opened
pub all_opened : {A B C : Type 0} (f : A → C) (g : B → C) (xs : List A) (bs : List B) (i : ℕ) → length bs ≤ i
    → map f xs ≡ map g (take i bs) → map f xs ≡ map g bs
all_opened f g xs bs i end so = so ∙ ap (map g) (take_all i bs end)

-- one more file is found
pub one_more_found : {A : Type 0} (words : List A) (bytes : A → List ℕ) (word : A) (found more : List Library)
    (library : Library) (i : ℕ) → i < length words → AreNamed (map bytes (take i words)) (map path_of found) →
    more ≡ found ++ library ∷ [] → IsNamed (bytes (slice_index_or words i word)) (path_of library) →
    AreNamed (map bytes (take (i + 1) words)) (map path_of more)
one_more_found words bytes word found more library i below named added is =
    rw (
      added,
      take_more words i word below,
      map-append bytes (take i words) (slice_index_or words i word ∷ []),
      map-append path_of found (library ∷ []),
    ) (one_more_named (bytes (slice_index_or words i word)) (path_of library) named is)

-- all are found
pub all_found : {A : Type 0} (words : List A) (bytes : A → List ℕ) (found : List Library) (i : ℕ) → length words ≤ i →
    AreNamed (map bytes (take i words)) (map path_of found) → AreNamed (map bytes words) (map path_of found)
all_found {A = A} words bytes found i end named =
    subst (λ (front : List A). AreNamed (map bytes front) (map path_of found)) (take_all i words end) named

-- the texts of files by their paths
pub at_paths : (text_at : List ℕ → Option (List ℕ)) (files : List Library) →
    map (λ file. text_at (path_of file)) files ≡ map text_at (map path_of files)
at_paths text_at [] = refl
at_paths text_at (file ∷ files) = ap (λ texts. text_at (path_of file) ∷ texts) (at_paths text_at files)

pub same_texts : (f g : List ℕ → Option (List ℕ)) → ((path : List ℕ) → f path ≡ g path) → (files : List (List ℕ)) →
    map f files ≡ map g files
same_texts f g same [] = refl
same_texts f g same (file ∷ files) = rw (same file, same_texts f g same files) refl

-- the texts of files do not change while their paths are looked up
pub same_whole : (f g : List ℕ → Option (List ℕ)) → ((path : List ℕ) → f path ≡ g path) → (files : List (List ℕ))
    (definitions : List ℕ) → whole_text (texts_at f files definitions) ≡ whole_text (texts_at g files definitions)
same_whole f g same files definitions = rw (same_texts f g same files, same definitions) refl

-- a push that did not fail added the value
pub pushed : {A E : Type 0} (result : Result (Unit {0}) E) (failed : Bool) (new old : List A) (x : A)
    → new ≡ (if is_ok result then old ++ x ∷ [] else old) → failed ≡ is_err result → failed ≡ false →
    new ≡ old ++ x ∷ []
pushed (Ok done) failed new old x given told none = given
pushed (Err e) failed new old x given told none = cc

-- the texts of readers and of one more after them
pub with_last : {R A : Type 0} (coming : R → A) (files readers : List R) (last : R) (texts : List A) (between text : A)
    → files ≡ readers ++ last ∷ [] → map coming readers ≡ texts → coming last ≡ between → between ≡ text →
    map coming files ≡ texts ++ text ∷ []
with_last coming files readers last texts between text whole so is same =
    rw (whole, map-append coming readers (last ∷ []), so, is, same) refl
