-- Laws of words that are read one after another.
use Rattle.std.proofs.Common.{◌≡◌, ◌∙◌, ◌∷◌, ◌+◌, ◌<◌, ◌||◌, [], ap, refl, append_assoc, ℕ, List, length, map, drop, drop-cons, add-one, slice_index_or, Option, None, Some, Result, Ok, Err}
use Rattle.std.specs.Prelude.{◌≢◌, option_map, IfErr}
use Rattle.std.specs.Borrow.{Bor}
use Rattle.std.specs.List.{list_any}
use Rattle.std.specs.Option.{option_and_then}
use Rattle.std.specs.Str.{bytes_eq}
use Rattle.std.proofs.lemmas.List.{append-nil}
use Rattle.strc_command.specs.Asked.{asked_by}
use Rattle.strc_command.specs.Elements.{Element, Elements, Position, alone, anywhere, elements_from, elements_of, followed_by, is_among, no_elements, reading_at, texts_in}
use Rattle.strc_command.specs.declared.request.Unasked.{Unasked}
use Rattle.strc_command.specs.declared.request.Unasked.TheVariants.{Memory}

-- one thing said after another
regrouped : (a b c : Elements) → followed_by (followed_by a b) c ≡ followed_by a (followed_by b c)
regrouped a b c = simp append_assoc

after_nothing : (a : Elements) → followed_by no_elements a ≡ a
after_nothing a = refl

nothing_after : (a : Elements) → followed_by a no_elements ≡ a
nothing_after a = simp append-nil

-- before the first word
pub begun : (found : Elements) (words : List (List ℕ)) → found ≡ no_elements →
    elements_of words ≡ option_map (followed_by found) (elements_from words anywhere)
begun found words none = rw none (kept (elements_from words anywhere))
  where
    kept : (rest : Option Elements) → rest ≡ option_map (followed_by no_elements) rest
    kept None = refl
    kept (Some more) = refl

-- one more word is read
pub one_more_word : (all : Option Elements) (words : List (List ℕ)) (word : List ℕ) (position next : Position)
    (item : Option Element) (before after : Elements) →
    all ≡ option_map (followed_by before) (elements_from (word ∷ words) position) →
    Some (item, next) ≡ reading_at position word → after ≡ followed_by before (alone item) →
    all ≡ option_map (followed_by after) (elements_from words next)
one_more_word all words word position next item before after so read added =
    let step : elements_from (word ∷ words) position ≡
    option_map (followed_by (alone item)) (elements_from words next) = rw (← read) refl in
    so ∙ (ap (option_map (followed_by before)) step ∙ both (elements_from words next))
  where
    both : (rest : Option Elements) → option_map (followed_by before) (option_map (followed_by (alone item)) rest)
        ≡ option_map (followed_by after) rest
    both None = refl
    both (Some more) = rw (added, regrouped before (alone item) more) refl

-- a word that is wrong
pub wrong_word : (all : Option Elements) (words : List (List ℕ)) (word : List ℕ) (position : Position)
    (before : Elements) → all ≡ option_map (followed_by before) (elements_from (word ∷ words) position) →
    None ≡ reading_at position word → all ≡ None
wrong_word all words word position before so read = so ∙ (rw (← read) refl)

-- after the last word
pub ended : (all : Option Elements) (position : Position) (before : Elements) →
    all ≡ option_map (followed_by before) (elements_from [] position) → elements_from [] position ≡ Some no_elements →
    all ≡ Some before
ended all position before so last = so ∙ (rw (last, nothing_after before) refl)

-- the words from a place on
pub next_word : {A : Type 0} (f : A → List ℕ) (words : List A) (i : ℕ) (word : A) → i < length words →
    map f (drop i words) ≡ f (slice_index_or words i word) ∷ map f (drop (i + 1) words)
next_word f words i word below = rw (add-one, drop-cons words i word) refl

-- whether a word is one of these, through references
pub any_text : (words : List (Bor (List ℕ))) (word : List ℕ) →
    list_any (λ (other : Bor (List ℕ)). bytes_eq other.now word) words ≡ is_among (texts_in words) word
any_text [] word = refl
any_text (w ∷ words) word = ap (λ rest. bytes_eq w.now word || rest) (any_text words word)

-- words of which nothing is asked, by what they say
pub unasked_by : {A : Type 0} (r : Result A Unasked) (said : Option Elements) (elements : Elements) →
    said ≡ Some elements → IfErr r (λ why. why ≢ Memory → asked_by elements ≡ None) →
    IfErr r (λ why. why ≢ Memory → option_and_then asked_by said ≡ None)
unasked_by (Ok v) said elements is given = tt
unasked_by (Err why) said elements is given = λ other. rw is (given other)
