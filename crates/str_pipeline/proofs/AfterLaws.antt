-- What holds of the joined form after the text of libraries.
use Rattle.std.proofs.Common.{◌≡◌, ◌+◌, ◌<◌, ◌≤◌, ◌++◌, ℕ, List, length, ap, ◌∙◌, arith, length-append}
use Rattle.std.specs.Prelude.{Option, None, Some, Result, Ok, Err, IfOk, IfSome, IsSomeAnd, MatchOption}
use Rattle.str_pipeline.specs.Joined.{IsSplit, OfJoinedAfter, OfJoinedDefinitionsAfter}
use Rattle.str_pipeline.specs.Search.{AreSplitAfter, HasLongDefinitions, IsEarly}
use Rattle.str_pipeline.proofs.CutLemmas.{one_split}
use Rattle.str_pipeline.proofs.WrittenLaws.{of_definitions}

-- what holds of all definitions and texts of a term holds of these
pub for_each_after : (libraries input : Option (List ℕ)) (X : List ℕ → List ℕ → Type 0) → ((d t : List ℕ) → X d t) →
    OfJoinedAfter libraries input X
for_each_after None input X known = tt
for_each_after (Some l) None X known = tt
for_each_after (Some l) (Some told) X known = λ d t split. known (l ++ d) t

pub then_after : (libraries input : Option (List ℕ)) (X Y : List ℕ → List ℕ → Type 0) →
    OfJoinedAfter libraries input X → ((d t : List ℕ) → X d t → Y d t) → OfJoinedAfter libraries input Y
then_after None input X Y known then = tt
then_after (Some l) None X Y known then = tt
then_after (Some l) (Some told) X Y known then = λ d t split. then (l ++ d) t (known d t split)

-- two things that hold of them
pub both_after : (libraries input : Option (List ℕ)) (X Y Z : List ℕ → List ℕ → Type 0) →
    OfJoinedAfter libraries input X → OfJoinedAfter libraries input Y →
    ((d t : List ℕ) → X d t → Y d t → Z d t) → OfJoinedAfter libraries input Z
both_after None input X Y Z one other then = tt
both_after (Some l) None X Y Z one other then = tt
both_after (Some l) (Some told) X Y Z one other then =
    λ d t split. then (l ++ d) t (one d t split) (other d t split)

-- what is known at the split that was found holds at each split
pub of_split_after : (libraries old new : Option (List ℕ)) (defs : List ℕ) (rest : List ℕ → List ℕ)
    (X : List ℕ → List ℕ → Type 0) → AreSplitAfter libraries old new defs rest →
    IfSome new (λ left. X defs (rest left)) → OfJoinedAfter libraries old X
of_split_after None old new defs rest X split known = tt
of_split_after (Some l) None new defs rest X split known = tt
of_split_after (Some l) (Some told) None defs rest X split known = absurd split
of_split_after (Some l) (Some told) (Some left) defs rest X (found, whole, split) known =
    λ d t other.
    let same = one_split told found (rest left) d t split other in
    let all : defs ≡ l ++ d = whole ∙ ap (λ (xs : List ℕ). l ++ xs) same.0 in
    rw (← all, ← same.1) known

-- the split of the input is one after the text of libraries
pub split_after : (libraries defs text : List ℕ) (old new : Option (List ℕ)) (rest : List ℕ → List ℕ) →
    text ≡ libraries ++ defs → IfSome old (λ told. IsSomeAnd new (λ left. IsSplit told defs (rest left))) →
    AreSplitAfter (Some libraries) old new text rest
split_after libraries defs text None new rest same split = tt
split_after libraries defs text (Some told) None rest same split = absurd split
split_after libraries defs text (Some told) (Some left) rest same split = (defs, same, split)

-- definitions that are too long for what the libraries leave are too long with them
pub long_after : (libraries : List ℕ) (old new : Option (List ℕ)) (limit most : ℕ) → most ≤ length libraries + limit →
    IfSome old (λ told. IsSomeAnd new (λ left. HasLongDefinitions limit told)) →
    OfJoinedDefinitionsAfter (Some libraries) old (λ d. most < length d)
long_after libraries None new limit most room long = tt
long_after libraries (Some told) None limit most room long = absurd long
long_after libraries (Some told) (Some left) limit most room long =
    λ d t split. let more : limit < length d = long d t split in
    rw length-append (omega arith)

-- libraries that are too long are so with definitions after them
pub long_libraries : (libraries input : Option (List ℕ)) (most : ℕ) → IfSome libraries (λ l. most < length l) →
    OfJoinedDefinitionsAfter libraries input (λ d. most < length d)
long_libraries None input most long = tt
long_libraries (Some l) None most long = tt
long_libraries (Some l) (Some told) most long = λ d t split. rw length-append (omega arith)

-- reads that are few for the definitions of the input are few for those with libraries before them
pub early_after : (libraries : List ℕ) (input : Option (List ℕ)) (before after : ℕ) → IsEarly input before after →
    OfJoinedDefinitionsAfter (Some libraries) input (λ d. after ≤ before + length d + 8)
early_after libraries None before after early = tt
early_after libraries (Some told) before after early =
    λ d t split. let few : after ≤ before + length d + 8 = early d t split in
    rw length-append (omega arith)

-- what is known of the bytes of libraries that were read holds of those that the reader shows
pub found_after : {A E : Type 0} (r : Result (Option A) E) (libraries : Option (List ℕ)) (text : List ℕ)
    (X : List ℕ → Type 0) (Y : A → List ℕ → Type 0) → IfSome libraries (λ told. text ≡ told) →
    IfOk r (λ found. MatchOption found (X text) (λ f. Y f text)) →
    IfOk r (λ found. MatchOption found (IfSome libraries X) (λ f. IfSome libraries (Y f)))
found_after (Err fault) libraries text X Y same known = tt
found_after (Ok None) libraries text X Y same known = of_definitions libraries text X same known
found_after (Ok (Some found)) libraries text X Y same known = of_definitions libraries text (Y found) same known

-- a number of failed reads that no library adds to
pub none_added : (new old failed : ℕ) → 0 + new ≡ 0 + old + failed → new ≡ old + failed
none_added new old failed same = omega arith
