-- The headline does not rest on this file.
-- How far the search for the line `#term` has come in a text of which only the front is known.
use Rattle.std.specs.Prelude.{◌≡◌, ℕ, ◌+◌, ◌<◌, ◌≤◌, Bool, true, false, List, [], ◌++◌, length, take, drop, Option, IfSome, IsSomeAnd}
use Rattle.str_pipeline.specs.Joined.{IsBeforeLine, IsTermLine, HasTermLine, IsSplit, OfJoinedDefinitions}
use Rattle.str_pipeline.specs.declared.joined.LineKind.{LineKind}
use Rattle.str_pipeline.specs.declared.joined.LineKind.TheVariants.{Term, Other, Unknown}
use Rattle.str_pipeline.specs.declared.joined.Search.{Search}
use Rattle.str_pipeline.specs.declared.joined.Search.TheVariants.{AtLine, InLine}
use Rattle.str_pipeline.specs.declared.joined.front.JoinedFront.{JoinedFront}
use Rattle.str_pipeline.specs.declared.joined.Step.{Step}
use Rattle.str_pipeline.specs.declared.joined.Step.TheVariants.{Found, TooLong, More}

-- whether these bytes may come after those that are known
abbrev pub CanFollow : Bool → List ℕ → Type 0
CanFollow true more = more ≡ []
CanFollow false more = Unit {0}

-- what the line is that begins with these bytes, whatever follows them
abbrev pub IsKind : Bool → List ℕ → LineKind → Type 0
IsKind is_end known (Term n) = (n ≤ length known) ×
    ((more : List ℕ) → CanFollow is_end more → IsTermLine (take n known) (drop n known ++ more))
IsKind is_end known Other = (more line after : List ℕ) → CanFollow is_end more → known ++ more ≡ line ++ after →
    ¬ (IsTermLine line after)
IsKind is_end known Unknown = (is_end ≡ false) × (length known < 7)

-- no such line begins before place n, whatever follows
pub record IsClear (is_end : Bool) (known : List ℕ) (n : ℕ) : Type 0 where
  pub clear : (more before line after : List ℕ) → CanFollow is_end more →
      HasTermLine (known ++ more) before line after → n ≤ length before

abbrev pub IsSearched : Bool → List ℕ → Search → Type 0
IsSearched is_end known (AtLine n) = (n ≤ length known) × IsBeforeLine (take n known) × IsClear is_end known n
IsSearched is_end known (InLine n) = (n ≤ length known) × IsClear is_end known (n + 1)

-- little of what is known is left to be searched
abbrev pub IsNear : List ℕ → Search → Type 0
IsNear known (AtLine n) = length known < n + 7
IsNear known (InLine n) = length known ≤ n

-- the definitions end at one place, and the term text begins at the other
pub record IsFound (is_end : Bool) (known : List ℕ) (defs term : ℕ) : Type 0 where
  pub defs_within : defs ≤ length known
  pub term_within : term ≤ length known
  pub split : (more : List ℕ) → CanFollow is_end more →
      IsSplit (known ++ more) (take defs known) (drop term known ++ more)

abbrev pub IsStep : Bool → ℕ → List ℕ → Step → Type 0
IsStep is_end limit known (Found defs term) = (defs ≤ limit) × IsFound is_end known defs term
IsStep is_end limit known TooLong = (limit < length known) × IsClear is_end known (limit + 1)
IsStep is_end limit known (More search) = (is_end ≡ false) × (length known ≤ limit + 6) × IsSearched is_end known search
    × IsNear known search

abbrev pub definitions_of : JoinedFront → List ℕ
definitions_of front = take front.definitions front.bytes.items

-- the text of the term, where this is still to come
abbrev pub term_of : JoinedFront → List ℕ → List ℕ
term_of front left = drop front.term front.bytes.items ++ left

-- at most so many reads were made as the definitions have bytes, and eight more, if the bytes were shown
abbrev pub IsEarly : Option (List ℕ) → (before after : ℕ) → Type 0
IsEarly told before after = OfJoinedDefinitions told (λ d. after ≤ before + length d + 8)

-- these are the definitions of the joined form after the text of libraries, and the text of its term, by what is left
-- of the input, if both are shown
abbrev pub AreSplitAfter : (libraries input left : Option (List ℕ)) → List ℕ → (List ℕ → List ℕ) → Type 0
AreSplitAfter libraries input left defs rest = IfSome libraries (λ l. IfSome input (λ told. IsSomeAnd left (λ more.
    (d : List ℕ) × (defs ≡ l ++ d) × IsSplit told d (rest more))))

-- each split of the text has more bytes of definitions
abbrev pub HasLongDefinitions : ℕ → List ℕ → Type 0
HasLongDefinitions limit text = (defs term : List ℕ) → IsSplit text defs term → limit < length defs
