-- The headline does not rest on this file.
-- The joined form: definitions, a line that is `#term`, and the text of a term.
use Rattle.std.specs.Prelude.{◌≡◌, ℕ, ◌+◌, ◌≤◌, ◌⊎◌, List, [], ◌∷◌, ◌++◌, length, codes, Option, Result, IfOk, IfSome, if◌then◌else◌}
use Rattle.term_model.specs.declared.fault.Fault.{Fault}
use Rattle.str_pipeline.specs.Device.{Reader}
use Rattle.str_pipeline.specs.Faults.{RefusesDefinitions, is_read_fault}
use Rattle.str_pipeline.specs.Judged.{AreRefused}
use Rattle.str_pipeline.specs.Limits.{max_definitions, max_term}
use Rattle.str_pipeline.specs.Setting.{Setting}
use Rattle.str_pipeline.specs.declared.status.Status.{Status}

-- a line begins after these bytes: they are none, or end with a line feed
abbrev pub IsBeforeLine : List ℕ → Type 0
IsBeforeLine before = (before ≡ []) ⊎ ((front : List ℕ) × (before ≡ front ++ 10 ∷ []))

-- the line `#term` with what ends it: a line feed, CR and line feed, or the end of the text
pub data IsTermLine (line after : List ℕ) : Type 0 where
  by_line_feed : line ≡ codes "#term" ++ 10 ∷ [] → IsTermLine line after
  by_return : line ≡ codes "#term" ++ 13 ∷ 10 ∷ [] → IsTermLine line after
  by_end : line ≡ codes "#term" → after ≡ [] → IsTermLine line after

-- the text has the line `#term` after `before`, and `after` comes after it
pub record HasTermLine (text before line after : List ℕ) : Type 0 where
  pub whole : text ≡ before ++ (line ++ after)
  pub begins : IsBeforeLine before
  pub is_line : IsTermLine line after

-- the definitions and the term text: before and after the first such line; where there is none, all is definitions
pub data IsSplit (text : List ℕ) : List ℕ → List ℕ → Type 0 where
  parted : {defs line term : List ℕ} → HasTermLine text defs line term →
      ((before other after : List ℕ) → HasTermLine text before other after → length defs ≤ length before) →
      IsSplit text defs term
  unparted : ((before line after : List ℕ) → ¬ (HasTermLine text before line after)) → IsSplit text text []

-- this holds of the two texts into which the bytes of one reader split in the joined form, if it shows them
abbrev pub OfJoined : Option (List ℕ) → (List ℕ → List ℕ → Type 0) → Type 0
OfJoined input holds = IfSome input (λ told. (d t : List ℕ) → IsSplit told d t → holds d t)

-- this holds of the definitions among them
abbrev pub OfJoinedDefinitions : Option (List ℕ) → (List ℕ → Type 0) → Type 0
OfJoinedDefinitions input holds = OfJoined input (λ d t. holds d)

-- this holds of the definitions and the term text of the joined form after the text of libraries, if both are shown
abbrev pub OfJoinedAfter : Option (List ℕ) → Option (List ℕ) → (List ℕ → List ℕ → Type 0) → Type 0
OfJoinedAfter libraries input holds = IfSome libraries (λ l. OfJoined input (λ d t. holds (l ++ d) t))

-- this holds of the definitions among them
abbrev pub OfJoinedDefinitionsAfter : Option (List ℕ) → Option (List ℕ) → (List ℕ → Type 0) → Type 0
OfJoinedDefinitionsAfter libraries input holds = OfJoinedAfter libraries input (λ d t. holds d)

-- what is read of one reader in the joined form: no more than the definitions and the line if they are refused
pub record ReadsJoined {I : Type 0} (input : Reader I) (S : Setting) (old new : I) (result : Result Status Fault)
    : Type 0 where
  pub read_failed : input.failed_reads new ≡ input.failed_reads old + (if is_read_fault result then 1 else 0)
  pub bounded : input.reads new ≤ input.reads old + max_definitions + 7 + max_term + 1
  pub defs_bounded : IfOk result (λ status. RefusesDefinitions status →
      input.reads new ≤ input.reads old + max_definitions + 7)
  pub unread_told : IfSome (input.coming old) (λ told. (d t : List ℕ) → IsSplit told d t → (fault : Fault) →
      AreRefused S d fault → input.reads new ≤ input.reads old + max_definitions + 7)
  -- whatever pieces the reader gives, the definitions are judged before the term is read
  pub judged_first : OfJoinedDefinitions (input.coming old) (λ d. (fault : Fault) → AreRefused S d fault →
      input.reads new ≤ input.reads old + length d + 8)

-- the same of two readers, of the text of libraries and of the joined form after it
pub record ReadsJoinedAfter {L I : Type 0} (libraries : Reader L) (input : Reader I) (S : Setting) (before after : L)
    (old new : I) (result : Result Status Fault) : Type 0 where
  pub read_failed : libraries.failed_reads after + input.failed_reads new ≡
      libraries.failed_reads before + input.failed_reads old + (if is_read_fault result then 1 else 0)
  pub libraries_bounded : libraries.reads after ≤ libraries.reads before + max_definitions + 1
  pub bounded : input.reads new ≤ input.reads old + max_definitions + 7 + max_term + 1
  pub defs_bounded : IfOk result (λ status. RefusesDefinitions status →
      input.reads new ≤ input.reads old + max_definitions + 7)
  pub unread_told : OfJoinedDefinitionsAfter (libraries.coming before) (input.coming old) (λ d. (fault : Fault) →
      AreRefused S d fault → input.reads new ≤ input.reads old + max_definitions + 7)
  pub judged_first : OfJoinedDefinitionsAfter (libraries.coming before) (input.coming old) (λ d. (fault : Fault) →
      AreRefused S d fault → input.reads new ≤ input.reads old + length d + 8)
