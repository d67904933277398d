-- The headline does not rest on this file.
-- What blocks are seen as: a block is at most three values before a list that is kept under a number.
use Rattle.std.specs.Prelude.{◌≡◌, ◌<◌, ◌≤◌, ℕ, List, [], ◌∷◌, ◌++◌, drop, length, slice_get, slice_index_or, Option, Some, None}
use Rattle.std.specs.Borrow.{Bor}
use Rattle.term_model.specs.declared.parts.Front.{Front}
use Rattle.term_model.specs.declared.parts.Front.TheVariants as fronts
use Rattle.term_model.specs.declared.parts.Block.{Block}

abbrev pub front_list : {R : Type 0} → Front R → List R
front_list fronts.Zero = []
front_list (fronts.One a) = a ∷ []
front_list (fronts.Two a b) = a ∷ b ∷ []
front_list (fronts.Three a b c) = a ∷ b ∷ c ∷ []

-- the list of a block, where these are the lists under their numbers
abbrev pub list_in : {R : Type 0} → List (List R) → Block R → List R
list_in lists b = front_list b.front ++ slice_index_or lists b.rest []

-- these lists, and then those of the blocks
abbrev pub lists_from : {R : Type 0} → List (List R) → List (Block R) → List (List R)
lists_from before [] = before
lists_from before (b ∷ blocks) = lists_from (before ++ list_in before b ∷ []) blocks

-- the empty list, and then those of the blocks
abbrev pub lists_of : {R : Type 0} → List (Block R) → List (List R)
lists_of blocks = lists_from ([] ∷ []) blocks

-- the rest of each block has a lesser number than the block
abbrev pub AreLinked : {R : Type 0} → List (Block R) → Type 0
AreLinked {R} blocks = (k : ℕ) (d : Block R) → k < length blocks → (slice_index_or blocks k d).rest ≤ k

-- the list of a block, or these values where there is none
abbrev pub lent : {R : Type 0} → List R → Option (Bor (Block R)) → List (Block R) → List R
lent values None blocks = values
lent values (Some b) blocks = list_in (lists_of blocks) b.now

-- what comes from an index of the first values of a block on, or these values where there is no block
abbrev pub to_come : {R : Type 0} → List R → Option (Bor (Block R)) → ℕ → List (Block R) → List R
to_come values None i blocks = values
to_come values (Some b) i blocks = drop i (front_list b.now.front) ++ slice_index_or (lists_of blocks) b.now.rest []

-- what is at an index, or that the list is not so long
abbrev pub IsAt : {R : Type 0} → Option (Bor R) → List R → ℕ → Type 0
IsAt None xs i = length xs ≤ i
IsAt (Some r) xs i = slice_get xs i ≡ Some r.now

-- the block whose list has a number, or that the list is empty
abbrev pub IsNumbered : {R : Type 0} → Option (Bor (Block R)) → List (Block R) → ℕ → Type 0
IsNumbered None blocks n = slice_index_or (lists_of blocks) n [] ≡ []
IsNumbered (Some b) blocks n = (slice_index_or (lists_of blocks) n [] ≡ list_in (lists_of blocks) b.now) ×
    (b.now.rest < n)

-- the block with some first values that the list of a number begins with, or that the list is empty
abbrev pub BeginsWith : {R : Type 0} → Option (Bor (Block R)) → List (Block R) → ℕ → Type 0
BeginsWith None blocks n = slice_index_or (lists_of blocks) n [] ≡ []
BeginsWith (Some b) blocks n = (slice_index_or (lists_of blocks) n [] ≡ list_in (lists_of blocks) b.now) ×
    (0 < length (front_list b.now.front))
