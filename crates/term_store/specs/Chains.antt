-- The headline does not rest on this file.
-- Chains under their numbers: the empty chain has the number 0, and the chain of the block at index k the number k + 1.
use Rattle.std.specs.Prelude.{◌≡◌, ◌<◌, ◌≤◌, ◌*◌, ◌/◌, ℕ, List, [], length, slice_index_or}
use Rattle.term_model.specs.Blocks.{front_list, list_in, lists_of}
use Rattle.term_model.specs.declared.parts.Front.TheVariants as fronts
use Rattle.term_model.specs.declared.parts.Block.{Block}

-- no two of these are the same list
abbrev pub AreApart : List (List ℕ) → Type 0
AreApart chains = (i j : ℕ) → i < length chains → j < length chains →
    slice_index_or chains i [] ≡ slice_index_or chains j [] → i ≡ j

-- as long as some blocks of three
pub record IsWhole (xs : List ℕ) : Type 0 where
  pub long : length xs ≡ 3 * (length xs / 3)

-- a block that may stand at an index: its rest is before it and is whole, and it is not empty
pub record IsBlock (blocks : List (Block ℕ)) (k : ℕ) (b : Block ℕ) : Type 0 where
  pub before : b.rest ≤ k
  pub some : 0 < length (front_list b.front)
  pub whole : IsWhole (slice_index_or (lists_of blocks) b.rest [])

abbrev pub AreBlocks : List (Block ℕ) → Type 0
AreBlocks blocks = (k : ℕ) (d : Block ℕ) → k < length blocks → IsBlock blocks k (slice_index_or blocks k d)

-- the block of a chain: what is after its front is whole, and has a lesser number but where the chain is empty
pub record IsBlockOf (chains : List (List ℕ)) (chain : ℕ) (b : Block ℕ) : Type 0 where
  pub list : slice_index_or chains chain [] ≡ list_in chains b
  pub rest : b.rest < length chains
  pub whole : IsWhole (slice_index_or chains b.rest [])
  pub falls : 0 < chain → b.rest < chain
  pub some : 0 < chain → 0 < length (front_list b.front)
  pub none : chain ≡ 0 → b ≡ record { front = fronts.Zero; rest = 0 }

-- a block of these places: what is after its front is whole, and the block of no places has the empty chain
pub record IsBlockIn (chains : List (List ℕ)) (b : Block ℕ) (places : List ℕ) : Type 0 where
  pub list : list_in chains b ≡ places
  pub rest : b.rest < length chains
  pub whole : IsWhole (slice_index_or chains b.rest [])
  pub none : length (front_list b.front) ≡ 0 → b.rest ≡ 0

-- the number of the chain of these places
pub record IsChainIn (chains : List (List ℕ)) (n : ℕ) (places : List ℕ) : Type 0 where
  pub within : n < length chains
  pub list : slice_index_or chains n [] ≡ places
