-- The headline does not rest on this file.
-- What the loops along blocks keep.
use Rattle.std.specs.Prelude.{◌≡◌, ◌<◌, ◌≤◌, ◌+◌, ◌↔◌, ℕ, List, [], ◌++◌, length, take, drop, slice_index_or}
use Rattle.term_model.specs.Blocks.{list_in}
use Rattle.term_model.specs.declared.parts.Block.{Block}
use Rattle.term_store.specs.Chains.{IsBlockIn, IsWhole}
use Rattle.term_store.specs.Space.{Stand, KeepsChains}
use Rattle.term_store.specs.declared.store.StoreSpace.{StoreSpace}

-- places that do not begin with these values
pub record NotBegun (values places : List ℕ) : Type 0 where
  pub apart : (rest : List ℕ) → values ++ rest ≡ places → ⊥

-- a block has these places after this number of others
pub record IsAfter (chains : List (List ℕ)) (b : Block ℕ) (left_ : ℕ) (places : List ℕ) : Type 0 where
  pub block : IsBlockIn chains b (list_in chains b)
  pub within : left_ ≤ length (list_in chains b)
  pub list : drop left_ (list_in chains b) ≡ places

-- a stack with the chain of a number after it is the old one with these places after it, for which there is room
pub record IsPushing (chains : List (List ℕ)) (old now places : List ℕ) (room_ rest_ : ℕ) : Type 0 where
  pub rest : rest_ < length chains
  pub list : now ++ slice_index_or chains rest_ [] ≡ old ++ places
  pub room : length old + length places ≤ room_

-- a stack with the first places of a block after it is the old one with these places after it, for which there is room
pub record IsTaking (chains : List (List ℕ)) (b : Block ℕ) (old now places : List ℕ) (room_ left_ : ℕ) : Type 0 where
  pub block : IsBlockIn chains b (list_in chains b)
  pub within : left_ ≤ length (list_in chains b)
  pub list : now ++ take left_ (list_in chains b) ≡ old ++ places
  pub room : length now + left_ ≤ room_

-- the places of all are those of a block exactly where those that are left are those of a chain
pub record IsComparing (chains : List (List ℕ)) (whole places left_ : List ℕ) (rest_ : ℕ) : Type 0 where
  pub rest : rest_ < length chains
  pub same : (slice_index_or chains rest_ [] ≡ left_) ↔ (whole ≡ places)

-- a block that is built from its end: it has the places from an index on, and then others
pub record IsBuilding (old new : StoreSpace) (places others : List ℕ) (b : Block ℕ) (end_ : ℕ) : Type 0 where
  pub keeps : KeepsChains old new
  pub within : end_ ≤ length places
  pub block : IsBlockIn new.chains b (drop end_ places ++ others)
  pub stand : Stand new (drop end_ places ++ others)

-- a chain that is built from its end has the places from an index on, which are as long as some blocks of three, and
-- others are before it
pub record IsLinking (old new : StoreSpace) (places : List ℕ) (rest_ end_ : ℕ) : Type 0 where
  pub keeps : KeepsChains old new
  pub within : end_ ≤ length places
  pub some : 0 < end_
  pub rest : rest_ < length new.chains
  pub list : slice_index_or new.chains rest_ [] ≡ drop end_ places
  pub whole : IsWhole (drop end_ places)
  pub stand : Stand new (drop end_ places)
