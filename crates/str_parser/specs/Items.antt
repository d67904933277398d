-- How a phrase is written, item by item, and how tokens run along it.
use Rattle.std.specs.Prelude.{◌≡◌, ◌⊎◌, ℕ, ◌+◌, ◌≤◌, Bool, true, false, List, [], ◌∷◌}
use Rattle.str_parser.specs.Lexemes.{Lexeme, Part, build_part, first_begins}

-- A token; a placeholder for a part of this kind at this level; that no token comes next with which a build
-- begins; or that this holds of the phrase.
pub data Item : Type 0 where
  token : Lexeme → Item
  part : Part → ℕ → Item
  no_build : Item
  only : Bool → Item

-- the greatest level of a part
abbrev pub max_level : ℕ
max_level = 200

-- How tokens run along items: to the end of both, with no part beyond the greatest level; up to a part one level beyond
-- it which the next token can begin; or in one of these ways, where no level bounds what is passed on the way.
pub data Way : Type 0 where
  whole : Way
  too_deep : Way
  either : Way

abbrev pub Ends : Way → List Lexeme → Type 0
Ends whole ts = ts ≡ []
Ends too_deep ts = ⊥
Ends either ts = ts ≡ []

-- the part stands one level beyond the greatest, and the first of the tokens can begin it
abbrev pub IsBeyond : Part → ℕ → List Lexeme → Type 0
IsBeyond p level ts = (level ≡ max_level + 1) × (first_begins p ts ≡ true)

-- what is asked where a part comes next, and this of what comes after it
abbrev pub Passes : Way → Part → ℕ → List Lexeme → Type 0 → Type 0
Passes whole p level ts Behind = (level ≤ max_level) × Behind
Passes too_deep p level ts Behind = IsBeyond p level ts ⊎ Behind
Passes either p level ts Behind = IsBeyond p level ts ⊎ Behind

abbrev pub Runs : Way → List Item → List Lexeme → Type 0
Runs way [] ts = Ends way ts
Runs way (token u ∷ is) [] = ⊥
Runs way (token u ∷ is) (t ∷ ts) = (t ≡ u) × Runs way is ts
Runs way (part p level ∷ is) ts = Passes way p level ts (Runs way is ts)
Runs way (no_build ∷ is) ts = (first_begins build_part ts ≡ false) × Runs way is ts
Runs way (only b ∷ is) ts = (b ≡ true) × Runs way is ts
