-- Quoted text, as it stands in terms and in definition files: `"` is 34 and `\` is 92.
use Rattle.std.specs.Prelude.{◌≡◌, ℕ, ◌+◌, ◌-◌, ◌*◌, true, List, [], ◌∷◌, ◌++◌, Some}
use Rattle.term_model.specs.Bytes.{is_between, is_octal, is_raw, unescaped}

-- bytes of the first kind, then bytes of the second
pub record Joined (P Q : List ℕ → Type 0) (bs : List ℕ) : Type 0 where
  pub front : List ℕ
  pub back : List ℕ
  pub bytes : bs ≡ front ++ back
  pub first : P front
  pub second : Q back

-- these bytes
abbrev pub Are : List ℕ → List ℕ → Type 0
Are token bs = bs ≡ token

-- an item of quoted text and the byte that it stands for: a raw byte, `\` and a letter, or `\` and three octal digits
-- from 000 to 377
pub data Item : ℕ → List ℕ → Type 0 where
  raw : {b : ℕ} → is_raw b ≡ true → Item b (b ∷ [])
  letter : {b c : ℕ} → unescaped c ≡ Some b → Item b (92 ∷ c ∷ [])
  octal : {b x y z : ℕ} → is_between 48 51 x ≡ true → is_octal y ≡ true → is_octal z ≡ true →
      b ≡ 8 * (8 * (x - 48) + (y - 48)) + (z - 48) → Item b (92 ∷ x ∷ y ∷ z ∷ [])

-- an item for each of the bytes
abbrev pub AreItems : List ℕ → List ℕ → Type 0
AreItems [] bs = bs ≡ []
AreItems (b ∷ text) bs = Joined (Item b) (AreItems text) bs

-- a quoted text: `"`, items, `"`
abbrev pub IsQuoted : List ℕ → List ℕ → Type 0
IsQuoted text = Joined (Are (34 ∷ [])) (Joined (AreItems text) (Are (34 ∷ [])))
