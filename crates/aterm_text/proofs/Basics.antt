-- Small laws of tests and of tokens.
use Rattle.std.proofs.Common.{◌≡◌, ℕ, Bool, true, false, ◌||◌, List, [], ◌⊎◌, inl, inr, refl, sym}
use Rattle.aterm_text.specs.Tokens.{Token}
use Rattle.term_model.proofs.Joins.{append_nil}

pub either_or : (a b : Bool) → (a || b) ≡ true → (a ≡ true) ⊎ (b ≡ true)
either_or true b e = inl refl
either_or false b e = inr e

pub test : (b : Bool) → (b ≡ true) ⊎ (b ≡ false)
test true = inl refl
test false = inr refl

-- a token without blanks
pub token : {P : List ℕ → Type 0} (bs : List ℕ) → P bs → Token P bs
token bs p = record { front = bs; back = []; bytes = sym (append_nil bs); first = p; second = refl }
