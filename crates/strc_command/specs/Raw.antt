-- The headline does not rest on this file.
-- What `--raw` writes for a line.
use Rattle.std.specs.Prelude.{◌≡◌, ◌⊎◌, ℕ, List, [], ◌∷◌, Option, Some, None}
use Rattle.std.specs.declared.vec.Vec.{Vec}
use Rattle.std.specs.declared.alloc.Global.{Global}
use Rattle.term_model.specs.QuotedText.{Joined, Are, IsQuoted}

-- the line is a quoted text, of these bytes, and a line feed
abbrev pub IsQuotedLine : List ℕ → List ℕ → Type 0
IsQuotedLine bytes line = Joined (IsQuoted bytes) (Are (10 ∷ [])) line

abbrev pub IsNoQuotedLine : List ℕ → Type 0
IsNoQuotedLine line = (bytes : List ℕ) → IsQuotedLine bytes line → ⊥

-- the bytes of a line that is a quoted text, and each other line as it is
abbrev pub IsRaw : List ℕ → List ℕ → Type 0
IsRaw line bytes = IsQuotedLine bytes line ⊎ (IsNoQuotedLine line × (bytes ≡ line))

-- the bytes of the line, or nothing where it is no quoted text
abbrev pub IsUnquoted : List ℕ → Option (Vec ℕ Global) → Type 0
IsUnquoted line (Some bytes) = IsQuotedLine bytes.items line
IsUnquoted line None = IsNoQuotedLine line
