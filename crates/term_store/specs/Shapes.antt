-- The headline does not rest on this file.
-- The head, the block of the parts and the chain of the annotations of a shape.
use Rattle.std.specs.Prelude.{ℕ}
use Rattle.term_model.specs.declared.parts.Front.TheVariants as fronts
use Rattle.term_model.specs.declared.parts.Block.{Block}
use Rattle.term_store.specs.declared.stored.StoredHead.{StoredHead}
use Rattle.term_store.specs.declared.stored.StoredHead.TheVariants as stored
use Rattle.term_store.specs.declared.stored.StoredShape.{StoredShape}
use Rattle.term_store.specs.declared.stored.StoredShape.TheVariants as forms

-- the block of no places
abbrev pub empty_block : Block ℕ
empty_block = record { front = fronts.Zero; rest = 0 }

abbrev pub shape_head : StoredShape → StoredHead
shape_head (forms.Int annos value) = stored.Int value
shape_head (forms.Applied annos parts number) = stored.Symbol number
shape_head (forms.List annos parts) = stored.List

-- an integer has no parts
abbrev pub shape_parts : StoredShape → Block ℕ
shape_parts (forms.Int annos value) = empty_block
shape_parts (forms.Applied annos parts number) = parts
shape_parts (forms.List annos parts) = parts

abbrev pub shape_annos : StoredShape → ℕ
shape_annos (forms.Int annos value) = annos
shape_annos (forms.Applied annos parts number) = annos
shape_annos (forms.List annos parts) = annos

-- the shape of a head, which takes no parts if it is an integer
abbrev pub shape_of : StoredHead → Block ℕ → ℕ → StoredShape
shape_of (stored.Int value) parts annos = forms.Int annos value
shape_of (stored.Symbol number) parts annos = forms.Applied annos parts number
shape_of stored.List parts annos = forms.List annos parts
