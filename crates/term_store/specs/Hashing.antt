-- The headline does not rest on this file.
-- What a stored shape feeds to a hasher: the head and the annotations, as one number unless it is an integer, and the
-- parts.
use Rattle.std.specs.Prelude.{ℕ, ◌++◌, ◌+◌, ◌*◌, ◌==◌, if◌then◌else◌, []}
use Rattle.std.specs.Int.{w64}
use Rattle.std.specs.Hash as fed
use mir.Val.{of_z as cast_unsigned}
use Rattle.term_store.specs.declared.stored.StoredShape.{StoredShape}
use Rattle.term_store.specs.declared.stored.StoredShape.TheVariants as forms
use Rattle.term_model.specs.BlockHashing.{block_writes}

-- the number of annotations that is fed after an integer, unless there are none
abbrev pub annos_writes : ℕ → fed.HashWrites
annos_writes annos = if annos == 0 then [] else fed.u32 annos

-- an integer and its annotations; otherwise the number of the symbol, or 0, and the annotations as one number, and the
-- parts
abbrev pub shape_writes : StoredShape → fed.HashWrites
shape_writes (forms.Int annos value) = fed.u64 (cast_unsigned w64 value) ++ annos_writes annos
shape_writes (forms.Applied annos parts number) = fed.u64 (number * 4_294_967_296 + annos) ++ block_writes parts
shape_writes (forms.List annos parts) = fed.u64 annos ++ block_writes parts
