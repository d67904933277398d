-- The headline does not rest on this file.
-- How heavy and deep a shape is without its annotations.
use Rattle.std.specs.Prelude.{map}
use Rattle.term_model.specs.Blocks.{list_in}
use Rattle.term_store.specs.Shapes.{shape_head, shape_parts}
use Rattle.term_store.specs.Store.{head_in, IsBare}
use Rattle.term_store.specs.Space.{term_of}
use Rattle.term_store.specs.declared.sizes.Size.{Size}
use Rattle.term_store.specs.declared.store.StoreSpace.{StoreSpace}
use Rattle.term_store.specs.declared.stored.StoredShape.{StoredShape}

-- the size of the head and the parts of a shape together
abbrev pub IsBareOf : StoreSpace → StoredShape → Size → Type 0
IsBareOf s x z = IsBare (head_in s.symbols.keys (shape_head x)) (map (term_of s) (list_in s.chains (shape_parts x)))
    z.weight z.depth
