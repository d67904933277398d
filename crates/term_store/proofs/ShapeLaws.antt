-- The shape at a place.
use Rattle.std.proofs.Common.{◌≡◌, ℕ, ◌<◌, [], map, get_or, refl, subst, ap, ◌∙◌, arith}
use Rattle.std.specs.Prelude.{ℤ, nat_lt, true}
use Rattle.std.proofs.lemmas.Bool.{ltb-true}
use Rattle.term_model.specs.Term.{term}
use Rattle.term_model.specs.declared.term.Head.TheVariants as heads
use Rattle.term_store.specs.Places.{HasInteger, IsPlaced}
use Rattle.term_store.specs.declared.stored.StoredShape.TheVariants as forms
use Rattle.term_store.specs.Store.{IsEntry}
use Rattle.term_store.specs.Space.{count, term_of, IsShapeAt}
use Rattle.term_store.specs.declared.store.StoreSpace.{StoreSpace}
use Rattle.term_store.specs.declared.stored.StoredShape.{StoredShape}
use Rattle.term_store.specs.declared.stored.Extent.{Extent}
use Rattle.term_store.proofs.StoreLemmas.{held_at, none_extent}

-- the term of an integer without annotations
pub integer_term : (s : StoreSpace) (at : ℕ) (z : ℤ) → at < count s → IsPlaced s.shapes at (forms.Int 0 z) →
    term_of s at ≡ term (heads.Int z) [] []
integer_term s at z within is =
    held_at s.symbols.keys s.chains s.shapes.keys s.extents.items s.spans.items at (forms.Int 0 z)
    s.store within (is (forms.Int 0 z))
    ∙ ap (λ xs. term (heads.Int z) (map (term_of s) xs) (map (term_of s) xs)) s.store.empty

-- the same of a place that stands
pub integer_standing : (s : StoreSpace) (at : ℕ) → nat_lt at (count s) ≡ true → (is : HasInteger s.shapes at) →
    term_of s at ≡ term (heads.Int is.0) [] []
integer_standing s at stands is = integer_term s at is.0 (ltb-true at (count s) stands) is.1

pub shape_is : (s : StoreSpace) (at : ℕ) (x : StoredShape) → at < count s → get_or s.shapes.keys at x ≡ x →
    IsShapeAt s at x
shape_is s at x within is =
    let e : Extent = get_or s.extents.items at none_extent in
    let entry : IsEntry s.symbols.keys s.chains s.shapes.keys at x e =
    subst (λ (y : StoredShape). IsEntry s.symbols.keys s.chains s.shapes.keys at y e)
    is (s.store.entries at x none_extent within) in
    let shape = entry.shape in
    let rest = shape.rest in
    let annos_ = shape.annos in
    let last = entry.last in
    record {
      may = record {
        head = shape.head;
        block = record { list = refl; rest = omega (arith, rest, last); whole = shape.whole; none = shape.none };
        parts = λ k d h. let below = shape.places.parts k d h in omega (arith, below, within);
        annos = omega (arith, annos_, last);
        bare = shape.bare;
      };
      parts = shape.places.parts;
      annos = shape.places.annos;
      term = held_at s.symbols.keys s.chains s.shapes.keys s.extents.items s.spans.items at x s.store within is;
      fits = entry.size.fits;
    }
