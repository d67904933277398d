-- What a space's words say of a store.
use Rattle.std.proofs.Common.{◌≡◌, ℕ, zero, suc, ◌+◌, ◌<◌, ◌≤◌, nat_lt, nat_le, List, [], ◌∷◌, ◌++◌, length, map, get_or, slice_get, take, drop, append-nil, length-append, refl, sym, ◌∙◌, ap, subst, arith}
use Rattle.std.specs.Prelude.{Result, Ok, Err, IfOk, Option, Some, None, IsSome, IsTrue, ◌↔◌}
use Rattle.std.specs.declared.alloc.AllocError.{AllocError}
use Rattle.std.specs.Borrow.{Bor}
use Rattle.std.proofs.lemmas.Bool.{lt-ltb, leb-true}
use Rattle.std.proofs.lemmas.List.{map-append, length-drop}
use Rattle.std.proofs.lemmas.List.Elements.{All-take}
use Rattle.std.proofs.Math.Seq.{drop-length}
use Rattle.std.proofs.lemmas.Option.{get_or_from_slice_get}
use Rattle.term_model.specs.Blocks.{list_in, IsAt}
use Rattle.term_model.specs.Space.{GoesBack, Makes, MakesNone, Pushes, IsApplied, IsList}
use Rattle.term_model.specs.Limits.{max_weight}
use Rattle.term_model.specs.Symbol.{Symbol}
use Rattle.term_model.specs.Term.{Tree, term, trees_of, weights, Fits}
use Rattle.term_model.specs.TermParts.{head_of, parts_of, annos_of}
use Rattle.term_model.specs.declared.term.Head.{Head}
use Rattle.term_model.specs.declared.term.Head.TheVariants as heads
use Rattle.term_model.specs.declared.made.Made.{Made}
use Rattle.term_model.specs.declared.made.Made.TheVariants as made
use Rattle.term_model.specs.declared.parts.Block.{Block}
use Rattle.term_model.proofs.TermLemmas.{list_of-trees_of}
use Rattle.term_model.proofs.SpaceLemmas.{whole}
use Rattle.term_store.specs.Chains.{IsBlockIn}
use Rattle.term_store.specs.Shapes.{shape_head, shape_parts, shape_annos}
use Rattle.term_store.specs.Places.{small_count}
use Rattle.term_store.specs.Store.{head_in, MayHave}
use Rattle.term_store.specs.StoredTerms.{stored_terms}
use Rattle.term_store.specs.Space.{count, held_count, term_of, chain_at, shape_term, Stand, MayStand, IsShapeAt, IsMade, Keeps, KeepsChains, replaced}
use Rattle.term_store.specs.declared.store.StoreSpace.{StoreSpace}
use Rattle.term_store.specs.declared.stored.StoredHead.{StoredHead}
use Rattle.term_store.specs.declared.stored.StoredHead.TheVariants as stored
use Rattle.term_store.specs.declared.stored.StoredShape.{StoredShape}
use Rattle.term_store.specs.declared.stored.StoredShape.TheVariants as forms
use Rattle.term_store.proofs.MakingLemmas.{length-places}
use Rattle.term_store.proofs.PlainLemmas.{map_same}

-- the head, the parts and the annotations of a term, by its shape
pub head_at : (s : StoreSpace) (at : ℕ) (x : StoredShape) → IsShapeAt s at x →
    head_of (term_of s at) ≡ head_in s.symbols.keys (shape_head x)
head_at s at x is = ap head_of is.term

pub parts_at : (s : StoreSpace) (at : ℕ) (x : StoredShape) → IsShapeAt s at x →
    parts_of (term_of s at) ≡ map (term_of s) (list_in s.chains (shape_parts x))
parts_at s at x is = ap parts_of is.term ∙ list_of-trees_of _

pub annos_at : (s : StoreSpace) (at : ℕ) (x : StoredShape) → IsShapeAt s at x →
    annos_of (term_of s at) ≡ map (term_of s) (chain_at s (shape_annos x))
annos_at s at x is = ap annos_of is.term ∙ list_of-trees_of _

-- how many parts a term has
pub count_at : (s : StoreSpace) (at : ℕ) (x : StoredShape) → IsShapeAt s at x →
    length (list_in s.chains (shape_parts x)) ≡ length (parts_of (term_of s at))
count_at s at x is = sym (ap length (parts_at s at x is) ∙ length-places (term_of s) (list_in s.chains (shape_parts x)))

pub counted : (s : StoreSpace) (at n : ℕ) (x : StoredShape) → IsShapeAt s at x →
    n ≡ length (list_in s.chains (shape_parts x)) → n ≡ length (parts_of (term_of s at))
counted s at n x is e = e ∙ count_at s at x is

-- the shape of a list
list_head : (symbols : List Symbol) (h : StoredHead) → head_in symbols h ≡ heads.List → h ≡ stored.List
list_head symbols (stored.Int z) e = absurd (cc)
list_head symbols (stored.Symbol n) e = absurd (cc)
list_head symbols stored.List e = refl

pub list_shape : (s : StoreSpace) (at : ℕ) (x : StoredShape) → IsShapeAt s at x → head_of (term_of s at) ≡ heads.List →
    shape_head x ≡ stored.List
list_shape s at x is e = list_head s.symbols.keys (shape_head x) (sym (head_at s at x is) ∙ e)

-- a list, and the symbol over its parts
pub list_at : (s : StoreSpace) (at n : ℕ) (x : StoredShape) → IsShapeAt s at x → shape_head x ≡ stored.List →
    n ≡ length (list_in s.chains (shape_parts x)) → IsList (term_of s at) n
list_at s at n x is h e = record {
  head = head_at s at x is ∙ ap (head_in s.symbols.keys) h;
  long =
      sym (counted s at n x is e);
}

pub applied_at : (s : StoreSpace) (at n c : ℕ) (x : StoredShape) (name : Symbol) → IsShapeAt s at x →
    head_in s.symbols.keys (shape_head x) ≡ heads.App name → n ≡ length (list_in s.chains (shape_parts x)) → n ≡ c →
    IsApplied (term_of s at) name c
applied_at s at n c x name is h e same =
    record { head = head_at s at x is ∙ h; long = sym (counted s at n x is e) ∙ same }

pub length_applied : (s : StoreSpace) (at n c : ℕ) (x : StoredShape) (name : Symbol) → IsShapeAt s at x →
    n ≡ length (list_in s.chains (shape_parts x)) → IsApplied (term_of s at) name c → n ≡ c
length_applied s at n c x name is e applied = counted s at n x is e ∙ applied.long

-- the part at an index
pub there : (o : Option (Bor ℕ)) (xs : List ℕ) (i : ℕ) → IsAt o xs i → i < length xs → IsSome o
there None xs i at h = absurd (omega (arith, at, h))
there (Some r) xs i at h = refl

pub item_at : (o : Option (Bor ℕ)) (r : Bor ℕ) (xs : List ℕ) (i : ℕ) → IsAt o xs i → o ≡ Some r →
    slice_get xs i ≡ Some r.now
item_at o r xs i at e = subst (λ p. IsAt p xs i) e at

slice_get-map : (f : ℕ → Tree) (xs : List ℕ) (i x : ℕ) → slice_get xs i ≡ Some x → slice_get (map f xs) i ≡ Some (f x)
slice_get-map f [] i x e = absurd (cc)
slice_get-map f (y ∷ ys) zero x e = let same : y ≡ x = cc in ap (λ z. Some (f z)) same
slice_get-map f (y ∷ ys) (suc i) x e = slice_get-map f ys i x e

slice_get-within : (xs : List ℕ) (i x : ℕ) → slice_get xs i ≡ Some x → i < length xs
slice_get-within [] i x e = absurd (cc)
slice_get-within (y ∷ ys) zero x e = omega arith
slice_get-within (y ∷ ys) (suc i) x e = let h = slice_get-within ys i x e in omega (arith, h)

pub part_stands : (s : StoreSpace) (at i p : ℕ) (x : StoredShape) → IsShapeAt s at x →
    slice_get (list_in s.chains (shape_parts x)) i ≡ Some p → IsTrue (nat_lt p (count s))
part_stands s at i p x is e =
    let xs : List ℕ = list_in s.chains (shape_parts x) in
    let below : get_or xs i p < count s = is.may.parts i p (slice_get-within xs i p e) in
    lt-ltb p (count s) (subst (λ k. k < count s) (get_or_from_slice_get xs i p p e) below)

pub part_is : (s : StoreSpace) (at i p : ℕ) (x : StoredShape) → IsShapeAt s at x →
    slice_get (list_in s.chains (shape_parts x)) i ≡ Some p → slice_get (parts_of (term_of s at)) i ≡ Some (term_of s p)
part_is s at i p x is e = ap (λ ts. slice_get ts i) (parts_at s at x is) ∙
    slice_get-map (term_of s) (list_in s.chains (shape_parts x)) i p e

-- what was made, as a space says it
pub makes : (s : StoreSpace) (t u : Tree) (r : Result (Made ℕ) AllocError) → IfOk r (IsMade s t) → t ≡ u →
    IfOk r (Makes stored_terms s u)
makes s t u (Err e) is same = tt
makes s t u (Ok (made.Fits k)) is same = (lt-ltb k (count s) is.0, is.1 ∙ same, subst Fits same is.2)
makes s t u (Ok made.Oversize) is same = λ fits. is (subst Fits (sym same) fits)

-- where no shape is made, exactly what stood stands
pub makes_none : (old new : StoreSpace) → count new ≡ count old → MakesNone stored_terms old new
makes_none old new e =
    let one = old.small in
    let other = new.small in
    let held : held_count new ≡ held_count old = omega (arith, e, one, other) in
    record { standing = λ r. ap (nat_lt r) e; valid = λ m. ap (nat_le m) held }

-- a store goes back to where it is
pub goes_nowhere : (s : StoreSpace) (mark held : ℕ) → held ≡ held_count s → s.shapes.small ≤ count s → held ≤ mark →
    IsTrue (nat_le mark (held_count s)) → GoesBack stored_terms s mark s
goes_nowhere s mark held e some far valid =
    let small = s.small in
    let near = leb-true mark (held_count s) valid in
    let same : held_count s ≡ mark = omega (arith, e, far, near) in
    let all : count s ≡ mark + small_count = omega (arith, same, some, small) in
    record {
      was_valid = valid;
      exactly = λ r. subst (λ n. IsTrue (nat_lt r (count s)) ↔ IsTrue (nat_lt r n)) all (λ h. h, λ h. h);
      terms = λ r h. refl;
      valid = λ m h. subst (λ n. IsTrue (nat_le m n)) (sym same) h;
      known = λ n h. h;
      symbols = λ n h. refl;
    }

-- the term of a shape after chains came
pub shape_then : (old mid : StoreSpace) (x : StoredShape) (h : Head) (ps qs : List ℕ) → KeepsChains old mid →
    head_in mid.symbols.keys (shape_head x) ≡ h → list_in mid.chains (shape_parts x) ≡ ps →
    chain_at mid (shape_annos x) ≡ qs
    → shape_term mid x ≡ term h (map (term_of old) ps) (map (term_of old) qs)
shape_then old mid x h ps qs keeps eh ep eq =
    let parts : map (term_of mid) (list_in mid.chains (shape_parts x)) ≡ map (term_of old) ps =
    ap (map (term_of mid)) ep ∙ map_same (term_of mid) (term_of old) ps (λ k d within. keeps.terms _) in
    let annos_ : map (term_of mid) (chain_at mid (shape_annos x)) ≡ map (term_of old) qs =
    ap (map (term_of mid)) eq ∙ map_same (term_of mid) (term_of old) qs (λ k d within. keeps.terms _) in
    ap (λ g. term g (map (term_of mid) (list_in mid.chains (shape_parts x)))
    (map (term_of mid) (chain_at mid (shape_annos x)))) eh ∙
    (ap (λ ts. term h ts (map (term_of mid) (chain_at mid (shape_annos x)))) parts ∙
    ap (λ ts. term h (map (term_of old) ps) ts) annos_)

pub head_kept : (old mid : StoreSpace) (at : ℕ) (x : StoredShape) → KeepsChains old mid → IsShapeAt old at x →
    head_in mid.symbols.keys (shape_head x) ≡ head_of (term_of old at)
head_kept old mid at x keeps is = ap (λ symbols. head_in symbols (shape_head x)) keeps.symbols ∙
    sym (head_at old at x is)

-- the term of a head, parts and annotations after a symbol came
pub made_then : (old mid : StoreSpace) (g h : Head) (ps qs : List ℕ) → Keeps old mid → g ≡ h → Stand old ps →
    Stand old qs → term g (map (term_of mid) ps) (map (term_of mid) qs) ≡
    term h (map (term_of old) ps) (map (term_of old) qs)
made_then old mid g h ps qs keeps e hp hq =
    let parts : map (term_of mid) ps ≡ map (term_of old) ps =
    map_same (term_of mid) (term_of old) ps (λ k d within. keeps.terms _ (hp k d within)) in
    let annos_ : map (term_of mid) qs ≡ map (term_of old) qs =
    map_same (term_of mid) (term_of old) qs (λ k d within. keeps.terms _ (hq k d within)) in
    ap (λ f. term f (map (term_of mid) ps) (map (term_of mid) qs)) e ∙
    (ap (λ ts. term h ts (map (term_of mid) qs)) parts ∙ ap (λ ts. term h (map (term_of old) ps) ts) annos_)

-- a list in front of which elements were put
pub list_stands : (old mid : StoreSpace) (b : Block ℕ) (ps : List ℕ) → KeepsChains old mid → IsBlockIn mid.chains b ps →
    Stand old ps → MayStand mid (forms.List 0 b)
list_stands old mid b ps keeps block stand = record {
  head = refl;
  block = record { list = refl; rest = block.rest; whole = block.whole; none = block.none };
  parts = subst (Stand mid) (sym block.list)
      (λ k d h. subst (λ n. get_or ps k d < n) (sym (ap length keeps.shapes)) (stand k d h));
  annos = let spanned = mid.store.spanned in omega (arith, spanned);
  bare = λ is. absurd (cc);
}

pub list_term : (old mid : StoreSpace) (b : Block ℕ) (ps : List ℕ) → KeepsChains old mid → IsBlockIn mid.chains b ps →
    shape_term mid (forms.List 0 b) ≡ term heads.List (map (term_of old) ps) []
list_term old mid b ps keeps block =
    shape_then old mid (forms.List 0 b) heads.List ps [] keeps refl block.list mid.store.empty

pub both_lists : (s : StoreSpace) (at : ℕ) (x : StoredShape) (xs : List ℕ) → IsShapeAt s at x →
    map (term_of s) (xs ++ list_in s.chains (shape_parts x)) ≡ map (term_of s) xs ++ parts_of (term_of s at)
both_lists s at x xs is = map-append (term_of s) xs (list_in s.chains (shape_parts x)) ∙
    ap (λ ts. map (term_of s) xs ++ ts) (sym (parts_at s at x is))

stand-append : (s : StoreSpace) (xs ys : List ℕ) → Stand s xs → Stand s ys → Stand s (xs ++ ys)
stand-append s [] ys hx hy k d h = hy k d h
stand-append s (x ∷ xs) ys hx hy zero d h = hx 0 d (omega arith)
stand-append s (x ∷ xs) ys hx hy (suc k) d h =
    stand-append s xs ys (λ j e within. hx (suc j) e (omega (arith, within))) hy k d (omega (arith, h))

pub both_stand : (s : StoreSpace) (at : ℕ) (x : StoredShape) (xs : List ℕ) → IsShapeAt s at x → Stand s xs →
    Stand s (xs ++ list_in s.chains (shape_parts x))
both_stand s at x xs is stand = stand-append s xs (list_in s.chains (shape_parts x)) stand is.may.parts

-- the elements after the first ones
pub drop_stands : (s : StoreSpace) (n : ℕ) (xs : List ℕ) → Stand s xs → Stand s (drop n xs)
drop_stands s zero xs hx = hx
drop_stands s (suc n) [] hx = hx
drop_stands s (suc n) (x ∷ xs) hx = drop_stands s n xs (λ k d h. hx (suc k) d (omega (arith, h)))

map-drop : (f : ℕ → Tree) (n : ℕ) (xs : List ℕ) → map f (drop n xs) ≡ drop n (map f xs)
map-drop f zero xs = refl
map-drop f (suc n) [] = refl
map-drop f (suc n) (x ∷ xs) = map-drop f n xs

pub dropped : (s : StoreSpace) (at n : ℕ) (x : StoredShape) → IsShapeAt s at x →
    map (term_of s) (drop n (list_in s.chains (shape_parts x))) ≡ drop n (parts_of (term_of s at))
dropped s at n x is = map-drop (term_of s) n (list_in s.chains (shape_parts x)) ∙ ap (drop n) (sym (parts_at s at x is))

-- values in place of the first parts
pub replaced_stand : (s : StoreSpace) (at : ℕ) (x : StoredShape) (xs : List ℕ) → IsShapeAt s at x → Stand s xs →
    Stand s (replaced xs (list_in s.chains (shape_parts x)))
replaced_stand s at x xs is stand = stand-append s xs (drop (length xs) (list_in s.chains (shape_parts x))) stand
    (drop_stands s (length xs) (list_in s.chains (shape_parts x)) is.may.parts)

pub replaced_terms : (s : StoreSpace) (at : ℕ) (x : StoredShape) (xs : List ℕ) → IsShapeAt s at x →
    map (term_of s) (replaced xs (list_in s.chains (shape_parts x))) ≡
    map (term_of s) xs ++ drop (length xs) (parts_of (term_of s at))
replaced_terms s at x xs is =
    map-append (term_of s) xs (drop (length xs) (list_in s.chains (shape_parts x))) ∙
    ap (λ ts. map (term_of s) xs ++ ts) (dropped s at (length xs) x is)

pub bare_replaced : (h : StoredHead) (xs ys : List ℕ) → MayHave h ys → length xs ≤ length ys →
    MayHave h (replaced xs ys)
bare_replaced h xs ys bare few is =
    let none = bare is in
    let long = length-append xs (drop (length xs) ys) in
    let rest = length-drop (length xs) ys in
    omega (arith, none, few, long, rest)

-- all of a term's own parts in place of its first ones
pub own_parts : (t : Tree) (us : List Tree) (n : ℕ) → us ≡ parts_of t → n ≡ length us →
    term (head_of t) (us ++ drop n (parts_of t)) (annos_of t) ≡ t
own_parts t us n own many =
    let nothing : drop n (parts_of t) ≡ [] =
    ap (λ k. drop k (parts_of t)) (many ∙ ap length own) ∙ drop-length (parts_of t) in
    ap (λ ts. term (head_of t) (us ++ ts) (annos_of t)) nothing ∙
    (ap (λ ts. term (head_of t) ts (annos_of t)) (append-nil us ∙ own) ∙ whole t)

-- parts that are too heavy together
pub heavy_parts : (h : Head) (ts us annos_ : List Tree) → max_weight < weights (trees_of ts) → ts ≡ us →
    Fits (term h us annos_) → ⊥
heavy_parts h ts us annos_ heavy same fits =
    let light = fits.weight in
    let there : max_weight < weights (trees_of us) = subst (λ vs. max_weight < weights (trees_of vs)) same heavy in
    omega (arith, light, there)

-- some of a term's parts are put on a stack
map-take : (f : ℕ → Tree) (n : ℕ) (xs : List ℕ) → map f (take n xs) ≡ take n (map f xs)
map-take f zero xs = refl
map-take f (suc n) [] = refl
map-take f (suc n) (x ∷ xs) = ap (λ ts. f x ∷ ts) (map-take f n xs)

pub some_pushed : (s : StoreSpace) (at from n : ℕ) (x : StoredShape) (b : Block ℕ) (old new : List ℕ) →
    IsShapeAt s at x → IsBlockIn s.chains b (drop from (list_in s.chains (shape_parts x))) →
    new ≡ old ++ take n (list_in s.chains b) →
    Pushes stored_terms s (take n (drop from (parts_of (term_of s at)))) old new
some_pushed s at from n x b old new is block put =
    let xs = drop from (list_in s.chains (shape_parts x)) in
    let stand : Stand s (take n xs) =
    All-take (λ i. i < count s) n xs (drop_stands s from (list_in s.chains (shape_parts x)) is.may.parts) in
    record {
      pushed = take n xs;
      after = put ∙ ap (λ ys. old ++ take n ys) block.list;
      standing = λ k d h. lt-ltb _ _ (stand k d h);
      are = map-take (term_of s) n xs ∙ ap (take n) (dropped s at from x is);
    }

pub keeps_all : (s : StoreSpace) → KeepsChains s s
keeps_all s = record {
  symbols = refl;
  named = refl;
  shapes = refl;
  more = omega arith;
  chains = λ j h. refl;
  terms =
      λ k. refl;
}

-- elements that are too heavy together
pub heavy_list : (ts us : List Tree) → max_weight < weights (trees_of ts) → ts ≡ us → Fits (term heads.List us []) → ⊥
heavy_list ts us heavy same fits =
    let light = fits.weight in
    let there : max_weight < weights (trees_of us) = subst (λ vs. max_weight < weights (trees_of vs)) same heavy in
    omega (arith, light, there)

pub ruleset reading = (head_at, parts_at, annos_at, count_at, counted, list_at, there, item_at, part_stands, part_is)

pub ruleset making = (head_at, parts_at, annos_at)

pub ruleset marking = (head_at)
