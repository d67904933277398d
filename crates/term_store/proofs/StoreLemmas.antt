-- The terms that a store holds.
use Rattle.std.proofs.Common.{rules, Bool, true, false, if◌then◌else◌, ◌≡◌, ℕ, zero, suc, ◌+◌, ◌<◌, ◌≤◌, List, [], ◌∷◌, ◌++◌, length, map, get_or, refl, sym, ◌∙◌, ap, subst, All, arith, length-append, ◌⊎◌, inl, inr}
use Rattle.std.proofs.lemmas.Grind.{common_steps}
use Rattle.std.proofs.lemmas.List.{map-append, get_or-map}
use Rattle.std.proofs.Math.Seq.{get_or-append_seam}
use Rattle.std.proofs.lemmas.Bool.{ltb-true}
use Rattle.term_model.specs.declared.term.Head.{Head}
use Rattle.term_model.specs.Symbol.{Symbol, Tuple}
use Rattle.term_model.specs.Term.{Tree, term, trees_of, weights, depths, head_weight}
use Rattle.term_model.specs.Limits.{max_weight, max_depth}
use Rattle.std.specs.Prelude.{min, max}
use Rattle.term_store.specs.Chains.{AreApart, IsWhole}
use Rattle.term_model.specs.Blocks.{front_list, list_in}
use Rattle.term_store.specs.Plain.{Plain, term_at, IsPlain, ArePlain}
use Rattle.term_store.specs.Shapes.{empty_block, shape_head, shape_parts, shape_annos}
use Rattle.term_store.specs.Store.{AreDistinct, head_in, plain, plains, held, IsAmong, IsShape, IsSize, IsSum, IsEntry, IsStore}
use Rattle.term_model.specs.declared.parts.Front.{Front}
use Rattle.term_model.specs.declared.parts.Front.TheVariants as fronts
use Rattle.term_model.specs.declared.parts.Block.{Block}
use Rattle.term_store.specs.declared.stored.StoredHead.{StoredHead}
use Rattle.term_store.specs.declared.stored.StoredHead.TheVariants as stored
use Rattle.term_store.specs.contracts.stored.StoredShapePartialEq.TheImpl as comparison
use Rattle.term_store.specs.declared.stored.StoredShape.{StoredShape}
use Rattle.term_store.specs.declared.stored.StoredShape.TheVariants as forms
use Rattle.term_store.specs.declared.stored.Extent.{Extent}
use Rattle.term_store.specs.declared.stored.Span.{Span}
use Rattle.term_store.proofs.ChainLemmas.{front_same, some_list}
use Rattle.term_store.proofs.PlainLemmas.{one_place, map_same, term_at-append, term_at_unfolds}

-- a front is empty or not
sized : (f : Front ℕ) → (length (front_list f) ≡ 0) ⊎ (0 < length (front_list f))
sized fronts.Zero = inl refl
sized (fronts.One a) = inr (omega arith)
sized (fronts.Two a b) = inr (omega arith)
sized (fronts.Three a b c) = inr (omega arith)

is_zero : (f : Front ℕ) → length (front_list f) ≡ 0 → f ≡ fronts.Zero
is_zero fronts.Zero e = refl
is_zero (fronts.One a) e = absurd (omega (arith, e))
is_zero (fronts.Two a b) e = absurd (omega (arith, e))
is_zero (fronts.Three a b c) e = absurd (omega (arith, e))

-- two blocks whose lists are the same
pub block_same : (chains : List (List ℕ)) (b c : Block ℕ) → AreApart chains → get_or chains 0 [] ≡ [] →
    b.rest < length chains → c.rest < length chains
    → IsWhole (get_or chains b.rest []) → IsWhole (get_or chains c.rest []) →
    (length (front_list b.front) ≡ 0 → b.rest ≡ 0) → (length (front_list c.front) ≡ 0 → c.rest ≡ 0)
    → list_in chains b ≡ list_in chains c → b ≡ c
block_same chains b c apart empty hb hc wb wc nb nc e = by (sized b.front) (sized c.front)
  where
    none : (x : Block ℕ) → length (front_list x.front) ≡ 0 → x.rest ≡ 0 → list_in chains x ≡ []
    none x z r = let f : x.front ≡ fronts.Zero = is_zero x.front z in rw f (ap (λ n. get_or chains n []) r ∙ empty)

    by : (length (front_list b.front) ≡ 0) ⊎ (0 < length (front_list b.front)) →
        (length (front_list c.front) ≡ 0) ⊎ (0 < length (front_list c.front)) → b ≡ c
    by (inl zb) (inl zc) =
        let f : b.front ≡ c.front = is_zero b.front zb ∙ sym (is_zero c.front zc) in
        let r : b.rest ≡ c.rest = nb zb ∙ sym (nc zc) in
        λ w. record { front = f w; rest = r w }
    by (inl zb) (inr sc) = absurd (some_list c.front _ sc (sym e ∙ none b zb (nb zb)))
    by (inr sb) (inl zc) = absurd (some_list b.front _ sb (e ∙ none c zc (nc zc)))
    by (inr sb) (inr sc) =
        let both = front_same b.front c.front _ _ wb wc sb sc e in
        let r : b.rest ≡ c.rest = apart b.rest c.rest hb hc both.1 in
        λ w. record { front = both.0 w; rest = r w }

-- two heads that are the same
pub head_same : (symbols : List Symbol) (a b : StoredHead) → AreDistinct symbols → IsAmong (length symbols) a →
    IsAmong (length symbols) b → head_in symbols a ≡ head_in symbols b → a ≡ b
head_same symbols (stored.Int z) (stored.Int w) distinct ia ib e = cc
head_same symbols (stored.Int z) (stored.Symbol n) distinct ia ib e = cc
head_same symbols (stored.Int z) stored.List distinct ia ib e = cc
head_same symbols (stored.Symbol m) (stored.Int w) distinct ia ib e = cc
head_same symbols (stored.Symbol m) (stored.Symbol n) distinct ia ib e =
    let same : get_or symbols m Tuple ≡ get_or symbols n Tuple = cc in
    ap stored.Symbol (distinct Tuple m n (ltb-true m _ ia) (ltb-true n _ ib) same)
head_same symbols (stored.Symbol m) stored.List distinct ia ib e = cc
head_same symbols stored.List (stored.Int w) distinct ia ib e = cc
head_same symbols stored.List (stored.Symbol n) distinct ia ib e = cc
head_same symbols stored.List stored.List distinct ia ib e = refl

-- two shapes with the same head, block and chain
shape_same : (s t : StoredShape) → shape_head s ≡ shape_head t → shape_parts s ≡ shape_parts t →
    shape_annos s ≡ shape_annos t → s ≡ t
shape_same (forms.Int a z) (forms.Int b w) h p e = cc
shape_same (forms.Int a z) (forms.Applied b c n) h p e = cc
shape_same (forms.Int a z) (forms.List b c) h p e = cc
shape_same (forms.Applied a d m) (forms.Int b w) h p e = cc
shape_same (forms.Applied a d m) (forms.Applied b c n) h p e = let same : m ≡ n = cc in
    λ i. forms.Applied (e i) (p i) (same i)
shape_same (forms.Applied a d m) (forms.List b c) h p e = cc
shape_same (forms.List a d) (forms.Int b w) h p e = cc
shape_same (forms.List a d) (forms.Applied b c n) h p e = cc
shape_same (forms.List a d) (forms.List b c) h p e = λ i. forms.List (e i) (p i)

-- two shapes that the comparison finds the same are so
pub shape_equal : (s t : StoredShape) → (comparison.ghosts).eq s t ≡ true → s ≡ t
shape_equal (forms.Int a z) (forms.Int b w) e = search rules
shape_equal (forms.Int a z) (forms.Applied b c n) e = cc
shape_equal (forms.Int a z) (forms.List b c) e = cc
shape_equal (forms.Applied a d m) (forms.Int b w) e = cc
shape_equal (forms.Applied a d m) (forms.Applied b c n) e = search rules
shape_equal (forms.Applied a d m) (forms.List b c) e = cc
shape_equal (forms.List a d) (forms.Int b w) e = cc
shape_equal (forms.List a d) (forms.Applied b c n) e = cc
shape_equal (forms.List a d) (forms.List b c) e = search rules

-- two shapes that are plainly the same
pub plain_same : (symbols : List Symbol) (chains : List (List ℕ)) (k l last last2 : ℕ) (s t : StoredShape) →
    AreDistinct symbols → AreApart chains → get_or chains 0 [] ≡ []
    → last < length chains → last2 < length chains → IsShape symbols chains k last s →
    IsShape symbols chains l last2 t → plain symbols chains s ≡ plain symbols chains t → s ≡ t
plain_same symbols chains k l last last2 s t distinct apart empty hl hl2 is it e =
    let rs : (shape_parts s).rest ≤ last = is.rest in
    let rt : (shape_parts t).rest ≤ last2 = it.rest in
    let as_ : shape_annos s ≤ last = is.annos in
    let at_ : shape_annos t ≤ last2 = it.annos in
    let heads_ : shape_head s ≡ shape_head t =
    head_same symbols (shape_head s) (shape_head t) distinct is.head it.head (ap (λ (p : Plain). p.head) e) in
    let parts : shape_parts s ≡ shape_parts t =
    block_same chains (shape_parts s) (shape_parts t) apart empty (omega arith) (omega arith)
    is.whole it.whole is.none it.none (ap (λ (p : Plain). p.parts) e) in
    let annos_ : shape_annos s ≡ shape_annos t =
    apart (shape_annos s) (shape_annos t) (omega arith) (omega arith) (ap (λ (p : Plain). p.annos) e) in
    shape_same s t heads_ parts annos_

pub none_shape : StoredShape
none_shape = forms.List 0 empty_block

pub none_extent : Extent
none_extent = record { weight = 0; depth = 0; chains = 0; symbols = 0 }

pub length-plains : (symbols : List Symbol) (chains : List (List ℕ)) (shapes : List StoredShape) →
    length (plains symbols chains shapes) ≡ length shapes
length-plains symbols chains shapes = grind (arith, common_steps)

pub are_plain : (symbols : List Symbol) (chains : List (List ℕ)) (shapes : List StoredShape) (extents : List Extent)
    (spans : List Span) → IsStore symbols chains shapes extents spans → ArePlain (plains symbols chains shapes)
are_plain symbols chains shapes extents spans store k d h =
    let within : k < length shapes = subst (λ n. k < n) (length-plains symbols chains shapes) h in
    let is = store.entries k none_shape none_extent within in
    subst (IsPlain k) (sym (get_or-map (plain symbols chains) shapes k none_shape d within)) is.shape.places

-- terms that are equal stand at one place
pub one_store : (symbols : List Symbol) (chains : List (List ℕ)) (shapes : List StoredShape) (extents : List Extent)
    (spans : List Span) → IsStore symbols chains shapes extents spans
    → AreDistinct symbols → AreApart chains → AreDistinct shapes → (i j : ℕ) → i < length shapes → j < length shapes
    → held symbols chains shapes i ≡ held symbols chains shapes j → i ≡ j
one_store symbols chains shapes extents spans store ds dc dk i j hi hj e =
    let long = length-plains symbols chains shapes in
    let none : Plain = plain symbols chains none_shape in
    let distinct : (a b : ℕ) → a < length (plains symbols chains shapes) → b < length (plains symbols chains shapes) →
    get_or (plains symbols chains shapes) a none ≡ get_or (plains symbols chains shapes) b none → a ≡ b =
    λ a b ha hb at.
    let wa : a < length shapes = omega arith in
    let wb : b < length shapes = omega arith in
    let ia = store.entries a none_shape none_extent wa in
    let ib = store.entries b none_shape none_extent wb in
    let same = sym (get_or-map (plain symbols chains) shapes a none_shape none wa) ∙
    (at ∙ get_or-map (plain symbols chains) shapes b none_shape none wb) in
    dk none_shape a b wa wb (plain_same symbols chains a b _ _ _ _ ds dc store.empty ia.last ib.last ia.shape ib.shape
    same) in
    one_place (plains symbols chains shapes) (i + 1) i j none (are_plain symbols chains shapes extents spans store)
    distinct (omega arith) (omega arith) (omega arith) e

-- the terms stay when shapes come after
pub held_kept : (symbols : List Symbol) (chains : List (List ℕ)) (shapes others : List StoredShape) (i : ℕ) →
    i < length shapes → held symbols chains (shapes ++ others) i ≡ held symbols chains shapes i
held_kept symbols chains shapes others i h =
    rw (map-append (plain symbols chains) shapes others)
    (term_at-append (plains symbols chains shapes) (plains symbols chains others)
    i (rw (length-plains symbols chains shapes) h))

pub push_at : {X : Type 0} (xs : List X) (x : X) (k : ℕ) → k < length (xs ++ x ∷ []) →
    ((k < length xs) × ((d : X) → get_or (xs ++ x ∷ []) k d ≡ get_or xs k d)) ⊎
    ((k ≡ length xs) × ((d : X) → get_or (xs ++ x ∷ []) k d ≡ x))
push_at [] x zero h = inr (refl, λ d. refl)
push_at [] x (suc k) h = absurd (omega arith)
push_at (y ∷ xs) x zero h = inl (omega arith, λ d. refl)
push_at {X = X} (y ∷ xs) x (suc k) h = up (push_at xs x k (omega arith))
  where
    up : ((k < length xs) × ((d : X) → get_or (xs ++ x ∷ []) k d ≡ get_or xs k d)) ⊎
        ((k ≡ length xs) × ((d : X) → get_or (xs ++ x ∷ []) k d ≡ x))
        → ((suc k < length (y ∷ xs)) × ((d : X) → get_or (xs ++ x ∷ []) k d ≡ get_or xs k d)) ⊎
        ((suc k ≡ length (y ∷ xs)) × ((d : X) → get_or (xs ++ x ∷ []) k d ≡ x))
    up (inl f) = let g = f.0 in inl (omega arith, f.1)
    up (inr f) = let g = f.0 in inr (omega arith, f.1)

-- plain shapes with one more
plain_pushed : (ps : List Plain) (p : Plain) → ArePlain ps → IsPlain (length ps) p → ArePlain (ps ++ p ∷ [])
plain_pushed ps p are is k d h = by (push_at ps p k h)
  where
    by : ((k < length ps) × ((d : Plain) → get_or (ps ++ p ∷ []) k d ≡ get_or ps k d)) ⊎
        ((k ≡ length ps) × ((d : Plain) → get_or (ps ++ p ∷ []) k d ≡ p)) → IsPlain k (get_or (ps ++ p ∷ []) k d)
    by (inl f) = subst (IsPlain k) (sym (f.1 d)) (are k d f.0)
    by (inr f) = subst (IsPlain k) (sym (f.1 d)) (subst (λ n. IsPlain n p) (sym f.0) is)

-- the term of a shape that is put last
pub held_new : (symbols : List Symbol) (chains : List (List ℕ)) (shapes : List StoredShape) (extents : List Extent)
    (spans : List Span) (last : ℕ) (s : StoredShape) → IsStore symbols chains shapes extents spans →
    IsShape symbols chains (length shapes) last s
    → held symbols chains (shapes ++ s ∷ []) (length shapes) ≡
    term (head_in symbols (shape_head s)) (map (held symbols chains shapes) (list_in chains (shape_parts s)))
    (map (held symbols chains shapes) (get_or chains (shape_annos s) []))
held_new symbols chains shapes extents spans last s store is =
    let ps : List Plain = plains symbols chains shapes in
    let p : Plain = plain symbols chains s in
    let long : length ps ≡ length shapes = length-plains symbols chains shapes in
    let are : ArePlain (ps ++ p ∷ []) =
    plain_pushed ps p (are_plain symbols chains shapes extents spans store)
    (subst (λ n. IsPlain n p) (sym long) is.places) in
    let within : length shapes < length (ps ++ p ∷ []) = simp length-append (omega (arith, long)) in
    let there : get_or (ps ++ p ∷ []) (length shapes) p ≡ p =
    subst (λ n. get_or (ps ++ p ∷ []) n p ≡ p) long (get_or-append_seam ps p [] p) in
    let unfolds : term_at (ps ++ p ∷ []) (length shapes) ≡
    term p.head (map (term_at (ps ++ p ∷ [])) p.parts) (map (term_at (ps ++ p ∷ [])) p.annos) =
    subst (λ (q : Plain). term_at (ps ++ p ∷ []) (length shapes) ≡
    term q.head (map (term_at (ps ++ p ∷ [])) q.parts) (map (term_at (ps ++ p ∷ [])) q.annos))
    there (term_at_unfolds (ps ++ p ∷ []) (length shapes) p are within) in
    let kept : (i : ℕ) → i < length shapes → term_at (ps ++ p ∷ []) i ≡ term_at ps i =
    λ i h. term_at-append ps (p ∷ []) i (omega (arith, long, h)) in
    let parts : map (term_at (ps ++ p ∷ [])) p.parts ≡ map (term_at ps) p.parts =
    map_same _ _ p.parts (λ j e within. kept _ (is.places.parts j e within)) in
    let annos_ : map (term_at (ps ++ p ∷ [])) p.annos ≡ map (term_at ps) p.annos =
    map_same _ _ p.annos (λ j e within. kept _ (is.places.annos j e within)) in
    ap (λ qs. term_at qs (length shapes)) (map-append (plain symbols chains) shapes (s ∷ [])) ∙
    (unfolds ∙ (ap (λ ts. term p.head ts (map (term_at (ps ++ p ∷ [])) p.annos)) parts ∙
    ap (λ ts. term p.head (map (term_at ps) p.parts) ts) annos_))

pub sum_kept : (f g : ℕ → Tree) (xs : List ℕ) (sp : Span) → All (λ i. g i ≡ f i) xs → IsSum (map f xs) sp →
    IsSum (map g xs) sp
sum_kept f g xs sp same is = subst (λ ts. IsSum ts sp) (sym (map_same g f xs same)) is

-- a store with one shape more
pub store_push : (symbols : List Symbol) (chains : List (List ℕ)) (shapes : List StoredShape) (extents : List Extent)
    (spans : List Span) (s : StoredShape) (e : Extent) → IsStore symbols chains shapes extents spans
    → IsShape symbols chains (length shapes) e.chains s → e.chains + 1 ≡ length chains → e.symbols ≡ length symbols
    → IsSize (term (head_in symbols (shape_head s)) (map (held symbols chains shapes) (list_in chains (shape_parts s)))
    (map (held symbols chains shapes) (get_or chains (shape_annos s) []))) e
    → IsStore symbols chains (shapes ++ s ∷ []) (extents ++ e ∷ []) spans
store_push symbols chains shapes extents spans s e store is last known size = record {
  as_many = let l = store.as_many in simp length-append (omega (arith, l));
  spanned = store.spanned;
  empty = store.empty;
  entries = entry;
  ordered = ordered_;
  in_turn = in_turn_;
  last = last_;
  standing = λ j h k d within. let below = store.standing j h k d within in simp length-append (omega (arith, below));
  sums = λ j d h. sum_kept (held symbols chains shapes) (held symbols chains (shapes ++ s ∷ []))
      (get_or chains (suc j) []) (get_or spans j d)
      (λ k x within. held_kept symbols chains shapes (s ∷ [])
      _ (store.standing (suc j) (let l = store.spanned in omega (arith, l, h)) k x within)) (store.sums j d h);
}
  where
    extent_at : (k : ℕ) → k < length (shapes ++ s ∷ []) →
        ((k < length shapes) × ((d : Extent) → get_or (extents ++ e ∷ []) k d ≡ get_or extents k d)) ⊎
        ((k ≡ length shapes) × ((d : Extent) → get_or (extents ++ e ∷ []) k d ≡ e))
    extent_at k h = subst (λ n. ((k < n) × ((d : Extent) → get_or (extents ++ e ∷ []) k d ≡ get_or extents k d)) ⊎
        ((k ≡ n) × ((d : Extent) → get_or (extents ++ e ∷ []) k d ≡ e)))
        store.as_many (push_at extents e k (let l = store.as_many in
        let m : length (shapes ++ s ∷ []) ≡ length shapes + 1 = length-append shapes (s ∷ []) in
        simp length-append (omega (arith, l, h, m))))

    entry_at : (k : ℕ) (d : StoredShape) (f : Extent) →
        ((k < length shapes) × ((d : StoredShape) → get_or (shapes ++ s ∷ []) k d ≡ get_or shapes k d)) ⊎
        ((k ≡ length shapes) × ((d : StoredShape) → get_or (shapes ++ s ∷ []) k d ≡ s))
        → ((k < length shapes) × ((d : Extent) → get_or (extents ++ e ∷ []) k d ≡ get_or extents k d)) ⊎
        ((k ≡ length shapes) × ((d : Extent) → get_or (extents ++ e ∷ []) k d ≡ e))
        → IsEntry symbols chains (shapes ++ s ∷ []) k (get_or (shapes ++ s ∷ []) k d) (get_or (extents ++ e ∷ []) k f)
    entry_at k d f (inl a) (inl b) =
        let old = store.entries k d f a.0 in
        let new : IsEntry symbols chains (shapes ++ s ∷ []) k (get_or shapes k d) (get_or extents k f) = record {
          shape = old.shape;
          last = old.last;
          early = old.early;
          among = old.among;
          known = old.known;
          size = subst (λ t. IsSize t (get_or extents k f)) (sym (held_kept symbols chains shapes (s ∷ []) k a.0))
              old.size;
        } in
        subst (λ (x : StoredShape). IsEntry symbols chains (shapes ++ s ∷ []) k x (get_or (extents ++ e ∷ []) k f))
        (sym (a.1 d)) (subst (λ (x : Extent). IsEntry symbols chains (shapes ++ s ∷ []) k (get_or shapes k d) x)
        (sym (b.1 f)) new)
    entry_at k d f (inl a) (inr b) = let p = a.0 in let q = b.0 in absurd (omega (arith, p, q))
    entry_at k d f (inr a) (inl b) = let p = a.0 in let q = b.0 in absurd (omega (arith, p, q))
    entry_at k d f (inr a) (inr b) =
        let there : IsEntry symbols chains (shapes ++ s ∷ []) (length shapes) s e = record {
          shape = is;
          last = omega (arith, last);
          early = λ j h. store.standing j (omega (arith, last, h));
          among = subst (λ n. IsAmong n (shape_head s)) (sym known) is.head;
          known = omega (arith, known);
          size = subst (λ t. IsSize t e) (sym (held_new symbols chains shapes extents spans e.chains s store is)) size;
        } in
        subst (λ (x : StoredShape). IsEntry symbols chains (shapes ++ s ∷ []) k x (get_or (extents ++ e ∷ []) k f))
        (sym (a.1 d)) (subst (λ (x : Extent). IsEntry symbols chains (shapes ++ s ∷ []) k s x) (sym (b.1 f))
        (subst (λ n. IsEntry symbols chains (shapes ++ s ∷ []) n s e) (sym a.0) there))

    entry : (k : ℕ) (d : StoredShape) (f : Extent) → k < length (shapes ++ s ∷ []) →
        IsEntry symbols chains (shapes ++ s ∷ []) k (get_or (shapes ++ s ∷ []) k d) (get_or (extents ++ e ∷ []) k f)
    entry k d f h = entry_at k d f (push_at shapes s k h) (extent_at k h)

    last_at : (k : ℕ) (f : Extent) →
        ((k < length shapes) × ((d : Extent) → get_or (extents ++ e ∷ []) k d ≡ get_or extents k d)) ⊎
        ((k ≡ length shapes) × ((d : Extent) → get_or (extents ++ e ∷ []) k d ≡ e)) →
        (get_or (extents ++ e ∷ []) k f).chains < length chains
    last_at k f (inl a) = subst (λ (x : Extent). x.chains < length chains) (sym (a.1 f)) (store.last k f a.0)
    last_at k f (inr a) = subst (λ (x : Extent). x.chains < length chains) (sym (a.1 f)) (omega (arith, last))

    last_ : (k : ℕ) (f : Extent) → k < length (shapes ++ s ∷ []) →
        (get_or (extents ++ e ∷ []) k f).chains < length chains
    last_ k f h = last_at k f (extent_at k h)

    ordered_at : (i j : ℕ) (f : Extent) → i ≤ j →
        ((i < length shapes) × ((d : Extent) → get_or (extents ++ e ∷ []) i d ≡ get_or extents i d)) ⊎
        ((i ≡ length shapes) × ((d : Extent) → get_or (extents ++ e ∷ []) i d ≡ e))
        → ((j < length shapes) × ((d : Extent) → get_or (extents ++ e ∷ []) j d ≡ get_or extents j d)) ⊎
        ((j ≡ length shapes) × ((d : Extent) → get_or (extents ++ e ∷ []) j d ≡ e))
        → (get_or (extents ++ e ∷ []) i f).chains ≤ (get_or (extents ++ e ∷ []) j f).chains
    ordered_at i j f le (inl a) (inl b) =
        subst (λ (x : Extent). x.chains ≤ (get_or (extents ++ e ∷ []) j f).chains) (sym (a.1 f))
        (subst (λ (x : Extent). (get_or extents i f).chains ≤ x.chains) (sym (b.1 f)) (store.ordered i j f le b.0))
    ordered_at i j f le (inl a) (inr b) =
        subst (λ (x : Extent). x.chains ≤ (get_or (extents ++ e ∷ []) j f).chains) (sym (a.1 f))
        (subst (λ (x : Extent). (get_or extents i f).chains ≤ x.chains) (sym (b.1 f)) (let h = store.last i f a.0 in
        omega (arith, h, last)))
    ordered_at i j f le (inr a) (inl b) = let p = a.0 in let q = b.0 in absurd (omega (arith, p, q, le))
    ordered_at i j f le (inr a) (inr b) =
        subst (λ (x : Extent). x.chains ≤ (get_or (extents ++ e ∷ []) j f).chains) (sym (a.1 f))
        (subst (λ (x : Extent). e.chains ≤ x.chains) (sym (b.1 f)) (omega arith))

    ordered_ : (i j : ℕ) (f : Extent) → i ≤ j → j < length (shapes ++ s ∷ []) →
        (get_or (extents ++ e ∷ []) i f).chains ≤ (get_or (extents ++ e ∷ []) j f).chains
    ordered_ i j f le h = ordered_at i j f le (extent_at i (omega (arith, le, h))) (extent_at j h)

    in_turn_at : (i j : ℕ) (f : Extent) → i ≤ j →
        ((i < length shapes) × ((d : Extent) → get_or (extents ++ e ∷ []) i d ≡ get_or extents i d)) ⊎
        ((i ≡ length shapes) × ((d : Extent) → get_or (extents ++ e ∷ []) i d ≡ e))
        → ((j < length shapes) × ((d : Extent) → get_or (extents ++ e ∷ []) j d ≡ get_or extents j d)) ⊎
        ((j ≡ length shapes) × ((d : Extent) → get_or (extents ++ e ∷ []) j d ≡ e))
        → (get_or (extents ++ e ∷ []) i f).symbols ≤ (get_or (extents ++ e ∷ []) j f).symbols
    in_turn_at i j f le (inl a) (inl b) =
        subst (λ (x : Extent). x.symbols ≤ (get_or (extents ++ e ∷ []) j f).symbols) (sym (a.1 f))
        (subst (λ (x : Extent). (get_or extents i f).symbols ≤ x.symbols) (sym (b.1 f)) (store.in_turn i j f le b.0))
    in_turn_at i j f le (inl a) (inr b) =
        subst (λ (x : Extent). x.symbols ≤ (get_or (extents ++ e ∷ []) j f).symbols) (sym (a.1 f))
        (subst (λ (x : Extent). (get_or extents i f).symbols ≤ x.symbols) (sym (b.1 f)) (let h =
        (store.entries i none_shape f a.0).known in omega (arith, h, known)))
    in_turn_at i j f le (inr a) (inl b) = let p = a.0 in let q = b.0 in absurd (omega (arith, p, q, le))
    in_turn_at i j f le (inr a) (inr b) =
        subst (λ (x : Extent). x.symbols ≤ (get_or (extents ++ e ∷ []) j f).symbols) (sym (a.1 f))
        (subst (λ (x : Extent). e.symbols ≤ x.symbols) (sym (b.1 f)) (omega arith))

    in_turn_ : (i j : ℕ) (f : Extent) → i ≤ j → j < length (shapes ++ s ∷ []) →
        (get_or (extents ++ e ∷ []) i f).symbols ≤ (get_or (extents ++ e ∷ []) j f).symbols
    in_turn_ i j f le h = in_turn_at i j f le (extent_at i (omega (arith, le, h))) (extent_at j h)

-- the term at a place, by the shape that stands there
pub held_at : (symbols : List Symbol) (chains : List (List ℕ)) (shapes : List StoredShape) (extents : List Extent)
    (spans : List Span) (at : ℕ) (s : StoredShape) → IsStore symbols chains shapes extents spans → at < length shapes →
    get_or shapes at s ≡ s
    → held symbols chains shapes at ≡
    term (head_in symbols (shape_head s)) (map (held symbols chains shapes) (list_in chains (shape_parts s)))
    (map (held symbols chains shapes) (get_or chains (shape_annos s) []))
held_at symbols chains shapes extents spans at s store within is =
    let ps : List Plain = plains symbols chains shapes in
    let p : Plain = plain symbols chains s in
    let long : length ps ≡ length shapes = length-plains symbols chains shapes in
    let there : get_or ps at p ≡ p =
    get_or-map (plain symbols chains) shapes at s p within ∙ ap (plain symbols chains) is in
    subst (λ (q : Plain). term_at ps at ≡ term q.head (map (term_at ps) q.parts) (map (term_at ps) q.annos))
    there (term_at_unfolds ps at p (are_plain symbols chains shapes extents spans store)
    (omega (arith, long, within)))

-- the term of a shape that was put last, by the terms before
pub held_pushed : (symbols : List Symbol) (chains : List (List ℕ)) (shapes : List StoredShape)
    (extents others : List Extent) (spans : List Span) (at : ℕ) (s : StoredShape) →
    IsStore symbols chains (shapes ++ s ∷ []) others spans → IsPlain (length shapes) (plain symbols chains s)
    → at < length (shapes ++ s ∷ []) → get_or (shapes ++ s ∷ []) at s ≡ s
    → held symbols chains (shapes ++ s ∷ []) at ≡
    term (head_in symbols (shape_head s)) (map (held symbols chains shapes) (list_in chains (shape_parts s)))
    (map (held symbols chains shapes) (get_or chains (shape_annos s) []))
held_pushed symbols chains shapes extents others spans at s store places within is =
    let parts : map (held symbols chains (shapes ++ s ∷ [])) (list_in chains (shape_parts s)) ≡
    map (held symbols chains shapes) (list_in chains (shape_parts s)) =
    map_same _ _ (list_in chains (shape_parts s))
    (λ j e inside. held_kept symbols chains shapes (s ∷ []) _ (places.parts j e inside)) in
    let annos_ : map (held symbols chains (shapes ++ s ∷ [])) (get_or chains (shape_annos s) []) ≡
    map (held symbols chains shapes) (get_or chains (shape_annos s) []) =
    map_same _ _ (get_or chains (shape_annos s) [])
    (λ j e inside. held_kept symbols chains shapes (s ∷ []) _ (places.annos j e inside)) in
    held_at symbols chains (shapes ++ s ∷ []) others spans at s store within is ∙
    (ap (λ ts. term (head_in symbols (shape_head s))
    ts (map (held symbols chains (shapes ++ s ∷ [])) (get_or chains (shape_annos s) []))) parts ∙
    ap (λ ts. term (head_in symbols (shape_head s))
    (map (held symbols chains shapes) (list_in chains (shape_parts s))) ts) annos_)

-- the keys after an insertion
pub new_keys : {X : Type 0} (added : Bool) (xs ys ks : List X) → added ≡ true → ks ≡ (if added then ys else xs) →
    ks ≡ ys
new_keys true xs ys ks e k = k
new_keys false xs ys ks e k = cc

pub old_keys : {X : Type 0} (added : Bool) (xs ys ks : List X) → added ≡ false → ks ≡ (if added then ys else xs) →
    ks ≡ xs
old_keys true xs ys ks e k = cc
old_keys false xs ys ks e k = k

-- the size of a term that fits, by those of its parts and annotations
pub made_size : (h : Head) (ps ts : List Tree) (name pw pd aw ad last known : ℕ) →
    name ≡ min (head_weight h) (max_weight + 1) → pw ≡ weights (trees_of ps) → pd ≡ depths (trees_of ps) →
    aw ≡ weights (trees_of ts) → ad ≡ depths (trees_of ts)
    → 1 + (name + (pw + aw)) ≤ max_weight → 1 + max pd ad ≤ max_depth →
    IsSize (term h ps ts) (record {
      weight = 1 + (name + (pw + aw));
      depth = 1 + max pd ad;
      chains = last;
      symbols =
          known;
    })
made_size h ps ts name pw pd aw ad last known en epw epd eaw ead light flat = record {
  weight = omega (arith, en, epw, eaw, light);
  depth = rw (epd, ead) refl;
  fits = record {
    weight = omega (arith, en, epw, eaw, light);
    depth = let d : 1 + max pd ad ≡ 1 + max (depths (trees_of ps)) (depths (trees_of ts)) = rw (epd, ead) refl in
        omega (arith, d, flat);
  };
}
