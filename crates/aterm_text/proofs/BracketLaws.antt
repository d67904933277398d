-- The brackets that are open and the references in them, as the reader opens and closes brackets and makes terms.
use Rattle.std.proofs.Common.{◌≡◌, ℕ, suc, zero, ◌+◌, ◌-◌, Bool, true, false, ◌&&◌, List, [], ◌∷◌, ◌++◌, length, map, reverse, take, drop, get_or, ℤ, refl, ap, sym, ◌∙◌, append_assoc, arith, subst, All, IsTrue}
use Rattle.std.proofs.lemmas.List.{length-map, reverse-append, append-nil, length-append, length-drop, map-append, drop-map, take-map}
use Rattle.std.specs.Prelude.{slice_range}
use Rattle.std.proofs.Math.Seq.{take-append_seam, drop-append_seam, take-length}
use Rattle.std.proofs.lemmas.List.Elements.{All-append, All-take}
use Rattle.std.proofs.lemmas.Bool.{false_from_ne_true}
use Rattle.std.proofs.Math.Bool.{and-false}
use Rattle.term_model.specs.declared.term.Head.TheVariants as heads
use Rattle.term_model.specs.declared.made.Made.{Made}
use Rattle.term_model.specs.declared.made.Made.TheVariants as made
use Rattle.term_model.specs.Symbol.{Symbol}
use Rattle.term_model.specs.Space.{Space, Keeps, Makes}
use Rattle.term_model.specs.Term.{Tree, node, end, term, trees_of, fits, all_fit, Fits}
use Rattle.term_model.specs.TermParts.{head_of, parts_of}
use Rattle.term_model.proofs.TermLemmas.{trees_of-list_of}
use Rattle.term_model.proofs.FitsLaws.{large_part, large_annotation, bare_large, all_fit-last, fits-sound, fits-complete}
use Rattle.aterm_text.specs.Depth.{Opening, Applied, Elements, Annotations, Open}
use Rattle.aterm_text.specs.Reading.{opened, with, closed}
use Rattle.aterm_text.specs.Brackets.{taken, terms_of, IsOpening, IsOpen, AreOpen, Keeping, IsAt, at_whole, at_done, IsPut, IsPushed, Closing, next_after}
use Rattle.aterm_text.specs.declared.open.Enclosing.{Enclosing}
use Rattle.aterm_text.specs.declared.open.Enclosing.TheVariants as code
use Rattle.aterm_text.specs.declared.open.Bracket.{Bracket}
use Rattle.aterm_text.specs.declared.open.Reader.{Reader}
use Rattle.aterm_text.specs.declared.open.Next.TheVariants as nexts

-- ---- whether all terms fit

pub all_fit-append : (ts us : List Tree) →
    all_fit (trees_of (ts ++ us)) ≡ (all_fit (trees_of ts) && all_fit (trees_of us))
all_fit-append [] us = refl
all_fit-append (t ∷ ts) us = go (fits t) (all_fit-append ts us)
  where
    go : (b : Bool) → all_fit (trees_of (ts ++ us)) ≡ (all_fit (trees_of ts) && all_fit (trees_of us)) →
        (b && all_fit (trees_of (ts ++ us))) ≡ ((b && all_fit (trees_of ts)) && all_fit (trees_of us))
    go true e = e
    go false e = refl

front_fits : (ts us : List Tree) → all_fit (trees_of (ts ++ us)) ≡ true → all_fit (trees_of ts) ≡ true
front_fits ts us e = go (all_fit (trees_of ts)) (sym (all_fit-append ts us) ∙ e)
  where
    go : (b : Bool) → (b && all_fit (trees_of us)) ≡ true → b ≡ true
    go true f = refl
    go false f = absurd (cc)

-- some term before this one does not fit, or it does not: then not all of them fit
large_last : (ts : List Tree) (t : Tree) → all_fit (trees_of ts) ≡ false → all_fit (trees_of (ts ++ t ∷ [])) ≡ false
large_last ts t e = all_fit-last ts t ∙ ap (λ b. b && fits t) e

-- the term that a bracket makes of the terms in it
abbrev pub made_in : Opening → List Tree → Tree
made_in (Applied y) ts = node (heads.App y) (trees_of ts) end
made_in Elements ts = node heads.List (trees_of ts) end
made_in (Annotations h ps) ts = node h ps (trees_of ts)

-- it does not fit where one of these does not
large_made : (o : Opening) (ts : List Tree) → all_fit (trees_of (taken o ++ ts)) ≡ false → fits (made_in o ts) ≡ false
large_made (Applied y) ts e = large_part (heads.App y) (trees_of ts) end e
large_made Elements ts e = large_part heads.List (trees_of ts) end e
large_made (Annotations h ps) ts e = go (fits (node h ps end)) refl e
  where
    go : (b : Bool) → fits (node h ps end) ≡ b → (b && all_fit (trees_of ts)) ≡ false →
        fits (node h ps (trees_of ts)) ≡ false
    go true f g = large_annotation h ps (trees_of ts) g
    go false f g = bare_large h ps (trees_of ts) f

large_in : (ss : List Tree) (o : Opening) (ts : List Tree) → all_fit (trees_of (ss ++ (taken o ++ ts))) ≡ false →
    all_fit (trees_of (ss ++ made_in o ts ∷ [])) ≡ false
large_in ss o ts e = all_fit-last ss (made_in o ts) ∙
    go (all_fit (trees_of ss)) refl (sym (all_fit-append ss (taken o ++ ts)) ∙ e)
  where
    go : (b : Bool) → all_fit (trees_of ss) ≡ b → (b && all_fit (trees_of (taken o ++ ts))) ≡ false →
        (b && fits (made_in o ts)) ≡ false
    go true f g = large_made o ts g
    go false f g = refl

-- ---- brackets

module _ {N : Type 0} (knows : N → Bool) (symbol_of : N → Symbol) where
  -- of terms that do not fit, nothing is asked
  brackets_lost : (fit : Bool) (bs : List (Bracket N)) (s : List Open) → AreOpen knows symbol_of fit bs s →
      AreOpen knows symbol_of false bs s
  brackets_lost fit [] [] h = tt
  brackets_lost fit (b ∷ bs) (o ∷ s) h =
      (record { opening = h.0.opening; bottom = λ e. cc }, brackets_lost fit bs s h.1)
  brackets_lost fit [] (o ∷ s) h = absurd h
  brackets_lost fit (b ∷ bs) [] h = absurd h

  pub as_many : (fit : Bool) (bs : List (Bracket N)) (s : List Open) → AreOpen knows symbol_of fit bs s →
      length bs ≡ length s
  as_many fit [] [] h = refl
  as_many fit (b ∷ bs) (o ∷ s) h = ap suc (as_many fit bs s h.1)
  as_many fit [] (o ∷ s) h = absurd h
  as_many fit (b ∷ bs) [] h = absurd h

-- ---- the space changes

module _ {W R M N : Type 0} (S : Space W R M N) {old new : W} (keeps : Keeps S old new) where
  opening_kept : (e : Enclosing N) (k : Opening) → IsOpening (S.knows old) (S.symbol_of old) e k →
      IsOpening (S.knows new) (S.symbol_of new) e k
  opening_kept (code.Parts n) (Applied y) h = (keeps.known n h.0, keeps.symbols n h.0 ∙ h.1)
  opening_kept code.Elements Elements h = tt
  opening_kept code.Annotations (Annotations h ps) g = tt
  opening_kept (code.Parts n) Elements h = absurd h
  opening_kept (code.Parts n) (Annotations _ _) h = absurd h
  opening_kept code.Elements (Applied _) h = absurd h
  opening_kept code.Elements (Annotations _ _) h = absurd h
  opening_kept code.Annotations (Applied _) h = absurd h
  opening_kept code.Annotations Elements h = absurd h

  brackets_kept : (fit : Bool) (bs : List (Bracket N)) (s : List Open) →
      AreOpen (S.knows old) (S.symbol_of old) fit bs s → AreOpen (S.knows new) (S.symbol_of new) fit bs s
  brackets_kept fit [] [] h = tt
  brackets_kept fit (b ∷ bs) (o ∷ s) h = (
    record { opening = opening_kept b.enclosing o.opening h.0.opening; bottom = h.0.bottom },
    brackets_kept fit bs s h.1,
  )
  brackets_kept fit [] (o ∷ s) h = absurd h
  brackets_kept fit (b ∷ bs) [] h = absurd h

  pub all_kept : (rs : List R) → All (λ r. IsTrue (S.stands old r)) rs → All (λ r. IsTrue (S.stands new r)) rs
  all_kept rs h k d l = keeps.standing _ (h k d l)

  pub terms_kept : (rs : List R) → All (λ r. IsTrue (S.stands old r)) rs →
      map (S.term_of new) rs ≡ map (S.term_of old) rs
  terms_kept [] h = refl
  terms_kept (r ∷ rs) h =
      let e : S.term_of new r ≡ S.term_of old r = keeps.terms r (h 0 r (omega arith)) in
      let f : map (S.term_of new) rs ≡ map (S.term_of old) rs =
      terms_kept rs (λ k d l. h (suc k) d (omega (arith, l))) in
      cc

  pub keeping_kept : (reader : Reader R N) (s : List Open) (hand : List Tree) → Keeping S old reader s hand →
      Keeping S new reader s hand
  keeping_kept reader s hand k = record {
    brackets = brackets_kept reader.fits (reverse reader.open.items) s k.brackets;
    fit = k.fit;
    stand = all_kept reader.terms.items k.stand;
    terms = λ e. terms_kept reader.terms.items k.stand ∙ k.terms e;
  }

  -- a term in place of those from the bottom on
  pub put_keeps : (reader after : Reader R N) (s : List Open) (hand : List Tree) (t : Tree) (m : Made R) (bottom : ℕ) →
      Keeping S old reader s hand → reader.fits ≡ true
      → bottom ≡ length (terms_of s) → Makes S new t m → IsPut m bottom reader after → Keeping S new after s (t ∷ [])
  put_keeps reader after s hand t m bottom k f b makes is = go m makes is
    where
      fit : all_fit (trees_of (terms_of s)) ≡ true
      fit = front_fits (terms_of s) hand (sym k.fit ∙ f)

      below : map (S.term_of new) (take bottom reader.terms.items) ≡ terms_of s
      below =
          let all : map (S.term_of new) reader.terms.items ≡ terms_of s ++ hand =
          terms_kept reader.terms.items k.stand ∙ k.terms f in
          sym (take-map (S.term_of new) bottom reader.terms.items) ∙ ap (take bottom) all ∙
          ap (λ n. take n (terms_of s ++ hand)) b ∙ take-append_seam (terms_of s) hand

      kept : All (λ r. IsTrue (S.stands new r)) (take bottom reader.terms.items)
      kept = All-take (λ r. IsTrue (S.stands new r)) bottom reader.terms.items (all_kept reader.terms.items k.stand)

      alone : (r : R) → IsTrue (S.stands new r) → All (λ r. IsTrue (S.stands new r)) (r ∷ [])
      alone r p zero d l = p
      alone r p (suc k) d l = absurd (omega (arith, l))

      go : (m : Made R) → Makes S new t m → IsPut m bottom reader after → Keeping S new after s (t ∷ [])
      go (made.Fits r) (stood, is_t, small) (opens, fit_stays, items) = record {
        brackets =
            let same : after.fits ≡ reader.fits = fit_stays in
            let B : Bool → Type 0 = λ b. AreOpen (S.knows new) (S.symbol_of new) b (reverse after.open.items) s in
            subst B (sym same) (let C : _ → Type 0 =
            λ v. AreOpen (S.knows new) (S.symbol_of new) reader.fits (reverse v.items) s in
            subst C (sym opens) (brackets_kept reader.fits (reverse reader.open.items) s k.brackets));
        fit = fit_stays ∙ f ∙ sym (all_fit-last (terms_of s) t ∙ rw (fit, fits-complete t small) refl);
        stand = let P : List R → Type 0 = All (λ r. IsTrue (S.stands new r)) in
            subst P (sym items)
            (All-append (λ r. IsTrue (S.stands new r)) (take bottom reader.terms.items) (r ∷ []) kept (alone r stood));
        terms = λ e. ap (map (S.term_of new)) items ∙
            map-append (S.term_of new) (take bottom reader.terms.items) (r ∷ []) ∙ rw (below, is_t) refl;
      }
      go made.Oversize large (opens, lost, items) = record {
        brackets =
            let B : Bool → Type 0 = λ b. AreOpen (S.knows new) (S.symbol_of new) b (reverse after.open.items) s in
            subst B (sym lost) (let C : _ → Type 0 =
            λ v. AreOpen (S.knows new) (S.symbol_of new) false (reverse v.items) s in
            subst C (sym opens)
            (brackets_lost (S.knows new) (S.symbol_of new) reader.fits (reverse reader.open.items)
            s (brackets_kept reader.fits (reverse reader.open.items) s k.brackets)));
        fit = lost ∙ sym (all_fit-last (terms_of s) t ∙
            rw (false_from_ne_true (fits t) (λ e. large (fits-sound t e)))
            (and-false (all_fit (trees_of (terms_of s)))));
        stand = let P : List R → Type 0 = All (λ r. IsTrue (S.stands new r)) in subst P (sym items) kept;
        terms = λ e. cc;
      }

-- ---- the brackets change

module _ {W R M N : Type 0} (S : Space W R M N) (space : W) where
  pub opens : (reader after : Reader R N) (s : List Open) (hand : List Tree) (e : Enclosing N) (k : Opening) →
      Keeping S space reader s hand → hand ≡ taken k → IsOpening (S.knows space) (S.symbol_of space) e k →
      IsPushed e reader after
      → Keeping S space after (opened k ∷ s) []
  opens reader after s hand e k keeping h is p =
      let b : Bracket N = record { enclosing = e; bottom = length reader.terms.items } in
      let now_open : reverse after.open.items ≡ b ∷ reverse reader.open.items =
      ap reverse p.bracket ∙ reverse-append reader.open.items (b ∷ []) in
      let flat : terms_of (opened k ∷ s) ++ [] ≡ terms_of s ++ hand =
      append-nil (terms_of (opened k ∷ s)) ∙ ap (λ ts. terms_of s ++ ts) (append-nil (taken k) ∙ sym h) in
      let long : reader.fits ≡ true → length reader.terms.items ≡ length (terms_of s ++ taken k) =
      λ f. sym (length-map reader.terms.items (S.term_of space)) ∙ ap length (keeping.terms f) ∙
      ap (λ ts. length (terms_of s ++ ts)) h in
      record {
        brackets =
            let B : Bool → Type 0 =
            λ f. AreOpen (S.knows space) (S.symbol_of space) f (reverse after.open.items) (opened k ∷ s) in
            let C : List (Bracket N) → Type 0 =
            λ bs. AreOpen (S.knows space) (S.symbol_of space) reader.fits bs (opened k ∷ s) in
            subst B (sym p.fits) (subst C (sym now_open) (record { opening = is; bottom = long }, keeping.brackets));
        fit = p.fits ∙ keeping.fit ∙ ap (λ ts. all_fit (trees_of ts)) (sym flat);
        stand = let P : _ → Type 0 = λ v. All (λ r. IsTrue (S.stands space r)) v.items in
            subst P (sym p.terms) keeping.stand;
        terms = λ f. ap (λ v. map (S.term_of space) v.items) p.terms ∙ keeping.terms (sym p.fits ∙ f) ∙ sym flat;
      }

  -- the innermost bracket is taken off
  pub takes_off : (reader after : Reader R N) (b : Bracket N) (o : Open) (s : List Open) (hand : List Tree) →
      Keeping S space reader (o ∷ s) hand
      → reader.open.items ≡ after.open.items ++ b ∷ [] → after.terms ≡ reader.terms → after.fits ≡ reader.fits →
      Closing S space after b o s (o.earlier ++ hand)
  takes_off reader after b o s hand k e same_terms same_fits =
      let were_open : reverse reader.open.items ≡ b ∷ reverse after.open.items =
      ap reverse e ∙ reverse-append after.open.items (b ∷ []) in
      let flat : terms_of (o ∷ s) ++ hand ≡ terms_of s ++ (taken o.opening ++ (o.earlier ++ hand)) =
      append_assoc (terms_of s) (taken o.opening ++ o.earlier) hand ∙
      ap (λ ts. terms_of s ++ ts) (append_assoc (taken o.opening) o.earlier hand) in
      let C : List (Bracket N) → Type 0 = λ bs. AreOpen (S.knows space) (S.symbol_of space) reader.fits bs (o ∷ s) in
      let all : IsOpen (S.knows space) (S.symbol_of space) reader.fits b o s ×
      AreOpen (S.knows space) (S.symbol_of space) reader.fits (reverse after.open.items) s =
      subst C were_open k.brackets in
      let F : Bool → Type 0 = λ f. IsOpen (S.knows space) (S.symbol_of space) f b o s ×
      AreOpen (S.knows space) (S.symbol_of space) f (reverse after.open.items) s in
      let both = subst F (sym same_fits) all in
      record {
        bracket = both.0;
        keeping = record {
          brackets = both.1;
          fit = same_fits ∙ k.fit ∙ ap (λ ts. all_fit (trees_of ts)) flat;
          stand = let P : _ → Type 0 = λ v. All (λ r. IsTrue (S.stands space r)) v.items in
              subst P (sym same_terms) k.stand;
          terms = λ f. ap (λ v. map (S.term_of space) v.items) same_terms ∙ k.terms (sym same_fits ∙ f) ∙ flat;
        };
      }

  -- a comma after a term
  pub adds : (reader : Reader R N) (o : Open) (s : List Open) (t : Tree) → Keeping S space reader (o ∷ s) (t ∷ []) →
      Keeping S space reader (with o t ∷ s) []
  adds reader o s t k =
      let flat : terms_of (with o t ∷ s) ++ [] ≡ terms_of (o ∷ s) ++ t ∷ [] =
      append-nil (terms_of (with o t ∷ s)) ∙
      sym (append_assoc (terms_of s) (taken o.opening ++ o.earlier) (t ∷ []) ∙
      ap (λ ts. terms_of s ++ ts) (append_assoc (taken o.opening) o.earlier (t ∷ []))) in
      record {
        brackets = same (reverse reader.open.items) k.brackets;
        fit = k.fit ∙ ap (λ ts. all_fit (trees_of ts)) (sym flat);
        stand = k.stand;
        terms = λ f. k.terms f ∙ sym flat;
      }
    where
      same : (bs : List (Bracket N)) → AreOpen (S.knows space) (S.symbol_of space) reader.fits bs (o ∷ s) →
          AreOpen (S.knows space) (S.symbol_of space) reader.fits bs (with o t ∷ s)
      same [] h = absurd h
      same (b ∷ bs) h = (record { opening = h.0.opening; bottom = h.0.bottom }, h.1)

  -- terms that do not fit together with a bracket's make one that does not
  lost_keeps : (reader : Reader R N) (s : List Open) (o : Opening) (ts : List Tree) →
      Keeping S space reader s (taken o ++ ts) → reader.fits ≡ false → Keeping S space reader s (made_in o ts ∷ [])
  lost_keeps reader s o ts k f = record {
    brackets = k.brackets;
    fit = f ∙ sym (large_in (terms_of s) o ts (sym k.fit ∙ f));
    stand = k.stand;
    terms = λ e. cc;
  }

  pub lost_symbol : (reader : Reader R N) (s : List Open) (t : Tree) → Keeping S space reader s [] →
      reader.fits ≡ false → Keeping S space reader s (t ∷ [])
  lost_symbol reader s t k f = record {
    brackets = k.brackets;
    fit = f ∙ sym (large_last (terms_of s) t (ap (λ ts. all_fit (trees_of ts)) (sym (append-nil (terms_of s))) ∙
        sym k.fit ∙ f));
    stand = k.stand;
    terms = λ e. cc;
  }

  -- a bracket closes where some term does not fit
  pub lost_closes : (reader : Reader R N) (b : Bracket N) (o : Open) (s : List Open) (ts : List Tree) →
      Closing S space reader b o s ts → reader.fits ≡ false
      → IsAt S space reader (next_after b.enclosing) (closed o.opening ts s)
  lost_closes reader b o s ts c f =
      go b.enclosing o.opening c.bracket.opening (lost_keeps reader s o.opening ts c.keeping f)
    where
      go : (e : Enclosing N) (k : Opening) → IsOpening (S.knows space) (S.symbol_of space) e k →
          Keeping S space reader s (made_in k ts ∷ []) → IsAt S space reader (next_after e) (closed k ts s)
      go (code.Parts n) (Applied y) h k = at_whole k
      go code.Elements Elements h k = at_whole k
      go code.Annotations (Annotations g ps) h k = at_done k
      go (code.Parts n) Elements h k = absurd h
      go (code.Parts n) (Annotations _ _) h k = absurd h
      go code.Elements (Applied _) h k = absurd h
      go code.Elements (Annotations _ _) h k = absurd h
      go code.Annotations (Applied _) h k = absurd h
      go code.Annotations Elements h k = absurd h

-- ---- a bracket closes

-- the references in it have its terms
to_the_end : {R : Type 0} (n : ℕ) (rs : List R) → slice_range rs n (length rs) ≡ drop n rs
to_the_end n rs = ap (λ k. take k (drop n rs)) (sym (length-drop n rs)) ∙ take-length (drop n rs)

inner : {R : Type 0} (f : R → Tree) (ds rs : List R) → ds ≡ rs → (n : ℕ) (ss xs ts : List Tree) →
    n ≡ length (ss ++ xs) → map f rs ≡ ss ++ (xs ++ ts) → map f (slice_range ds n (length ds)) ≡ ts
inner f ds rs q n ss xs ts e h = ap (λ us. map f (slice_range us n (length us))) q ∙ ap (map f) (to_the_end n rs) ∙
    sym (drop-map f n rs) ∙ ap (drop n) (h ∙ sym (append_assoc ss xs ts)) ∙ ap (λ k. drop k ((ss ++ xs) ++ ts)) e ∙
    drop-append_seam (ss ++ xs) ts

module _ {W R M N : Type 0} (S : Space W R M N) {old new : W} (keeps : Keeps S old new) (reader after : Reader R N)
    (b : Bracket N) (o : Open) (s : List Open) (ts : List Tree) (closing : Closing S old reader b o s ts)
    (f : reader.fits ≡ true) (m : Made R) (ds : List R) (q : ds ≡ reader.terms.items) where
  pub parts_close : (n : N) → b.enclosing ≡ code.Parts n →
      Makes S new (term (heads.App (S.symbol_of old n)) (map (S.term_of old) (slice_range ds b.bottom (length ds))) [])
      m → IsPut m b.bottom reader after
      → IsAt S new after nexts.Whole (closed o.opening ts s)
  parts_close n e makes put = go o.opening (let O : Enclosing N → Type 0 =
      λ x. IsOpening (S.knows old) (S.symbol_of old) x o.opening in
      subst O e closing.bracket.opening) closing.bracket.bottom closing.keeping
    where
      go : (k : Opening) → IsOpening (S.knows old) (S.symbol_of old) (code.Parts n) k →
          (reader.fits ≡ true → b.bottom ≡ length (terms_of s ++ taken k)) → Keeping S old reader s (taken k ++ ts) →
          IsAt S new after nexts.Whole (closed k ts s)
      go (Applied y) h bottom keeping =
          let made_here : Makes S new (node (heads.App y) (trees_of ts) end) m =
          (let P : Symbol → List Tree → Type 0 = λ z us. Makes S new (node (heads.App z) (trees_of us) end) m in
          subst (P y) (inner (S.term_of old) ds reader.terms.items q b.bottom (terms_of s) [] ts (bottom f)
          (keeping.terms f)) (let Q : Symbol → Type 0 =
          λ z. P z (map (S.term_of old) (slice_range ds b.bottom (length ds))) in subst Q h.1 makes)) in
          at_whole (put_keeps S keeps reader after s ts (node (heads.App y) (trees_of ts) end)
          m b.bottom keeping f (bottom f ∙ ap length (append-nil (terms_of s))) made_here put)
      go Elements h bottom keeping = absurd h
      go (Annotations _ _) h bottom keeping = absurd h

  pub elements_close : b.enclosing ≡ code.Elements →
      Makes S new (term heads.List (map (S.term_of old) (slice_range ds b.bottom (length ds))) []) m →
      IsPut m b.bottom reader after
      → IsAt S new after nexts.Whole (closed o.opening ts s)
  elements_close e makes put = go o.opening (let O : Enclosing N → Type 0 =
      λ x. IsOpening (S.knows old) (S.symbol_of old) x o.opening in
      subst O e closing.bracket.opening) closing.bracket.bottom closing.keeping
    where
      go : (k : Opening) → IsOpening (S.knows old) (S.symbol_of old) code.Elements k →
          (reader.fits ≡ true → b.bottom ≡ length (terms_of s ++ taken k)) → Keeping S old reader s (taken k ++ ts) →
          IsAt S new after nexts.Whole (closed k ts s)
      go Elements h bottom keeping =
          let made_here : Makes S new (node heads.List (trees_of ts) end) m =
          (let P : List Tree → Type 0 = λ us. Makes S new (node heads.List (trees_of us) end) m in
          subst P (inner (S.term_of old) ds reader.terms.items q b.bottom (terms_of s) [] ts (bottom f)
          (keeping.terms f)) makes) in
          at_whole (put_keeps S keeps reader after s ts (node heads.List (trees_of ts) end)
          m b.bottom keeping f (bottom f ∙ ap length (append-nil (terms_of s))) made_here put)
      go (Applied _) h bottom keeping = absurd h
      go (Annotations _ _) h bottom keeping = absurd h

  pub annotations_close : (t : Tree) → b.enclosing ≡ code.Annotations →
      ((ss us : List Tree) (x : Tree) → map (S.term_of old) reader.terms.items ≡ ss ++ x ∷ us →
      b.bottom - 1 ≡ length ss → t ≡ x)
      → Makes S new (term (head_of t) (parts_of t) (map (S.term_of old) (slice_range ds b.bottom (length ds)))) m →
      IsPut m (b.bottom - 1) reader after
      → IsAt S new after nexts.Done (closed o.opening ts s)
  annotations_close t e is makes put =
      go o.opening (let O : Enclosing N → Type 0 = λ x. IsOpening (S.knows old) (S.symbol_of old) x o.opening in
      subst O e closing.bracket.opening) closing.bracket.bottom closing.keeping
    where
      go : (k : Opening) → IsOpening (S.knows old) (S.symbol_of old) code.Annotations k →
          (reader.fits ≡ true → b.bottom ≡ length (terms_of s ++ taken k)) → Keeping S old reader s (taken k ++ ts) →
          IsAt S new after nexts.Done (closed k ts s)
      go (Annotations h ps) g bottom keeping =
          let below : b.bottom - 1 ≡ length (terms_of s) =
          omega (arith, bottom f, length-append (terms_of s) (node h ps end ∷ [])) in
          let same : t ≡ node h ps end = is (terms_of s) ts (node h ps end) (keeping.terms f) below in
          let in_it : map (S.term_of old) (slice_range ds b.bottom (length ds)) ≡ ts =
          inner (S.term_of old) ds reader.terms.items q b.bottom (terms_of s) (node h ps end ∷ []) ts (bottom f)
          (keeping.terms f) in
          let tree : term (head_of t) (parts_of t) (map (S.term_of old) (slice_range ds b.bottom (length ds))) ≡
          node h ps (trees_of ts) = rw (same, in_it, trees_of-list_of ps) refl in
          let made_here : Makes S new (node h ps (trees_of ts)) m =
          (let P : Tree → Type 0 = λ u. Makes S new u m in subst P tree makes) in
          at_done (put_keeps S keeps reader after s (node h ps end ∷ ts) (node h ps (trees_of ts)) m (b.bottom - 1)
          keeping f below made_here put)
      go Elements h bottom keeping = absurd h
      go (Applied _) h bottom keeping = absurd h

-- the reference at the place of a term stands for it
place : {R : Type 0} (f : R → Tree) (rs : List R) (ss us : List Tree) (x : Tree) (d : R) → map f rs ≡ ss ++ x ∷ us →
    f (get_or rs (length ss) d) ≡ x
place f [] [] us x d h = absurd (cc)
place f [] (y ∷ ss) us x d h = absurd (cc)
place f (r ∷ rs) [] us x d h = cc
place f (r ∷ rs) (y ∷ ss) us x d h = let g : map f rs ≡ ss ++ x ∷ us = cc in place f rs ss us x d g

pub place_at : {R : Type 0} (f : R → Tree) (rs : List R) (n : ℕ) (r : R) → r ≡ get_or rs n r →
    (ss us : List Tree) (x : Tree) → map f rs ≡ ss ++ x ∷ us → n ≡ length ss → f r ≡ x
place_at f rs n r e ss us x h l = ap f (e ∙ ap (λ i. get_or rs i r) l) ∙ place f rs ss us x r h

-- the annotated term stands before the bottom of its annotations
pub annotated_stands : {W R M N : Type 0} (S : Space W R M N) (space : W) (reader : Reader R N) (b : Bracket N)
    (o : Open) (s : List Open) (ts : List Tree) (r : R)
    → Closing S space reader b o s ts → reader.fits ≡ true → b.enclosing ≡ code.Annotations →
    r ≡ get_or reader.terms.items (b.bottom - 1) r → IsTrue (S.stands space r)
annotated_stands {W} {R} {M} {N} S space reader b o s ts r c f e is =
    go o.opening (let O : Enclosing N → Type 0 = λ x. IsOpening (S.knows space) (S.symbol_of space) x o.opening in
    subst O e c.bracket.opening) c.bracket.bottom c.keeping
  where
    go : (k : Opening) → IsOpening (S.knows space) (S.symbol_of space) code.Annotations k →
        (reader.fits ≡ true → b.bottom ≡ length (terms_of s ++ taken k)) → Keeping S space reader s (taken k ++ ts) →
        IsTrue (S.stands space r)
    go (Annotations h ps) g bottom keeping =
        let all : length reader.terms.items ≡ length (terms_of s) + length (node h ps end ∷ ts) =
        sym (length-map reader.terms.items (S.term_of space)) ∙ ap length (keeping.terms f) ∙
        length-append (terms_of s) (node h ps end ∷ ts) in
        let P : R → Type 0 = λ x. IsTrue (S.stands space x) in
        subst P (sym is) (keeping.stand (b.bottom - 1)
        r (omega (arith, bottom f, all, length-append (terms_of s) (node h ps end ∷ []))))
    go Elements g bottom keeping = absurd g
    go (Applied _) g bottom keeping = absurd g

-- with nothing at hand, all references are those of the brackets
pub bottom_of : {W R M N : Type 0} (S : Space W R M N) (space : W) (reader : Reader R N) (s : List Open)
    → Keeping S space reader s [] → reader.fits ≡ true → length reader.terms.items ≡ length (terms_of s)
bottom_of S space reader s k f = sym (length-map reader.terms.items (S.term_of space)) ∙ ap length (k.terms f) ∙
    ap length (append-nil (terms_of s))

pub int_fits : (z : ℤ) → Fits (node (heads.Int z) end end)
int_fits z = record { weight = omega arith; depth = omega arith }
