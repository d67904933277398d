-- What the reader's steps do: brackets that close, and the first byte of a term.
use Rattle.std.specs.Cmp.{unsigned_Decides}
use Rattle.std.proofs.Common.{◌≡◌, ℕ, ◌+◌, ◌<◌, ◌≤◌, Bool, true, false, ◌&&◌, All, IsTrue, map, suc, List, [], ◌∷◌, ◌++◌, length, reverse, refl, ap, sym, ◌∙◌, arith, subst}
use Rattle.std.specs.Prelude.{slice_index, ◌==◌}
use Rattle.std.proofs.lemmas.List.{length-reverse, reverse-append, append-nil}
use Rattle.std.proofs.lemmas.Bool.{false_from_ne_true}
use Rattle.term_model.specs.Bytes.{is_blank, is_digit}
use Rattle.term_model.specs.Limits.{max_depth}
use Rattle.term_model.specs.Space.{Space}
use Rattle.term_model.specs.Symbol.{Symbol, begins_name}
use Rattle.term_model.specs.Term.{Tree, node, end, fits, all_fit, trees_of, Fits}
use Rattle.term_model.proofs.FitsLaws.{fits-sound, fits-complete}
use Rattle.aterm_text.specs.Depth.{Opening, Applied, Elements, Annotations, Open, begins_term}
use Rattle.aterm_text.specs.Reading.{State, Expect, Fresh, Whole, Done, Deep, Wrong, closer, closed, with, opened, first, next, step, out, Read, TooDeepText, NoTerm, outcome_from, outcome_of}
use Rattle.aterm_text.specs.Brackets.{IsOpening, AreOpen, Keeping, IsAt, at_term, at_first, at_whole, at_done, Reached, Closing, Holds, closing, closes_first, closing_state, awaits_term, IsPushed}
use Rattle.aterm_text.specs.declared.open.Enclosing.{Enclosing}
use Rattle.aterm_text.specs.declared.open.Enclosing.TheVariants as code
use Rattle.aterm_text.specs.declared.open.Bracket.{Bracket}
use Rattle.aterm_text.specs.declared.open.Reader.{Reader}
use Rattle.aterm_text.specs.declared.open.Next.{Next}
use Rattle.aterm_text.specs.declared.open.Next.TheVariants as nexts
use Rattle.aterm_text.proofs.BracketLaws.{as_many, takes_off, adds, opens}
use Rattle.aterm_text.proofs.Outcomes.{one_step, at_end, wrong_from, deep_from, Pass, Rests, rests_expect, rests_fresh, rests_whole, rests_done, blanks_pass}

same_closer : {N : Type 0} (knows : N → Bool) (symbol_of : N → Symbol) (e : Enclosing N) (k : Opening) →
    IsOpening knows symbol_of e k → closing e ≡ closer k
same_closer knows symbol_of (code.Parts n) (Applied y) h = refl
same_closer knows symbol_of code.Elements Elements h = refl
same_closer knows symbol_of code.Annotations (Annotations _ _) h = refl
same_closer knows symbol_of (code.Parts n) Elements h = absurd h
same_closer knows symbol_of (code.Parts n) (Annotations _ _) h = absurd h
same_closer knows symbol_of code.Elements (Applied _) h = absurd h
same_closer knows symbol_of code.Elements (Annotations _ _) h = absurd h
same_closer knows symbol_of code.Annotations (Applied _) h = absurd h
same_closer knows symbol_of code.Annotations Elements h = absurd h

module _ {W R M N : Type 0} (S : Space W R M N) (space : W) (text : List ℕ) (reader : Reader R N) where
  -- ---- a bracket closes

  pub nothing_closes : (hand : List Tree) (c at : ℕ) → Holds S space text reader hand (λ s. closing_state hand s c) at →
      reader.open.items ≡ [] → outcome_of text ≡ NoTerm
  nothing_closes hand c at h e = go h.brackets h.keeping.brackets h.outcome
    where
      go : (s : List Open) → AreOpen (S.knows space) (S.symbol_of space) reader.fits (reverse reader.open.items) s →
          outcome_of text ≡ outcome_from text (closing_state hand s c) at → outcome_of text ≡ NoTerm
      go [] b o = o ∙ wrong_from text at
      go (p ∷ s) b o = let B : List (Bracket N) → Type 0 =
          λ bs. AreOpen (S.knows space) (S.symbol_of space) reader.fits (reverse bs) (p ∷ s) in absurd (subst B e b)

  pub other_closes : (after : Reader R N) (b : Bracket N) (hand : List Tree) (c at : ℕ) →
      Holds S space text reader hand (λ s. closing_state hand s c) at → reader.open.items ≡ after.open.items ++ b ∷ []
      → after.terms ≡ reader.terms → after.fits ≡ reader.fits → (c ≡ closing b.enclosing → ⊥) → outcome_of text ≡ NoTerm
  other_closes after b hand c at h e f g differ = go h.brackets h.keeping h.outcome
    where
      go : (s : List Open) → Keeping S space reader s hand →
          outcome_of text ≡ outcome_from text (closing_state hand s c) at → outcome_of text ≡ NoTerm
      go [] k o = o ∙ wrong_from text at
      go (p ∷ s) k o =
          let c' : Closing S space after b p s (p.earlier ++ hand) =
          takes_off S space reader after b p s hand k e f g in
          let differs : (c == closer p.opening) ≡ false =
          false_from_ne_true (c == closer p.opening)
          (λ q. differ ((unsigned_Decides c (closer p.opening)).0 q ∙
          sym (same_closer (S.knows space) (S.symbol_of space) b.enclosing p.opening c'.bracket.opening))) in
          let wrong : closing_state hand (p ∷ s) c ≡ Wrong = rw (differs) refl in
          o ∙ ap (λ a. outcome_from text a at) wrong ∙ wrong_from text at

  pub this_closes : (after : Reader R N) (b : Bracket N) (hand : List Tree) (c at : ℕ) →
      Holds S space text reader hand (λ s. closing_state hand s c) at → reader.open.items ≡ after.open.items ++ b ∷ []
      → after.terms ≡ reader.terms → after.fits ≡ reader.fits → c ≡ closing b.enclosing
      → (o : Open) × (s : List Open) × (ts : List Tree) × Closing S space after b o s ts ×
      (outcome_of text ≡ outcome_from text (closed o.opening ts s) at)
  this_closes after b hand c at h e f g is = go h.brackets h.keeping h.outcome
    where
      go : (s : List Open) → Keeping S space reader s hand →
          outcome_of text ≡ outcome_from text (closing_state hand s c) at
          → (o : Open) × (s : List Open) × (ts : List Tree) × Closing S space after b o s ts ×
          (outcome_of text ≡ outcome_from text (closed o.opening ts s) at)
      go [] k o = let all : reverse reader.open.items ≡ b ∷ reverse after.open.items =
          ap reverse e ∙ reverse-append after.open.items (b ∷ []) in
          let B : List (Bracket N) → Type 0 = λ bs. AreOpen (S.knows space) (S.symbol_of space) reader.fits bs [] in
          absurd (subst B all k.brackets)
      go (p ∷ s) k o =
          let c' : Closing S space after b p s (p.earlier ++ hand) =
          takes_off S space reader after b p s hand k e f g in
          let same : (c == closer p.opening) ≡ true =
          (unsigned_Decides c (closer p.opening)).1 (is ∙
          same_closer (S.knows space) (S.symbol_of space) b.enclosing p.opening c'.bracket.opening) in
          let here : closing_state hand (p ∷ s) c ≡ closed p.opening (p.earlier ++ hand) s = rw (same) refl in
          (p, s, p.earlier ++ hand, c', o ∙ ap (λ a. outcome_from text a at) here)

  -- whether the byte closes the innermost bracket
  closes_is : (o : Open) (s : List Open) (hand : List Tree) (c : ℕ) → Keeping S space reader (o ∷ s) hand →
      closes_first (reverse reader.open.items) c ≡ (c == closer o.opening)
  closes_is o s hand c k = go (reverse reader.open.items) k.brackets
    where
      go : (bs : List (Bracket N)) → AreOpen (S.knows space) (S.symbol_of space) reader.fits bs (o ∷ s) →
          closes_first bs c ≡ (c == closer o.opening)
      go [] h = absurd h
      go (b ∷ bs) h = ap (λ d. c == d)
          (same_closer (S.knows space) (S.symbol_of space) b.enclosing o.opening h.0.opening)

  module _ (at : ℕ) (low : at < length text) where
    abbrev byte : ℕ
    byte = slice_index text at

    moved : (a b : State) → outcome_of text ≡ outcome_from text a at → step a byte ≡ b →
        outcome_of text ≡ outcome_from text b (at + 1)
    moved a b o e = o ∙ one_step text at a low ∙ ap (λ x. outcome_from text x (at + 1)) e

    -- ---- a term begins

    pub begins_not : (s : List Open) → outcome_of text ≡ outcome_from text (Expect s) at → is_blank byte ≡ false →
        begins_term byte ≡ false → outcome_of text ≡ NoTerm
    begins_not s o b f = let wrong : step (Expect s) byte ≡ Wrong = rw (b, f) refl in
        moved _ _ o wrong ∙ wrong_from text (at + 1)

    pub begins_deep : (s : List Open) → Keeping S space reader s [] →
        outcome_of text ≡ outcome_from text (Expect s) at → is_blank byte ≡ false → begins_term byte ≡ true →
        length reader.open.items ≡ max_depth → outcome_of text ≡ TooDeepText
    begins_deep s k o b f d =
        let many : length s ≡ max_depth =
        sym (as_many (S.knows space) (S.symbol_of space) reader.fits (reverse reader.open.items) s k.brackets) ∙
        length-reverse reader.open.items ∙ d in
        let deep : step (Expect s) byte ≡ Deep = rw (b, f, (unsigned_Decides (length s) max_depth).1 many) refl in
        moved _ _ o deep ∙ deep_from text (at + 1)

    pub begins : (s : List Open) → Keeping S space reader s [] → outcome_of text ≡ outcome_from text (Expect s) at →
        is_blank byte ≡ false → begins_term byte ≡ true → (length reader.open.items ≡ max_depth → ⊥)
        → Holds S space text reader [] (λ s. first s byte) (at + 1)
    begins s k o b f d =
        let few : (length s == max_depth) ≡ false =
        false_from_ne_true (length s == max_depth)
        (λ q. d (sym (sym (as_many (S.knows space) (S.symbol_of space) reader.fits (reverse reader.open.items)
        s k.brackets) ∙ length-reverse reader.open.items) ∙ (unsigned_Decides (length s) max_depth).0 q)) in
        let here : step (Expect s) byte ≡ first s byte = rw (b, f, few) refl in
        record { brackets = s; keeping = k; outcome = moved _ _ o here; within = omega (arith, low) }

    pub awaits : Reached S space text reader nexts.Term at → (s : List Open) × Keeping S space reader s [] ×
        (outcome_of text ≡ outcome_from text (Expect s) at)
    awaits r = go r.is r.outcome
      where
        go : {a : State} → IsAt S space reader nexts.Term a → outcome_of text ≡ outcome_from text a at →
            (s : List Open) × Keeping S space reader s [] × (outcome_of text ≡ outcome_from text (Expect s) at)
        go (at_term {s = s} k) o = (s, k, o)

    -- ---- a byte where something may come next

    pub first_is_term : Reached S space text reader nexts.First at → is_blank byte ≡ false →
        closes_first (reverse reader.open.items) byte ≡ false → Reached S space text reader nexts.Term at
    first_is_term r b n = go r.is r.outcome
      where
        go : {a : State} → IsAt S space reader nexts.First a → outcome_of text ≡ outcome_from text a at →
            Reached S space text reader nexts.Term at
        go (at_first {o = p} {s = s} none k) o =
            let not_it : (byte == closer p.opening) ≡ false = sym (closes_is p s [] byte k) ∙ n in
            let here : step (Fresh p s) byte ≡ step (Expect (p ∷ s)) byte = rw (b, not_it) refl in
            record {
              state = Expect (p ∷ s);
              is = at_term k;
              outcome =
                  moved _ _ o here ∙ sym (one_step text at (Expect (p ∷ s)) low);
              within = omega (arith, low);
            }

    pub first_closes : Reached S space text reader nexts.First at → is_blank byte ≡ false →
        closes_first (reverse reader.open.items) byte ≡ true →
        Holds S space text reader [] (λ s. closing_state [] s byte) (at + 1)
    first_closes r b y = go r.is r.outcome
      where
        go : {a : State} → IsAt S space reader nexts.First a → outcome_of text ≡ outcome_from text a at →
            Holds S space text reader [] (λ s. closing_state [] s byte) (at + 1)
        go (at_first {o = p} {s = s} none k) o =
            let yes : (byte == closer p.opening) ≡ true = sym (closes_is p s [] byte k) ∙ y in
            let no_terms : p.earlier ++ [] ≡ [] = append-nil p.earlier ∙ none in
            let here : step (Fresh p s) byte ≡ closing_state [] (p ∷ s) byte = rw (b, yes, no_terms) refl in
            record { brackets = p ∷ s; keeping = k; outcome = moved _ _ o here; within = omega (arith, low) }

    pub whole_annotated : (after : Reader R N) → Reached S space text reader nexts.Whole at → byte ≡ 123 →
        IsPushed code.Annotations reader after → Reached S space text after nexts.First (at + 1)
    whole_annotated after r e p = go r.is r.outcome
      where
        go : {a : State} → IsAt S space reader nexts.Whole a → outcome_of text ≡ outcome_from text a at →
            Reached S space text after nexts.First (at + 1)
        go (at_whole {h = h} {ps = ps} {s = s} k) o =
            let here : step (Whole h ps s) byte ≡ Fresh (opened (Annotations h ps)) s = ap (step (Whole h ps s)) e in
            record {
              state = Fresh (opened (Annotations h ps)) s;
              is =
                  at_first refl (opens S space reader after s _ code.Annotations (Annotations h ps) k refl tt p);
              outcome = moved _ _ o here;
              within = omega (arith, low);
            }

    -- a byte after a term
    pub whole_follows : Reached S space text reader nexts.Whole at → is_blank byte ≡ false → (byte ≡ 123 → ⊥) →
        (t : Tree) × Holds S space text reader (t ∷ []) (λ s. next t s byte) (at + 1)
    whole_follows r b n = go r.is r.outcome
      where
        go : {a : State} → IsAt S space reader nexts.Whole a → outcome_of text ≡ outcome_from text a at → (t : Tree) ×
            Holds S space text reader (t ∷ []) (λ s. next t s byte) (at + 1)
        go (at_whole {h = h} {ps = ps} {s = s} k) o =
            let not_brace : (byte == 123) ≡ false =
            false_from_ne_true (byte == 123) (λ q. n ((unsigned_Decides byte 123).0 q)) in
            let here : step (Whole h ps s) byte ≡ next (node h ps end) s byte = rw (b, not_brace) refl in (
              node h ps end,
              record {
                brackets = s;
                keeping = k;
                outcome = moved _ _ o here;
                within =
                    omega (arith, low);
              },
            )

    pub done_follows : Reached S space text reader nexts.Done at → is_blank byte ≡ false → (t : Tree) ×
        Holds S space text reader (t ∷ []) (λ s. next t s byte) (at + 1)
    done_follows r b = go r.is r.outcome
      where
        go : {a : State} → IsAt S space reader nexts.Done a → outcome_of text ≡ outcome_from text a at → (t : Tree) ×
            Holds S space text reader (t ∷ []) (λ s. next t s byte) (at + 1)
        go (at_done {t = t} {s = s} k) o =
            let here : step (Done t s) byte ≡ next t s byte = rw (b) refl in
            (t, record { brackets = s; keeping = k; outcome = moved _ _ o here; within = omega (arith, low) })

  module _ (t : Tree) (c at : ℕ) (e : Holds S space text reader (t ∷ []) (λ s. next t s c) at) where
    pub nothing_follows : length reader.open.items ≡ 0 → outcome_of text ≡ NoTerm
    nothing_follows none = go e.brackets e.keeping e.outcome
      where
        go : (s : List Open) → Keeping S space reader s (t ∷ []) → outcome_of text ≡ outcome_from text (next t s c) at →
            outcome_of text ≡ NoTerm
        go [] k o = o ∙ wrong_from text at
        go (p ∷ s) k o =
            let many : length reader.open.items ≡ length (p ∷ s) =
            sym (length-reverse reader.open.items) ∙
            as_many (S.knows space) (S.symbol_of space) reader.fits (reverse reader.open.items) (p ∷ s)
            k.brackets in
            absurd (omega (arith, many, none))

    pub comma_follows : c ≡ 44 → (length reader.open.items ≡ 0 → ⊥) → Reached S space text reader nexts.Term at
    comma_follows is some = go e.brackets e.keeping e.outcome
      where
        go : (s : List Open) → Keeping S space reader s (t ∷ []) → outcome_of text ≡ outcome_from text (next t s c) at →
            Reached S space text reader nexts.Term at
        go [] k o = absurd (some (sym (length-reverse reader.open.items) ∙
            as_many (S.knows space) (S.symbol_of space) reader.fits (reverse reader.open.items) [] k.brackets))
        go (p ∷ s) k o =
            let here : next t (p ∷ s) c ≡ Expect (with p t ∷ s) = ap (next t (p ∷ s)) is in
            record {
              state = Expect (with p t ∷ s);
              is = at_term (adds S space reader p s t k);
              outcome =
                  o ∙ ap (λ a. outcome_from text a at) here;
              within = e.within;
            }

    pub closer_follows : (c ≡ 44 → ⊥) → (hand : List Tree) ×
        Holds S space text reader hand (λ s. closing_state hand s c) at
    closer_follows other = (
      t ∷ [],
      record { brackets = e.brackets; keeping = e.keeping; outcome = go e.brackets e.outcome; within = e.within },
    )
      where
        no_comma : (c == 44) ≡ false
        no_comma = false_from_ne_true (c == 44) (λ q. other ((unsigned_Decides c 44).0 q))

        go : (s : List Open) → outcome_of text ≡ outcome_from text (next t s c) at →
            outcome_of text ≡ outcome_from text (closing_state (t ∷ []) s c) at
        go [] o = o
        go (p ∷ s) o =
            let here : next t (p ∷ s) c ≡ closing_state (t ∷ []) (p ∷ s) c = rw (no_comma) refl in
            o ∙ ap (λ a. outcome_from text a at) here

-- ---- the start of the text

pub starts : {W R M N : Type 0} (S : Space W R M N) (space : W) (text : List ℕ) (reader : Reader R N) (at : ℕ) →
    reader.open.items ≡ [] → reader.terms.items ≡ [] → reader.fits ≡ true
    → at ≤ length text → Pass is_blank text 0 at → Reached S space text reader nexts.Term at
starts {W} {R} {M} {N} S space text reader at o t f low all = record {
  state = Expect [];
  is = at_term record {
    brackets = let B : List (Bracket N) → Type 0 =
        λ bs. AreOpen (S.knows space) (S.symbol_of space) reader.fits (reverse bs) [] in subst B (sym o) tt;
    fit = f;
    stand = let Q : List R → Type 0 = All (λ y. IsTrue (S.stands space y)) in subst Q (sym t) none;
    terms = λ e. ap (map (S.term_of space)) t;
  };
  outcome = blanks_pass text {a = Expect []} 0 at rests_expect (omega arith) low all;
  within = low;
}
  where
    none : All (λ y. IsTrue (S.stands space y)) []
    none k d l = absurd (omega (arith, l))

-- blanks after what was read
pub blanks_after : {W R M N : Type 0} (S : Space W R M N) (space : W) (text : List ℕ) (reader : Reader R N) (may : Next)
    (at to : ℕ) → Reached S space text reader may at
    → at ≤ to → to ≤ length text → Pass is_blank text at to → Reached S space text reader may to
blanks_after S space text reader may at to r low high all =
    record {
      state = r.state;
      is = r.is;
      outcome = r.outcome ∙ blanks_pass text at to (rests r.is) low high all;
      within = high;
    }
  where
    rests : {n : Next} {a : State} → IsAt S space reader n a → Rests a
    rests (at_term k) = rests_expect
    rests (at_first none k) = rests_fresh
    rests (at_whole k) = rests_whole
    rests (at_done k) = rests_done

-- ---- the end of the text

-- the last of references of which there is one for each of these terms
last_is : {R : Type 0} (f : R → Tree) (rs : List R) (r : R) (t : Tree) → map f (rs ++ r ∷ []) ≡ t ∷ [] → f r ≡ t
last_is f [] r t e = cc
last_is f (x ∷ []) r t e = absurd (cc)
last_is f (x ∷ y ∷ rs) r t e = absurd (cc)

last_stands : {R : Type 0} (P : R → Type 0) (rs : List R) (r : R) → All P (rs ++ r ∷ []) → P r
last_stands P [] r all = all 0 r (omega arith)
last_stands P (x ∷ rs) r all = last_stands P rs r (λ k d l. all (suc k) d (omega (arith, l)))

module _ {W R M N : Type 0} (S : Space W R M N) (space : W) (text : List ℕ) (reader : Reader R N) (may : Next)
    (r : Reached S space text reader may (length text)) where
  ends_as : (a : State) → outcome_of text ≡ outcome_from text a (length text) → outcome_of text ≡ out a
  ends_as a o = o ∙ at_end text (length text) a (omega arith)

  none_open : (s : List Open) (hand : List Tree) → Keeping S space reader s hand → length reader.open.items ≡ length s
  none_open s hand k = sym (length-reverse reader.open.items) ∙
      as_many (S.knows space) (S.symbol_of space) reader.fits (reverse reader.open.items) s k.brackets

  pub still_open : (length reader.open.items ≡ 0 → ⊥) → outcome_of text ≡ NoTerm
  still_open some = go r.is r.outcome
    where
      go : {n : Next} {a : State} → IsAt S space reader n a → outcome_of text ≡ outcome_from text a (length text) →
          outcome_of text ≡ NoTerm
      go (at_term {s = s} k) o = ends_as _ o
      go (at_first {o = p} {s = s} none k) o = ends_as _ o
      go (at_whole {h = h} {ps = ps} {s = []} k) o = absurd (some (none_open [] _ k))
      go (at_whole {h = h} {ps = ps} {s = p ∷ s} k) o = ends_as _ o
      go (at_done {t = t} {s = []} k) o = absurd (some (none_open [] _ k))
      go (at_done {t = t} {s = p ∷ s} k) o = ends_as _ o

  pub term_missing : awaits_term may ≡ true → outcome_of text ≡ NoTerm
  term_missing e = go r.is r.outcome e
    where
      go : {n : Next} {a : State} → IsAt S space reader n a → outcome_of text ≡ outcome_from text a (length text) →
          awaits_term n ≡ true → outcome_of text ≡ NoTerm
      go (at_term {s = s} k) o e = ends_as _ o
      go (at_first {o = p} {s = s} none k) o e = ends_as _ o
      go (at_whole k) o e = absurd (cc)
      go (at_done k) o e = absurd (cc)

  -- the term that is whole outside all brackets
  abbrev WholeTerm : Type 0
  WholeTerm = (t : Tree) × (outcome_of text ≡ Read t) × Keeping S space reader [] (t ∷ [])

  whole_term : length reader.open.items ≡ 0 → awaits_term may ≡ false → WholeTerm
  whole_term none e = go r.is r.outcome e
    where
      go : {n : Next} {a : State} → IsAt S space reader n a → outcome_of text ≡ outcome_from text a (length text) →
          awaits_term n ≡ false → WholeTerm
      go (at_term {s = s} k) o e = absurd (cc)
      go (at_first {o = p} {s = s} none k) o e = absurd (cc)
      go (at_whole {h = h} {ps = ps} {s = []} k) o e = (node h ps end, ends_as _ o, k)
      go (at_whole {h = h} {ps = ps} {s = p ∷ s} k) o e = absurd (omega (arith, none, none_open (p ∷ s) _ k))
      go (at_done {t = t} {s = []} k) o e = (t, ends_as _ o, k)
      go (at_done {t = t} {s = p ∷ s} k) o e = absurd (omega (arith, none, none_open (p ∷ s) _ k))

  -- all of one term fit where it does
  one_fits : (t : Tree) → all_fit (trees_of (t ∷ [])) ≡ fits t
  one_fits t = go (fits t)
    where
      go : (b : Bool) → (b && true) ≡ b
      go true = refl
      go false = refl

  pub large_at_end : length reader.open.items ≡ 0 → awaits_term may ≡ false → reader.fits ≡ false → (t : Tree) ×
      (outcome_of text ≡ Read t) × (¬ (Fits t))
  large_at_end none e lost =
      let (t, o, k) = whole_term none e in (
        t,
        o,
        λ f. let small : fits t ≡ true = fits-complete t f in let large : fits t ≡ false =
            sym (one_fits t) ∙ sym k.fit ∙ lost in cc,
      )

  pub read_at_end : length reader.open.items ≡ 0 → awaits_term may ≡ false → reader.fits ≡ true →
      (rs : List R) (x : R) → reader.terms.items ≡ rs ++ x ∷ [] → IsTrue (S.stands space x) ×
      (outcome_of text ≡ Read (S.term_of space x)) × Fits (S.term_of space x)
  read_at_end none e all_fits rs x is =
      let (t, o, k) = whole_term none e in
      let same : S.term_of space x ≡ t =
      last_is (S.term_of space) rs x t (ap (map (S.term_of space)) (sym is) ∙ k.terms all_fits) in
      let Q : List R → Type 0 = All (λ y. IsTrue (S.stands space y)) in (
        last_stands (λ y. IsTrue (S.stands space y)) rs x (subst Q is k.stand),
        o ∙
            ap Read (sym same),
        subst Fits (sym same) (fits-sound t (sym (one_fits t) ∙ sym k.fit ∙ all_fits)),
      )

  pub none_at_end : length reader.open.items ≡ 0 → awaits_term may ≡ false → reader.fits ≡ true →
      reader.terms.items ≡ [] → ⊥
  none_at_end none e all_fits is =
      let (t, o, k) = whole_term none e in
      let empty : [] ≡ t ∷ [] = ap (map (S.term_of space)) (sym is) ∙ k.terms all_fits in
      cc

-- ---- the first byte of a term

-- with what no term begins
pub begins_nothing : (s : List Open) (c : ℕ) → begins_name c ≡ false → is_digit c ≡ false → (c ≡ 45 → ⊥) →
    (c ≡ 34 → ⊥) → (c ≡ 40 → ⊥) → (c ≡ 91 → ⊥) → first s c ≡ Wrong
begins_nothing s c b d m q p l =
    let differs : (n : ℕ) → (c ≡ n → ⊥) → (c == n) ≡ false =
    λ n f. false_from_ne_true (c == n) (λ e. f ((unsigned_Decides c n).0 e)) in
    rw (b, d, differs 45 m, differs 34 q, differs 40 p, differs 91 l) refl
