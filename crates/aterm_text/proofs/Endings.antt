-- States in which a term may end, and what the next byte does there.
use Rattle.std.specs.Bool.{◌==◌}
use Rattle.std.specs.List.{list_all}
use Rattle.std.specs.Cmp.{unsigned_Decides}
use Rattle.std.proofs.Common.{◌≡◌, ℕ, ◌+◌, Bool, true, false, ◌<◌, ◌||◌, List, [], ◌∷◌, ◌++◌, ◌⊎◌, inl, inr, length, refl, ap, sym, ◌∙◌, arith, subst}
use Rattle.std.proofs.lemmas.Bool.{and_parts}
use Rattle.term_model.specs.Bytes.{is_blank, signed}
use Rattle.term_model.specs.QuotedText.{Joined}
use Rattle.term_model.specs.declared.term.Head.{Head}
use Rattle.term_model.specs.declared.term.Head.TheVariants as heads
use Rattle.term_model.specs.Limits.{max_depth}
use Rattle.term_model.specs.Symbol.{Symbol, Plain}
use Rattle.term_model.specs.Term.{Tree, node, Trees, end}
use Rattle.aterm_text.specs.Tokens.{AreBlanks}
use Rattle.aterm_text.specs.Depth.{Opening, Applied, Elements, Annotations, Open, begins_term, StartsTerm}
use Rattle.aterm_text.proofs.Basics.{either_or, test}
use Rattle.aterm_text.specs.Reading.{State, Expect, Fresh, InName, InDigits, Named, Whole, Done, Deep, opened, closer, closed, first, next, step, after}

-- the state is such, or it is `Deep`, and then this holds
abbrev pub OrDeep : Type 0 → (State → Type 0) → State → Type 0
OrDeep D P a = P a ⊎ ((a ≡ Deep) × D)

pub weaken : {D E : Type 0} (P : State → Type 0) {a : State} → (D → E) → OrDeep D P a → OrDeep E P a
weaken P f (inl p) = inl p
weaken P f (inr e) = inr (e.0, f e.1)

-- so much deeper than these brackets is past the limit
abbrev pub Past : List Open → ℕ → Type 0
Past s d = max_depth < length s + d

pub after_append : (xs ys : List ℕ) (a : State) → after a (xs ++ ys) ≡ after (after a xs) ys
unfolding after
after_append [] ys a = refl
after_append (x ∷ xs) ys a = after_append xs ys (step a x)

pub after_deep : (xs : List ℕ) → after Deep xs ≡ Deep
unfolding after
after_deep [] = refl
after_deep (x ∷ xs) = after_deep xs

-- on from a state that is reached, unless the text is too deep
pub on : (D : Type 0) (P Q : State → Type 0) (xs ys : List ℕ) (a : State) → OrDeep D P (after a xs) →
    ((b : State) → P b → OrDeep D Q (after b ys)) → OrDeep D Q (after a (xs ++ ys))
on D P Q xs ys a (inl p) f = let R : State → Type 0 = OrDeep D Q in
    subst R (sym (after_append xs ys a)) (f (after a xs) p)
on D P Q xs ys a (inr e) f = inr (after_append xs ys a ∙ ap (λ b. after b ys) e.0 ∙ after_deep ys, e.1)

-- the same where the bytes are split by a `Joined`
pub through : (D : Type 0) (P Q : State → Type 0) {F G : List ℕ →
    Type 0} (bs : List ℕ) (a : State) (j : Joined F G bs) → OrDeep D P (after a j.front) →
    ((b : State) → P b → OrDeep D Q (after b j.back))
    → OrDeep D Q (after a bs)
through D P Q bs a j p f = let R : List ℕ → Type 0 = λ ys. OrDeep D Q (after a ys) in
    subst R (sym j.bytes) (on D P Q j.front j.back a p f)

-- what holds of the four blanks
pub at_blank : (P : ℕ → Type 0) → P 32 → P 9 → P 10 → P 13 → (c : ℕ) → is_blank c ≡ true → P c
at_blank P a b d f c e = go (either_or ((c == 32 || c == 9) || c == 10) (c == 13) e)
  where
    here : (n : ℕ) → P n → (c == n) ≡ true → P c
    here n p h = subst P (sym ((unsigned_Decides c n).0 h)) p

    two : ((c == 32) ≡ true) ⊎ ((c == 9) ≡ true) → P c
    two (inl h) = here 32 a h
    two (inr h) = here 9 b h

    three : ((c == 32 || c == 9) ≡ true) ⊎ ((c == 10) ≡ true) → P c
    three (inl h) = two (either_or (c == 32) (c == 9) h)
    three (inr h) = here 10 d h

    go : (((c == 32 || c == 9) || c == 10) ≡ true) ⊎ ((c == 13) ≡ true) → P c
    go (inl h) = three (either_or (c == 32 || c == 9) (c == 10) h)
    go (inr h) = here 13 f h

pub blanks_keep : (P : State → Type 0) → ((a : State) (c : ℕ) → is_blank c ≡ true → P a → P (step a c)) →
    (bs : List ℕ) → AreBlanks bs → (a : State) → P a → P (after a bs)
unfolding after
blanks_keep P keep [] e a p = p
blanks_keep P keep (b ∷ bs) e a p = let h : (is_blank b ≡ true) × (list_all is_blank bs ≡ true) = and_parts _ _ e in
    blanks_keep P keep bs h.1 (step a b) (keep a b h.0 p)

-- ---- states in which a term may end

pub data Ends : State → Tree → List Open → Type 0 where
  at_name : {n : List ℕ} {s : List Open} → Ends (InName n s) (node (heads.App (Plain n)) end end) s
  at_digits : {sign : Bool} {v : ℕ} {s : List Open} →
      Ends (InDigits sign v s) (node (heads.Int (signed sign v)) end end) s
  at_named : {y : Symbol} {s : List Open} → Ends (Named y s) (node (heads.App y) end end) s
  at_whole : {h : Head} {ps : Trees} {s : List Open} → Ends (Whole h ps s) (node h ps end) s
  at_done : {t : Tree} {s : List Open} → Ends (Done t s) t s

pub data Bare : State → Head → Trees → List Open → Type 0 where
  bare_name : {n : List ℕ} {s : List Open} → Bare (InName n s) (heads.App (Plain n)) end s
  bare_digits : {sign : Bool} {v : ℕ} {s : List Open} → Bare (InDigits sign v s) (heads.Int (signed sign v)) end s
  bare_named : {y : Symbol} {s : List Open} → Bare (Named y s) (heads.App y) end s
  bare_whole : {h : Head} {ps : Trees} {s : List Open} → Bare (Whole h ps s) h ps s

pub data SymbolEnds : State → Symbol → List Open → Type 0 where
  name_here : {n : List ℕ} {s : List Open} → SymbolEnds (InName n s) (Plain n) s
  symbol_before : {y : Symbol} {s : List Open} → SymbolEnds (Named y s) y s

pub bare_ends : {a : State} {h : Head} {ps : Trees} {s : List Open} → Bare a h ps s → Ends a (node h ps end) s
bare_ends bare_name = at_name
bare_ends bare_digits = at_digits
bare_ends bare_named = at_named
bare_ends bare_whole = at_whole

pub symbol_bare : {a : State} {y : Symbol} {s : List Open} → SymbolEnds a y s → Bare a (heads.App y) end s
symbol_bare name_here = bare_name
symbol_bare symbol_before = bare_named

pub symbol_blank : {a : State} {y : Symbol} {s : List Open} (c : ℕ) → is_blank c ≡ true → SymbolEnds a y s →
    SymbolEnds (step a c) y s
symbol_blank {a} {y} {s} c e (name_here {n}) =
    at_blank (λ c. SymbolEnds (step (InName n s) c) (Plain n) s)
    symbol_before symbol_before symbol_before symbol_before c e
symbol_blank {a} {y} {s} c e symbol_before =
    at_blank (λ c. SymbolEnds (step (Named y s) c) y s) symbol_before symbol_before symbol_before symbol_before c e

pub bare_blank : {a : State} {h : Head} {ps : Trees} {s : List Open} (c : ℕ) → is_blank c ≡ true → Bare a h ps s →
    Bare (step a c) h ps s
bare_blank {a} {h} {ps} {s} c e (bare_name {n}) =
    at_blank (λ c. Bare (step (InName n s) c) (heads.App (Plain n)) end s)
    bare_named bare_named bare_named bare_named c e
bare_blank {a} {h} {ps} {s} c e (bare_digits {sign} {v}) =
    at_blank (λ c. Bare (step (InDigits sign v s) c) (heads.Int (signed sign v)) end s)
    bare_whole bare_whole bare_whole bare_whole c e
bare_blank {a} {h} {ps} {s} c e (bare_named {y}) =
    at_blank (λ c. Bare (step (Named y s) c) (heads.App y) end s) bare_named bare_named bare_named bare_named c e
bare_blank {a} {h} {ps} {s} c e bare_whole =
    at_blank (λ c. Bare (step (Whole h ps s) c) h ps s) bare_whole bare_whole bare_whole bare_whole c e

-- a comma or a closing bracket after a term
pub ends_next : {a : State} {t : Tree} {s : List Open} → Ends a t s → (step a 44 ≡ next t s 44) ×
    (step a 41 ≡ next t s 41) × (step a 93 ≡ next t s 93) × (step a 125 ≡ next t s 125)
ends_next at_name = (refl, refl, refl, refl)
ends_next at_digits = (refl, refl, refl, refl)
ends_next at_named = (refl, refl, refl, refl)
ends_next at_whole = (refl, refl, refl, refl)
ends_next at_done = (refl, refl, refl, refl)

abbrev pub open_with : Opening → List Tree → Open
open_with k ts = record { opening = k; earlier = ts }

pub ends_close : (k : Opening) (es : List Tree) {a : State} {t : Tree} {s : List Open} → Ends a t (open_with k es ∷ s) →
    step a (closer k) ≡ closed k (es ++ t ∷ []) s
ends_close (Applied _) es e = (ends_next e).1
ends_close Elements es e = (ends_next e).2
ends_close (Annotations _ _) es e = (ends_next e).3

pub bare_brace : {a : State} {h : Head} {ps : Trees} {s : List Open} → Bare a h ps s →
    step a 123 ≡ Fresh (opened (Annotations h ps)) s
bare_brace bare_name = refl
bare_brace bare_digits = refl
bare_brace bare_named = refl
bare_brace bare_whole = refl

pub symbol_bracket : {a : State} {y : Symbol} {s : List Open} → SymbolEnds a y s →
    step a 40 ≡ Fresh (opened (Applied y)) s
symbol_bracket name_here = refl
symbol_bracket symbol_before = refl

pub fresh_close : (k : Opening) (s : List Open) → step (Fresh (opened k) s) (closer k) ≡ closed k [] s
fresh_close (Applied _) s = refl
fresh_close Elements s = refl
fresh_close (Annotations _ _) s = refl

-- ---- the first byte of a term

pub not_blank : (c : ℕ) → begins_term c ≡ true → is_blank c ≡ false
not_blank c e = go (test (is_blank c))
  where
    go : (is_blank c ≡ true) ⊎ (is_blank c ≡ false) → is_blank c ≡ false
    go (inl h) = absurd (at_blank (λ c. begins_term c ≡ true → ⊥) (λ f. cc) (λ f. cc) (λ f. cc) (λ f. cc) c h e)
    go (inr h) = h

pub not_closer : (k : Opening) (c : ℕ) → begins_term c ≡ true → (c == closer k) ≡ false
not_closer k c e = go (test (c == closer k))
  where
    no : (k : Opening) → begins_term (closer k) ≡ true → ⊥
    no (Applied _) f = cc
    no Elements f = cc
    no (Annotations _ _) f = cc

    go : ((c == closer k) ≡ true) ⊎ ((c == closer k) ≡ false) → (c == closer k) ≡ false
    go (inl h) = absurd (no k (let R : ℕ → Type 0 = λ c. begins_term c ≡ true in
        subst R ((unsigned_Decides c (closer k)).0 h) e))
    go (inr h) = h

pub begin_first : (s : List Open) (c : ℕ) → begins_term c ≡ true →
    (step (Expect s) c ≡ first s c) ⊎ ((step (Expect s) c ≡ Deep) × Past s 1)
begin_first s c e = go (test (length s == max_depth))
  where
    go : ((length s == max_depth) ≡ true) ⊎ ((length s == max_depth) ≡ false) →
        (step (Expect s) c ≡ first s c) ⊎ ((step (Expect s) c ≡ Deep) × Past s 1)
    go (inl h) = let full : length s ≡ max_depth = (unsigned_Decides (length s) max_depth).0 h in
        inr (rw (not_blank c e, e, h) refl, omega (arith, full))
    go (inr h) = inl (rw (not_blank c e, e, h) refl)

pub fresh_first : (k : Opening) (s : List Open) (xs : List ℕ) → StartsTerm xs →
    after (Fresh (opened k) s) xs ≡ after (Expect (opened k ∷ s)) xs
unfolding after
fresh_first k s [] e = absurd e
fresh_first k s (c ∷ cs) e = ap (λ a. after a cs) (rw (not_blank c e, not_closer k c e) refl)
