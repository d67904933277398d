-- What spells a term is read as that term, unless the term is too deep.
use Rattle.std.specs.List.{list_all}
use Rattle.std.proofs.Common.{◌≡◌, ℕ, ◌+◌, Bool, true, false, ◌<◌, List, [], ◌∷◌, ◌++◌, ◌⊎◌, inl, inr, refl, ap, sym, ◌∙◌, append_assoc, arith, subst}
use Rattle.std.proofs.lemmas.Bool.{and_parts}
use Rattle.term_model.specs.Bytes.{is_blank, is_digit}
use Rattle.term_model.specs.QuotedText.{Joined}
use Rattle.term_model.specs.declared.term.Head.{Head}
use Rattle.term_model.specs.declared.term.Head.TheVariants as heads
use Rattle.term_model.specs.Limits.{max_depth}
use Rattle.term_model.specs.Symbol.{Symbol, Plain, Quoted, Tuple, begins_name, continues_name, is_name}
use Rattle.term_model.specs.Term.{Tree, node, Trees, end, more, list_of, trees_of, depth, depths}
use Rattle.aterm_text.specs.Tokens.{Token, Mark, AreSigned, AreDigits, IsInteger, IsSymbolText}
use Rattle.aterm_text.specs.Grammar.{Between, Optional, SpellsBare, Spells, SpellsAll, SpellsRest, IsText}
use Rattle.aterm_text.specs.Depth.{Opening, Applied, Elements, Annotations, Open, begins_term, StartsTerm}
use Rattle.term_model.proofs.TermLemmas.{trees_of-list_of}
use Rattle.aterm_text.specs.Reading.{State, Expect, Fresh, Whole, Done, Deep, opened, closer, closed, text, step, after}
use Rattle.aterm_text.proofs.Endings.{OrDeep, weaken, Past, after_deep, through, blanks_keep, Ends, Bare, SymbolEnds, bare_ends, symbol_bare, symbol_blank, bare_blank, ends_next, open_with, ends_close, bare_brace, symbol_bracket, fresh_close, begin_first, fresh_first, at_done, bare_whole}
use Rattle.aterm_text.proofs.ReadTokens.{digit_no_name, read_integer, read_symbol}

-- ---- brackets

pub closed_blank : (k : Opening) (ts : List Tree) (s : List Open) (c : ℕ) → is_blank c ≡ true →
    step (closed k ts s) c ≡ closed k ts s
closed_blank (Applied y) ts s c e = rw e refl
closed_blank Elements ts s c e = rw e refl
closed_blank (Annotations h ps) ts s c e = rw e refl

-- what stands between brackets, of this depth, is read
abbrev pub Reads : (List ℕ → Type 0) → ℕ → List Tree → Type 0
Reads P n ts = (k : Opening) (s : List Open) (xs : List ℕ) → P xs →
    OrDeep (Past s (1 + n)) (λ a. step a (closer k) ≡ closed k ts s) (after (Fresh (opened k) s) xs)

-- a mark, and the blanks after it
pub read_mark : (Q : State → Type 0) (c : ℕ) (a : State) (bs : List ℕ) → Mark c bs →
    ((b : State) (d : ℕ) → is_blank d ≡ true → Q b → Q (step b d)) → Q (step a c) → Q (after a bs)
unfolding after
read_mark Q c a bs j keep q =
    let marked : bs ≡ c ∷ j.back = j.bytes ∙ ap (λ xs. xs ++ j.back) j.first in
    let R : List ℕ → Type 0 = λ xs. Q (after a xs) in
    subst R (sym marked) (blanks_keep Q keep j.back j.second (step a c) q)

pub read_between : (k : Opening) (left : ℕ) (s : List Open) (P : List ℕ →
    Type 0) (n : ℕ) (ts : List Tree) (bs : List ℕ) (a : State) → Reads P n ts → step a left ≡ Fresh (opened k) s →
    Between left (closer k) P bs → OrDeep (Past s (1 + n)) (λ b. b ≡ closed k ts s) (after a bs)
read_between k left s P n ts bs a reads e j =
    through (Past s (1 + n)) (λ b. b ≡ Fresh (opened k) s) (λ b. b ≡ closed k ts s) bs a j
    (inl (read_mark (λ b. b ≡ Fresh (opened k) s) left a j.front j.first (λ b d h q. ap (λ x. step x d) q ∙
    rw h refl) e))
    (λ b q. through (Past s (1 + n)) (λ x. step x (closer k) ≡ closed k ts s) (λ x. x ≡ closed k ts s) j.back b j.second
    (let R : State → Type 0 = λ x. OrDeep (Past s (1 + n)) (λ y. step y (closer k) ≡ closed k ts s)
    (after x j.second.front) in subst R (sym q) (reads k s j.second.front j.second.first))
    (λ x r. inl (read_mark (λ y. y ≡ closed k ts s) (closer k)
    x j.second.back j.second.second (λ y d h w. ap (λ v. step v d) w ∙ closed_blank k ts s d h) r)))

-- ---- whole terms

pub token_front : (D : Type 0) (P : List ℕ → Type 0) (Q : State → Type 0) (bs : List ℕ) (a : State) → Token P bs →
    ((b : State) (d : ℕ) → is_blank d ≡ true → Q b → Q (step b d))
    → ((xs : List ℕ) → P xs → OrDeep D Q (after a xs)) → OrDeep D Q (after a bs)
token_front D P Q bs a j keep f =
    through D Q Q bs a j (f j.front j.first) (λ b q. inl (blanks_keep Q keep j.back j.second b q))

-- a symbol, and a bracket after it where there are parts
pub read_named : (y : Symbol) (ps : Trees) (P : List ℕ → Type 0) (n : ℕ) (b : State) (s : List Open) (ys : List ℕ) →
    Reads P n (list_of ps) → SymbolEnds b y s → Optional ps 40 41 P ys →
    OrDeep (Past s (1 + n)) (λ a. Bare a (heads.App y) ps s) (after b ys)
unfolding after
read_named y ps P n b s ys reads e (inl p) =
    let R : List ℕ → Type 0 = λ xs. OrDeep (Past s (1 + n)) (λ a. Bare a (heads.App y) ps s) (after b xs) in
    let R' : Trees → Type 0 = λ ts. Bare b (heads.App y) ts s in
    subst R (sym p.1) (inl (subst R' (sym p.0) (symbol_bare e)))
read_named y ps P n b s ys reads e (inr q) =
    go (read_between (Applied y) 40 s P n (list_of ps) ys b reads (symbol_bracket e) q)
  where
    go : OrDeep (Past s (1 + n)) (λ a. a ≡ closed (Applied y) (list_of ps) s) (after b ys) →
        OrDeep (Past s (1 + n)) (λ a. Bare a (heads.App y) ps s) (after b ys)
    go (inl r) = inl (let R : State → Type 0 = λ a. Bare a (heads.App y) ps s in
        subst R (sym (r ∙ ap (λ ts. Whole (heads.App y) ts s) (trees_of-list_of ps))) bare_whole)
    go (inr r) = inr r

-- a symbol and its parts
pub read_applied : (y : Symbol) (ps : Trees) (P : List ℕ → Type 0) (n : ℕ) (s : List Open) (ws : List ℕ) →
    Reads P n (list_of ps) → Joined (Token (IsSymbolText y)) (Optional ps 40 41 P) ws
    → OrDeep (Past s (1 + n)) (λ a. Bare a (heads.App y) ps s) (after (Expect s) ws)
read_applied y ps P n s ws reads j =
    through (Past s (1 + n)) (λ a. SymbolEnds a y s) (λ a. Bare a (heads.App y) ps s) ws (Expect s) j
    (weaken (λ a. SymbolEnds a y s) (λ past. omega (arith, past))
    (token_front (Past s 1) (IsSymbolText y) (λ a. SymbolEnds a y s) j.front (Expect s)
    j.first (λ b d e q. symbol_blank d e q) (λ xs p. read_symbol y xs s p)))
    (λ b q. read_named y ps P n b s j.back reads q j.second)

-- brackets that begin a term
pub read_bracket : (k : Opening) (h : Head) (left : ℕ) (ps : Trees) (P : List ℕ →
    Type 0) (n : ℕ) (s : List Open) (ws : List ℕ) → ((ts : List Tree) → closed k ts s ≡ Whole h (trees_of ts) s)
    → (step (Expect s) left ≡ Fresh (opened k) s) ⊎ ((step (Expect s) left ≡ Deep) × Past s 1) →
    Reads P n (list_of ps) → Between left (closer k) P ws →
    OrDeep (Past s (1 + n)) (λ a. Bare a h ps s) (after (Expect s) ws)
unfolding after
read_bracket k h left ps P n s ws is (inl e) reads j =
    go (read_between k left s P n (list_of ps) ws (Expect s) reads e j)
  where
    go : OrDeep (Past s (1 + n)) (λ a. a ≡ closed k (list_of ps) s) (after (Expect s) ws) →
        OrDeep (Past s (1 + n)) (λ a. Bare a h ps s) (after (Expect s) ws)
    go (inl r) = inl (let R : State → Type 0 = λ a. Bare a h ps s in
        subst R (sym (r ∙ is (list_of ps) ∙ ap (λ ts. Whole h ts s) (trees_of-list_of ps))) bare_whole)
    go (inr r) = inr r
read_bracket k h left ps P n s ws is (inr e) reads j =
    inr (
      ap (after (Expect s)) (j.bytes ∙
          ap (λ xs. xs ++ j.back) (j.first.bytes ∙ ap (λ xs. xs ++ j.first.back) j.first.first)) ∙
          ap (λ a. after a (j.first.back ++ j.back)) e.0 ∙ after_deep (j.first.back ++ j.back),
      omega (arith, e.1),
    )

pub read_bare : (h : Head) (ps : Trees) (P : List ℕ → Type 0) (n : ℕ) (s : List Open) (ws : List ℕ) →
    Reads P n (list_of ps) → SpellsBare h ps P ws → OrDeep (Past s (1 + n)) (λ a. Bare a h ps s) (after (Expect s) ws)
read_bare (heads.Int z) ps P n s ws reads j =
    let R : Trees → Type 0 = λ ts. OrDeep (Past s (1 + n)) (λ a. Bare a (heads.Int z) ts s) (after (Expect s) ws) in
    subst R (sym j.0) (weaken (λ a. Bare a (heads.Int z) end s) (λ past. omega (arith, past))
    (token_front (Past s 1) (IsInteger z) (λ a. Bare a (heads.Int z) end s) ws (Expect s)
    j.1 (λ b d e q. bare_blank d e q) (λ xs p. read_integer z xs s p)))
read_bare (heads.App (Plain name)) ps P n s ws reads j = read_applied (Plain name) ps P n s ws reads j
read_bare (heads.App (Quoted text)) ps P n s ws reads j = read_applied (Quoted text) ps P n s ws reads j
read_bare (heads.App Tuple) ps P n s ws reads j =
    read_bracket (Applied Tuple) (heads.App Tuple) 40 ps P n s ws (λ ts. refl) (begin_first s 40 refl) reads j
read_bare heads.List ps P n s ws reads j =
    read_bracket Elements heads.List 91 ps P n s ws (λ ts. refl) (begin_first s 91 refl) reads j

pub starts_append : (xs ys : List ℕ) → StartsTerm xs → StartsTerm (xs ++ ys)
starts_append [] ys e = absurd e
starts_append (x ∷ xs) ys e = e

pub starts_front : {P Q : List ℕ → Type 0} (bs : List ℕ) (j : Joined P Q bs) → StartsTerm j.front → StartsTerm bs
starts_front bs j e = subst StartsTerm (sym j.bytes) (starts_append j.front j.back e)

pub starts_mark : (c : ℕ) (bs : List ℕ) → begins_term c ≡ true → Mark c bs → StartsTerm bs
starts_mark c bs e j = starts_front bs j (let R : List ℕ → Type 0 = StartsTerm in subst R (sym j.first) e)

pub starts_name : (n : List ℕ) → is_name n ≡ true → StartsTerm n
starts_name [] e = cc
starts_name (b ∷ bs) e = let h : (begins_name b ≡ true) × (list_all continues_name bs ≡ true) = and_parts _ _ e in
    rw (h.0) refl

pub starts_symbol : (y : Symbol) (xs : List ℕ) → IsSymbolText y xs → StartsTerm xs
starts_symbol (Plain n) xs p = subst StartsTerm (sym p.1) (starts_name n p.0)
starts_symbol (Quoted text) xs p = starts_front xs p (subst StartsTerm (sym p.first) refl)
starts_symbol Tuple xs p = absurd p

pub starts_digits : (n : ℕ) (m : List ℕ) → AreDigits n m → StartsTerm m
starts_digits n [] p = absurd p
starts_digits n (d ∷ ds) p = let h : (is_digit d ≡ true) × (list_all is_digit ds ≡ true) = and_parts _ _ p.0 in
    rw (digit_no_name d h.0, h.0) refl

pub starts_signed : (sign : Bool) (n : ℕ) (m : List ℕ) → AreSigned sign n m → StartsTerm m
starts_signed false n m p = starts_digits n m p
starts_signed true n [] p = absurd p
starts_signed true n (b ∷ m) p = rw (p.0) refl

pub starts_bare : (h : Head) (ps : Trees) (P : List ℕ → Type 0) (ws : List ℕ) → SpellsBare h ps P ws → StartsTerm ws
starts_bare (heads.Int z) ps P ws j = starts_front ws j.1 (starts_signed j.1.first.1 j.1.first.2 j.1.front j.1.first.4)
starts_bare (heads.App (Plain n)) ps P ws j =
    starts_front ws j (starts_front j.front j.first (starts_symbol (Plain n) j.first.front j.first.first))
starts_bare (heads.App (Quoted text)) ps P ws j =
    starts_front ws j (starts_front j.front j.first (starts_symbol (Quoted text) j.first.front j.first.first))
starts_bare (heads.App Tuple) ps P ws j = starts_front ws j (starts_mark 40 j.front refl j.first)
starts_bare heads.List ps P ws j = starts_front ws j (starts_mark 91 j.front refl j.first)

pub starts_term : (t : Tree) (ws : List ℕ) → Spells t ws → StartsTerm ws
starts_term (node h ps xs) ws j = starts_front ws j (starts_bare h ps (SpellsAll ps) j.front j.first)

-- annotations after a term
pub read_annos : (h : Head) (ps xs : Trees) (P : List ℕ → Type 0) (n : ℕ) (a : State) (s : List Open) (ys : List ℕ) →
    Reads P n (list_of xs) → Bare a h ps s → Optional xs 123 125 P ys →
    OrDeep (Past s (1 + n)) (λ b. Ends b (node h ps xs) s) (after a ys)
unfolding after
read_annos h ps xs P n a s ys reads e (inl p) =
    let R : List ℕ → Type 0 = λ zs. OrDeep (Past s (1 + n)) (λ b. Ends b (node h ps xs) s) (after a zs) in
    let R' : Trees → Type 0 = λ ts. Ends a (node h ps ts) s in
    subst R (sym p.1) (inl (subst R' (sym p.0) (bare_ends e)))
read_annos h ps xs P n a s ys reads e (inr q) =
    go (read_between (Annotations h ps) 123 s P n (list_of xs) ys a reads (bare_brace e) q)
  where
    go : OrDeep (Past s (1 + n)) (λ b. b ≡ closed (Annotations h ps) (list_of xs) s) (after a ys) →
        OrDeep (Past s (1 + n)) (λ b. Ends b (node h ps xs) s) (after a ys)
    go (inl r) = inl (let R : State → Type 0 = λ b. Ends b (node h ps xs) s in
        subst R (sym (r ∙ ap (λ ts. Done (node h ps ts) s) (trees_of-list_of xs))) at_done)
    go (inr r) = inr r

pub all_end : (D : Type 0) (k : Opening) (s : List Open) (ws : List ℕ) → ws ≡ [] →
    OrDeep D (λ a. step a (closer k) ≡ closed k [] s) (after (Fresh (opened k) s) ws)
unfolding after
all_end D k s ws e = let R : List ℕ → Type 0 =
    λ xs. OrDeep D (λ a. step a (closer k) ≡ closed k [] s) (after (Fresh (opened k) s) xs) in
    subst R (sym e) (inl (fresh_close k s))

pub rest_end : (D : Type 0) (k : Opening) (es : List Tree) (s : List Open) (a : State) (t : Tree) (ws : List ℕ) →
    Ends a t (open_with k es ∷ s) → ws ≡ [] → OrDeep D (λ b. step b (closer k) ≡ closed k (es ++ t ∷ []) s) (after a ws)
unfolding after
rest_end D k es s a t ws e f = let R : List ℕ → Type 0 =
    λ xs. OrDeep D (λ b. step b (closer k) ≡ closed k (es ++ t ∷ []) s) (after a xs) in
    subst R (sym f) (inl (ends_close k es e))

mutual
  pub read_term : (t : Tree) (ws : List ℕ) (s : List Open) → Spells t ws →
      OrDeep (Past s (depth t)) (λ a. Ends a t s) (after (Expect s) ws)
  read_term (node h ps xs) ws s j =
      through (Past s (depth (node h ps xs))) (λ a. Bare a h ps s) (λ a. Ends a (node h ps xs) s) ws (Expect s) j
      (weaken (λ a. Bare a h ps s) (λ past. omega (arith, past))
      (read_bare h ps (SpellsAll ps) (depths ps) s j.front (λ k u zs p. read_all ps zs k u p) j.first))
      (λ b q. weaken (λ a. Ends a (node h ps xs) s) (λ past. omega (arith, past))
      (read_annos h ps xs (SpellsAll xs) (depths xs) b s j.back (λ k u zs p. read_all xs zs k u p) q j.second))

  pub read_all : (ts : Trees) (ws : List ℕ) (k : Opening) (s : List Open) → SpellsAll ts ws →
      OrDeep (Past s (1 + depths ts)) (λ a. step a (closer k) ≡ closed k (list_of ts) s) (after (Fresh (opened k) s) ws)
  read_all end ws k s j = all_end (Past s (1 + 0)) k s ws j
  read_all (more t ts) ws k s j =
      through (Past s (1 + depths (more t ts))) (λ a. Ends a t (opened k ∷ s))
      (λ a. step a (closer k) ≡ closed k (t ∷ list_of ts) s) ws (Fresh (opened k) s) j
      (let R : State → Type 0 = OrDeep (Past s (1 + depths (more t ts))) (λ a. Ends a t (opened k ∷ s)) in
      subst R (sym (fresh_first k s j.front (starts_term t j.front j.first)))
      (weaken (λ a. Ends a t (opened k ∷ s)) (λ past. omega (arith, past))
      (read_term t j.front (opened k ∷ s) j.first)))
      (λ b q. weaken (λ a. step a (closer k) ≡ closed k (t ∷ list_of ts) s) (λ past. omega (arith, past))
      (read_rest ts j.back k [] s b t q j.second))

  pub read_rest : (ts : Trees) (ws : List ℕ) (k : Opening) (es : List Tree) (s : List Open) (a : State) (t : Tree) →
      Ends a t (open_with k es ∷ s) → SpellsRest ts ws
      → OrDeep (Past s (1 + depths ts)) (λ b. step b (closer k) ≡ closed k (es ++ t ∷ list_of ts) s) (after a ws)
  read_rest end ws k es s a t e j = rest_end (Past s (1 + 0)) k es s a t ws e j
  read_rest (more u ts) ws k es s a t e j =
      through (Past s (1 + depths (more u ts))) (λ b. b ≡ Expect (open_with k (es ++ t ∷ []) ∷ s))
      (λ b. step b (closer k) ≡ closed k (es ++ t ∷ u ∷ list_of ts) s) ws a j
      (inl (read_mark (λ b. b ≡ Expect (open_with k (es ++ t ∷ []) ∷ s))
      44 a j.front j.first (λ b d h q. ap (λ x. step x d) q ∙ rw h refl) (ends_next e).0))
      (λ b q. through (Past s (1 + depths (more u ts))) (λ x. Ends x u (open_with k (es ++ t ∷ []) ∷ s))
      (λ x. step x (closer k) ≡ closed k (es ++ t ∷ u ∷ list_of ts) s) j.back b j.second
      (let R : State → Type 0 =
      λ x. OrDeep (Past s (1 + depths (more u ts))) (λ y. Ends y u (open_with k (es ++ t ∷ []) ∷ s))
      (after x j.second.front) in
      subst R (sym q) (weaken (λ y. Ends y u (open_with k (es ++ t ∷ []) ∷ s)) (λ past. omega (arith, past))
      (read_term u j.second.front (open_with k (es ++ t ∷ []) ∷ s) j.second.first)))
      (λ x r. let R : List Tree → Type 0 =
      λ us. OrDeep (Past s (1 + depths (more u ts))) (λ y. step y (closer k) ≡ closed k us s)
      (after x j.second.back) in
      subst R (append_assoc es (t ∷ []) (u ∷ list_of ts))
      (weaken (λ y. step y (closer k) ≡ closed k ((es ++ t ∷ []) ++ u ∷ list_of ts) s) (λ past. omega (arith, past))
      (read_rest ts j.second.back k (es ++ t ∷ []) s x u r j.second.second))))

-- a text that spells the term is read as the term, unless the term is too deep
pub text_read : (t : Tree) (bs : List ℕ) → IsText t bs →
    OrDeep (max_depth < depth t) (λ a. Ends a t []) (after (Expect []) bs)
text_read t bs j =
    through (max_depth < depth t) (λ a. a ≡ Expect []) (λ a. Ends a t []) bs (Expect []) j
    (inl (blanks_keep (λ a. a ≡ Expect []) (λ b d h q. ap (λ x. step x d) q ∙
    rw h refl) j.front j.first (Expect []) refl))
    (λ b q. let R : State → Type 0 = λ x. OrDeep (max_depth < depth t) (λ a. Ends a t []) (after x j.back) in
    subst R (sym q) (weaken (λ a. Ends a t []) (λ past. omega (arith, past)) (read_term t j.back [] j.second)))
