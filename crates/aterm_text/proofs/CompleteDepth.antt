-- A text in which a term begins at depth 1,001 is reported as too deep.
use Rattle.std.specs.Cmp.{unsigned_Decides}
use Rattle.std.proofs.Common.{◌≡◌, ℕ, suc, zero, true, List, [], ◌∷◌, ◌++◌, inl, inr, length, refl, ap, sym, ◌∙◌, append_assoc, rules, subst}
use Rattle.term_model.specs.Bytes.{is_blank}
use Rattle.term_model.specs.QuotedText.{Joined}
use Rattle.term_model.specs.Limits.{max_depth}
use Rattle.term_model.specs.Symbol.{Symbol, Plain, Quoted, Tuple}
use Rattle.term_model.specs.Term.{Tree, depths}
use Rattle.aterm_text.specs.Tokens.{Token, Mark, IsSymbolText}
use Rattle.aterm_text.specs.Grammar.{SpellsAll}
use Rattle.aterm_text.specs.Depth.{Opening, Applied, Elements, Annotations, Open, SpellsEarlier, IsOpening, Opens, TooDeep, StartsTerm}
use Rattle.aterm_text.specs.Reading.{State, Expect, Fresh, Deep, opened, text, step, after}
use Rattle.aterm_text.proofs.Endings.{OrDeep, weaken, Past, after_deep, through, blanks_keep, Ends, Bare, SymbolEnds, symbol_blank, ends_next, open_with, bare_brace, symbol_bracket, not_blank, begin_first, fresh_first}
use Rattle.aterm_text.proofs.ReadTokens.{read_symbol}
use Rattle.aterm_text.proofs.Complete.{read_mark, token_front, read_bare, starts_front, starts_mark, starts_symbol, starts_bare, starts_term, read_term, read_all}

-- ---- a text that is too deep

-- the state goes on as the one where a term has to begin inside these brackets
abbrev Awaits : List Open → State → Type 0
Awaits s a = (xs : List ℕ) → StartsTerm xs → after a xs ≡ after (Expect s) xs

abbrev Ready : ℕ → State → Type 0
Ready k a = (s : List Open) × (length s ≡ k) × Awaits s a

fresh_keeps : (k : Opening) (s : List Open) (b : State) (d : ℕ) → is_blank d ≡ true →
    OrDeep (Unit {0}) (λ a. a ≡ Fresh (opened k) s) b → OrDeep (Unit {0}) (λ a. a ≡ Fresh (opened k) s) (step b d)
fresh_keeps k s b d h (inl q) = inl (ap (λ x. step x d) q ∙ rw h refl)
fresh_keeps k s b d h (inr q) = inr (ap (λ x. step x d) q.0, tt)

read_applied_opening : (y : Symbol) (s : List Open) (xs : List ℕ) → Joined (Token (IsSymbolText y)) (Mark 40) xs →
    OrDeep (Unit {0}) (λ a. a ≡ Fresh (opened (Applied y)) s) (after (Expect s) xs)
read_applied_opening y s xs j =
    through (Unit {0}) (λ a. SymbolEnds a y s) (λ a. a ≡ Fresh (opened (Applied y)) s) xs (Expect s) j
    (weaken (λ a. SymbolEnds a y s) (λ _. tt)
    (token_front (Past s 1) (IsSymbolText y) (λ a. SymbolEnds a y s) j.front (Expect s)
    j.first (λ b d e q. symbol_blank d e q) (λ ys p. read_symbol y ys s p)))
    (λ b q. read_mark (OrDeep (Unit {0}) (λ a. a ≡ Fresh (opened (Applied y)) s))
    40 b j.back j.second (fresh_keeps (Applied y) s) (inl (symbol_bracket q)))

read_opening : (k : Opening) (s : List Open) (xs : List ℕ) → IsOpening k xs →
    OrDeep (Unit {0}) (λ a. a ≡ Fresh (opened k) s) (after (Expect s) xs)
read_opening (Applied (Plain n)) s xs j = read_applied_opening (Plain n) s xs j
read_opening (Applied (Quoted text)) s xs j = read_applied_opening (Quoted text) s xs j
read_opening (Applied Tuple) s xs j =
    read_mark (OrDeep (Unit {0}) (λ a. a ≡ Fresh (opened (Applied Tuple)) s)) 40 (Expect s)
    xs j (fresh_keeps (Applied Tuple) s)
    (weaken (λ a. a ≡ Fresh (opened (Applied Tuple)) s) (λ _. tt) (begin_first s 40 refl))
read_opening Elements s xs j = read_mark (OrDeep (Unit {0}) (λ a. a ≡ Fresh (opened Elements) s)) 91 (Expect s)
    xs j (fresh_keeps Elements s) (weaken (λ a. a ≡ Fresh (opened Elements) s) (λ _. tt) (begin_first s 91 refl))
read_opening (Annotations h ps) s xs j =
    through (Unit {0}) (λ a. Bare a h ps s) (λ a. a ≡ Fresh (opened (Annotations h ps)) s) xs (Expect s) j
    (weaken (λ a. Bare a h ps s) (λ _. tt)
    (read_bare h ps (SpellsAll ps) (depths ps) s j.front (λ k u zs p. read_all ps zs k u p) j.first))
    (λ b q. read_mark (OrDeep (Unit {0}) (λ a. a ≡ Fresh (opened (Annotations h ps)) s))
    123 b j.back j.second (fresh_keeps (Annotations h ps) s) (inl (bare_brace q)))

starts_opening : (k : Opening) (xs : List ℕ) → IsOpening k xs → StartsTerm xs
starts_opening (Applied (Plain n)) xs j =
    starts_front xs j (starts_front j.front j.first (starts_symbol (Plain n) j.first.front j.first.first))
starts_opening (Applied (Quoted text)) xs j =
    starts_front xs j (starts_front j.front j.first (starts_symbol (Quoted text) j.first.front j.first.first))
starts_opening (Applied Tuple) xs j = starts_mark 40 xs refl j
starts_opening Elements xs j = starts_mark 91 xs refl j
starts_opening (Annotations h ps) xs j = starts_front xs j (starts_bare h ps (SpellsAll ps) j.front j.first)

read_earlier : (ts : List Tree) (k : Opening) (es : List Tree) (s : List Open) (a : State) (xs : List ℕ) →
    Awaits (open_with k es ∷ s) a → SpellsEarlier ts xs →
    OrDeep (Unit {0}) (Awaits (open_with k (es ++ ts) ∷ s)) (after a xs)
unfolding after
read_earlier [] k es s a xs w j =
    let R : List ℕ → Type 0 = λ ys. OrDeep (Unit {0}) (Awaits (open_with k (es ++ []) ∷ s)) (after a ys) in
    let R' : List Tree → Type 0 = λ us. Awaits (open_with k us ∷ s) a in
    subst R (sym j) (inl (subst R' (sym (nothing_after es)) w))
  where
    nothing_after : (us : List Tree) → us ++ [] ≡ us
    nothing_after us = search rules
read_earlier (t ∷ ts) k es s a xs w j =
    through (Unit {0}) (λ b. Ends b t (open_with k es ∷ s)) (Awaits (open_with k (es ++ t ∷ ts) ∷ s)) xs a j
    (let R : State → Type 0 = OrDeep (Unit {0}) (λ b. Ends b t (open_with k es ∷ s)) in
    subst R (sym (w j.front (starts_term t j.front j.first)))
    (weaken (λ b. Ends b t (open_with k es ∷ s)) (λ _. tt) (read_term t j.front (open_with k es ∷ s) j.first)))
    (λ b q. through (Unit {0}) (λ x. x ≡ Expect (open_with k (es ++ t ∷ []) ∷ s))
    (Awaits (open_with k (es ++ t ∷ ts) ∷ s)) j.back b j.second
    (inl (read_mark (λ x. x ≡ Expect (open_with k (es ++ t ∷ []) ∷ s))
    44 b j.second.front j.second.first (λ x d h r. ap (λ y. step y d) r ∙ rw h refl) (ends_next q).0))
    (λ x r. let R : List Tree → Type 0 =
    λ us. OrDeep (Unit {0}) (Awaits (open_with k us ∷ s)) (after x j.second.back) in
    subst R (append_assoc es (t ∷ []) ts)
    (read_earlier ts k (es ++ t ∷ []) s x j.second.back (λ ys h. ap (λ y. after y ys) r) j.second.second)))

opens_ready : (k : ℕ) (u : List ℕ) → Opens k u → OrDeep (Unit {0}) (Ready k) (after (Expect []) u)
unfolding Opens
opens_ready zero u j = inl (let R : State → Type 0 = Ready 0 in
    subst R (sym (blanks_keep (λ a. a ≡ Expect []) (λ b d h q. ap (λ x. step x d) q ∙ rw h refl) u j (Expect []) refl))
    ([], refl, λ xs h. refl))
opens_ready (suc k) u (o, j) =
    through (Unit {0}) (Ready k) (Ready (suc k)) u (Expect []) j (opens_ready k j.front j.first)
    (λ b (s, e, w). through (Unit {0}) (λ a. a ≡ Fresh (opened o.opening) s) (Ready (suc k)) j.back b j.second
    (let R : State → Type 0 = OrDeep (Unit {0}) (λ a. a ≡ Fresh (opened o.opening) s) in
    subst R (sym (w j.second.front (starts_opening o.opening j.second.front j.second.first)))
    (read_opening o.opening s j.second.front j.second.first))
    (λ x q. ready s e (read_earlier o.earlier o.opening [] s x j.second.back (λ ys h. ap (λ y. after y ys) q ∙
    fresh_first o.opening s ys h) j.second.second)))
  where
    ready : {a : State} (s : List Open) → length s ≡ k → OrDeep (Unit {0}) (Awaits (o ∷ s)) a →
        OrDeep (Unit {0}) (Ready (suc k)) a
    ready s e (inl w) = inl (o ∷ s, ap suc e, w)
    ready s e (inr d) = inr d

deep_here : (s : List Open) (xs : List ℕ) → length s ≡ max_depth → StartsTerm xs → after (Expect s) xs ≡ Deep
unfolding after
deep_here s [] e h = absurd h
deep_here s (c ∷ cs) e h = ap (λ a. after a cs)
    (rw (not_blank c h, h, (unsigned_Decides (length s) max_depth).1 e) refl) ∙ after_deep cs

pub too_deep : (bs : List ℕ) → TooDeep bs → after (Expect []) bs ≡ Deep
unfolding TooDeep
too_deep bs j = go (through (Unit {0}) (Ready max_depth) (λ a. a ≡ Deep) bs (Expect [])
    j (opens_ready max_depth j.front j.first) (λ b (s, e, w). inl (w j.back j.second ∙ deep_here s j.back e j.second)))
  where
    go : OrDeep (Unit {0}) (λ a. a ≡ Deep) (after (Expect []) bs) → after (Expect []) bs ≡ Deep
    go (inl e) = e
    go (inr e) = e.0
