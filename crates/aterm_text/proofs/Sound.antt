-- What was read up to a state is what the state stands for.
use Rattle.std.specs.Bool.{◌==◌}
use Rattle.std.specs.Prelude.{IfSome}
use Rattle.std.proofs.Common.{◌≡◌, ℕ, ◌+◌, ◌-◌, ◌*◌, ◌≤◌, nat_le, Bool, true, false, List, [], ◌∷◌, ◌++◌, inl, inr, length, Option, Some, None, refl, ap, sym, ◌∙◌, append_assoc, cond, eqb, subst}
use Rattle.std.specs.Cmp.{unsigned_Decides}
use borrow.Author.Tests.{leb-true}
use Rattle.std.proofs.lemmas.List.Folds.{list_all-append}
use Rattle.std.specs.List.{list_all}
use Rattle.std.proofs.lemmas.Bool.{and_parts}
use Rattle.term_model.specs.Bytes.{is_between, is_blank, is_digit, signed, value_from, is_octal, unescaped}
use Rattle.term_model.specs.QuotedText.{Joined, Are, Item, raw, letter, octal}
use Rattle.term_model.specs.declared.term.Head.{Head}
use Rattle.term_model.specs.declared.term.Head.TheVariants as heads
use Rattle.term_model.specs.Limits.{max_depth}
use Rattle.term_model.specs.IntegerBounds.{max_magnitude}
use Rattle.term_model.specs.Symbol.{Symbol, Plain, Quoted, Tuple, begins_name, continues_name, is_name}
use Rattle.term_model.specs.Term.{Tree, node, Trees, end, trees_of}
use Rattle.aterm_text.specs.Tokens.{AreBlanks, Token, Mark, AreSigned, AreDigits, IsName, IsSymbolText}
use Rattle.aterm_text.specs.Grammar.{Between, Optional, SpellsBare, Spells, SpellsAll, SpellsRest, IsText}
use Rattle.aterm_text.specs.Depth.{Opening, Applied, Elements, Annotations, Open, begins_term, SpellsEarlier, IsOpening, Begins, Opens, StartsTerm, TooDeep}
use Rattle.term_model.proofs.IntegerLaws.{in_range}
use Rattle.term_model.proofs.Joins.{joined, longer, nested, over, ended, begun, append_nil}
use Rattle.aterm_text.proofs.Basics.{token}
use Rattle.term_model.proofs.Items.{Unclosed, quoted, unclosed_more}
use Rattle.aterm_text.specs.Reading.{State, Expect, Fresh, InName, InSign, InDigits, InText, InEscape, InOctal, InOctals, Named, Whole, Done, Deep, Wrong, closer, closed, digits, first, begin, next, whole, named, text, escape, step, finished, after}

pub blanks_snoc : (bs : List ℕ) (c : ℕ) → AreBlanks bs → is_blank c ≡ true → AreBlanks (bs ++ c ∷ [])
blanks_snoc bs c p e = rw (list_all-append is_blank bs (c ∷ []), p, e) refl

module _ (c : ℕ) (e : is_blank c ≡ true) where
  pub token_blank : {P : List ℕ → Type 0} (bs : List ℕ) → Token P bs → Token P (bs ++ c ∷ [])
  token_blank bs j = longer bs (c ∷ []) j (λ ys q. blanks_snoc ys c q e)

  pub between_blank : (left right : ℕ) {P : List ℕ → Type 0} (bs : List ℕ) → Between left right P bs →
      Between left right P (bs ++ c ∷ [])
  between_blank left right bs j = longer bs (c ∷ []) j (λ ys q. longer ys (c ∷ []) q token_blank)

  pub opening_blank : (k : Opening) (bs : List ℕ) → IsOpening k bs → IsOpening k (bs ++ c ∷ [])
  opening_blank (Applied (Plain n)) bs j = longer bs (c ∷ []) j token_blank
  opening_blank (Applied Tuple) bs j = token_blank bs j
  opening_blank (Applied (Quoted n)) bs j = longer bs (c ∷ []) j token_blank
  opening_blank Elements bs j = token_blank bs j
  opening_blank (Annotations h ps) bs j = longer bs (c ∷ []) j token_blank

  pub earlier_blank : (t : Tree) (ts : List Tree) (bs : List ℕ) → SpellsEarlier (t ∷ ts) bs →
      SpellsEarlier (t ∷ ts) (bs ++ c ∷ [])
  earlier_blank t [] bs j = longer bs (c ∷ []) j (λ ys q. ended (ys ++ c ∷ []) (token_blank ys (begun ys q)))
  earlier_blank t (u ∷ ts) bs j = longer bs (c ∷ []) j (λ ys q. longer ys (c ∷ []) q (λ zs r. earlier_blank u ts zs r))

  pub begins_blank : (k : Opening) (ts : List Tree) (bs : List ℕ) → Joined (IsOpening k) (SpellsEarlier ts) bs →
      Joined (IsOpening k) (SpellsEarlier ts) (bs ++ c ∷ [])
  begins_blank k [] bs j = ended (bs ++ c ∷ []) (opening_blank k bs (begun bs j))
  begins_blank k (t ∷ ts) bs j = longer bs (c ∷ []) j (λ ys q. earlier_blank t ts ys q)

  with_optional : (y : Symbol) (ps : Trees) (P : List ℕ → Type 0) (bs xs ys : List ℕ) → bs ≡ xs ++ ys →
      Token (IsSymbolText y) xs → Optional ps 40 41 P ys →
      Joined (Token (IsSymbolText y)) (Optional ps 40 41 P) (bs ++ c ∷ [])
  with_optional y ps P bs xs ys e' t (inl p) = record {
    front = xs ++ c ∷ [];
    back = [];
    bytes = ap (λ zs. zs ++ c ∷ []) (e' ∙ ap (λ zs. xs ++ zs) p.1 ∙ append_nil xs) ∙ sym (append_nil (xs ++ c ∷ []));
    first = token_blank xs t;
    second = inl (p.0, refl);
  }
  with_optional y ps P bs xs ys e' t (inr q) = record {
    front = xs;
    back = ys ++ c ∷ [];
    bytes = ap (λ zs. zs ++ c ∷ []) e' ∙ append_assoc xs ys (c ∷ []);
    first = t;
    second = inr (between_blank 40 41 ys q);
  }

  pub bare_blank : (h : Head) (ps : Trees) (P : List ℕ → Type 0) (bs : List ℕ) → SpellsBare h ps P bs →
      SpellsBare h ps P (bs ++ c ∷ [])
  bare_blank (heads.Int z) ps P bs j = (j.0, token_blank bs j.1)
  bare_blank (heads.App (Plain n)) ps P bs j = with_optional (Plain n) ps P bs j.front j.back j.bytes j.first j.second
  bare_blank (heads.App Tuple) ps P bs j = between_blank 40 41 bs j
  bare_blank (heads.App (Quoted n)) ps P bs j = with_optional (Quoted n) ps P bs j.front j.back j.bytes j.first j.second
  bare_blank heads.List ps P bs j = between_blank 91 93 bs j

-- ---- what a state says of what was read

abbrev pub Stacked : List Open → List ℕ → Type 0
Stacked [] bs = AreBlanks bs
Stacked (o ∷ s) bs = Joined (Stacked s) (Begins o) bs

pub data Leads : State → List ℕ → Type 0 where
  expect : {s : List Open} {bs : List ℕ} → Stacked s bs → Leads (Expect s) bs
  fresh : {o : Open} {s : List Open} {bs : List ℕ} → o.earlier ≡ [] → Joined (Stacked s) (IsOpening o.opening) bs →
      Leads (Fresh o s) bs
  in_name : {n : List ℕ} {s : List Open} {bs : List ℕ} → Joined (Stacked s) (IsName n) bs → Leads (InName n s) bs
  in_sign : {s : List Open} {bs : List ℕ} → Joined (Stacked s) (Are (45 ∷ [])) bs → Leads (InSign s) bs
  in_digits : {sign : Bool} {v : ℕ} {s : List Open} {bs : List ℕ} → v ≤ max_magnitude sign →
      Joined (Stacked s) (AreSigned sign v) bs → Leads (InDigits sign v s) bs
  in_text : {b : List ℕ} {s : List Open} {bs : List ℕ} → Joined (Stacked s) (Unclosed b) bs → Leads (InText b s) bs
  in_escape : {b : List ℕ} {s : List Open} {bs : List ℕ} → Joined (Stacked s) (Joined (Unclosed b) (Are (92 ∷ []))) bs →
      Leads (InEscape b s) bs
  in_octal : {b : List ℕ} {v x : ℕ} {s : List Open} {bs : List ℕ} → is_between 48 51 x ≡ true → v ≡ x - 48
      → Joined (Stacked s) (Joined (Unclosed b) (Are (92 ∷ x ∷ []))) bs → Leads (InOctal b v s) bs
  in_octals : {b : List ℕ} {v x y : ℕ} {s : List Open} {bs : List ℕ} → is_between 48 51 x ≡ true → is_octal y ≡ true →
      v ≡ 8 * (x - 48) + (y - 48)
      → Joined (Stacked s) (Joined (Unclosed b) (Are (92 ∷ x ∷ y ∷ []))) bs → Leads (InOctals b v s) bs
  is_named : {y : Symbol} {s : List Open} {bs : List ℕ} → Joined (Stacked s) (Token (IsSymbolText y)) bs →
      Leads (Named y s) bs
  is_whole : {h : Head} {ps : Trees} {s : List Open} {bs : List ℕ} →
      Joined (Stacked s) (SpellsBare h ps (SpellsAll ps)) bs → Leads (Whole h ps s) bs
  is_done : {t : Tree} {s : List Open} {bs : List ℕ} → Joined (Stacked s) (Spells t) bs → Leads (Done t s) bs
  is_deep : {bs : List ℕ} → TooDeep bs → Leads Deep bs
  is_wrong : {bs : List ℕ} → Leads Wrong bs

pub stacked_blank : (c : ℕ) → is_blank c ≡ true → (s : List Open) (bs : List ℕ) → Stacked s bs →
    Stacked s (bs ++ c ∷ [])
stacked_blank c e [] bs p = blanks_snoc bs c p e
stacked_blank c e (o ∷ s) bs j = longer bs (c ∷ []) j (λ ys q. begins_blank c e o.opening o.earlier ys q)

-- one of two states
pub choose : (b : Bool) {x y : State} {bs : List ℕ} → (b ≡ true → Leads x bs) → (b ≡ false → Leads y bs) →
    Leads (cond b x y) bs
choose true f g = f refl
choose false f g = g refl

pub opens : (s : List Open) (bs : List ℕ) → Stacked s bs → Opens (length s) bs
unfolding Opens
opens [] bs p = p
opens (o ∷ s) bs j = (o, over bs j (λ xs p. opens s xs p) (λ ys q. q))

pub mark : (c d : ℕ) → eqb c d ≡ true → Mark d (c ∷ [])
mark c d e = token (c ∷ []) (ap (λ x. x ∷ []) ((unsigned_Decides c d).0 e))

pub digits_sound : (sign : Bool) (v c : ℕ) (s : List Open) (bs : List ℕ) →
    Joined (Stacked s) (AreSigned sign (10 * v + (c - 48))) bs → Leads (digits sign v c s) bs
digits_sound sign v c s bs j = choose (nat_le (10 * v + (c - 48)) (max_magnitude sign))
    (λ e. in_digits (leb-true _ _ e) j) (λ _. is_wrong)

pub first_sound : (s : List Open) (c : ℕ) (bs : List ℕ) → Stacked s bs → Leads (first s c) (bs ++ c ∷ [])
first_sound s c bs p =
    choose (begins_name c) (λ e. in_name (joined bs (c ∷ []) p (rw e refl, refl))) (λ _.
    choose (is_digit c) (λ e. digits_sound false 0 c s (bs ++ c ∷ []) (joined bs (c ∷ []) p (rw e refl, refl))) (λ _.
    choose (c == 45) (λ e. in_sign (joined bs (c ∷ []) p (ap (λ x. x ∷ []) ((unsigned_Decides c 45).0 e)))) (λ _.
    choose (c == 34) (λ e. in_text
    (joined bs (c ∷ []) p (ended (c ∷ []) (ap (λ x. x ∷ []) ((unsigned_Decides c 34).0 e))))) (λ _.
    choose (c == 40) (λ e. fresh refl (joined bs (c ∷ []) p (mark c 40 e))) (λ _.
    choose (c == 91) (λ e. fresh refl (joined bs (c ∷ []) p (mark c 91 e))) (λ _. is_wrong))))))

pub begin_sound : (s : List Open) (c : ℕ) (bs : List ℕ) → Stacked s bs → Leads (begin s c) (bs ++ c ∷ [])
unfolding TooDeep
begin_sound s c bs p =
    choose (begins_term c) (λ starts.
    choose (length s == max_depth) (λ e. is_deep (deep starts e)) (λ _. first_sound s c bs p)) (λ _. is_wrong)
  where
    deep : begins_term c ≡ true → (length s == max_depth) ≡ true → TooDeep (bs ++ c ∷ [])
    deep starts e = joined bs (c ∷ []) (let P : ℕ → Type 0 = λ n. Opens n bs in
        subst P ((unsigned_Decides (length s) max_depth).0 e) (opens s bs p)) starts

-- ---- a bracket that closes

pub close_sound : (k : Opening) (ts : List Tree) (s : List Open) (bs : List ℕ)
    → Joined (Stacked s) (Joined (IsOpening k) (Joined (SpellsAll (trees_of ts)) (Mark (closer k)))) bs →
    Leads (closed k ts s) bs
close_sound (Applied (Plain n)) ts s bs j =
    is_whole (over bs j (λ xs p. p) (λ ys q. over ys (nested ys q) (λ xs p. p) (λ zs r. inr r)))
close_sound (Applied Tuple) ts s bs j = is_whole j
close_sound (Applied (Quoted n)) ts s bs j =
    is_whole (over bs j (λ xs p. p) (λ ys q. over ys (nested ys q) (λ xs p. p) (λ zs r. inr r)))
close_sound Elements ts s bs j = is_whole j
close_sound (Annotations h ps) ts s bs j =
    is_done (over bs j (λ xs p. p) (λ ys q. over ys (nested ys q) (λ xs p. p) (λ zs r. inr r)))

-- ---- terms one after another

pub rest_snoc : (ts : List Tree) (t : Tree) (ms xs ys : List ℕ) → Mark 44 ms → SpellsEarlier ts xs → Spells t ys →
    SpellsRest (trees_of (ts ++ t ∷ [])) (ms ++ (xs ++ ys))
rest_snoc [] t ms xs ys m e p =
    joined ms (xs ++ ys) m (let R : List ℕ → Type 0 = λ zs. Joined (Spells t) (Are []) (zs ++ ys) in
    subst R (sym e) (ended ys p))
rest_snoc (u ∷ us) t ms xs ys m e p =
    joined ms (xs ++ ys) m record {
      front = e.front;
      back = e.back ++ ys;
      bytes = ap (λ zs. zs ++ ys) e.bytes ∙ append_assoc e.front e.back ys;
      first = e.first;
      second =
          let next_rest : SpellsRest (trees_of (us ++ t ∷ [])) (e.second.front ++ (e.second.back ++ ys)) =
          rest_snoc us t e.second.front e.second.back ys e.second.first e.second.second p in
          let R : List ℕ → Type 0 = SpellsRest (trees_of (us ++ t ∷ [])) in
          subst R (sym (ap (λ zs. zs ++ ys) e.second.bytes ∙ append_assoc e.second.front e.second.back ys)) next_rest;
    }

pub all_snoc : (ts : List Tree) (t : Tree) (xs ys : List ℕ) → SpellsEarlier ts xs → Spells t ys →
    SpellsAll (trees_of (ts ++ t ∷ [])) (xs ++ ys)
all_snoc [] t xs ys e p = let R : List ℕ → Type 0 = λ zs. Joined (Spells t) (Are []) (zs ++ ys) in
    subst R (sym e) (ended ys p)
all_snoc (u ∷ us) t xs ys e p = record {
  front = e.front;
  back = e.back ++ ys;
  bytes = ap (λ zs. zs ++ ys) e.bytes ∙ append_assoc e.front e.back ys;
  first = e.first;
  second =
      let next_rest : SpellsRest (trees_of (us ++ t ∷ [])) (e.second.front ++ (e.second.back ++ ys)) =
      rest_snoc us t e.second.front e.second.back ys e.second.first e.second.second p in
      let R : List ℕ → Type 0 = SpellsRest (trees_of (us ++ t ∷ [])) in
      subst R (sym (ap (λ zs. zs ++ ys) e.second.bytes ∙ append_assoc e.second.front e.second.back ys)) next_rest;
}

pub earlier_snoc : (ts : List Tree) (t : Tree) (xs ys ms : List ℕ) → SpellsEarlier ts xs → Spells t ys → Mark 44 ms →
    SpellsEarlier (ts ++ t ∷ []) (xs ++ (ys ++ ms))
earlier_snoc [] t xs ys ms e p m = let R : List ℕ → Type 0 = λ zs. SpellsEarlier (t ∷ []) (zs ++ (ys ++ ms)) in
    subst R (sym e) (joined ys ms p (ended ms m))
earlier_snoc (u ∷ us) t xs ys ms e p m = record {
  front = e.front;
  back = e.back ++ (ys ++ ms);
  bytes = ap (λ zs. zs ++ (ys ++ ms)) e.bytes ∙ append_assoc e.front e.back (ys ++ ms);
  first = e.first;
  second = record {
    front = e.second.front;
    back = e.second.back ++ (ys ++ ms);
    bytes = ap (λ zs. zs ++ (ys ++ ms)) e.second.bytes ∙ append_assoc e.second.front e.second.back (ys ++ ms);
    first = e.second.first;
    second = earlier_snoc us t e.second.back ys ms e.second.second p m;
  };
}

-- ---- a byte after a term

pub next_sound : (t : Tree) (s : List Open) (c : ℕ) (bs : List ℕ) → Joined (Stacked s) (Spells t) bs →
    Leads (next t s c) (bs ++ c ∷ [])
next_sound t [] c bs j = is_wrong
next_sound t (o ∷ s) c bs j =
    choose (c == 44) (λ e. expect
    (longer bs (c ∷ []) (nested bs j) (λ ys q. longer ys (c ∷ []) (nested ys q) (λ zs r. comma e zs r)))) (λ _.
    choose (c == closer o.opening)
    (λ e. close_sound o.opening (o.earlier ++ t ∷ []) s (bs ++ c ∷ [])
    (longer bs (c ∷ []) (nested bs j)
    (λ ys q. longer ys (c ∷ []) (nested ys q)
    (λ zs r. joined zs (c ∷ []) (all zs r) (mark c (closer o.opening) e)))))
    (λ _. is_wrong))
  where
    comma : (c == 44) ≡ true → (zs : List ℕ) → Joined (SpellsEarlier o.earlier) (Spells t) zs →
        SpellsEarlier (o.earlier ++ t ∷ []) (zs ++ c ∷ [])
    comma e zs r = let R : List ℕ → Type 0 = SpellsEarlier (o.earlier ++ t ∷ []) in
        subst R (sym (ap (λ xs. xs ++ c ∷ []) r.bytes ∙ append_assoc r.front r.back (c ∷ [])))
        (earlier_snoc o.earlier t r.front r.back (c ∷ []) r.first r.second (mark c 44 e))

    all : (zs : List ℕ) → Joined (SpellsEarlier o.earlier) (Spells t) zs → SpellsAll (trees_of (o.earlier ++ t ∷ [])) zs
    all zs r = let R : List ℕ → Type 0 = SpellsAll (trees_of (o.earlier ++ t ∷ [])) in
        subst R (sym r.bytes) (all_snoc o.earlier t r.front r.back r.first r.second)

-- no annotations after
pub bare : (h : Head) (ps : Trees) (ys : List ℕ) → SpellsBare h ps (SpellsAll ps) ys → Spells (node h ps end) ys
bare h ps ys q = record { front = ys; back = []; bytes = sym (append_nil ys); first = q; second = inl (refl, refl) }

pub whole_sound : (h : Head) (ps : Trees) (s : List Open) (c : ℕ) (bs : List ℕ) →
    Joined (Stacked s) (SpellsBare h ps (SpellsAll ps)) bs → Leads (whole h ps s c) (bs ++ c ∷ [])
whole_sound h ps s c bs j =
    choose (is_blank c) (λ e. is_whole (longer bs (c ∷ []) j (λ ys q. bare_blank c e h ps (SpellsAll ps) ys q))) (λ _.
    choose (c == 123) (λ e. fresh refl (longer bs (c ∷ []) j (λ ys q. joined ys (c ∷ []) q (mark c 123 e)))) (λ _.
    next_sound (node h ps end) s c bs (over bs j (λ xs p. p) (λ ys q. bare h ps ys q))))

-- a symbol with nothing after it
pub symbol_bare : (y : Symbol) (ys : List ℕ) → Token (IsSymbolText y) ys →
    SpellsBare (heads.App y) end (SpellsAll end) ys
symbol_bare (Plain n) ys q = record {
  front = ys;
  back = [];
  bytes = sym (append_nil ys);
  first = q;
  second =
      inl (refl, refl);
}
symbol_bare (Quoted b) ys q = record {
  front = ys;
  back = [];
  bytes = sym (append_nil ys);
  first = q;
  second =
      inl (refl, refl);
}
symbol_bare Tuple ys q = absurd q.first

symbol_opening : (y : Symbol) (ys : List ℕ) → Joined (Token (IsSymbolText y)) (Mark 40) ys → IsOpening (Applied y) ys
symbol_opening (Plain n) ys q = q
symbol_opening (Quoted b) ys q = q
symbol_opening Tuple ys q = absurd q.first.first

pub named_sound : (y : Symbol) (s : List Open) (c : ℕ) (bs : List ℕ) → Joined (Stacked s) (Token (IsSymbolText y)) bs →
    Leads (named y s c) (bs ++ c ∷ [])
named_sound y s c bs j =
    choose (is_blank c) (λ e. is_named (longer bs (c ∷ []) j (λ ys q. token_blank c e ys q))) (λ _.
    choose (c == 40) (λ e. fresh refl
    (longer bs (c ∷ []) j (λ ys q. symbol_opening y (ys ++ c ∷ []) (joined ys (c ∷ []) q (mark c 40 e))))) (λ _.
    whole_sound (heads.App y) end s c bs (over bs j (λ xs p. p) (λ ys q. symbol_bare y ys q))))

-- ---- quoted text

is_byte_of : (c d : ℕ) → (c == d) ≡ true → c ∷ [] ≡ d ∷ []
is_byte_of c d e = ap (λ x. x ∷ []) ((unsigned_Decides c d).0 e)

pub text_sound : (b : List ℕ) (s : List Open) (c : ℕ) (bs : List ℕ) → Joined (Stacked s) (Unclosed b) bs →
    Leads (text b s c) (bs ++ c ∷ [])
text_sound b s c bs j =
    choose (c == 34) (λ e. is_named
    (longer bs (c ∷ []) j (λ ys q. token (ys ++ c ∷ []) (quoted b ys (c ∷ []) q (is_byte_of c 34 e))))) (λ q.
    choose (c == 92) (λ e. in_escape (longer bs (c ∷ []) j (λ ys u. joined ys (c ∷ []) u (is_byte_of c 92 e)))) (λ k.
    choose (c == 10) (λ _. is_wrong)
    (λ f. in_text (longer bs (c ∷ []) j (λ ys u. unclosed_more b c ys (c ∷ []) u (raw (rw (q, k, f) refl)))))))

-- bytes after those of an item that has begun
item_on : {P : List ℕ → Type 0} (ws : List ℕ) (c : ℕ) (bs : List ℕ) → Joined P (Are ws) bs →
    Joined P (Are (ws ++ c ∷ [])) (bs ++ c ∷ [])
item_on ws c bs j = longer bs (c ∷ []) j (λ ys q. ap (λ xs. xs ++ c ∷ []) q)

item_ends : (b : List ℕ) (d : ℕ) (ws bs : List ℕ) → Joined (Unclosed b) (Are ws) bs → Item d ws →
    Unclosed (b ++ d ∷ []) bs
item_ends b d ws bs j i = let R : List ℕ → Type 0 = Unclosed (b ++ d ∷ []) in
    subst R (sym (j.bytes ∙ ap (λ xs. j.front ++ xs) j.second)) (unclosed_more b d j.front ws j.first i)

pub escape_sound : (o : Option ℕ) (b : List ℕ) (s : List Open) (c : ℕ) (bs : List ℕ) → unescaped c ≡ o →
    Joined (Stacked s) (Joined (Unclosed b) (Are (92 ∷ []))) bs → Leads (escape o b s c) (bs ++ c ∷ [])
escape_sound (Some d) b s c bs e j =
    in_text (longer bs (c ∷ [])
    j (λ ys q. item_ends b d (92 ∷ c ∷ []) (ys ++ c ∷ []) (item_on (92 ∷ []) c ys q) (letter e)))
escape_sound None b s c bs e j =
    choose (is_between 48 51 c) (λ f. in_octal f refl (longer bs (c ∷ []) j (λ ys q. item_on (92 ∷ []) c ys q)))
    (λ _. is_wrong)

pub name_snoc : (n : List ℕ) (c : ℕ) → is_name n ≡ true → continues_name c ≡ true → is_name (n ++ c ∷ []) ≡ true
name_snoc [] c e f = cc
name_snoc (b ∷ bs) c e f =
    let parts : (begins_name b ≡ true) × (list_all continues_name bs ≡ true) = and_parts _ _ e in
    rw (parts.0, list_all-append continues_name bs (c ∷ []), parts.1, f) refl

value_snoc : (m : ℕ) (xs : List ℕ) (c : ℕ) → value_from m (xs ++ c ∷ []) ≡ 10 * value_from m xs + (c - 48)
value_snoc m [] c = refl
value_snoc m (x ∷ xs) c = value_snoc (10 * m + (x - 48)) xs c

pub digits_snoc : (v c : ℕ) (bs : List ℕ) → AreDigits v bs → is_digit c ≡ true →
    AreDigits (10 * v + (c - 48)) (bs ++ c ∷ [])
digits_snoc v c [] h e = absurd h
digits_snoc v c (d ∷ ds) h e = (
  rw (list_all-append is_digit (d ∷ ds) (c ∷ []), h.0, e) refl,
  value_snoc 0 (d ∷ ds) c ∙
      ap (λ n. 10 * n + (c - 48)) h.1,
)

signed_snoc : (sign : Bool) (v c : ℕ) (bs : List ℕ) → AreSigned sign v bs → is_digit c ≡ true →
    AreSigned sign (10 * v + (c - 48)) (bs ++ c ∷ [])
signed_snoc false v c bs h e = digits_snoc v c bs h e
signed_snoc true v c [] h e = absurd h
signed_snoc true v c (b ∷ bs) h e = (h.0, digits_snoc v c bs h.1 e)

spells_blank : (c : ℕ) → is_blank c ≡ true → (t : Tree) (bs : List ℕ) → Spells t bs → Spells t (bs ++ c ∷ [])
spells_blank c e (node h ps xs) bs j = go j.front j.back j.bytes j.first j.second
  where
    go : (us vs : List ℕ) → bs ≡ us ++ vs → SpellsBare h ps (SpellsAll ps) us → Optional xs 123 125 (SpellsAll xs) vs →
        Joined (SpellsBare h ps (SpellsAll ps)) (Optional xs 123 125 (SpellsAll xs)) (bs ++ c ∷ [])
    go us vs b p (inl q) = record {
      front = us ++ c ∷ [];
      back = [];
      bytes = ap (λ zs. zs ++ c ∷ []) (b ∙ ap (λ zs. us ++ zs) q.1 ∙ append_nil us) ∙ sym (append_nil (us ++ c ∷ []));
      first = bare_blank c e h ps (SpellsAll ps) us p;
      second = inl (q.0, refl);
    }
    go us vs b p (inr q) = record {
      front = us;
      back = vs ++ c ∷ [];
      bytes = ap (λ zs. zs ++ c ∷ []) b ∙ append_assoc us vs (c ∷ []);
      first = p;
      second = inr (between_blank c e 123 125 vs q);
    }

deep_more : (c : ℕ) (bs : List ℕ) → TooDeep bs → TooDeep (bs ++ c ∷ [])
unfolding TooDeep
deep_more c bs j = longer bs (c ∷ []) j (λ ys q. go ys q)
  where
    go : (ys : List ℕ) → StartsTerm ys → StartsTerm (ys ++ c ∷ [])
    go [] q = absurd q
    go (y ∷ ys) q = q

sign_digit : (c : ℕ) (ys : List ℕ) → is_digit c ≡ true → ys ≡ 45 ∷ [] →
    AreSigned true (10 * 0 + (c - 48)) (ys ++ c ∷ [])
sign_digit c ys e q = let R : List ℕ → Type 0 = λ zs. AreSigned true (10 * 0 + (c - 48)) (zs ++ c ∷ []) in
    subst R (sym q) (refl, (rw e refl, refl))

pub step_sound : {a : State} (c : ℕ) (bs : List ℕ) → Leads a bs → Leads (step a c) (bs ++ c ∷ [])
step_sound c bs (expect {s} p) =
    choose (is_blank c) (λ e. expect (stacked_blank c e s bs p)) (λ _. begin_sound s c bs p)
step_sound c bs (fresh {o} {s} none j) =
    choose (is_blank c) (λ e. fresh none (longer bs (c ∷ []) j (λ ys q. opening_blank c e o.opening ys q))) (λ _.
    choose (c == closer o.opening)
    (λ e. close_sound o.opening [] s (bs ++ c ∷ [])
    (longer bs (c ∷ []) j (λ ys q. joined ys (c ∷ []) q (joined [] (c ∷ []) refl (mark c (closer o.opening) e)))))
    (λ _. begin_sound (o ∷ s) c bs
    (over bs j (λ xs p. p) (λ ys q. let R : List Tree → Type 0 =
    λ ts. Joined (IsOpening o.opening) (SpellsEarlier ts) ys in subst R (sym none) (ended ys q)))))
step_sound c bs (in_name {n} {s} j) =
    choose (continues_name c) (λ e. in_name
    (longer bs (c ∷ []) j (λ ys q. (name_snoc n c q.0 e, ap (λ zs. zs ++ c ∷ []) q.1)))) (λ _.
    named_sound (Plain n) s c bs (over bs j (λ xs p. p) (λ ys q. token ys q)))
step_sound c bs (in_sign {s} j) =
    choose (is_digit c) (λ e. digits_sound true 0 c s (bs ++ c ∷ [])
    (longer bs (c ∷ []) j (λ ys q. sign_digit c ys e q))) (λ _. is_wrong)
step_sound c bs (in_digits {sign} {v} {s} le j) =
    choose (is_digit c) (λ e. digits_sound sign v c s (bs ++ c ∷ [])
    (longer bs (c ∷ []) j (λ ys q. signed_snoc sign v c ys q e))) (λ _.
    whole_sound (heads.Int (signed sign v))
    end s c bs (over bs j (λ xs p. p) (λ ys q. (refl, token ys (in_range sign v le, sign, v, refl, q)))))
step_sound c bs (in_text {b} {s} j) = text_sound b s c bs j
step_sound c bs (in_escape {b} {s} j) = escape_sound (unescaped c) b s c bs refl j
step_sound c bs (in_octal {b} {v} {x} {s} e f j) =
    choose (is_octal c) (λ g. in_octals e g (ap (λ n. 8 * n + (c - 48)) f)
    (longer bs (c ∷ []) j (λ ys q. item_on (92 ∷ x ∷ []) c ys q))) (λ _. is_wrong)
step_sound c bs (in_octals {b} {v} {x} {y} {s} e f g j) =
    choose (is_octal c) (λ h. in_text
    (longer bs (c ∷ []) j (λ ys q. item_ends b (8 * v + (c - 48)) (92 ∷ x ∷ y ∷ c ∷ []) (ys ++ c ∷ [])
    (item_on (92 ∷ x ∷ y ∷ []) c ys q) (octal e f h (ap (λ n. 8 * n + (c - 48)) g))))) (λ _. is_wrong)
step_sound c bs (is_named {y} {s} j) = named_sound y s c bs j
step_sound c bs (is_whole {h} {ps} {s} j) = whole_sound h ps s c bs j
step_sound c bs (is_done {t} {s} j) =
    choose (is_blank c) (λ e. is_done (longer bs (c ∷ []) j (λ ys q. spells_blank c e t ys q)))
    (λ _. next_sound t s c bs j)
step_sound c bs (is_deep d) = is_deep (deep_more c bs d)
step_sound c bs is_wrong = is_wrong

pub after_sound : (cs bs : List ℕ) (a : State) → Leads a bs → Leads (after a cs) (bs ++ cs)
unfolding after
after_sound [] bs a l = let R : List ℕ → Type 0 = Leads a in subst R (sym (append_nil bs)) l
after_sound (c ∷ cs) bs a l =
    let R : List ℕ → Type 0 = Leads (after a (c ∷ cs)) in
    subst R (append_assoc bs (c ∷ []) cs) (after_sound cs (bs ++ c ∷ []) (step a c) (step_sound c bs l))

-- ---- the end of the text

-- the term that is whole stands after what leads to the brackets round it
pub whole_sound_here : {a : State} (bs : List ℕ) → Leads a bs →
    IfSome (finished a) (λ p. Joined (Stacked p.1) (Spells p.0) bs)
whole_sound_here bs (expect p) = tt
whole_sound_here bs (fresh none j) = tt
whole_sound_here bs (in_name {n} {s} j) =
    over bs j (λ xs p. p) (λ ys q. bare (heads.App (Plain n)) end ys (symbol_bare (Plain n) ys (token ys q)))
whole_sound_here bs (in_sign j) = tt
whole_sound_here bs (in_digits {sign} {v} {s} le j) =
    over bs j (λ xs p. p) (λ ys q. bare (heads.Int (signed sign v))
    end ys (refl, token ys (in_range sign v le, sign, v, refl, q)))
whole_sound_here bs (in_text j) = tt
whole_sound_here bs (in_escape j) = tt
whole_sound_here bs (in_octal e f j) = tt
whole_sound_here bs (in_octals e f g j) = tt
whole_sound_here bs (is_named {y} {s} j) =
    over bs j (λ xs p. p) (λ ys q. bare (heads.App y) end ys (symbol_bare y ys q))
whole_sound_here bs (is_whole {h} {ps} {s} j) = over bs j (λ xs p. p) (λ ys q. bare h ps ys q)
whole_sound_here bs (is_done j) = j
whole_sound_here bs (is_deep d) = tt
whole_sound_here bs is_wrong = tt

-- what is read to its end as a term spells it
pub read_sound : (bs : List ℕ) (t : Tree) → finished (after (Expect []) bs) ≡ Some (t, []) → IsText t bs
read_sound bs t e =
    let P : Option (Tree × List Open) → Type 0 = λ o. IfSome o (λ p. Joined (Stacked p.1) (Spells p.0) bs) in
    subst P e (whole_sound_here bs (after_sound bs [] (Expect []) (expect refl)))

is_deep_only : {bs : List ℕ} → Leads Deep bs → TooDeep bs
is_deep_only (is_deep d) = d

pub deep_sound : (bs : List ℕ) → after (Expect []) bs ≡ Deep → TooDeep bs
deep_sound bs e =
    let l : Leads Deep bs = subst (λ a. Leads a bs) e (after_sound bs [] (Expect []) (expect refl)) in
    is_deep_only l
