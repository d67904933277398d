-- Items and quoted texts at the front of bytes.
use Rattle.std.proofs.Common.{◌≡◌, ℕ, ◌+◌, ◌-◌, ◌*◌, ◌<◌, ◌≤◌, Bool, true, false, List, [], ◌∷◌, ◌++◌, length, drop, Option, Some, None, refl, sym, ◌∙◌, ap, arith, append_assoc}
use Rattle.std.specs.Bool.{◌==◌}
use Rattle.std.specs.Borrow.{Bor}
use Rattle.std.specs.Cmp.{unsigned_Decides}
use Rattle.std.proofs.lemmas.Bool.Decides.{nat_tests}
use Rattle.term_model.specs.Bytes.{is_between, is_octal, is_raw, unescaped}
use Rattle.term_model.specs.QuotedText.{Joined, Item, raw, letter, octal, AreItems, IsQuoted}
use Rattle.term_model.proofs.Items.{items_more, digit_no_letter}
use Rattle.str_lexer.specs.declared.token.TokenKind.TheVariants as T
use Rattle.str_lexer.specs.Tokens.{first_is}
use Rattle.str_lexer.specs.Readings.{FoundItem, NoItem, BeginsOctal, IsItemRead, IsOctalRead, BeginsToken}
use Rattle.str_lexer.proofs.ByteLaws.{heads, tails, heads_apart}

letter_or_digit : {b : ℕ} (l d : ℕ) → l ≡ d → unescaped l ≡ Some b → is_between 48 51 d ≡ true → ⊥
letter_or_digit {b} l d e f g =
    let none : unescaped l ≡ None = ap unescaped e ∙ digit_no_letter d g in
    let some : Some b ≡ None = sym f ∙ none in
    cc

raw_backslash : (b : ℕ) → b ≡ 92 → is_raw b ≡ true → ⊥
raw_backslash b e f = let g : is_raw 92 ≡ true = ap is_raw (sym e) ∙ f in cc

raw_quote : (b : ℕ) → 34 ≡ b → is_raw b ≡ true → ⊥
raw_quote b e f = let g : is_raw 34 ≡ true = ap is_raw e ∙ f in cc

-- the bytes begin with one item alone
pub item_once : (a b : ℕ) (bs r s : List ℕ) → FoundItem a bs r → FoundItem b bs s → (b ≡ a) × (s ≡ r)
item_once a b bs r s f g = go f.item g.item (sym f.bytes ∙ g.bytes)
  where
    go : {a b : ℕ} {xs ys : List ℕ} → Item a xs → Item b ys → xs ++ r ≡ ys ++ s → (b ≡ a) × (s ≡ r)
    go (raw p) (raw q) e = (cc, cc)
    go (raw {b = c} p) (letter q) e = absurd (raw_backslash c (heads c 92 _ _ e) p)
    go (raw {b = c} p) (octal q u v w) e = absurd (raw_backslash c (heads c 92 _ _ e) p)
    go (letter p) (raw {b = c} q) e = absurd (raw_backslash c (heads c 92 _ _ (sym e)) q)
    go (letter {b = c} {c = l} p) (letter {b = d} {c = m} q) e =
        let same : l ≡ m = cc in
        let value : Some c ≡ Some d = sym p ∙ ap unescaped same ∙ q in
        (cc, cc)
    go (letter {c = l} p) (octal {x = x} q u v w) e = absurd (letter_or_digit l x (cc) p q)
    go (octal p q u v) (raw {b = c} w) e = absurd (raw_backslash c (heads c 92 _ _ (sym e)) w)
    go (octal {x = x} p q u v) (letter {c = l} w) e = absurd (letter_or_digit l x (cc) w p)
    go (octal p q u v) (octal k l m n) e = (cc, cc)

-- a quote begins no item
pub no_item_quote : (rest : List ℕ) → NoItem (34 ∷ rest)
no_item_quote rest b other f = go f.item f.bytes
  where
    go : {b : ℕ} {xs : List ℕ} → Item b xs → 34 ∷ rest ≡ xs ++ other → ⊥
    go (raw {b = c} p) e = raw_quote c (heads 34 c _ _ e) p
    go (letter p) e = heads_apart 34 92 _ _ refl e
    go (octal p q u v) e = heads_apart 34 92 _ _ refl e

pub no_item_empty : NoItem []
no_item_empty b other f = go f.item f.bytes
  where
    go : {b : ℕ} {xs : List ℕ} → Item b xs → [] ≡ xs ++ other → ⊥
    go (raw p) e = cc
    go (letter p) e = cc
    go (octal p q u v) e = cc

pub no_item_raw : (b : ℕ) (bs rest : List ℕ) → bs ≡ b ∷ rest → is_raw b ≡ false → (b ≡ 92 → ⊥) → NoItem bs
no_item_raw b bs rest e f n byte other g = go g.item (sym e ∙ g.bytes)
  where
    go : {a : ℕ} {xs : List ℕ} → Item a xs → b ∷ rest ≡ xs ++ other → ⊥
    go (raw {b = c} p) h =
        let same : b ≡ c = cc in
        let is : is_raw b ≡ true = ap is_raw same ∙ p in
        cc
    go (letter p) h = n (cc)
    go (octal p q u v) h = n (cc)

-- after a \ that stands alone
pub no_item_lone : (bs : List ℕ) → bs ≡ [] → NoItem (92 ∷ bs)
no_item_lone bs e byte other g = go g.item (sym (ap (λ x. 92 ∷ x) e) ∙ g.bytes)
  where
    go : {a : ℕ} {xs : List ℕ} → Item a xs → 92 ∷ [] ≡ xs ++ other → ⊥
    go (raw {b = c} p) h = raw_backslash c (cc) p
    go (letter p) h = cc
    go (octal p q u v) h = cc

pub no_item_escape : (b : ℕ) (bs rest : List ℕ) → bs ≡ b ∷ rest → unescaped b ≡ None →
    ((x y z : ℕ) (other : List ℕ) → BeginsOctal x y z bs other → ⊥) → NoItem (92 ∷ bs)
no_item_escape b bs rest e f n byte other g = go g.item g.bytes
  where
    go : {a : ℕ} {xs : List ℕ} → Item a xs → 92 ∷ bs ≡ xs ++ other → ⊥
    go (raw {b = c} p) h = raw_backslash c (cc) p
    go (letter {b = a} {c = l} p) h =
        let same : b ≡ l = heads b l _ _ (sym e ∙ tails 92 92 _ _ h) in
        let some : Some a ≡ None = sym p ∙ ap unescaped (sym same) ∙ f in
        cc
    go (octal {x = x} {y = y} {z = z} p q u v) h =
        n x y z other (record { bytes = tails 92 92 _ _ h; high = p; middle = q; low = u })

pub found_letter : (l byte : ℕ) (bs rest : List ℕ) → bs ≡ l ∷ rest → unescaped l ≡ Some byte →
    FoundItem byte (92 ∷ bs) rest
found_letter l byte bs rest e f = record { written = 92 ∷ l ∷ []; bytes = ap (λ x. 92 ∷ x) e; item = letter f }

pub found_octal : (x y z : ℕ) (bs rest : List ℕ) → bs ≡ x ∷ y ∷ z ∷ rest → x ≤ 51 → is_octal x ≡ true →
    is_octal y ≡ true → is_octal z ≡ true → FoundItem (8 * (8 * (x - 48) + (y - 48)) + (z - 48)) (92 ∷ bs) rest
found_octal x y z bs rest e h p q u =
    record { written = 92 ∷ x ∷ y ∷ z ∷ []; bytes = ap (λ w. 92 ∷ w) e; item = octal (lower x h p) q u refl }
  where
    lower : (b : ℕ) → b ≤ 51 → is_octal b ≡ true → is_between 48 51 b ≡ true
    lower b h p = grind (arith, nat_tests)

pub raw_byte : (b : ℕ) → (b ≡ 92 → ⊥) → (b ≡ 34 → ⊥) → (b ≡ 10 → ⊥) → is_raw b ≡ true
raw_byte b f g h = grind (arith, nat_tests)

pub found_raw : (b : ℕ) (bs rest : List ℕ) → bs ≡ b ∷ rest → is_raw b ≡ true → FoundItem b bs rest
found_raw b bs rest e f = record { written = b ∷ []; bytes = e; item = raw f }

pub item_shorter : (byte : ℕ) (bs rest : List ℕ) → FoundItem byte bs rest → length rest < length bs
item_shorter byte bs rest f = go f.item f.bytes
  where
    go : {b : ℕ} {xs : List ℕ} → Item b xs → bs ≡ xs ++ rest → length rest < length bs
    go (raw p) e = rw e (omega arith)
    go (letter p) e = rw e (omega arith)
    go (octal p q u v) e = rw e (omega arith)

-- ---- items one after another

-- the bytes begin with items that spell what is done, and the rest follows them
pub record ReadItems (text done rest : List ℕ) : Type 0 where
  pub written : List ℕ
  pub items : AreItems done written
  pub bytes : text ≡ written ++ rest

pub read_none : (text : List ℕ) → ReadItems text [] text
read_none text = record { written = []; items = refl; bytes = refl }

pub read_more : (text done rest following : List ℕ) (byte : ℕ) → ReadItems text done rest →
    FoundItem byte rest following → ReadItems text (done ++ byte ∷ []) following
read_more text done rest following byte r f = record {
  written = r.written ++ f.written;
  items = items_more done byte r.written f.written r.items f.item;
  bytes = r.bytes ∙ ap (λ x. r.written ++ x) f.bytes ∙ sym (append_assoc r.written f.written following);
}

first_item : (b : ℕ) (text ys s r : List ℕ) (j : Joined (Item b) (AreItems text) ys) → r ≡ ys ++ s →
    FoundItem b r (j.back ++ s)
first_item b text ys s r j e = record {
  written = j.front;
  bytes =
      e ∙ ap (λ x. x ++ s) j.bytes ∙ append_assoc j.front j.back s;
  item = j.first;
}

-- items up to a place where none begins are read in one way
pub items_once : (ts us xs ys r s : List ℕ) → AreItems ts xs → AreItems us ys → NoItem r → NoItem s →
    xs ++ r ≡ ys ++ s → (us ≡ ts) × (s ≡ r)
items_once [] [] xs ys r s a b n m e = (refl, ap (λ x. x ++ s) (sym b) ∙ sym e ∙ ap (λ x. x ++ r) a)
items_once [] (u ∷ us) xs ys r s a b n m e =
    absurd (n u (b.back ++ s) (first_item u us ys s r b (sym (ap (λ x. x ++ r) a) ∙ e)))
items_once (t ∷ ts) [] xs ys r s a b n m e =
    absurd (m t (a.back ++ r) (first_item t ts xs r s a (sym (ap (λ x. x ++ s) b) ∙ sym e)))
items_once (t ∷ ts) (u ∷ us) xs ys r s a b n m e =
    let o = item_once t u (xs ++ r) (a.back ++ r) (b.back ++ s) (first_item t ts xs r (xs ++ r) a refl)
    (first_item u us ys s (xs ++ r) b e) in
    let k = items_once ts us a.back b.back r s a.second b.second n m (sym o.1) in
    let first = o.0 in
    let others = k.0 in
    (cc, k.1)

-- ---- quoted texts

-- the bytes of a quoted text
pub quoted_bytes : (text written : List ℕ) (q : IsQuoted text written) → written ≡ 34 ∷ (q.second.front ++ (34 ∷ []))
quoted_bytes text written q = q.bytes ∙ ap (λ x. x ++ q.back) q.first ∙
    ap (λ x. 34 ∷ x) (q.second.bytes ∙ ap (λ x. q.second.front ++ x) q.second.second)

quoted_inner : (inner written bs other : List ℕ) → bs ≡ written ++ other → written ≡ 34 ∷ (inner ++ (34 ∷ [])) →
    bs ≡ 34 ∷ (inner ++ (34 ∷ other))
quoted_inner inner written bs other e f =
    e ∙ ap (λ w. w ++ other) f ∙ ap (λ x. 34 ∷ x) (append_assoc inner (34 ∷ []) other)

pub found_quoted : (bs inner done rest others : List ℕ) → bs ≡ 34 ∷ inner → ReadItems inner done rest →
    rest ≡ 34 ∷ others → BeginsToken (T.Quoted done) bs others
found_quoted bs inner done rest others e r f = record {
  written = 34 ∷ (r.written ++ (34 ∷ []));
  bytes = e ∙ ap (λ x. 34 ∷ x) (r.bytes ∙ ap (λ x. r.written ++ x) f ∙ sym (append_assoc r.written (34 ∷ []) others));
  is_token = record {
    front = 34 ∷ [];
    back = r.written ++ (34 ∷ []);
    bytes = refl;
    first = refl;
    second = record { front = r.written; back = 34 ∷ []; bytes = refl; first = r.items; second = refl };
  };
}

pub missing_quoted : (bs inner done rest : List ℕ) → bs ≡ 34 ∷ inner → ReadItems inner done rest → NoItem rest →
    first_is (λ b. b == 34) rest ≡ false → (text other : List ℕ) → BeginsToken (T.Quoted text) bs other → ⊥
missing_quoted bs inner done rest e r n f text other b =
    let q = b.is_token in
    let h = quoted_inner q.second.front b.written bs other b.bytes (quoted_bytes text b.written q) in
    let k : inner ≡ q.second.front ++ (34 ∷ other) = tails 34 34 _ _ (sym e ∙ h) in
    let o = items_once done text r.written q.second.front rest (34 ∷ other)
    r.items q.second.first n (no_item_quote other) (sym r.bytes ∙ k) in
    let g : first_is (λ b. b == 34) (34 ∷ other) ≡ false = ap (first_is (λ b. b == 34)) o.1 ∙ f in
    cc

-- the bytes begin with one quoted text alone
pub quoted_once : (t u bs w v r s : List ℕ) → bs ≡ w ++ r → bs ≡ v ++ s → IsQuoted t w → IsQuoted u v → (u ≡ t) ×
    (s ≡ r)
quoted_once t u bs w v r s e f p q =
    let g = quoted_inner p.second.front w bs r e (quoted_bytes t w p) in
    let h = quoted_inner q.second.front v bs s f (quoted_bytes u v q) in
    let k : p.second.front ++ (34 ∷ r) ≡ q.second.front ++ (34 ∷ s) = tails 34 34 _ _ (sym g ∙ h) in
    let o = items_once t u p.second.front q.second.front (34 ∷ r) (34 ∷ s)
    p.second.first q.second.first (no_item_quote r) (no_item_quote s) k in
    (o.0, tails 34 34 s r o.1)

-- ---- what is read after a \, and the first byte

pub escape_read : (b : ℕ) (bs rest : List ℕ) (read : Option (ℕ × Bor (List ℕ))) → bs ≡ b ∷ rest → unescaped b ≡ None →
    IsOctalRead bs read → IsItemRead (92 ∷ bs) read
escape_read b bs rest None e f o = no_item_escape b bs rest e f o
escape_read b bs rest (Some (byte, other)) e f o = o

pub after_first : (b : ℕ) (bs : List ℕ) → first_is (λ c. c == b) bs ≡ true → bs ≡ b ∷ drop 1 bs
after_first b [] e = cc
after_first b (c ∷ bs) e = ap (λ x. x ∷ bs) ((unsigned_Decides c b).0 e)

pub not_first : (b c : ℕ) (bs rest : List ℕ) → bs ≡ c ∷ rest → (c ≡ b → ⊥) → first_is (λ x. x == b) bs ≡ false
not_first b c bs rest e n = rw e (go (c == b) refl)
  where
    go : (t : Bool) → (c == b) ≡ t → t ≡ false
    go true f = absurd (n ((unsigned_Decides c b).0 f))
    go false f = refl

pub not_empty : (b : ℕ) (bs : List ℕ) → length bs ≡ 0 → first_is (λ x. x == b) bs ≡ false
not_empty b [] e = refl
not_empty b (c ∷ bs) e = absurd (omega arith)
