-- The token that bytes begin with: there is one alone.
use Rattle.std.proofs.Common.{◌≡◌, ℕ, ℤ, ◌<◌, Bool, true, false, if◌then◌else◌, List, [], ◌∷◌, ◌++◌, length, refl, sym, ◌∙◌, ap, arith, Option, Some, None}
use Rattle.std.specs.Borrow.{Bor}
use Rattle.std.specs.Bool.{◌==◌}
use Rattle.std.specs.Cmp.{unsigned_Decides}
use Rattle.std.proofs.lemmas.Bool.Decides.{nat_tests}
use Rattle.std.proofs.lemmas.List.{length-append}
use Rattle.str_lexer.specs.declared.token.TokenKind.{TokenKind}
use Rattle.str_lexer.specs.declared.token.TokenKind.TheVariants as T
use Rattle.str_lexer.specs.declared.token.Mark.{Mark}
use Rattle.str_lexer.specs.declared.token.Mark.TheVariants.{OpenParenthesis, CloseParenthesis, OpenBracket, CloseBracket, OpenBrace, CloseBrace, Bar, Comma, Colon, Semicolon, Equals, Question, Exclamation, At, Star, Plus, Backslash, Less, Greater, Arrow, DoubleArrow, LeftChoice}
use Rattle.str_lexer.specs.declared.word.Reserved.{Reserved}
use Rattle.str_lexer.specs.declared.word.Reserved.TheVariants as R
use Rattle.str_lexer.specs.Words.{reserved_bytes, mark_bytes}
use Rattle.str_lexer.specs.WordTokens.{kind_of}
use Rattle.term_model.specs.Bytes.{is_digit}
use Rattle.term_model.specs.Symbol.{begins_name}
use Rattle.str_lexer.specs.Tokens.{first_is, with_sign, IsWord, IsToken}
use Rattle.str_lexer.specs.Lexes.{Gap, BeginsGap}
use Rattle.str_lexer.specs.Readings.{begins_integer, BeginsToken, NoToken, BeginsMark, IsIntegerRead, IsQuotedRead}
use Rattle.str_lexer.proofs.WordLaws.{word_head, word_same, reserved_once}
use Rattle.str_lexer.proofs.IntegerLaws.{integer_head, integer_once}
use Rattle.str_lexer.proofs.QuotedLaws.{quoted_once, quoted_bytes}
use Rattle.str_lexer.proofs.MarkLaws.{mark_once}
use Rattle.str_lexer.proofs.GapLaws.{begins_gap, gap_head}

-- ---- what the first bytes say of the token

-- what begins at bytes
data Beginning : Type 0 where
  word : Beginning
  integer : Beginning
  quoted : Beginning
  gap : Beginning
  mark : Beginning

-- as the first bytes say
abbrev beginning : List ℕ → Beginning
beginning bs =
    if first_is begins_name bs then word else
    if begins_integer bs then integer else
    if first_is (λ b. b == 34) bs then quoted else
    if first_is begins_gap bs then gap else
    mark

-- as the token says
abbrev beginning_of : TokenKind → Beginning
beginning_of T.Name = word
beginning_of T.Wildcard = word
beginning_of (T.Keyword k) = word
beginning_of (T.LeftOut w) = word
beginning_of (T.Integer z) = integer
beginning_of (T.Quoted text) = quoted
beginning_of (T.Mark m) = mark

word_no_digit : (b : ℕ) → begins_name b ≡ true → is_digit b ≡ true → ⊥
word_no_digit b e f = grind (arith, nat_tests)

minus_no_word : (b : ℕ) → b ≡ 45 → begins_name b ≡ true → ⊥
minus_no_word b e f = let g : begins_name 45 ≡ true = ap begins_name (sym e) ∙ f in cc

integer_no_word : (bs : List ℕ) (t : Bool) → first_is begins_name bs ≡ t → begins_integer bs ≡ true → t ≡ false
integer_no_word [] t e f = cc
integer_no_word (b ∷ bs) false e f = refl
integer_no_word (b ∷ bs) true e f = absurd (go (b == 45) refl f)
  where
    go : (t : Bool) → (b == 45) ≡ t → begins_integer (b ∷ bs) ≡ true → ⊥
    go true g f = minus_no_word b ((unsigned_Decides b 45).0 g) e
    go false g f = word_no_digit b e (rw g at f)

integer_beginning : (bs : List ℕ) → begins_integer bs ≡ true → beginning bs ≡ integer
integer_beginning bs f = let g = integer_no_word bs (first_is begins_name bs) refl f in rw (g, f) refl

word_beginning : (bs : List ℕ) → first_is begins_name bs ≡ true → beginning bs ≡ word
word_beginning bs f = rw f refl

quote_beginning : (bs : List ℕ) → beginning (34 ∷ bs) ≡ quoted
quote_beginning bs = refl

blank_byte : (b : ℕ) → begins_gap b ≡ true → (begins_name b ≡ false) × (is_digit b ≡ false) × ((b == 45) ≡ false) ×
    ((b == 34) ≡ false)
blank_byte b e = (
  grind (arith, nat_tests),
  grind (arith, nat_tests),
  grind (arith, nat_tests),
  grind (arith, nat_tests),
)

gap_beginning : (bs : List ℕ) → first_is begins_gap bs ≡ true → beginning bs ≡ gap
gap_beginning [] e = cc
gap_beginning (b ∷ bs) e = let k = blank_byte b e in rw (k.0, k.2, k.1, k.3, e) refl

mark_beginning : (m : Mark) (rest : List ℕ) → beginning (mark_bytes m ++ rest) ≡ mark
mark_beginning OpenParenthesis rest = refl
mark_beginning CloseParenthesis rest = refl
mark_beginning OpenBracket rest = refl
mark_beginning CloseBracket rest = refl
mark_beginning OpenBrace rest = refl
mark_beginning CloseBrace rest = refl
mark_beginning Bar rest = refl
mark_beginning Comma rest = refl
mark_beginning Colon rest = refl
mark_beginning Semicolon rest = refl
mark_beginning Equals rest = refl
mark_beginning Question rest = refl
mark_beginning Exclamation rest = refl
mark_beginning At rest = refl
mark_beginning Star rest = refl
mark_beginning Plus rest = refl
mark_beginning Backslash rest = refl
mark_beginning Less rest = refl
mark_beginning Greater rest = refl
mark_beginning Arrow rest = refl
mark_beginning DoubleArrow rest = refl
mark_beginning LeftChoice rest = refl

token_beginning : (t : TokenKind) (bs rest : List ℕ) → BeginsToken t bs rest → beginning bs ≡ beginning_of t
token_beginning T.Name bs rest b = word_beginning bs (word_head bs b.written rest b.bytes b.is_token.0)
token_beginning T.Wildcard bs rest b = word_beginning bs (word_head bs b.written rest b.bytes b.is_token.1)
token_beginning (T.Keyword k) bs rest b = word_beginning bs (word_head bs b.written rest b.bytes b.is_token.1)
token_beginning (T.LeftOut w) bs rest b = word_beginning bs (word_head bs b.written rest b.bytes b.is_token.1)
token_beginning (T.Integer z) bs rest b = integer_beginning bs (integer_head z bs b.written rest b.bytes b.is_token)
token_beginning (T.Quoted text) bs rest b =
    ap beginning (b.bytes ∙ ap (λ w. w ++ rest) (quoted_bytes text b.written b.is_token)) ∙
    quote_beginning ((b.is_token.second.front ++ (34 ∷ [])) ++ rest)
token_beginning (T.Mark m) bs rest b = ap beginning (b.bytes ∙ ap (λ w. w ++ rest) b.is_token.0) ∙ mark_beginning m rest

-- ---- one token alone

-- two words at the front are the same
words_same : (bs w v r s : List ℕ) → bs ≡ w ++ r → bs ≡ v ++ s → IsWord w r → IsWord v s → (w ≡ v) × (r ≡ s)
words_same bs w v r s e f a b = word_same w v r s a b (sym e ∙ f)

same_reserved : (q r : Reserved) (w v : List ℕ) → w ≡ reserved_bytes q → v ≡ reserved_bytes r → w ≡ v →
    kind_of r ≡ kind_of q
same_reserved q r w v e f g = ap kind_of (reserved_once r q (sym f ∙ sym g ∙ e))

once_of : (bs r s : List ℕ) (t u : TokenKind) → BeginsToken t bs r → BeginsToken u bs s →
    beginning_of t ≡ beginning_of u → (u ≡ t) × (s ≡ r)
once_of bs r s T.Name T.Name a b e = let h =
    words_same bs a.written b.written r s a.bytes b.bytes a.is_token.0 b.is_token.0 in (refl, sym h.1)
once_of bs r s T.Name T.Wildcard a b e = let h =
    words_same bs a.written b.written r s a.bytes b.bytes a.is_token.0 b.is_token.1 in
    absurd (a.is_token.1 R.Wildcard (sym b.is_token.0 ∙ sym h.0))
once_of bs r s T.Name (T.Keyword j) a b e = let h =
    words_same bs a.written b.written r s a.bytes b.bytes a.is_token.0 b.is_token.1 in
    absurd (a.is_token.1 (R.Keyword j) (sym b.is_token.0 ∙ sym h.0))
once_of bs r s T.Name (T.LeftOut y) a b e = let h =
    words_same bs a.written b.written r s a.bytes b.bytes a.is_token.0 b.is_token.1 in
    absurd (a.is_token.1 (R.LeftOut y) (sym b.is_token.0 ∙ sym h.0))
once_of bs r s T.Name (T.Integer i) a b e = cc
once_of bs r s T.Name (T.Quoted u) a b e = cc
once_of bs r s T.Name (T.Mark l) a b e = cc
once_of bs r s T.Wildcard T.Name a b e = let h =
    words_same bs a.written b.written r s a.bytes b.bytes a.is_token.1 b.is_token.0 in
    absurd (b.is_token.1 R.Wildcard (sym a.is_token.0 ∙ h.0))
once_of bs r s T.Wildcard T.Wildcard a b e = let h =
    words_same bs a.written b.written r s a.bytes b.bytes a.is_token.1 b.is_token.1 in
    (same_reserved R.Wildcard R.Wildcard a.written b.written a.is_token.0 b.is_token.0 h.0, sym h.1)
once_of bs r s T.Wildcard (T.Keyword j) a b e = let h =
    words_same bs a.written b.written r s a.bytes b.bytes a.is_token.1 b.is_token.1 in
    (same_reserved R.Wildcard (R.Keyword j) a.written b.written a.is_token.0 b.is_token.0 h.0, sym h.1)
once_of bs r s T.Wildcard (T.LeftOut y) a b e = let h =
    words_same bs a.written b.written r s a.bytes b.bytes a.is_token.1 b.is_token.1 in
    (same_reserved R.Wildcard (R.LeftOut y) a.written b.written a.is_token.0 b.is_token.0 h.0, sym h.1)
once_of bs r s T.Wildcard (T.Integer i) a b e = cc
once_of bs r s T.Wildcard (T.Quoted u) a b e = cc
once_of bs r s T.Wildcard (T.Mark l) a b e = cc
once_of bs r s (T.Keyword k) T.Name a b e = let h =
    words_same bs a.written b.written r s a.bytes b.bytes a.is_token.1 b.is_token.0 in
    absurd (b.is_token.1 (R.Keyword k) (sym a.is_token.0 ∙ h.0))
once_of bs r s (T.Keyword k) T.Wildcard a b e = let h =
    words_same bs a.written b.written r s a.bytes b.bytes a.is_token.1 b.is_token.1 in
    (same_reserved (R.Keyword k) R.Wildcard a.written b.written a.is_token.0 b.is_token.0 h.0, sym h.1)
once_of bs r s (T.Keyword k) (T.Keyword j) a b e = let h =
    words_same bs a.written b.written r s a.bytes b.bytes a.is_token.1 b.is_token.1 in
    (same_reserved (R.Keyword k) (R.Keyword j) a.written b.written a.is_token.0 b.is_token.0 h.0, sym h.1)
once_of bs r s (T.Keyword k) (T.LeftOut y) a b e = let h =
    words_same bs a.written b.written r s a.bytes b.bytes a.is_token.1 b.is_token.1 in
    (same_reserved (R.Keyword k) (R.LeftOut y) a.written b.written a.is_token.0 b.is_token.0 h.0, sym h.1)
once_of bs r s (T.Keyword k) (T.Integer i) a b e = cc
once_of bs r s (T.Keyword k) (T.Quoted u) a b e = cc
once_of bs r s (T.Keyword k) (T.Mark l) a b e = cc
once_of bs r s (T.LeftOut x) T.Name a b e = let h =
    words_same bs a.written b.written r s a.bytes b.bytes a.is_token.1 b.is_token.0 in
    absurd (b.is_token.1 (R.LeftOut x) (sym a.is_token.0 ∙ h.0))
once_of bs r s (T.LeftOut x) T.Wildcard a b e = let h =
    words_same bs a.written b.written r s a.bytes b.bytes a.is_token.1 b.is_token.1 in
    (same_reserved (R.LeftOut x) R.Wildcard a.written b.written a.is_token.0 b.is_token.0 h.0, sym h.1)
once_of bs r s (T.LeftOut x) (T.Keyword j) a b e = let h =
    words_same bs a.written b.written r s a.bytes b.bytes a.is_token.1 b.is_token.1 in
    (same_reserved (R.LeftOut x) (R.Keyword j) a.written b.written a.is_token.0 b.is_token.0 h.0, sym h.1)
once_of bs r s (T.LeftOut x) (T.LeftOut y) a b e = let h =
    words_same bs a.written b.written r s a.bytes b.bytes a.is_token.1 b.is_token.1 in
    (same_reserved (R.LeftOut x) (R.LeftOut y) a.written b.written a.is_token.0 b.is_token.0 h.0, sym h.1)
once_of bs r s (T.LeftOut x) (T.Integer i) a b e = cc
once_of bs r s (T.LeftOut x) (T.Quoted u) a b e = cc
once_of bs r s (T.LeftOut x) (T.Mark l) a b e = cc
once_of bs r s (T.Integer z) T.Name a b e = cc
once_of bs r s (T.Integer z) T.Wildcard a b e = cc
once_of bs r s (T.Integer z) (T.Keyword j) a b e = cc
once_of bs r s (T.Integer z) (T.LeftOut y) a b e = cc
once_of bs r s (T.Integer z) (T.Integer i) a b e = let h =
    integer_once z i bs a.written b.written r s a.bytes b.bytes a.is_token b.is_token in (ap T.Integer h.0, h.1)
once_of bs r s (T.Integer z) (T.Quoted u) a b e = cc
once_of bs r s (T.Integer z) (T.Mark l) a b e = cc
once_of bs r s (T.Quoted t) T.Name a b e = cc
once_of bs r s (T.Quoted t) T.Wildcard a b e = cc
once_of bs r s (T.Quoted t) (T.Keyword j) a b e = cc
once_of bs r s (T.Quoted t) (T.LeftOut y) a b e = cc
once_of bs r s (T.Quoted t) (T.Integer i) a b e = cc
once_of bs r s (T.Quoted t) (T.Quoted u) a b e = let h =
    quoted_once t u bs a.written b.written r s a.bytes b.bytes a.is_token b.is_token in (ap T.Quoted h.0, h.1)
once_of bs r s (T.Quoted t) (T.Mark l) a b e = cc
once_of bs r s (T.Mark m) T.Name a b e = cc
once_of bs r s (T.Mark m) T.Wildcard a b e = cc
once_of bs r s (T.Mark m) (T.Keyword j) a b e = cc
once_of bs r s (T.Mark m) (T.LeftOut y) a b e = cc
once_of bs r s (T.Mark m) (T.Integer i) a b e = cc
once_of bs r s (T.Mark m) (T.Quoted u) a b e = cc
once_of bs r s (T.Mark m) (T.Mark l) a b e = let h =
    mark_once m l bs r s (a.bytes ∙ ap (λ w. w ++ r) a.is_token.0) a.is_token.1 (b.bytes ∙
    ap (λ w. w ++ s) b.is_token.0) b.is_token.1 in (ap T.Mark h.0, h.1)

-- the bytes begin with one token alone
pub token_once : (t u : TokenKind) (bs r s : List ℕ) → BeginsToken t bs r → BeginsToken u bs s → (u ≡ t) × (s ≡ r)
token_once t u bs r s a b = once_of bs r s t u a b (sym (token_beginning t bs r a) ∙ token_beginning u bs s b)

not_gap : (t : TokenKind) → beginning_of t ≡ gap → ⊥
not_gap T.Name e = cc
not_gap T.Wildcard e = cc
not_gap (T.Keyword k) e = cc
not_gap (T.LeftOut w) e = cc
not_gap (T.Integer z) e = cc
not_gap (T.Quoted t) e = cc
not_gap (T.Mark m) e = cc

-- where a gap begins there is no token
pub gap_or_token : (g : Gap) (t : TokenKind) (bs r s : List ℕ) → BeginsGap g bs r → BeginsToken t bs s → ⊥
gap_or_token g t bs r s a b = not_gap t (sym (token_beginning t bs s b) ∙ gap_beginning bs (gap_head g bs r a))

-- ---- where there is no token

no_other_than_integer : (bs : List ℕ) → begins_integer bs ≡ true →
    ((z : ℤ) (other : List ℕ) → BeginsToken (T.Integer z) bs other → ⊥) → NoToken bs
no_other_than_integer bs f n t other b = go t b (sym (token_beginning t bs other b) ∙ integer_beginning bs f)
  where
    go : (t : TokenKind) → BeginsToken t bs other → beginning_of t ≡ integer → ⊥
    go T.Name b e = cc
    go T.Wildcard b e = cc
    go (T.Keyword k) b e = cc
    go (T.LeftOut w) b e = cc
    go (T.Integer z) b e = n z other b
    go (T.Quoted t) b e = cc
    go (T.Mark m) b e = cc

quoted_head : (text : List ℕ) (bs other : List ℕ) → BeginsToken (T.Quoted text) bs other →
    first_is (λ b. b == 34) bs ≡ true
quoted_head text bs other b = ap (first_is (λ c. c == 34)) (b.bytes ∙
    ap (λ w. w ++ other) (quoted_bytes text b.written b.is_token))

no_other_than_quoted : (bs : List ℕ) → first_is (λ b. b == 34) bs ≡ true →
    ((text : List ℕ) (other : List ℕ) → BeginsToken (T.Quoted text) bs other → ⊥) → NoToken bs
no_other_than_quoted bs f n t other b = go t b (sym (token_beginning t bs other b) ∙ at_quote bs f)
  where
    at_quote : (bs : List ℕ) → first_is (λ b. b == 34) bs ≡ true → beginning bs ≡ quoted
    at_quote [] f = cc
    at_quote (c ∷ bs) f = ap (λ x. beginning (x ∷ bs)) ((unsigned_Decides c 34).0 f)

    go : (t : TokenKind) → BeginsToken t bs other → beginning_of t ≡ quoted → ⊥
    go T.Name b e = cc
    go T.Wildcard b e = cc
    go (T.Keyword k) b e = cc
    go (T.LeftOut w) b e = cc
    go (T.Integer z) b e = cc
    go (T.Quoted t) b e = n t other b
    go (T.Mark m) b e = cc

pub no_other_than_mark : (bs : List ℕ) → first_is begins_name bs ≡ false → begins_integer bs ≡ false →
    first_is (λ b. b == 34) bs ≡ false → ((m : Mark) (other : List ℕ) → bs ≡ mark_bytes m ++ other → ⊥) → NoToken bs
no_other_than_mark bs f g h n T.Name other b = let k = word_head bs b.written other b.bytes b.is_token.0 in cc
no_other_than_mark bs f g h n T.Wildcard other b = let k = word_head bs b.written other b.bytes b.is_token.1 in cc
no_other_than_mark bs f g h n (T.Keyword k) other b = let k = word_head bs b.written other b.bytes b.is_token.1 in cc
no_other_than_mark bs f g h n (T.LeftOut w) other b = let k = word_head bs b.written other b.bytes b.is_token.1 in cc
no_other_than_mark bs f g h n (T.Integer z) other b = let k = integer_head z bs b.written other b.bytes b.is_token in cc
no_other_than_mark bs f g h n (T.Quoted t) other b = let k = quoted_head t bs other b in cc
no_other_than_mark bs f g h n (T.Mark m) other b = n m other (b.bytes ∙ ap (λ w. w ++ other) b.is_token.0)

pub found_mark : (m : Mark) (bs rest : List ℕ) → BeginsMark m bs rest → BeginsToken (T.Mark m) bs rest
found_mark m bs rest b = record { written = mark_bytes m; bytes = b.bytes; is_token = (refl, b.longest) }

pub integer_missing : (bs : List ℕ) (read : Option (ℤ × Bor (List ℕ))) → begins_integer bs ≡ true → read ≡ None →
    IsIntegerRead bs read → NoToken bs
integer_missing bs None f e n = no_other_than_integer bs f n
integer_missing bs (Some x) f e n = cc

pub quoted_missing : (bs : List ℕ) (read : Option (List ℕ × Bor (List ℕ))) → first_is (λ b. b == 34) bs ≡ true →
    read ≡ None → IsQuotedRead bs read → NoToken bs
quoted_missing bs None f e n = no_other_than_quoted bs f n
quoted_missing bs (Some x) f e n = cc

no_mark : (m : Mark) (rest : List ℕ) → [] ≡ mark_bytes m ++ rest → ⊥
no_mark OpenParenthesis rest e = cc
no_mark CloseParenthesis rest e = cc
no_mark OpenBracket rest e = cc
no_mark CloseBracket rest e = cc
no_mark OpenBrace rest e = cc
no_mark CloseBrace rest e = cc
no_mark Bar rest e = cc
no_mark Comma rest e = cc
no_mark Colon rest e = cc
no_mark Semicolon rest e = cc
no_mark Equals rest e = cc
no_mark Question rest e = cc
no_mark Exclamation rest e = cc
no_mark At rest e = cc
no_mark Star rest e = cc
no_mark Plus rest e = cc
no_mark Backslash rest e = cc
no_mark Less rest e = cc
no_mark Greater rest e = cc
no_mark Arrow rest e = cc
no_mark DoubleArrow rest e = cc
no_mark LeftChoice rest e = cc

pub no_token_empty : (bs : List ℕ) → length bs ≡ 0 → NoToken bs
no_token_empty [] e = no_other_than_mark [] refl refl refl no_mark
no_token_empty (b ∷ bs) e = absurd (omega arith)

-- ---- no token is empty

empty_token : (t : TokenKind) (rest : List ℕ) → IsToken t [] rest → ⊥
empty_token T.Name rest i = i.0
empty_token T.Wildcard rest i = i.1
empty_token (T.Keyword k) rest i = i.1
empty_token (T.LeftOut w) rest i = i.1
empty_token (T.Integer z) rest i = empty_signed i.negative i.ds i.bytes i.digits.one
  where
    empty_signed : (negative : Bool) (ds : List ℕ) → [] ≡ with_sign negative ds → first_is is_digit ds ≡ true → ⊥
    empty_signed true ds e f = cc
    empty_signed false [] e f = cc
    empty_signed false (d ∷ ds) e f = cc
empty_token (T.Quoted text) rest i = let e = quoted_bytes text [] i in cc
empty_token (T.Mark OpenParenthesis) rest i = let e = i.0 in cc
empty_token (T.Mark CloseParenthesis) rest i = let e = i.0 in cc
empty_token (T.Mark OpenBracket) rest i = let e = i.0 in cc
empty_token (T.Mark CloseBracket) rest i = let e = i.0 in cc
empty_token (T.Mark OpenBrace) rest i = let e = i.0 in cc
empty_token (T.Mark CloseBrace) rest i = let e = i.0 in cc
empty_token (T.Mark Bar) rest i = let e = i.0 in cc
empty_token (T.Mark Comma) rest i = let e = i.0 in cc
empty_token (T.Mark Colon) rest i = let e = i.0 in cc
empty_token (T.Mark Semicolon) rest i = let e = i.0 in cc
empty_token (T.Mark Equals) rest i = let e = i.0 in cc
empty_token (T.Mark Question) rest i = let e = i.0 in cc
empty_token (T.Mark Exclamation) rest i = let e = i.0 in cc
empty_token (T.Mark At) rest i = let e = i.0 in cc
empty_token (T.Mark Star) rest i = let e = i.0 in cc
empty_token (T.Mark Plus) rest i = let e = i.0 in cc
empty_token (T.Mark Backslash) rest i = let e = i.0 in cc
empty_token (T.Mark Less) rest i = let e = i.0 in cc
empty_token (T.Mark Greater) rest i = let e = i.0 in cc
empty_token (T.Mark Arrow) rest i = let e = i.0 in cc
empty_token (T.Mark DoubleArrow) rest i = let e = i.0 in cc
empty_token (T.Mark LeftChoice) rest i = let e = i.0 in cc

shorter_rest : (t : TokenKind) (bs w rest : List ℕ) → bs ≡ w ++ rest → IsToken t w rest → length rest < length bs
shorter_rest t bs [] rest e i = absurd (empty_token t rest i)
shorter_rest t bs (b ∷ w) rest e i = rw e (omega (arith, length-append w rest))

pub token_shorter : (t : TokenKind) (bs rest : List ℕ) → BeginsToken t bs rest → length rest < length bs
token_shorter t bs rest b = shorter_rest t bs b.written rest b.bytes b.is_token
