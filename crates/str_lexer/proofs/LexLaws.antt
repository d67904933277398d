-- The tokens that a text is, read one after another.
use Rattle.std.proofs.Common.{◌≡◌, ℕ, ◌+◌, ◌-◌, ◌<◌, ◌≤◌, Bool, true, false, List, [], ◌∷◌, ◌++◌, length, refl, sym, ◌∙◌, ap, subst, arith, append_assoc}
use Rattle.std.specs.Bool.{◌==◌}
use Rattle.std.specs.Cmp.{unsigned_Decides}
use Rattle.str_lexer.specs.declared.token.Token.{Token}
use Rattle.str_lexer.specs.declared.token.TokenKind.{TokenKind}
use Rattle.str_lexer.specs.Tokens.{IsToken}
use Rattle.str_lexer.specs.Lexes.{Gap, BeginsGap, Gaps, OnlyGaps, LexesEnd, Lexes, OnlyTokens}
use Rattle.str_lexer.specs.Readings.{BeginsToken, NoToken}
use Rattle.str_lexer.proofs.GapLaws.{gap_once, gap_shorter}
use Rattle.str_lexer.proofs.TokenLaws.{token_once, token_shorter, gap_or_token}

append_nil : (ts : List Token) → ts ++ [] ≡ ts
append_nil [] = refl
append_nil (t ∷ ts) = ap (λ us. t ∷ us) (append_nil ts)

same_token : (t u : Token) → u.kind ≡ t.kind → u.from ≡ t.from → u.to ≡ t.to → u ≡ t
same_token t u e f g = λ i. record { kind = e i; from = f i; to = g i }

-- a gap or a token is no shorter than one byte
no_gap_in : (g : Gap) (bs rest : List ℕ) → bs ≡ [] → BeginsGap g bs rest → ⊥
no_gap_in g bs rest e b = let h = ap length e in absurd (omega (arith, gap_shorter g bs rest b))

no_token_in : (t : TokenKind) (bs rest : List ℕ) → bs ≡ [] → BeginsToken t bs rest → ⊥
no_token_in t bs rest e b = let h = ap length e in absurd (omega (arith, token_shorter t bs rest b))

-- ---- a gap before the tokens

more_gap : (size : ℕ) (g : Gap) (bs rest : List ℕ) (ts : List Token) → BeginsGap g bs rest → LexesEnd size rest ts →
    LexesEnd size bs ts
more_gap size g bs rest [] b l =
    record { gaps = g ∷ l.gaps; are_gaps = record { rest = rest; begins = b; following = l.are_gaps } }
more_gap size g bs rest (t ∷ ts) b l = record {
  gaps = g ∷ l.gaps;
  written = l.written;
  rest = l.rest;
  are_gaps = record { rest = rest; begins = b; following = l.are_gaps };
  is_token = l.is_token;
  from = l.from;
  to = l.to;
  following = l.following;
}

gaps_after : (g : Gap) (bs rest : List ℕ) (gaps : List Gap) → BeginsGap g bs rest → Gaps gaps [] bs → OnlyGaps rest
gaps_after g bs rest [] b a = absurd (no_gap_in g bs rest a b)
gaps_after g bs rest (h ∷ gaps) b a =
    record { gaps = gaps; are_gaps = subst (Gaps gaps []) (gap_once g h bs rest a.rest b a.begins) a.following }

-- the gaps after the first, before these bytes
record GapsBehind (end rest : List ℕ) : Type 0 where
  pub gaps : List Gap
  pub are_gaps : Gaps gaps end rest

token_after : (g : Gap) (bs rest : List ℕ) (t : TokenKind) (written other : List ℕ) (gaps : List Gap) →
    BeginsGap g bs rest → IsToken t written other → Gaps gaps (written ++ other) bs → GapsBehind (written ++ other) rest
token_after g bs rest t written other [] b i a =
    absurd (gap_or_token g t bs rest other b (record { written = written; bytes = a; is_token = i }))
token_after g bs rest t written other (h ∷ gaps) b i a =
    record {
      gaps = gaps;
      are_gaps =
          subst (Gaps gaps (written ++ other)) (gap_once g h bs rest a.rest b a.begins) a.following;
    }

less_gap : (size : ℕ) (g : Gap) (bs rest : List ℕ) (ts : List Token) → BeginsGap g bs rest → LexesEnd size bs ts →
    LexesEnd size rest ts
less_gap size g bs rest [] b l = gaps_after g bs rest l.gaps b l.are_gaps
less_gap size g bs rest (t ∷ ts) b l =
    let k = token_after g bs rest t.kind l.written l.rest l.gaps b l.is_token l.are_gaps in
    record {
      gaps = k.gaps;
      written = l.written;
      rest = l.rest;
      are_gaps = k.are_gaps;
      is_token = l.is_token;
      from = l.from;
      to = l.to;
      following = l.following;
    }

-- ---- a token at the front

-- the bytes begin with this token and its span
pub record Spans (size : ℕ) (t : Token) (bs rest : List ℕ) : Type 0 where
  pub begins : BeginsToken t.kind bs rest
  pub from : t.from + length bs ≡ size
  pub to : t.to + length rest ≡ size

more_token : (size : ℕ) (t : Token) (bs rest : List ℕ) (ts : List Token) → Spans size t bs rest →
    LexesEnd size rest ts → LexesEnd size bs (t ∷ ts)
more_token size t bs rest ts b l = record {
  gaps = [];
  written = b.begins.written;
  rest = rest;
  are_gaps = b.begins.bytes;
  is_token = b.begins.is_token;
  from = rw (ap length b.begins.bytes) at b.from;
  to = b.to;
  following = l;
}

no_gaps : (t : TokenKind) (bs rest : List ℕ) (gaps : List Gap) → BeginsToken t bs rest → Gaps gaps [] bs → ⊥
no_gaps t bs rest [] b a = no_token_in t bs rest a b
no_gaps t bs rest (g ∷ gaps) b a = gap_or_token g t bs a.rest rest a.begins b

-- where a token begins there are no gaps before the first token
front_bytes : (t : TokenKind) (bs rest end : List ℕ) (gaps : List Gap) → BeginsToken t bs rest → Gaps gaps end bs →
    bs ≡ end
front_bytes t bs rest end [] b a = a
front_bytes t bs rest end (g ∷ gaps) b a = absurd (gap_or_token g t bs a.rest rest a.begins b)

same_span : (size p q : ℕ) (bs cs : List ℕ) → p + length bs ≡ size → q + length cs ≡ size → cs ≡ bs → q ≡ p
same_span size p q bs cs e f g = let h = ap length g in omega arith

-- the tokens of the bytes, past those that are read
pub record Ahead (size : ℕ) (done : List Token) (rest : List ℕ) (ts : List Token) : Type 0 where
  pub ahead : List Token
  pub is : ts ≡ done ++ ahead
  pub lexes : LexesEnd size rest ahead

ahead_more : (size : ℕ) (done : List Token) (t : Token) (bs rest : List ℕ) (ts ahead : List Token) →
    Spans size t bs rest → ts ≡ done ++ ahead → LexesEnd size bs ahead → Ahead size (done ++ t ∷ []) rest ts
ahead_more size done t bs rest ts [] b d l = absurd (no_gaps t.kind bs rest l.gaps b.begins l.are_gaps)
ahead_more size done t bs rest ts (u ∷ us) b d l =
    let e = front_bytes t.kind bs rest (l.written ++ l.rest) l.gaps b.begins l.are_gaps in
    let o = token_once t.kind u.kind bs rest l.rest b.begins
    (record { written = l.written; bytes = e; is_token = l.is_token }) in
    let f = same_span size t.from u.from bs (l.written ++ l.rest) b.from l.from (sym e) in
    let g = same_span size t.to u.to rest l.rest b.to l.to o.1 in
    record {
      ahead = us;
      is = d ∙ ap (λ x. done ++ x ∷ us) (same_token t u o.0 f g) ∙ sym (append_assoc done (t ∷ []) us);
      lexes = subst (λ x. LexesEnd size x us) o.1 l.following;
    }

-- ---- some of the tokens, and what remains of the bytes

-- whatever tokens the rest is, the text is those that are read and these, and no others
pub record Partly (text : List ℕ) (done : List Token) (rest : List ℕ) : Type 0 where
  pub joins : (ts : List Token) → LexesEnd (length text) rest ts → Lexes text (done ++ ts)
  pub splits : (ts : List Token) → Lexes text ts → Ahead (length text) done rest ts
  pub within : length rest ≤ length text

pub lex_begins : (text : List ℕ) → Partly text [] text
lex_begins text = record {
  joins = λ ts l. l;
  splits = λ ts l. record { ahead = ts; is = refl; lexes = l };
  within = omega arith;
}

pub lex_gap : (text : List ℕ) (done : List Token) (rest following : List ℕ) (g : Gap) → Partly text done rest →
    BeginsGap g rest following → Partly text done following
lex_gap text done rest following g p b = record {
  joins = λ ts l. p.joins ts (more_gap (length text) g rest following ts b l);
  splits = λ ts l.
      let a = p.splits ts l in
      record { ahead = a.ahead; is = a.is; lexes = less_gap (length text) g rest following a.ahead b a.lexes };
  within = omega (arith, p.within, gap_shorter g rest following b);
}

pub lex_token : (text : List ℕ) (done : List Token) (rest following : List ℕ) (t : Token) → Partly text done rest →
    Spans (length text) t rest following → Partly text (done ++ t ∷ []) following
lex_token text done rest following t p b = record {
  joins = λ ts l. rw (append_assoc done (t ∷ []) ts)
      (p.joins (t ∷ ts) (more_token (length text) t rest following ts b l));
  splits = λ ts l.
      let a = p.splits ts l in
      ahead_more (length text) done t rest following ts a.ahead b a.is a.lexes;
  within = omega (arith, p.within, token_shorter t.kind rest following b.begins);
}

nothing_front : (bs : List ℕ) (gaps : List Gap) → (bs ≡ [] → ⊥) →
    ((g : Gap) (other : List ℕ) → BeginsGap g bs other → ⊥) → Gaps gaps [] bs → ⊥
nothing_front bs [] e n a = e a
nothing_front bs (g ∷ gaps) e n a = n g a.rest a.begins

no_token_front : (bs : List ℕ) (gaps : List Gap) (t : TokenKind) (written rest : List ℕ) →
    ((g : Gap) (other : List ℕ) → BeginsGap g bs other → ⊥) → NoToken bs → IsToken t written rest →
    Gaps gaps (written ++ rest) bs → ⊥
no_token_front bs [] t written rest n m i a = m t rest (record { written = written; bytes = a; is_token = i })
no_token_front bs (g ∷ gaps) t written rest n m i a = n g a.rest a.begins

none_ahead : (size : ℕ) (bs : List ℕ) (ts : List Token) → (bs ≡ [] → ⊥) →
    ((g : Gap) (other : List ℕ) → BeginsGap g bs other → ⊥) → NoToken bs → LexesEnd size bs ts → ⊥
none_ahead size bs [] e n m l = nothing_front bs l.gaps e n l.are_gaps
none_ahead size bs (t ∷ ts) e n m l = no_token_front bs l.gaps t.kind l.written l.rest n m l.is_token l.are_gaps

pub lex_stops : (text : List ℕ) (done : List Token) (rest : List ℕ) → Partly text done rest → (rest ≡ [] → ⊥) →
    ((g : Gap) (other : List ℕ) → BeginsGap g rest other → ⊥) → NoToken rest → (ts : List Token) → Lexes text ts → ⊥
lex_stops text done rest p e n m ts l =
    let a = p.splits ts l in
    none_ahead (length text) rest a.ahead e n m a.lexes

no_gap_before : (bs end : List ℕ) (gaps : List Gap) → bs ≡ [] → Gaps gaps end bs → end ≡ []
no_gap_before bs end [] e a = sym a ∙ e
no_gap_before bs end (g ∷ gaps) e a = absurd (no_gap_in g bs a.rest e a.begins)

nothing_ahead : (size : ℕ) (bs : List ℕ) (ts : List Token) → bs ≡ [] → LexesEnd size bs ts → ts ≡ []
nothing_ahead size bs [] e l = refl
nothing_ahead size bs (t ∷ ts) e l =
    absurd (no_token_in t.kind (l.written ++ l.rest) l.rest (no_gap_before bs (l.written ++ l.rest) l.gaps e l.are_gaps)
    (record { written = l.written; bytes = refl; is_token = l.is_token }))

pub lex_ends : (text : List ℕ) (done : List Token) (rest : List ℕ) → Partly text done rest → rest ≡ [] →
    OnlyTokens text done
lex_ends text done rest p e = record {
  tokens = subst (Lexes text) (append_nil done) (p.joins [] (record { gaps = []; are_gaps = e }));
  only = λ ts l.
      let a = p.splits ts l in
      a.is ∙ ap (λ x. done ++ x) (nothing_ahead (length text) rest a.ahead e a.lexes) ∙ append_nil done;
}

pub is_empty_list : (bs : List ℕ) (b : Bool) → b ≡ (length bs == 0) → b ≡ true → bs ≡ []
is_empty_list [] b e f = refl
is_empty_list (x ∷ bs) b e f = let h : length (x ∷ bs) ≡ 0 = (unsigned_Decides (length (x ∷ bs)) 0).0 (sym e ∙ f) in
    absurd (omega arith)

pub not_empty_list : (bs : List ℕ) (b : Bool) → b ≡ (length bs == 0) → b ≡ false → bs ≡ [] → ⊥
not_empty_list bs b e f g = let h : (length bs == 0) ≡ true = ap (λ xs. length xs == 0) g in cc

pub end_of : (size n m : ℕ) → m ≤ size → n ≡ size - m → n + m ≡ size
end_of size n m h e = omega arith

pub shorter_still : {n m size : ℕ} → n < m → m ≤ size → n ≤ size
shorter_still h k = omega arith
