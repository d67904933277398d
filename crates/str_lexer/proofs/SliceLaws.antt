-- Each token's text is its slice, and the slices stand in order.
use Rattle.std.proofs.Common.{◌≡◌, ℕ, ◌+◌, ◌-◌, List, [], ◌∷◌, ◌++◌, length, take, drop, refl, sym, ◌∙◌, ap, subst, arith, append_assoc}
use Rattle.std.proofs.Math.Seq.{take-append_seam, drop-append_seam}
use Rattle.std.proofs.lemmas.List.{length-append}
use Rattle.str_lexer.specs.declared.token.Token.{Token}
use Rattle.str_lexer.specs.Tokens.{IsToken}
use Rattle.str_lexer.specs.Lexes.{Gap, gap_bytes, Gaps, LexesEnd, Lexes}
use Rattle.str_lexer.specs.Lexing.{IsSlice, AreSlices}
use Rattle.str_lexer.proofs.TokenLaws.{token_shorter}

-- the bytes of gaps, before these bytes
record Skipped (end bs : List ℕ) : Type 0 where
  pub skipped : List ℕ
  pub bytes : bs ≡ skipped ++ end

skip : (gaps : List Gap) (end bs : List ℕ) → Gaps gaps end bs → Skipped end bs
skip [] end bs a = record { skipped = []; bytes = a }
skip (g ∷ gaps) end bs a =
    let k = skip gaps end a.rest a.following in
    record {
      skipped = gap_bytes g ++ k.skipped;
      bytes =
          a.begins.bytes ∙ ap (λ x. gap_bytes g ++ x) k.bytes ∙ sym (append_assoc (gap_bytes g) k.skipped end);
    }

drop_seam : (text p q : List ℕ) (n : ℕ) → text ≡ p ++ q → n + length q ≡ length text → drop n text ≡ q
drop_seam text p q n e f =
    let l : length text ≡ length p + length q = ap length e ∙ length-append p q in
    let k : n ≡ length p = omega arith in
    ap (λ x. drop n x) e ∙ ap (λ i. drop i (p ++ q)) k ∙ drop-append_seam p q

take_seam : (p q : List ℕ) (n : ℕ) → n ≡ length p → take n (p ++ q) ≡ p
take_seam p q n e = ap (λ i. take i (p ++ q)) e ∙ take-append_seam p q

one_slice : (text p written rest : List ℕ) (t : Token) → text ≡ p ++ (written ++ rest) → IsToken t.kind written rest →
    t.from + length (written ++ rest) ≡ length text → t.to + length rest ≡ length text → IsSlice text t
one_slice text p written rest t e i f g =
    let s = token_shorter t.kind (written ++ rest) rest (record { written = written; bytes = refl; is_token = i }) in
    let l = length-append written rest in
    let d = drop_seam text p (written ++ rest) t.from e f in
    let h = drop_seam text (p ++ written) rest t.to (e ∙ sym (append_assoc p written rest)) g in
    let n : t.to - t.from ≡ length written = omega arith in
    let w = ap (λ x. take (t.to - t.from) x) d ∙ take_seam written rest (t.to - t.from) n in
    record { ordered = omega arith; within = omega arith; is_token = rw (w, h) i }

slices_from : (text front bs : List ℕ) (ts : List Token) → text ≡ front ++ bs → LexesEnd (length text) bs ts →
    AreSlices text (length front) ts
slices_from text front bs [] e l = tt
slices_from text front bs (t ∷ ts) e l =
    let k = skip l.gaps (l.written ++ l.rest) bs l.are_gaps in
    let p = front ++ k.skipped in
    let f : text ≡ p ++ (l.written ++ l.rest) =
    e ∙ ap (λ x. front ++ x) k.bytes ∙ sym (append_assoc front k.skipped (l.written ++ l.rest)) in
    let g : text ≡ (p ++ l.written) ++ l.rest = f ∙ sym (append_assoc p l.written l.rest) in
    let m = ap length f ∙ length-append p (l.written ++ l.rest) in
    let n = ap length g ∙ length-append (p ++ l.written) l.rest in
    let q = length-append front k.skipped in
    let from = l.from in
    let to = l.to in
    let j : length (p ++ l.written) ≡ t.to = omega arith in (
      omega arith,
      one_slice text p l.written l.rest t f l.is_token l.from l.to,
      subst (λ i. AreSlices text i ts) j (slices_from text (p ++ l.written) l.rest ts g l.following),
    )

pub slices_of : (text : List ℕ) (ts : List Token) → Lexes text ts → AreSlices text 0 ts
slices_of text ts l = slices_from text [] text ts refl l
