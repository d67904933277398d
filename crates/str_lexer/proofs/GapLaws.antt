-- Blanks and comments at the front of bytes.
use Rattle.std.proofs.Common.{◌≡◌, ℕ, ◌+◌, ◌<◌, ◌≤◌, Bool, true, false, ◌||◌, List, [], ◌∷◌, ◌++◌, length, drop, take, refl, sym, ◌∙◌, ap, subst, arith, append_assoc, Option, Some, None}
use Rattle.std.specs.Borrow.{Bor}
use Rattle.std.specs.Bool.{◌==◌}
use Rattle.std.proofs.lemmas.List.{take-append-drop, length-append}
use Rattle.term_model.specs.Bytes.{is_blank}
use Rattle.str_lexer.specs.Tokens.{first_is, stays_on_line, stays_in_comment, IsRun}
use Rattle.str_lexer.specs.Lexes.{Gap, BeginsGap}
use Rattle.str_lexer.specs.Lexes.Gap.{blank, line, comment}
use Rattle.str_lexer.specs.Readings.{run_length, Closes, FoundGap, IsCloseAt, IsCloseRead, IsGapRead}
use Rattle.str_lexer.proofs.ByteLaws.{heads, tails, seconds_apart}
use Rattle.str_lexer.proofs.RunLaws.{run_taken, run_only, run_ends, run_whole, run_same}

-- ---- the first */

pub close_found : (bs : List ℕ) (i : ℕ) (rest : List ℕ) →
    i + run_length stays_in_comment (drop i bs) ≡ run_length stays_in_comment bs → drop i bs ≡ 42 ∷ 47 ∷ rest →
    Closes bs rest
close_found bs i rest v d =
    let k : i ≡ run_length stays_in_comment bs = run_ends stays_in_comment bs i _ (ap stays_in_comment d) v in
    record {
      inner = take i bs;
      bytes = sym (take-append-drop i bs) ∙ ap (λ x. take i bs ++ x) d;
      run = subst (IsRun stays_in_comment (take i bs)) d (run_taken stays_in_comment refl bs i k);
    }

pub close_missing : (bs : List ℕ) (i : ℕ) → length bs ≤ i →
    i + run_length stays_in_comment (drop i bs) ≡ run_length stays_in_comment bs → (other : List ℕ) → Closes bs other →
    ⊥
close_missing bs i h v other c =
    let k : i ≡ run_length stays_in_comment bs = run_whole stays_in_comment bs i _ h v in
    let r : run_length stays_in_comment bs ≡ length c.inner =
    ap (run_length stays_in_comment) c.bytes ∙ run_only stays_in_comment c.inner (42 ∷ 47 ∷ other) c.run in
    let l : length bs ≡ length c.inner + length (42 ∷ 47 ∷ other) =
    ap length c.bytes ∙ length-append c.inner (42 ∷ 47 ∷ other) in
    absurd (omega arith)

-- ---- the gap that the bytes begin with

pub found_blank : (b : ℕ) (bs rest : List ℕ) → bs ≡ b ∷ rest → is_blank b ≡ true → FoundGap bs rest
found_blank b bs rest e f = record { gap = blank b; begins = record { bytes = e; is_gap = f } }

pub found_line : (bs inner : List ℕ) (n : ℕ) → bs ≡ 47 ∷ 47 ∷ inner → n ≡ run_length (first_is stays_on_line) inner →
    FoundGap bs (drop n inner)
found_line bs inner n e f = record {
  gap = line (take n inner);
  begins = record {
    bytes = e ∙ ap (λ x. 47 ∷ 47 ∷ x) (sym (take-append-drop n inner));
    is_gap = run_taken (first_is stays_on_line) refl inner n f;
  };
}

pub found_comment : (bs inner rest : List ℕ) → bs ≡ 47 ∷ 42 ∷ inner → Closes inner rest → FoundGap bs rest
found_comment bs inner rest e c = record {
  gap = comment c.inner;
  begins = record {
    bytes = e ∙ ap (λ x. 47 ∷ 42 ∷ x) (c.bytes ∙ sym (append_assoc c.inner (42 ∷ 47 ∷ []) rest));
    is_gap = c.run;
  };
}

-- a blank or /
abbrev pub begins_gap : ℕ → Bool
begins_gap b = is_blank b || b == 47

pub gap_head : (g : Gap) (bs rest : List ℕ) → BeginsGap g bs rest → first_is begins_gap bs ≡ true
gap_head (blank b) bs rest g = rw (g.bytes, g.is_gap) refl
gap_head (line inner) bs rest g = rw g.bytes refl
gap_head (comment inner) bs rest g = rw g.bytes refl

pub no_gap : (bs : List ℕ) → first_is begins_gap bs ≡ false → (g : Gap) (rest : List ℕ) → BeginsGap g bs rest → ⊥
no_gap bs e g rest b = let k = gap_head g bs rest b in cc

slash_blank : (b : ℕ) → b ≡ 47 → is_blank b ≡ true → ⊥
slash_blank b e f = let g : is_blank 47 ≡ true = ap is_blank (sym e) ∙ f in cc

pub no_gap_of : (bs following : List ℕ) → bs ≡ 47 ∷ following → (first_is (λ c. c == 47) following ≡ false) →
    ((inner other : List ℕ) → following ≡ 42 ∷ inner → Closes inner other → ⊥) → (g : Gap) (rest : List ℕ) →
    BeginsGap g bs rest → ⊥
no_gap_of bs following e f n (blank b) rest g = slash_blank b (heads b 47 _ _ (sym g.bytes ∙ e)) g.is_gap
no_gap_of bs following e f n (line inner) rest g =
    let h : following ≡ 47 ∷ (inner ++ rest) = tails 47 47 _ _ (sym e ∙ g.bytes) in
    let k : first_is (λ c. c == 47) (47 ∷ (inner ++ rest)) ≡ false = rw h at f in
    cc
no_gap_of bs following e f n (comment inner) rest g =
    let h : following ≡ 42 ∷ ((inner ++ (42 ∷ 47 ∷ [])) ++ rest) = tails 47 47 _ _ (sym e ∙ g.bytes) in
    n (inner ++ (42 ∷ 47 ∷ rest)) rest (h ∙
    ap (λ x. 42 ∷ x) (append_assoc inner (42 ∷ 47 ∷ []) rest))
    (record { inner = inner; bytes = refl; run = g.is_gap })

-- the bytes begin with one gap alone
pub gap_once : (g h : Gap) (bs r s : List ℕ) → BeginsGap g bs r → BeginsGap h bs s → s ≡ r
gap_once (blank b) (blank c) bs r s a d = let e = a.bytes in let f = d.bytes in cc
gap_once (blank b) (line y) bs r s a d = absurd (slash_blank b (heads b 47 _ _ (sym a.bytes ∙ d.bytes)) a.is_gap)
gap_once (blank b) (comment y) bs r s a d = absurd (slash_blank b (heads b 47 _ _ (sym a.bytes ∙ d.bytes)) a.is_gap)
gap_once (line x) (blank c) bs r s a d = absurd (slash_blank c (heads c 47 _ _ (sym d.bytes ∙ a.bytes)) d.is_gap)
gap_once (line x) (line y) bs r s a d =
    let h : x ++ r ≡ y ++ s = tails 47 47 _ _ (tails 47 47 _ _ (sym a.bytes ∙ d.bytes)) in
    sym (run_same (first_is stays_on_line) x y r s a.is_gap d.is_gap h).1
gap_once (line x) (comment y) bs r s a d = absurd (seconds_apart 47 47 47 42 _ _ refl (sym a.bytes ∙ d.bytes))
gap_once (comment x) (blank c) bs r s a d = absurd (slash_blank c (heads c 47 _ _ (sym d.bytes ∙ a.bytes)) d.is_gap)
gap_once (comment x) (line y) bs r s a d = absurd (seconds_apart 47 47 42 47 _ _ refl (sym a.bytes ∙ d.bytes))
gap_once (comment x) (comment y) bs r s a d =
    let h : (x ++ (42 ∷ 47 ∷ [])) ++ r ≡ (y ++ (42 ∷ 47 ∷ [])) ++ s =
    tails 42 42 _ _ (tails 47 47 _ _ (sym a.bytes ∙ d.bytes)) in
    let k : x ++ (42 ∷ 47 ∷ r) ≡ y ++ (42 ∷ 47 ∷ s) =
    sym (append_assoc x (42 ∷ 47 ∷ []) r) ∙ h ∙ append_assoc y (42 ∷ 47 ∷ []) s in
    let j = (run_same stays_in_comment x y (42 ∷ 47 ∷ r) (42 ∷ 47 ∷ s) a.is_gap d.is_gap k).1 in
    tails 47 47 s r (tails 42 42 _ _ (sym j))

longer : (xs ys : List ℕ) (b : ℕ) → length ys < length (b ∷ (xs ++ ys))
longer xs ys b = omega (arith, length-append xs ys)

pub gap_shorter : (g : Gap) (bs rest : List ℕ) → BeginsGap g bs rest → length rest < length bs
gap_shorter (blank b) bs rest g = rw g.bytes (longer [] rest b)
gap_shorter (line x) bs rest g = rw g.bytes (longer (47 ∷ x) rest 47)
gap_shorter (comment x) bs rest g = rw g.bytes (longer (42 ∷ (x ++ (42 ∷ 47 ∷ []))) rest 47)

pub goes_inside : (bs tail : List ℕ) (b : ℕ) (read : Option (Bor (List ℕ))) → bs ≡ b ∷ tail → read ≡ None →
    IsCloseAt bs read → stays_in_comment bs ≡ true
goes_inside [] tail b read e f i = cc
goes_inside (c ∷ bs) tail b None e f i = i
goes_inside (c ∷ bs) tail b (Some x) e f i = cc

pub comment_read : (bs inner : List ℕ) (read : Option (Bor (List ℕ))) → bs ≡ 47 ∷ 42 ∷ inner → IsCloseRead inner read →
    IsGapRead bs read
comment_read bs inner (Some rest) e c = found_comment bs inner rest.now e c
comment_read bs inner None e c =
    no_gap_of bs (42 ∷ inner) e refl
    (λ x other f d. c other (subst (λ y. Closes y other) (sym (tails 42 42 inner x f)) d))
