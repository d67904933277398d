-- The words that are no names, and the word that bytes begin with.
use Rattle.std.proofs.Common.{◌≡◌, ℕ, suc, zero, ◌+◌, true, List, [], ◌∷◌, ◌++◌, drop, take, refl, sym, ◌∙◌, ap, subst, if◌then◌else◌, lit<, cond, arith}
use Rattle.std.specs.Bool.{◌==◌}
use Rattle.std.specs.Cmp.Lexicographic.{pointwise}
use Rattle.std.proofs.lemmas.List.{take-append-drop}
use Rattle.str_lexer.specs.declared.token.Keyword.TheVariants as K
use Rattle.str_lexer.specs.declared.token.LeftOut.TheVariants as L
use Rattle.str_lexer.specs.declared.token.TokenKind.TheVariants as T
use Rattle.str_lexer.specs.declared.word.Reserved.{Reserved}
use Rattle.str_lexer.specs.declared.word.Reserved.TheVariants.{Wildcard, Keyword, LeftOut}
use Rattle.str_lexer.specs.Words.{reserved_bytes}
use Rattle.str_lexer.specs.WordTokens.{kind_of}
use Rattle.term_model.specs.Symbol.{begins_name}
use Rattle.str_lexer.specs.Tokens.{first_is, goes_on, IsWord, IsReserved, IsToken}
use Rattle.str_lexer.specs.Readings.{IsAmong, run_length, BeginsToken}
use Rattle.str_lexer.proofs.RunLaws.{run_taken, run_same}
use Rattle.str_lexer.proofs.ByteLaws.{heads}

abbrev pub all_reserved : List Reserved
all_reserved = Wildcard ∷ (Keyword K.Signature) ∷ (Keyword K.Sorts) ∷ (Keyword K.Constructors) ∷ (Keyword K.Rules) ∷
    (Keyword K.Strategies) ∷ (Keyword K.Id) ∷ (Keyword K.Fail) ∷ (Keyword K.Where) ∷ (Keyword K.Not) ∷ (Keyword K.If) ∷
    (Keyword K.Then) ∷ (Keyword K.Else) ∷ (Keyword K.End) ∷ (Keyword K.All) ∷ (Keyword K.One) ∷ (Keyword K.Some) ∷
    (Keyword K.Rec) ∷ (Keyword K.Let) ∷ (Keyword K.In) ∷ (Keyword K.Prim) ∷ (LeftOut L.Module) ∷ (LeftOut L.Imports) ∷
    (LeftOut L.Overlays) ∷ (LeftOut L.With) ∷ (LeftOut L.Switch) ∷ (LeftOut L.Case) ∷ (LeftOut L.Otherwise) ∷
    (LeftOut L.External) ∷ []

-- the word of these bytes, the first that stands in the list
find : List Reserved → List ℕ → Reserved
find [] bs = Wildcard
find (r ∷ rs) bs = cond (pointwise ◌==◌ (reserved_bytes r) bs) r (find rs bs)

find_again : (r : Reserved) → find all_reserved (reserved_bytes r) ≡ r
unfolding find
find_again Wildcard = refl
find_again (Keyword K.Signature) = refl
find_again (Keyword K.Sorts) = refl
find_again (Keyword K.Constructors) = refl
find_again (Keyword K.Rules) = refl
find_again (Keyword K.Strategies) = refl
find_again (Keyword K.Id) = refl
find_again (Keyword K.Fail) = refl
find_again (Keyword K.Where) = refl
find_again (Keyword K.Not) = refl
find_again (Keyword K.If) = refl
find_again (Keyword K.Then) = refl
find_again (Keyword K.Else) = refl
find_again (Keyword K.End) = refl
find_again (Keyword K.All) = refl
find_again (Keyword K.One) = refl
find_again (Keyword K.Some) = refl
find_again (Keyword K.Rec) = refl
find_again (Keyword K.Let) = refl
find_again (Keyword K.In) = refl
find_again (Keyword K.Prim) = refl
find_again (LeftOut L.Module) = refl
find_again (LeftOut L.Imports) = refl
find_again (LeftOut L.Overlays) = refl
find_again (LeftOut L.With) = refl
find_again (LeftOut L.Switch) = refl
find_again (LeftOut L.Case) = refl
find_again (LeftOut L.Otherwise) = refl
find_again (LeftOut L.External) = refl

pub reserved_once : (q r : Reserved) → reserved_bytes q ≡ reserved_bytes r → q ≡ r
reserved_once q r e = sym (find_again q) ∙ ap (find all_reserved) e ∙ find_again r

-- ---- the words that begin with a byte

abbrev words_of : ℕ → List Reserved
words_of b =
    if b == 95 then Wildcard ∷ [] else
    if b == 97 then (Keyword K.All) ∷ [] else
    if b == 99 then (Keyword K.Constructors) ∷ (LeftOut L.Case) ∷ [] else
    if b == 101 then (Keyword K.Else) ∷ (Keyword K.End) ∷ (LeftOut L.External) ∷ [] else
    if b == 102 then (Keyword K.Fail) ∷ [] else
    if b == 105 then (Keyword K.Id) ∷ (Keyword K.If) ∷ (Keyword K.In) ∷ (LeftOut L.Imports) ∷ [] else
    if b == 108 then (Keyword K.Let) ∷ [] else
    if b == 109 then (LeftOut L.Module) ∷ [] else
    if b == 110 then (Keyword K.Not) ∷ [] else
    if b == 111 then (Keyword K.One) ∷ (LeftOut L.Overlays) ∷ (LeftOut L.Otherwise) ∷ [] else
    if b == 112 then (Keyword K.Prim) ∷ [] else
    if b == 114 then (Keyword K.Rules) ∷ (Keyword K.Rec) ∷ [] else
    if b == 115 then (Keyword K.Signature) ∷ (Keyword K.Sorts) ∷ (Keyword K.Strategies) ∷ (Keyword K.Some) ∷
    (LeftOut L.Switch) ∷ [] else
    if b == 116 then (Keyword K.Then) ∷ [] else
    if b == 119 then (Keyword K.Where) ∷ (LeftOut L.With) ∷ [] else
    []

first_of : List ℕ → ℕ
first_of [] = 0
first_of (b ∷ bs) = b

own : (r : Reserved) → IsAmong r (words_of (first_of (reserved_bytes r)))
unfolding first_of
own Wildcard = (0, lit< tt, refl)
own (Keyword K.Signature) = (0, lit< tt, refl)
own (Keyword K.Sorts) = (1, lit< tt, refl)
own (Keyword K.Constructors) = (0, lit< tt, refl)
own (Keyword K.Rules) = (0, lit< tt, refl)
own (Keyword K.Strategies) = (2, lit< tt, refl)
own (Keyword K.Id) = (0, lit< tt, refl)
own (Keyword K.Fail) = (0, lit< tt, refl)
own (Keyword K.Where) = (0, lit< tt, refl)
own (Keyword K.Not) = (0, lit< tt, refl)
own (Keyword K.If) = (1, lit< tt, refl)
own (Keyword K.Then) = (0, lit< tt, refl)
own (Keyword K.Else) = (0, lit< tt, refl)
own (Keyword K.End) = (1, lit< tt, refl)
own (Keyword K.All) = (0, lit< tt, refl)
own (Keyword K.One) = (0, lit< tt, refl)
own (Keyword K.Some) = (3, lit< tt, refl)
own (Keyword K.Rec) = (1, lit< tt, refl)
own (Keyword K.Let) = (0, lit< tt, refl)
own (Keyword K.In) = (2, lit< tt, refl)
own (Keyword K.Prim) = (0, lit< tt, refl)
own (LeftOut L.Module) = (0, lit< tt, refl)
own (LeftOut L.Imports) = (3, lit< tt, refl)
own (LeftOut L.Overlays) = (1, lit< tt, refl)
own (LeftOut L.With) = (1, lit< tt, refl)
own (LeftOut L.Switch) = (4, lit< tt, refl)
own (LeftOut L.Case) = (1, lit< tt, refl)
own (LeftOut L.Otherwise) = (2, lit< tt, refl)
own (LeftOut L.External) = (2, lit< tt, refl)

first_is_first : (b : ℕ) (rest bs : List ℕ) → bs ≡ b ∷ rest → first_of bs ≡ b
unfolding first_of
first_is_first b rest bs e = rw e refl

pub among : (b c : ℕ) (rs : List Reserved) → b ≡ c → rs ≡ words_of c → (r : Reserved) (rest : List ℕ) →
    reserved_bytes r ≡ b ∷ rest → IsAmong r rs
among b c rs d e r rest f = rw e
    (subst (λ x. IsAmong r (words_of x)) (first_is_first b rest (reserved_bytes r) f ∙ d) (own r))

-- ---- the word that bytes begin with

word_taken : (bs : List ℕ) (n end : ℕ) → first_is begins_name bs ≡ true → n ≡ run_length goes_on (drop 1 bs) →
    end ≡ 1 + n → IsWord (take end bs) (drop end bs)
word_taken [] n end f e g = cc
word_taken (b ∷ bs) n zero f e g = absurd (omega arith)
word_taken (b ∷ bs) n (suc m) f e g = (f, run_taken goes_on refl bs m (omega arith))

reserved_token : (r : Reserved) (bs rest : List ℕ) → IsReserved r bs rest → IsToken (kind_of r) bs rest
reserved_token Wildcard bs rest i = i
reserved_token (Keyword k) bs rest i = i
reserved_token (LeftOut w) bs rest i = i

module _ (bs : List ℕ) (n end : ℕ) (f : first_is begins_name bs ≡ true) (e : n ≡ run_length goes_on (drop 1 bs))
    (g : end ≡ 1 + n) where
  pub found_reserved : (r : Reserved) → reserved_bytes r ≡ take end bs → BeginsToken (kind_of r) bs (drop end bs)
  found_reserved r h = record {
    written = take end bs;
    bytes = sym (take-append-drop end bs);
    is_token = reserved_token r (take end bs) (drop end bs) (sym h, word_taken bs n end f e g);
  }

  pub found_name : ((r : Reserved) → reserved_bytes r ≡ take end bs → ⊥) → BeginsToken T.Name bs (drop end bs)
  found_name h = record {
    written = take end bs;
    bytes = sym (take-append-drop end bs);
    is_token = (word_taken bs n end f e g, h);
  }

pub word_head : (bs w rest : List ℕ) → bs ≡ w ++ rest → IsWord w rest → first_is begins_name bs ≡ true
word_head bs [] rest e i = absurd i
word_head bs (b ∷ cs) rest e i = rw e i.0

-- the bytes begin with one word alone
pub word_same : (w v r s : List ℕ) → IsWord w r → IsWord v s → w ++ r ≡ v ++ s → (w ≡ v) × (r ≡ s)
word_same [] v r s a b e = absurd a
word_same (x ∷ w) [] r s a b e = absurd b
word_same (x ∷ w) (y ∷ v) r s a b e =
    let h : w ++ r ≡ v ++ s = cc in
    let k = run_same goes_on w v r s a.1 b.1 h in
    let j : x ≡ y = heads x y _ _ e in
    let l = k.0 in
    (cc, k.1)
