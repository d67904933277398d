-- Runs of bytes at the front, and the blanks there.
use Rattle.std.proofs.Common.{◌≡◌, ℕ, suc, zero, ◌+◌, ◌-◌, ◌*◌, ◌<◌, ◌≤◌, Bool, true, false, cond, List, [], ◌∷◌, ◌++◌, length, get_or, drop, take, refl, sym, ◌∙◌, ap, arith}
use Rattle.std.proofs.lemmas.List.{drop_all, drop_more, take-append-drop, length-drop}
use Rattle.term_model.specs.Bytes.{value_from}
use Rattle.str_lexer.specs.Tokens.{first_is, IsRun}
use Rattle.str_lexer.specs.Readings.{run_length}

pub first_at : (test : ℕ → Bool) (bs : List ℕ) (i : ℕ) → i < length bs →
    first_is test (drop i bs) ≡ test (get_or bs i 0)
first_at test bs i h = ap (first_is test) (drop_more bs i 0 h)

take_all : (n : ℕ) (xs : List ℕ) → n ≡ length xs → take n xs ≡ xs
take_all zero [] e = refl
take_all zero (x ∷ xs) e = absurd (omega arith)
take_all (suc n) [] e = refl
take_all (suc n) (x ∷ xs) e = ap (λ ys. x ∷ ys) (take_all n xs (omega arith))

pub whole_rest : (bs : List ℕ) (i : ℕ) → take (length bs - i) (drop i bs) ≡ drop i bs
whole_rest bs i = take_all (length bs - i) (drop i bs) (sym (length-drop i bs))

-- the bytes that a run took are a run
pub run_again : (test : ℕ → Bool) (bs : List ℕ) (n : ℕ) → n ≡ run_length (first_is test) bs →
    run_length (first_is test) (take n bs) ≡ length (take n bs)
run_again test [] zero e = refl
run_again test [] (suc n) e = refl
run_again test (b ∷ bs) zero e = refl
run_again test (b ∷ bs) (suc n) e = go (test b) refl e (run_again test bs n)
  where
    go : (t : Bool) → test b ≡ t → suc n ≡ cond t (1 + run_length (first_is test) bs) 0 →
        (n ≡ run_length (first_is test) bs → run_length (first_is test) (take n bs) ≡ length (take n bs)) →
        run_length (first_is test) (b ∷ take n bs) ≡ suc (length (take n bs))
    go true f g h = let k = h (omega arith) in rw f (omega arith)
    go false f g h = absurd (omega arith)

run_true : (test : List ℕ → Bool) (x : ℕ) (xs : List ℕ) → test (x ∷ xs) ≡ true →
    run_length test (x ∷ xs) ≡ 1 + run_length test xs
run_true test x xs e = rw e refl

run_false : (test : List ℕ → Bool) (bs : List ℕ) → test bs ≡ false → run_length test bs ≡ 0
run_false test [] e = refl
run_false test (x ∷ xs) e = rw e refl

pub run_more : (test : List ℕ → Bool) (bs : List ℕ) (i n : ℕ) → i < length bs → test (drop i bs) ≡ true →
    i + run_length test (drop i bs) ≡ n → (i + 1) + run_length test (drop (i + 1) bs) ≡ n
run_more test bs i n h e k =
    let d = drop_more bs i 0 h in
    let r : run_length test (drop i bs) ≡ 1 + run_length test (drop (i + 1) bs) =
    ap (run_length test) d ∙ run_true test (get_or bs i 0) (drop (i + 1) bs) (ap test (sym d) ∙ e) in
    omega arith

pub run_ends : (test : List ℕ → Bool) (bs : List ℕ) (i n : ℕ) → test (drop i bs) ≡ false →
    i + run_length test (drop i bs) ≡ n → i ≡ n
run_ends test bs i n e k = omega (arith, run_false test (drop i bs) e)

pub run_whole : (test : List ℕ → Bool) (bs : List ℕ) (i n : ℕ) → length bs ≤ i → i + run_length test (drop i bs) ≡ n →
    i ≡ n
run_whole test bs i n h k = let r : run_length test (drop i bs) ≡ 0 = ap (run_length test) (drop_all i bs h) in
    omega arith

choose : (P : ℕ → Type 0) (b : Bool) (x y : ℕ) → (b ≡ true → P x) → (b ≡ false → P y) → P (cond b x y)
choose P true x y f g = f refl
choose P false x y f g = g refl

pub run_within : (test : List ℕ → Bool) (bs : List ℕ) → run_length test bs ≤ length bs
run_within test [] = omega arith
run_within test (x ∷ xs) = let h = run_within test xs in
    choose (λ n. n ≤ suc (length xs)) (test (x ∷ xs)) (1 + run_length test xs) 0 (λ _. omega arith) (λ _. omega arith)

-- the longest run, and what stands after it
taken_more : (test : List ℕ → Bool) (x : ℕ) (xs : List ℕ) (n : ℕ) (b : Bool) →
    ((m : ℕ) → m ≡ run_length test xs → IsRun test (take m xs) (drop m xs)) → test (x ∷ xs) ≡ b →
    n ≡ cond b (1 + run_length test xs) 0 → IsRun test (take n (x ∷ xs)) (drop n (x ∷ xs))
taken_more test x xs zero true h f g = absurd (omega arith)
taken_more test x xs (suc m) true h f g = (ap (λ ys. test (x ∷ ys)) (take-append-drop m xs) ∙ f, h m (omega arith))
taken_more test x xs zero false h f g = f
taken_more test x xs (suc m) false h f g = absurd (omega arith)

pub run_taken : (test : List ℕ → Bool) → test [] ≡ false → (bs : List ℕ) (n : ℕ) → n ≡ run_length test bs →
    IsRun test (take n bs) (drop n bs)
run_taken test f [] zero e = f
run_taken test f [] (suc n) e = absurd (omega arith)
run_taken test f (x ∷ xs) n e = taken_more test x xs n (test (x ∷ xs)) (run_taken test f xs) refl e

pub run_only : (test : List ℕ → Bool) (xs rest : List ℕ) → IsRun test xs rest → run_length test (xs ++ rest) ≡ length xs
run_only test [] rest r = run_false test rest r
run_only test (x ∷ xs) rest r = run_true test x (xs ++ rest) r.0 ∙ ap (λ n. 1 + n) (run_only test xs rest r.1) ∙
    omega arith

pub value_above : (n : ℕ) (ds : List ℕ) → n ≤ value_from n ds
value_above n [] = omega arith
value_above n (d ∷ ds) = omega (arith, value_above (10 * n + (d - 48)) ds)

-- a run ends at one place
pub run_same : (test : List ℕ → Bool) (xs ys r s : List ℕ) → IsRun test xs r → IsRun test ys s → xs ++ r ≡ ys ++ s →
    (xs ≡ ys) × (r ≡ s)
run_same test [] [] r s a b e = (refl, e)
run_same test [] (y ∷ ys) r s a b e = let k : test (y ∷ (ys ++ s)) ≡ false = ap test (sym e) ∙ a in let j = b.0 in cc
run_same test (x ∷ xs) [] r s a b e = let k : test (x ∷ (xs ++ r)) ≡ false = ap test e ∙ b in let j = a.0 in cc
run_same test (x ∷ xs) (y ∷ ys) r s a b e =
    let h : xs ++ r ≡ ys ++ s = cc in
    let j : x ≡ y = cc in
    let k = run_same test xs ys r s a.1 b.1 h in
    let l = k.0 in
    (cc, k.1)
