-- Every text has a split.
use Rattle.std.proofs.Common.{◌≡◌, ◌+◌, ◌≤◌, ◌<◌, ◌⊎◌, inl, inr, ⊎_elim, ℕ, List, [], ◌∷◌, ◌++◌, length, sym, ◌∙◌, ap, refl, codes, take, subst, arith, append_assoc, length-append}
use Rattle.std.proofs.lemmas.Bool.{cases_eq, cases_lt}
use Rattle.std.proofs.lemmas.List.{append_cancel_left, take_at, same_from_push, length_push}
use Rattle.str_pipeline.specs.Joined.{IsBeforeLine, IsTermLine, by_line_feed, by_return, by_end, HasTermLine, IsSplit, parted, unparted}

-- the text begins with the front, or it doesn't
abbrev Decides : List ℕ → List ℕ → Type 0
Decides front text = ((rest : List ℕ) × (text ≡ front ++ rest)) ⊎ ((rest : List ℕ) → text ≡ front ++ rest → ⊥)

decide_front : (front text : List ℕ) → Decides front text
decide_front [] text = inl (text, refl)
decide_front (x ∷ front) [] = inr (λ rest h. cc)
decide_front (x ∷ front) (y ∷ text) = ⊎_elim
    (λ (same : x ≡ y). ⊎_elim
    (λ (found : (rest : List ℕ) × (text ≡ front ++ rest)).
    let h : Decides (x ∷ front) (y ∷ text) = inl (found.0, cc (found.1)) in h)
    (λ (none : (rest : List ℕ) → text ≡ front ++ rest → ⊥).
    let h : Decides (x ∷ front) (y ∷ text) = inr (λ rest is. none rest cc) in h)
    (decide_front front text))
    (λ (other : x ≡ y → ⊥). let h : Decides (x ∷ front) (y ∷ text) = inr (λ rest is. other cc) in h)
    (cases_eq x y)

-- a line `#term` begins this text, or none does
abbrev DecidesLine : List ℕ → Type 0
DecidesLine text = ((line : List ℕ) × (after : List ℕ) × (text ≡ line ++ after) × IsTermLine line after)
    ⊎ ((line after : List ℕ) → text ≡ line ++ after → IsTermLine line after → ⊥)

-- none of the three lines
no_line : (text line after : List ℕ) → ((rest : List ℕ) → text ≡ (codes "#term" ++ 10 ∷ []) ++ rest → ⊥)
    → ((rest : List ℕ) → text ≡ (codes "#term" ++ 13 ∷ 10 ∷ []) ++ rest → ⊥) → (text ≡ codes "#term" → ⊥)
    → text ≡ line ++ after → IsTermLine line after → ⊥
no_line text line after no_feed no_return no_bare same (by_line_feed is) =
    no_feed after (same ∙ ap (λ (xs : List ℕ). xs ++ after) is)
no_line text line after no_feed no_return no_bare same (by_return is) =
    no_return after (same ∙ ap (λ (xs : List ℕ). xs ++ after) is)
no_line text line after no_feed no_return no_bare same (by_end is last) =
    no_bare (same ∙ (ap (λ (xs : List ℕ). xs ++ after) is ∙ ap (λ (xs : List ℕ). codes "#term" ++ xs) last))

-- with neither ended line, one at the end of the text
bare_line : (text : List ℕ) → ((rest : List ℕ) → text ≡ (codes "#term" ++ 10 ∷ []) ++ rest → ⊥)
    → ((rest : List ℕ) → text ≡ (codes "#term" ++ 13 ∷ 10 ∷ []) ++ rest → ⊥) → Decides (codes "#term") text →
    DecidesLine text
bare_line text no_feed no_return (inl ([], same)) = inl (codes "#term", [], same, by_end refl refl)
bare_line text no_feed no_return (inl (x ∷ rest, same)) =
    inr (λ line after. no_line text line after no_feed no_return (λ bare. cc))
bare_line text no_feed no_return (inr none) =
    inr (λ line after. no_line text line after no_feed no_return (λ bare. none [] bare))

decide_line : (text : List ℕ) → DecidesLine text
decide_line text = ⊎_elim
    (λ (found : (rest : List ℕ) × (text ≡ (codes "#term" ++ 10 ∷ []) ++ rest)).
    let h : DecidesLine text = inl (codes "#term" ++ 10 ∷ [], found.0, found.1, by_line_feed refl) in h)
    (λ (no_feed : (rest : List ℕ) → text ≡ (codes "#term" ++ 10 ∷ []) ++ rest → ⊥). ⊎_elim
    (λ (found : (rest : List ℕ) × (text ≡ (codes "#term" ++ 13 ∷ 10 ∷ []) ++ rest)).
    let h : DecidesLine text = inl (codes "#term" ++ 13 ∷ 10 ∷ [], found.0, found.1, by_return refl) in h)
    (λ (no_return : (rest : List ℕ) → text ≡ (codes "#term" ++ 13 ∷ 10 ∷ []) ++ rest → ⊥).
    bare_line text no_feed no_return (decide_front (codes "#term") text))
    (decide_front (codes "#term" ++ 13 ∷ 10 ∷ []) text))
    (decide_front (codes "#term" ++ 10 ∷ []) text)

abbrev DecidesBegin : List ℕ → Type 0
DecidesBegin before = IsBeforeLine before ⊎ (IsBeforeLine before → ⊥)

decide_begin : (before : List ℕ) (y : ℕ) → DecidesBegin (before ++ y ∷ [])
decide_begin before y = ⊎_elim
    (λ (is : y ≡ 10). let h : DecidesBegin (before ++ y ∷ []) =
    inl (inr (before, ap (λ (b : ℕ). before ++ b ∷ []) is)) in h)
    (λ (other : y ≡ 10 → ⊥). let h : DecidesBegin (before ++ y ∷ []) = inr (λ begins. ⊎_elim
    (λ (empty : before ++ y ∷ [] ≡ []). let sizes : length before + 1 ≡ 0 =
    sym (length_push before y) ∙ ap length empty in let bad : ⊥ = omega arith in bad)
    (λ (ended : (front : List ℕ) ×
    (before ++ y ∷ [] ≡ front ++ 10 ∷ [])). other ((same_from_push before ended.0 y 10 ended.1).1))
    begins) in h)
    (cases_eq y 10)

-- no such line before this place
abbrev NoneBefore : List ℕ → ℕ → Type 0
NoneBefore text n = (before line after : List ℕ) → HasTermLine text before line after → n ≤ length before

abbrev DecidesHere : List ℕ → List ℕ → Type 0
DecidesHere text before = ((line : List ℕ) × (after : List ℕ) × HasTermLine text before line after)
    ⊎ ((line after : List ℕ) → HasTermLine text before line after → ⊥)

decide_here : (text before rest : List ℕ) → text ≡ before ++ rest → DecidesBegin before → DecidesLine rest →
    DecidesHere text before
decide_here text before rest same (inl begins) (inl (line, after, parts, is_line)) =
    inl (
      line,
      after,
      record {
        whole = same ∙ ap (λ (xs : List ℕ). before ++ xs) parts;
        begins = begins;
        is_line =
            is_line;
      },
    )
decide_here text before rest same (inl begins) (inr none) =
    inr (λ line after has. none line after (append_cancel_left before rest (line ++ after) (sym same ∙ has.whole))
    has.is_line)
decide_here text before rest same (inr refuse) line = inr (λ line after has. refuse has.begins)

none_here : (text before rest : List ℕ) → text ≡ before ++ rest → NoneBefore text (length before)
    → ((line after : List ℕ) → HasTermLine text before line after → ⊥) → NoneBefore text (length before + 1)
none_here text before rest same none refuse = λ front line after has. ⊎_elim
    (λ (far : length before < length front). let h : length before + 1 ≤ length front = omega arith in h)
    (λ (near : length front ≤ length before).
    let reached : length before ≤ length front = none front line after has in
    let sizes : length front ≡ length before = omega arith in
    let fronts_same : front ≡ before =
    sym (take_at front (line ++ after) (length before) sizes) ∙
    (ap (take (length before)) (sym has.whole ∙ same) ∙ take_at before rest (length before) refl) in
    absurd (refuse line after (subst (λ (x : List ℕ). HasTermLine text x line after) fronts_same has)))
    (cases_lt (length before) (length front))

abbrev HasSplit : List ℕ → Type 0
HasSplit text = (d : List ℕ) × (t : List ℕ) × IsSplit text d t

-- a text has a split where no such line begins before the rest of it
split_from : (text before rest : List ℕ) → text ≡ before ++ rest → NoneBefore text (length before) →
    DecidesBegin before → HasSplit text
split_from text before [] same none begins = ⊎_elim
    (λ (found : (line : List ℕ) × (after : List ℕ) × HasTermLine text before line after).
    let h : HasSplit text = (before, found.1, parted found.2 none) in h)
    (λ (no : (line after : List ℕ) → HasTermLine text before line after → ⊥).
    let h : HasSplit text = (
      text,
      [],
      unparted (λ front line after has.
          let far : length before + 1 ≤ length front = none_here text before [] same none no front line after has in
          let whole : length text ≡ length before + 0 = ap length same ∙ length-append before [] in
          let parts : length text ≡ length front + length (line ++ after) =
          ap length has.whole ∙ length-append front (line ++ after) in
          let bad : ⊥ = omega arith in
          bad),
    ) in h)
    (decide_here text before [] same begins (decide_line []))
split_from text before (y ∷ ys) same none begins = ⊎_elim
    (λ (found : (line : List ℕ) × (after : List ℕ) × HasTermLine text before line after).
    let h : HasSplit text = (before, found.1, parted found.2 none) in h)
    (λ (no : (line after : List ℕ) → HasTermLine text before line after → ⊥).
    let moved : text ≡ (before ++ y ∷ []) ++ ys = same ∙ sym (append_assoc before (y ∷ []) ys) in
    let clear : NoneBefore text (length (before ++ y ∷ [])) = λ front line after has.
    rw (length_push before y) (none_here text before (y ∷ ys) same none no front line after has) in
    split_from text (before ++ y ∷ []) ys moved clear (decide_begin before y))
    (decide_here text before (y ∷ ys) same begins (decide_line (y ∷ ys)))

pub some_split : (text : List ℕ) → (d : List ℕ) × (t : List ℕ) × IsSplit text d t
some_split text = split_from text [] text refl (λ before line after has. omega arith) (inl (inl refl))
