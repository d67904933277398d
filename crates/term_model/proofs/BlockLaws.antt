-- Lists under the numbers of blocks.
use Rattle.std.proofs.Common.{◌≡◌, ℕ, zero, suc, ◌+◌, ◌<◌, ◌≤◌, List, [], ◌∷◌, ◌++◌, length, get_or, ◌-◌, take, drop, refl, sym, ◌∙◌, ap, subst, arith, add-zero, length-append}
use Rattle.std.proofs.lemmas.Grind.{common_steps}
use Rattle.std.proofs.lemmas.List.{take-append-drop, length-take-le}
use Rattle.term_model.specs.declared.parts.Block.{Block}
use Rattle.std.specs.Borrow.{Bor}
use Rattle.std.specs.Prelude.{slice_get, Option, Some, None}
use Rattle.term_model.specs.declared.parts.Front.{Front}
use Rattle.term_model.specs.declared.parts.Front.TheVariants as fronts
use Rattle.term_model.specs.Blocks.{front_list, list_in, lists_from, lists_of, lent, to_come, AreLinked, IsAt}

module _ {R : Type 0} where
  lists_from-append : (before : List (List R)) (xs ys : List (Block R)) →
      lists_from before (xs ++ ys) ≡ lists_from (lists_from before xs) ys
  lists_from-append before [] ys = refl
  lists_from-append before (x ∷ xs) ys = lists_from-append (before ++ list_in before x ∷ []) xs ys

  length-lists_from : (before : List (List R)) (xs : List (Block R)) →
      length (lists_from before xs) ≡ length before + length xs
  length-lists_from before [] = omega arith
  length-lists_from before (x ∷ xs) =
      length-lists_from (before ++ list_in before x ∷ []) xs ∙ simp length-append (omega arith)

  -- the lists before stay
  front_stays : (before : List (List R)) (xs : List (Block R)) (i : ℕ) → i < length before →
      get_or (lists_from before xs) i [] ≡ get_or before i []
  front_stays before [] i h = refl
  front_stays before (x ∷ xs) i h =
      front_stays (before ++ list_in before x ∷ []) xs i (simp length-append (omega arith)) ∙
      grind (arith, common_steps)

  pub length-lists_of : (xs : List (Block R)) → length (lists_of xs) ≡ length xs + 1
  length-lists_of xs = length-lists_from ([] ∷ []) xs ∙ omega arith

  -- a list of the first blocks is the same when others come after
  lists_of-stays : (xs ys : List (Block R)) (i : ℕ) → i < length xs + 1 →
      get_or (lists_of (xs ++ ys)) i [] ≡ get_or (lists_of xs) i []
  lists_of-stays xs ys i h = rw (lists_from-append ([] ∷ []) xs ys)
      (front_stays (lists_of xs) ys i (rw (length-lists_of xs) h))

  at_from : (before : List (List R)) (xs : List (Block R)) (k : ℕ) (d : Block R) → k < length xs →
      get_or (lists_from before xs) (length before + k) [] ≡ list_in (lists_from before (take k xs)) (get_or xs k d)
  at_from before [] k d h = absurd (omega arith)
  at_from before (x ∷ xs) zero d h =
      rw add-zero (front_stays (before ++ list_in before x ∷ []) xs (length before) (simp length-append (omega arith)) ∙
      grind (arith, common_steps))
  at_from before (x ∷ xs) (suc k) d h =
      let place : length before + suc k ≡ length (before ++ list_in before x ∷ []) + k =
      simp length-append (omega arith) in
      rw place (at_from (before ++ list_in before x ∷ []) xs k d (omega arith))

  -- the empty list has the number 0
  pub list_zero : (xs : List (Block R)) → get_or (lists_of xs) 0 [] ≡ []
  list_zero xs = front_stays ([] ∷ []) xs 0 (omega arith)

  -- no list has a greater number than there are blocks
  pub list_beyond : (xs : List (List R)) (n : ℕ) → length xs ≤ n → get_or xs n [] ≡ []
  list_beyond [] n h = refl
  list_beyond (x ∷ xs) zero h = absurd (omega arith)
  list_beyond (x ∷ xs) (suc n) h = list_beyond xs n (omega arith)

  -- the list of the block at k has the number k + 1
  pub list_numbered : (xs : List (Block R)) (k : ℕ) (d : Block R) → AreLinked xs → k < length xs →
      get_or (lists_of xs) (suc k) [] ≡ list_in (lists_of xs) (get_or xs k d)
  list_numbered xs k d are h =
      let b : Block R = get_or xs k d in
      let short : length (take k xs) ≡ k = length-take-le k xs (omega arith) in
      let below : b.rest ≤ k = are k d h in
      let stays : get_or (lists_of (take k xs ++ drop k xs)) b.rest [] ≡ get_or (lists_of (take k xs)) b.rest [] =
      lists_of-stays (take k xs) (drop k xs) b.rest (omega arith) in
      let same : get_or (lists_of xs) b.rest [] ≡ get_or (lists_of (take k xs)) b.rest [] =
      sym (ap (λ ls. get_or (lists_of ls) b.rest []) (take-append-drop k xs)) ∙ stays in
      let e : length {A = List R} ([] ∷ []) + k ≡ suc k = omega arith in
      subst (λ m. get_or (lists_of xs) m [] ≡ list_in (lists_of xs) b) e (at_from ([] ∷ []) xs k d h ∙
      ap (λ l. front_list b.front ++ l) (sym same))

  slice_get-front : (xs ys : List R) (i : ℕ) → i < length xs → slice_get (xs ++ ys) i ≡ slice_get xs i
  slice_get-front [] ys i h = absurd (omega arith)
  slice_get-front (x ∷ xs) ys zero h = refl
  slice_get-front (x ∷ xs) ys (suc i) h = slice_get-front xs ys i (omega arith)

  slice_get-add : (xs ys : List R) (i : ℕ) → slice_get (xs ++ ys) (length xs + i) ≡ slice_get ys i
  slice_get-add [] ys i = ap (slice_get ys) (omega arith)
  slice_get-add (x ∷ xs) ys i =
      let e : length (x ∷ xs) + i ≡ suc (length xs + i) = omega arith in
      rw e (slice_get-add xs ys i)

  -- what is at an index of a list, after the first values of it
  pub at_front : (xs ys whole : List R) (i k : ℕ) (o : Option (Bor R)) → slice_get (xs ++ ys) i ≡ slice_get whole k →
      i < length xs → IsAt o xs i → IsAt o whole k
  at_front xs ys whole i k None e h a = absurd (omega arith)
  at_front xs ys whole i k (Some r) e h a = sym e ∙ slice_get-front xs ys i h ∙ a

  pub at_end : (whole : List R) (i k : ℕ) → slice_get {X = R} [] i ≡ slice_get whole k → length whole ≤ k
  at_end [] i k e = omega arith
  at_end (x ∷ xs) i zero e = absurd (cc)
  at_end (x ∷ xs) i (suc k) e = let h = at_end xs i k e in omega arith

  pub at_rest : (xs ys whole : List R) (i k : ℕ) → slice_get (xs ++ ys) i ≡ slice_get whole k → length xs ≤ i →
      slice_get ys (i - length xs) ≡ slice_get whole k
  at_rest xs ys whole i k e h =
      let place : length xs + (i - length xs) ≡ i = omega arith in
      sym (slice_get-add xs ys (i - length xs)) ∙ ap (slice_get (xs ++ ys)) place ∙ e

  -- the list of a block under its number, and its rest
  pub numbered_is : (blocks : List (Block R)) (n : ℕ) (b : Block R) → AreLinked blocks → 0 < n → n ≤ length blocks →
      b ≡ get_or blocks (n - 1) b → (get_or (lists_of blocks) n [] ≡ list_in (lists_of blocks) b) × (b.rest < n)
  numbered_is blocks n b are some within is =
      let e : suc (n - 1) ≡ n = omega arith in
      let rest : (get_or blocks (n - 1) b).rest ≤ n - 1 = are (n - 1) b (omega arith) in
      let list : get_or (lists_of blocks) (suc (n - 1)) [] ≡ list_in (lists_of blocks) (get_or blocks (n - 1) b) =
      list_numbered blocks (n - 1) b are (omega arith) in
      let short : b.rest ≤ n - 1 = subst (λ d. d.rest ≤ n - 1) (sym is) rest in (
        subst (λ m. get_or (lists_of blocks) m [] ≡ list_in (lists_of blocks) b) e (list ∙
            ap (list_in (lists_of blocks)) (sym is)),
        omega arith,
      )

  -- no list has the number 0 or a number beyond the blocks
  pub none_numbered : (blocks : List (Block R)) (n : ℕ) → length blocks < n → get_or (lists_of blocks) n [] ≡ []
  none_numbered blocks n h =
      let long = length-lists_of blocks in
      list_beyond (lists_of blocks) n (omega arith)

  pub zero_numbered : (blocks : List (Block R)) (n : ℕ) → n ≡ 0 → get_or (lists_of blocks) n [] ≡ []
  zero_numbered blocks n e = rw e (list_zero blocks)

  -- at the beginning all are to come
  pub all_to_come : (values : List R) (o : Option (Bor (Block R))) (blocks : List (Block R)) →
      to_come values o 0 blocks ≡ lent values o blocks
  all_to_come values None blocks = refl
  all_to_come values (Some b) blocks = refl

  -- what is at an index comes first from there on
  comes_next : (xs : List R) (i : ℕ) (x : R) → slice_get xs i ≡ Some x → drop i xs ≡ x ∷ drop (suc i) xs
  comes_next [] i x e = absurd (cc)
  comes_next (y ∷ xs) zero x e = cc
  comes_next (y ∷ xs) (suc i) x e = comes_next xs i x e

  pub comes_first : (f : Front R) (others : List R) (i : ℕ) (x : R) → slice_get (front_list f) i ≡ Some x →
      drop i (front_list f) ++ others ≡ x ∷ (drop (i + 1) (front_list f) ++ others)
  comes_first f others i x e =
      let one : i + 1 ≡ suc i = omega arith in
      ap (λ xs. xs ++ others) (comes_next (front_list f) i x e ∙ ap (λ n. x ∷ drop n (front_list f)) (sym one))

  -- there are at most three first values
  pub few_first : (f : Front R) → length (front_list f) ≤ 3
  few_first fronts.Zero = omega arith
  few_first (fronts.One a) = omega arith
  few_first (fronts.Two a b) = omega arith
  few_first (fronts.Three a b c) = omega arith

  pub within : (xs : List R) (i : ℕ) (x : R) → slice_get xs i ≡ Some x → i < length xs
  within [] i x e = absurd (cc)
  within (y ∷ xs) zero x e = omega arith
  within (y ∷ xs) (suc i) x e = let h = within xs i x e in omega arith

  drop_all : (xs : List R) (i : ℕ) → length xs ≤ i → drop i xs ≡ []
  drop_all [] zero h = refl
  drop_all [] (suc i) h = refl
  drop_all (x ∷ xs) zero h = absurd (omega arith)
  drop_all (x ∷ xs) (suc i) h = drop_all xs i (omega arith)

  -- where all the first values have come, the rest is to come
  pub rest_to_come : (f : Front R) (others : List R) (i : ℕ) → length (front_list f) ≤ i →
      drop i (front_list f) ++ others ≡ others
  rest_to_come f others i h = ap (λ xs. xs ++ others) (drop_all (front_list f) i h)

  pub ruleset numbering = (numbered_is, none_numbered, zero_numbered)

  pub ruleset walks = (all_to_come, comes_first, few_first, within, rest_to_come)
