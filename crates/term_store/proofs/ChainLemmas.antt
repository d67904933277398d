-- The lists of blocks.
use Rattle.std.proofs.Common.{Bool, true, false, if◌then◌else◌, ◌≡◌, ℕ, zero, suc, ◌+◌, ◌-◌, ◌<◌, ◌≤◌, List, [], ◌∷◌, ◌++◌, length, get_or, take, drop, refl, sym, ◌∙◌, ap, subst, arith, add-zero, length-append, append_assoc, ◌⊎◌, inl, inr}
use Rattle.std.specs.List.{IsDistinct}
use Rattle.std.proofs.lemmas.Grind.{common_steps}
use Rattle.std.proofs.lemmas.List.{take-append-drop, length-take-le, append-nil}
use Rattle.std.proofs.lemmas.Map.Keys.{apart_from_distinct}
use Rattle.std.proofs.Math.Seq.{take-append_seam}
use Rattle.term_store.specs.Chains.{IsWhole, AreApart, IsBlock, AreBlocks, IsBlockOf}
use Rattle.term_model.specs.declared.parts.Front.{Front}
use Rattle.term_model.specs.declared.parts.Front.TheVariants as fronts
use Rattle.term_model.specs.declared.parts.Block.{Block}
use Rattle.term_model.specs.Blocks.{front_list, list_in, lists_from, lists_of, AreLinked}

pub lists_from-append : (before : List (List ℕ)) (xs ys : List (Block ℕ)) →
    lists_from before (xs ++ ys) ≡ lists_from (lists_from before xs) ys
lists_from-append before [] ys = refl
lists_from-append before (x ∷ xs) ys = lists_from-append (before ++ list_in before x ∷ []) xs ys

pub length-lists_from : (before : List (List ℕ)) (xs : List (Block ℕ)) →
    length (lists_from before xs) ≡ length before + length xs
length-lists_from before [] = omega arith
length-lists_from before (x ∷ xs) =
    length-lists_from (before ++ list_in before x ∷ []) xs ∙ simp length-append (omega arith)

-- the lists before stay
front_stays : (before : List (List ℕ)) (xs : List (Block ℕ)) (i : ℕ) → i < length before →
    get_or (lists_from before xs) i [] ≡ get_or before i []
front_stays before [] i h = refl
front_stays before (x ∷ xs) i h =
    front_stays (before ++ list_in before x ∷ []) xs i (simp length-append (omega arith)) ∙ grind (arith, common_steps)

pub length-lists_of : (xs : List (Block ℕ)) → length (lists_of xs) ≡ length xs + 1
length-lists_of xs = length-lists_from ([] ∷ []) xs ∙ omega arith

-- one block more
pub lists_of-push : (xs : List (Block ℕ)) (x : Block ℕ) →
    lists_of (xs ++ x ∷ []) ≡ lists_of xs ++ list_in (lists_of xs) x ∷ []
lists_of-push xs x = lists_from-append ([] ∷ []) xs (x ∷ [])

-- the lists before are in front
grows : (before : List (List ℕ)) (xs : List (Block ℕ)) → (ys : List (List ℕ)) × (lists_from before xs ≡ before ++ ys)
grows before [] = ([], sym (append-nil before))
grows before (x ∷ xs) =
    let g = grows (before ++ list_in before x ∷ []) xs in
    (list_in before x ∷ g.0, g.1 ∙ append_assoc before (list_in before x ∷ []) g.0)

-- the chains of the first blocks are the first chains
pub take-lists_of : (xs : List (Block ℕ)) (n : ℕ) → n ≤ length xs → lists_of (take n xs) ≡ take (n + 1) (lists_of xs)
take-lists_of xs n within =
    let front : List (List ℕ) = lists_of (take n xs) in
    let g = grows front (drop n xs) in
    let all : lists_of xs ≡ front ++ g.0 =
    ap lists_of (sym (take-append-drop n xs)) ∙ (lists_from-append ([] ∷ []) (take n xs) (drop n xs) ∙ g.1) in
    let long : n + 1 ≡ length front =
    sym (length-lists_of (take n xs) ∙ ap (λ k. k + 1) (length-take-le n xs within)) in
    sym (rw (all, long) (take-append_seam front g.0))

-- a chain of the first blocks is the same when others come after
pub lists_of-stays : (xs ys : List (Block ℕ)) (i : ℕ) → i < length xs + 1 →
    get_or (lists_of (xs ++ ys)) i [] ≡ get_or (lists_of xs) i []
lists_of-stays xs ys i h = rw (lists_from-append ([] ∷ []) xs ys)
    (front_stays (lists_of xs) ys i (rw (length-lists_of xs) h))

-- the list of the block at k
at_from : (before : List (List ℕ)) (xs : List (Block ℕ)) (k : ℕ) (d : Block ℕ) → k < length xs →
    get_or (lists_from before xs) (length before + k) [] ≡ list_in (lists_from before (take k xs)) (get_or xs k d)
at_from before [] k d h = absurd (omega arith)
at_from before (x ∷ xs) zero d h =
    rw add-zero (front_stays (before ++ list_in before x ∷ []) xs (length before) (simp length-append (omega arith)) ∙
    grind (arith, common_steps))
at_from before (x ∷ xs) (suc k) d h =
    let place : length before + suc k ≡ length (before ++ list_in before x ∷ []) + k =
    simp length-append (omega arith) in
    rw place (at_from (before ++ list_in before x ∷ []) xs k d (omega arith))

pub chain_zero : (xs : List (Block ℕ)) → get_or (lists_of xs) 0 [] ≡ []
chain_zero xs = front_stays ([] ∷ []) xs 0 (omega arith)

-- the chain of a block, by that of its rest
pub chain_unfolds : (xs : List (Block ℕ)) (k : ℕ) (d : Block ℕ) → AreBlocks xs → k < length xs →
    get_or (lists_of xs) (suc k) [] ≡ list_in (lists_of xs) (get_or xs k d)
chain_unfolds xs k d are h =
    let b : Block ℕ = get_or xs k d in
    let short : length (take k xs) ≡ k = length-take-le k xs (omega arith) in
    let below : b.rest ≤ k = (are k d h).before in
    let stays : get_or (lists_of (take k xs ++ drop k xs)) b.rest [] ≡ get_or (lists_of (take k xs)) b.rest [] =
    lists_of-stays (take k xs) (drop k xs) b.rest (omega arith) in
    let same : get_or (lists_of xs) b.rest [] ≡ get_or (lists_of (take k xs)) b.rest [] =
    sym (ap (λ ls. get_or (lists_of ls) b.rest []) (take-append-drop k xs)) ∙ stays in
    let e : length {A = List ℕ} ([] ∷ []) + k ≡ suc k = omega arith in
    subst (λ m. get_or (lists_of xs) m [] ≡ list_in (lists_of xs) b) e (at_from ([] ∷ []) xs k d h ∙
    ap (λ l. front_list b.front ++ l) (sym same))

-- two fronts before whole lists are the same where the lists are
pub front_same : (f g : Front ℕ) (xs ys : List ℕ) → IsWhole xs → IsWhole ys → 0 < length (front_list f) →
    0 < length (front_list g) → front_list f ++ xs ≡ front_list g ++ ys → (f ≡ g) × (xs ≡ ys)
front_same fronts.Zero g xs ys wx wy sf sg e = absurd (omega arith)
front_same (fronts.One a) fronts.Zero xs ys wx wy sf sg e = absurd (omega arith)
front_same (fronts.Two a b) fronts.Zero xs ys wx wy sf sg e = absurd (omega arith)
front_same (fronts.Three a b c) fronts.Zero xs ys wx wy sf sg e = absurd (omega arith)
front_same (fronts.One a) (fronts.One d) xs ys wx wy sf sg e = (ap fronts.One (cc), cc)
front_same (fronts.Two a b) (fronts.Two d f) xs ys wx wy sf sg e = (let p : a ≡ d = cc in let q : b ≡ f = cc in cc, cc)
front_same (fronts.Three a b c) (fronts.Three d f g) xs ys wx wy sf sg e =
    (let p : a ≡ d = cc in let q : b ≡ f = cc in let r : c ≡ g = cc in cc, cc)
front_same (fronts.One a) (fronts.Two d f) xs ys wx wy sf sg e = let l : length (a ∷ xs) ≡ length (d ∷ f ∷ ys) =
    ap length e in let p = wx.long in let q = wy.long in absurd (omega arith)
front_same (fronts.One a) (fronts.Three d f g) xs ys wx wy sf sg e = let l : length (a ∷ xs) ≡ length (d ∷ f ∷ g ∷ ys) =
    ap length e in let p = wx.long in let q = wy.long in absurd (omega arith)
front_same (fronts.Two a b) (fronts.One d) xs ys wx wy sf sg e = let l : length (a ∷ b ∷ xs) ≡ length (d ∷ ys) =
    ap length e in let p = wx.long in let q = wy.long in absurd (omega arith)
front_same (fronts.Two a b) (fronts.Three d f g) xs ys wx wy sf sg e =
    let l : length (a ∷ b ∷ xs) ≡ length (d ∷ f ∷ g ∷ ys) = ap length e in let p = wx.long in let q = wy.long in
    absurd (omega arith)
front_same (fronts.Three a b c) (fronts.One d) xs ys wx wy sf sg e = let l : length (a ∷ b ∷ c ∷ xs) ≡ length (d ∷ ys) =
    ap length e in let p = wx.long in let q = wy.long in absurd (omega arith)
front_same (fronts.Three a b c) (fronts.Two d f) xs ys wx wy sf sg e =
    let l : length (a ∷ b ∷ c ∷ xs) ≡ length (d ∷ f ∷ ys) = ap length e in let p = wx.long in let q = wy.long in
    absurd (omega arith)

pub some_list : (f : Front ℕ) (xs : List ℕ) → 0 < length (front_list f) → front_list f ++ xs ≡ [] → ⊥
some_list fronts.Zero xs some e = omega arith
some_list (fronts.One a) xs some e = let l : length (a ∷ xs) ≡ 0 = ap length e in omega arith
some_list (fronts.Two a b) xs some e = let l : length (a ∷ b ∷ xs) ≡ 0 = ap length e in omega arith
some_list (fronts.Three a b c) xs some e = let l : length (a ∷ b ∷ c ∷ xs) ≡ 0 = ap length e in omega arith

-- equal chains have equal numbers: by a bound on the first number
one_chain : (xs : List (Block ℕ)) (fuel i j : ℕ) (d : Block ℕ) → AreBlocks xs →
    ((a b : ℕ) → a < length xs → b < length xs → get_or xs a d ≡ get_or xs b d → a ≡ b)
    → i < fuel → i < length xs + 1 → j < length xs + 1 → get_or (lists_of xs) i [] ≡ get_or (lists_of xs) j [] → i ≡ j
one_chain xs zero i j d are distinct small hi hj e = absurd (omega arith)
one_chain xs (suc fuel) zero zero d are distinct small hi hj e = refl
one_chain xs (suc fuel) zero (suc j) d are distinct small hi hj e =
    let at_j : get_or (lists_of xs) (suc j) [] ≡ list_in (lists_of xs) (get_or xs j d) =
    chain_unfolds xs j d are (omega arith) in
    absurd (some_list _ _ (are j d (omega arith)).some (sym at_j ∙ (sym e ∙ chain_zero xs)))
one_chain xs (suc fuel) (suc i) zero d are distinct small hi hj e =
    let at_i : get_or (lists_of xs) (suc i) [] ≡ list_in (lists_of xs) (get_or xs i d) =
    chain_unfolds xs i d are (omega arith) in
    absurd (some_list _ _ (are i d (omega arith)).some (sym at_i ∙ (e ∙ chain_zero xs)))
one_chain xs (suc fuel) (suc i) (suc j) d are distinct small hi hj e =
    let bi : Block ℕ = get_or xs i d in
    let bj : Block ℕ = get_or xs j d in
    let at_i : get_or (lists_of xs) (suc i) [] ≡ list_in (lists_of xs) bi = chain_unfolds xs i d are (omega arith) in
    let at_j : get_or (lists_of xs) (suc j) [] ≡ list_in (lists_of xs) bj = chain_unfolds xs j d are (omega arith) in
    let fi = are i d (omega arith) in
    let fj = are j d (omega arith) in
    let both = front_same bi.front bj.front _ _ fi.whole fj.whole fi.some fj.some (sym at_i ∙ (e ∙ at_j)) in
    let below_i : bi.rest ≤ i = fi.before in
    let below_j : bj.rest ≤ j = fj.before in
    let rests : bi.rest ≡ bj.rest =
    one_chain xs fuel bi.rest bj.rest d are distinct (omega arith) (omega arith) (omega arith) both.1 in
    ap suc (distinct i j (omega arith) (omega arith) (λ w. record { front = both.0 w; rest = rests w }))

-- distinct keys that are equal stand at one place
pub distinct_places : {K : Type 0} (e : K → K → Bool) → ((x : K) → e x x ≡ true) → (keys : List K) → IsDistinct e keys
    → (d : K) (a b : ℕ) → a < length keys → b < length keys → get_or keys a d ≡ get_or keys b d → a ≡ b
distinct_places {K = K} e same keys unique d a b ha hb at =
    let clash : (x y : K) → x ≡ y → e x y ≡ false → ⊥ = λ x y is f. let t : e x y ≡ true =
    subst (λ z. e x z ≡ true) is (same x) in cc in
    let not_below : a < b → ⊥ =
    λ h. clash (get_or keys a d) (get_or keys b d) at (apart_from_distinct e keys a b d unique h hb) in
    let not_above : b < a → ⊥ =
    λ h. clash (get_or keys b d) (get_or keys a d) (sym at) (apart_from_distinct e keys b a d unique h ha) in
    omega (arith, not_below, not_above)

pub apart : (e : Block ℕ → Block ℕ → Bool) → ((x : Block ℕ) → e x x ≡ true) → (xs : List (Block ℕ)) → IsDistinct e xs →
    AreBlocks xs → AreApart (lists_of xs)
apart e same xs unique are i j hi hj at =
    let none : Block ℕ = record { front = fronts.Zero; rest = 0 } in
    let long = length-lists_of xs in
    one_chain xs (i + 1) i j none are (distinct_places e same xs unique none) (omega arith) (omega arith) (omega arith)
    at

-- what insertion keeps
block_kept : (xs ys : List (Block ℕ)) (k : ℕ) (b : Block ℕ) → k < length xs → IsBlock xs k b → IsBlock (xs ++ ys) k b
block_kept xs ys k b within is = record {
  before = is.before;
  some = is.some;
  whole = subst IsWhole (sym (lists_of-stays xs ys b.rest (let below : b.rest ≤ k = is.before in omega arith)))
      is.whole;
}

-- what stands at a place of a list with one more after it
pub push_at : {X : Type 0} (xs : List X) (x : X) (k : ℕ) (d : X) → k < length (xs ++ x ∷ []) →
    ((k < length xs) × (get_or (xs ++ x ∷ []) k d ≡ get_or xs k d)) ⊎
    ((k ≡ length xs) × (get_or (xs ++ x ∷ []) k d ≡ x))
push_at [] x zero d h = inr (refl, refl)
push_at [] x (suc k) d h = absurd (omega arith)
push_at (y ∷ xs) x zero d h = inl (omega arith, refl)
push_at {X = X} (y ∷ xs) x (suc k) d h = up (push_at xs x k d (omega arith))
  where
    up : ((k < length xs) × (get_or (xs ++ x ∷ []) k d ≡ get_or xs k d)) ⊎
        ((k ≡ length xs) × (get_or (xs ++ x ∷ []) k d ≡ x))
        → ((suc k < length (y ∷ xs)) × (get_or (xs ++ x ∷ []) k d ≡ get_or xs k d)) ⊎
        ((suc k ≡ length (y ∷ xs)) × (get_or (xs ++ x ∷ []) k d ≡ x))
    up (inl f) = let g = f.0 in inl (omega arith, f.1)
    up (inr f) = let g = f.0 in inr (omega arith, f.1)

pub AreBlocks-push : (xs : List (Block ℕ)) (x : Block ℕ) → AreBlocks xs → x.rest ≤ length xs →
    0 < length (front_list x.front) → IsWhole (get_or (lists_of xs) x.rest []) → AreBlocks (xs ++ x ∷ [])
AreBlocks-push xs x are below some whole k d h = by (push_at xs x k d h)
  where
    by : ((k < length xs) × (get_or (xs ++ x ∷ []) k d ≡ get_or xs k d)) ⊎
        ((k ≡ length xs) × (get_or (xs ++ x ∷ []) k d ≡ x)) → IsBlock (xs ++ x ∷ []) k (get_or (xs ++ x ∷ []) k d)
    by (inl f) = subst (IsBlock (xs ++ x ∷ []) k) (sym f.1) (block_kept xs (x ∷ []) k (get_or xs k d) f.0 (are k d f.0))
    by (inr f) =
        let is : IsBlock (xs ++ x ∷ []) k x = record {
          before = let e = f.0 in omega arith;
          some = some;
          whole = subst IsWhole (sym (lists_of-stays xs (x ∷ []) x.rest (omega arith))) whole;
        } in
        subst (IsBlock (xs ++ x ∷ []) k) (sym f.1) is

pub AreBlocks-take : (xs : List (Block ℕ)) (n : ℕ) → AreBlocks xs → AreBlocks (take n xs)
AreBlocks-take xs n are k d h =
    let within : k < length xs = grind (arith, common_steps) in
    let same : get_or (take n xs) k d ≡ get_or xs k d = grind (arith, common_steps) in
    let is : IsBlock xs k (get_or xs k d) = are k d within in
    let b : Block ℕ = get_or xs k d in
    let below : b.rest ≤ k = is.before in
    let stays : get_or (lists_of (take n xs ++ drop n xs)) b.rest [] ≡ get_or (lists_of (take n xs)) b.rest [] =
    lists_of-stays (take n xs) (drop n xs) b.rest (omega arith) in
    let chain : get_or (lists_of xs) b.rest [] ≡ get_or (lists_of (take n xs)) b.rest [] =
    ap (λ ls. get_or (lists_of ls) b.rest []) (sym (take-append-drop n xs)) ∙ stays in
    let there : IsBlock (take n xs) k b =
    record { before = is.before; some = is.some; whole = subst IsWhole chain is.whole } in
    subst (IsBlock (take n xs) k) (sym same) there

-- the block that stands there
pub block_at : (xs : List (Block ℕ)) (n : ℕ) (b : Block ℕ) → AreBlocks xs → 0 < n → n ≤ length xs →
    get_or xs (n - 1) b ≡ b → IsBlockOf (lists_of xs) n b
block_at xs n b are positive within is =
    let e : suc (n - 1) ≡ n = omega arith in
    let fact : IsBlock xs (n - 1) b = subst (λ (x : Block ℕ). IsBlock xs (n - 1) x) is (are (n - 1) b (omega arith)) in
    let unfolds : get_or (lists_of xs) (suc (n - 1)) [] ≡ list_in (lists_of xs) b =
    subst (λ (x : Block ℕ). get_or (lists_of xs) (suc (n - 1)) [] ≡ list_in (lists_of xs) x)
    is (chain_unfolds xs (n - 1) b are (omega arith)) in
    let long = length-lists_of xs in
    let below : b.rest ≤ n - 1 = fact.before in
    record {
      list = subst (λ m. get_or (lists_of xs) m [] ≡ list_in (lists_of xs) b) e unfolds;
      rest = omega arith;
      whole = fact.whole;
      falls = λ h. omega arith;
      some = λ h. fact.some;
      none = λ h. absurd (omega arith);
    }

pub AreBlocks-insert : (b : Bool) (xs : List (Block ℕ)) (x : Block ℕ) → AreBlocks xs → x.rest ≤ length xs →
    0 < length (front_list x.front) → IsWhole (get_or (lists_of xs) x.rest []) →
    AreBlocks (if b then xs else xs ++ x ∷ [])
AreBlocks-insert true xs x are below some whole = are
AreBlocks-insert false xs x are below some whole = AreBlocks-push xs x are below some whole

pub lists_of-insert : (b : Bool) (xs : List (Block ℕ)) (x : Block ℕ) (i : ℕ) → i < length xs + 1 →
    get_or (lists_of (if b then xs else xs ++ x ∷ [])) i [] ≡ get_or (lists_of xs) i []
lists_of-insert true xs x i h = refl
lists_of-insert false xs x i h = lists_of-stays xs (x ∷ []) i h

-- the chain of what was inserted
pub inserted : (b : Bool) (xs : List (Block ℕ)) (x : Block ℕ) (at : ℕ) → AreBlocks (if b then xs else xs ++ x ∷ []) →
    x.rest ≤ length xs
    → at < length (if b then xs else xs ++ x ∷ []) → get_or (if b then xs else xs ++ x ∷ []) at x ≡ x
    → get_or (lists_of (if b then xs else xs ++ x ∷ [])) (at + 1) [] ≡ list_in (lists_of xs) x
inserted b xs x at are below within is =
    let zs : List (Block ℕ) = if b then xs else xs ++ x ∷ [] in
    let e : at + 1 - 1 ≡ at = omega arith in
    let there : get_or zs (at + 1 - 1) x ≡ x = ap (λ k. get_or zs k x) e ∙ is in
    (block_at zs (at + 1) x are (omega arith) (omega arith) there).list ∙
    ap (λ l. front_list x.front ++ l) (lists_of-insert b xs x x.rest (omega arith))

pub no_block : (xs : List (Block ℕ)) → IsBlockOf (lists_of xs) 0 (record { front = fronts.Zero; rest = 0 })
no_block xs =
    let long = length-lists_of xs in
    record {
      list = refl;
      rest = omega arith;
      whole = subst IsWhole (sym (chain_zero xs)) (record { long = refl });
      falls = λ h. absurd (omega arith);
      some = λ h. absurd (omega arith);
      none = λ h. refl;
    }

-- each block names a chain of a lesser number
pub linked : (xs : List (Block ℕ)) → AreBlocks xs → AreLinked xs
linked xs are k d h = (are k d h).before

pub ruleset chains = (length-lists_of, lists_of-push, chain_zero, no_block, linked)
