-- The steps of the loops along blocks.
use Rattle.std.proofs.Common.{◌≡◌, ℕ, zero, suc, ◌+◌, ◌-◌, ◌<◌, ◌≤◌, List, [], ◌∷◌, ◌++◌, length, map, get_or, take, drop, drop-cons, append_assoc, append-nil, refl, sym, ◌∙◌, ap, subst, All, arith, length-append}
use Rattle.std.proofs.Math.Seq.{drop-append-add, take-append-add}
use Rattle.std.proofs.lemmas.List.{take-append-le}
use Rattle.term_model.specs.Term.{Tree, weights, trees_of}
use Rattle.term_model.specs.Limits.{max_weight}
use Rattle.term_model.specs.Blocks.{front_list, list_in}
use Rattle.term_model.specs.declared.parts.Block.{Block}
use Rattle.term_model.specs.declared.parts.Front.TheVariants as fronts
use Rattle.term_store.specs.Chains.{IsBlockIn, IsBlockOf, IsChainIn, IsWhole}
use Rattle.term_store.specs.Space.{Stand, KeepsChains, AreHeavy, term_of}
use Rattle.term_store.specs.Walks.{IsAfter, IsPushing, IsTaking, IsBuilding, IsLinking}
use Rattle.term_store.specs.declared.store.StoreSpace.{StoreSpace}
use Rattle.term_store.proofs.PlainLemmas.{map_same}

-- the block of a chain that is not empty
block_from : (chains : List (List ℕ)) (n : ℕ) (b : Block ℕ) → IsBlockOf chains n b → 0 < n →
    IsBlockIn chains b (list_in chains b)
block_from chains n b is some = record {
  list = refl;
  rest = is.rest;
  whole = is.whole;
  none = λ e. absurd (let long = is.some some in omega (arith, e, long));
}

-- what is after at least as many values as a list has is in the list after it
drop_after : (xs ys : List ℕ) (n : ℕ) → length xs ≤ n → drop n (xs ++ ys) ≡ drop (n - length xs) ys
drop_after xs ys n h =
    let e : length xs + (n - length xs) ≡ n = omega arith in
    subst (λ m. drop m (xs ++ ys) ≡ drop (n - length xs) ys) e (drop-append-add xs ys (n - length xs))

-- the next block, where the front is passed
pub after_next : (chains : List (List ℕ)) (b next : Block ℕ) (left_ n : ℕ) (places : List ℕ) →
    IsAfter chains b left_ places → 0 < b.rest → length (front_list b.front) ≤ left_ → n ≡ length (front_list b.front) →
    IsBlockOf chains b.rest next
    → IsAfter chains next (left_ - n) places
after_next chains b next left_ n places is some passed many of =
    let front : List ℕ = front_list b.front in
    let rest : List ℕ = get_or chains b.rest [] in
    let list : rest ≡ list_in chains next = of.list in
    let within : left_ ≤ length (front ++ rest) = is.within in
    let long : length (front ++ rest) ≡ length front + length rest = length-append front rest in
    let short : left_ - n ≤ length rest = omega (arith, within, long, passed, many) in
    let after_front : drop left_ (front ++ rest) ≡ drop (left_ - n) rest =
    subst (λ k. drop left_ (front ++ rest) ≡ drop (left_ - k) rest) (sym many)
    (drop_after front rest left_ passed) in
    record {
      block = block_from chains b.rest next of some;
      within = subst (λ xs. left_ - n ≤ length xs) list short;
      list = subst (λ xs. drop (left_ - n) xs ≡ places) list (sym after_front ∙ is.list);
    }

-- there is room for the front of the next block
pub room_for : (chains : List (List ℕ)) (old now places : List ℕ) (room_ rest_ : ℕ) (next : Block ℕ) →
    IsPushing chains old now places room_ rest_ → IsBlockOf chains rest_ next →
    length now + length (front_list next.front) ≤ room_
room_for chains old now places room_ rest_ next is of =
    let front : List ℕ = front_list next.front in
    let rest : List ℕ = get_or chains next.rest [] in
    let list : get_or chains rest_ [] ≡ front ++ rest = of.list in
    let all : length (now ++ get_or chains rest_ []) ≡ length (old ++ places) = ap length is.list in
    let before : length (now ++ get_or chains rest_ []) ≡ length now + length (get_or chains rest_ []) =
    length-append now (get_or chains rest_ []) in
    let after : length (old ++ places) ≡ length old + length places = length-append old places in
    let next_ : length (get_or chains rest_ []) ≡ length (front ++ rest) = ap length list in
    let long : length (front ++ rest) ≡ length front + length rest = length-append front rest in
    let room = is.room in
    omega (arith, all, before, after, next_, long, room)

-- the first values of a list are those of its front and the first of what is after it
take_after : (xs ys : List ℕ) (n : ℕ) → length xs ≤ n → take n (xs ++ ys) ≡ xs ++ take (n - length xs) ys
take_after xs ys n h =
    let e : length xs + (n - length xs) ≡ n = omega arith in
    subst (λ m. take m (xs ++ ys) ≡ xs ++ take (n - length xs) ys) e (take-append-add xs ys (n - length xs))

-- a stack after the front of a block was put on it
pub taking_next : (chains : List (List ℕ)) (b next : Block ℕ) (old now new places : List ℕ) (room_ left_ n : ℕ) →
    IsTaking chains b old now places room_ left_ → 0 < b.rest → length (front_list b.front) ≤ left_ →
    n ≡ length (front_list b.front) → new ≡ now ++ front_list b.front → IsBlockOf chains b.rest next →
    IsTaking chains next old new places room_ (left_ - n)
taking_next chains b next old now new places room_ left_ n is some passed many put of =
    let front : List ℕ = front_list b.front in
    let rest : List ℕ = get_or chains b.rest [] in
    let list : rest ≡ list_in chains next = of.list in
    let within : left_ ≤ length (front ++ rest) = is.within in
    let long : length (front ++ rest) ≡ length front + length rest = length-append front rest in
    let short : left_ - n ≤ length rest = omega (arith, within, long, passed, many) in
    let first : take left_ (front ++ rest) ≡ front ++ take (left_ - n) rest =
    subst (λ k. take left_ (front ++ rest) ≡ front ++ take (left_ - k) rest) (sym many)
    (take_after front rest left_ passed) in
    let all : new ++ take (left_ - n) rest ≡ old ++ places =
    ap (λ xs. xs ++ take (left_ - n) rest) put ∙ (append_assoc now front (take (left_ - n) rest) ∙
    (ap (λ xs. now ++ xs) (sym first) ∙ is.list)) in
    let room = is.room in
    let longer : length new ≡ length now + length front = ap length put ∙ length-append now front in
    record {
      block = block_from chains b.rest next of some;
      within = subst (λ xs. left_ - n ≤ length xs) list short;
      list = subst (λ xs. new ++ take (left_ - n) xs ≡ old ++ places) list all;
      room = omega (arith, room, longer, passed, many);
    }

-- the first values of the last block are in its front
pub taken_front : (chains : List (List ℕ)) (b : Block ℕ) (left_ : ℕ) → get_or chains 0 [] ≡ [] →
    (0 < b.rest → left_ < length (front_list b.front)) → left_ ≤ length (list_in chains b) →
    take left_ (list_in chains b) ≡ take left_ (front_list b.front)
taken_front chains b left_ empty last within = by_rest b.rest refl
  where
    by_rest : (k : ℕ) → b.rest ≡ k → take left_ (list_in chains b) ≡ take left_ (front_list b.front)
    by_rest zero e =
        ap (λ j. take left_ (front_list b.front ++ get_or chains j [])) e ∙
        (ap (λ xs. take left_ (front_list b.front ++ xs)) empty ∙ ap (take left_) (append-nil (front_list b.front)))
    by_rest (suc k) e = take-append-le left_ (front_list b.front) (get_or chains b.rest [])
        (let h = last (omega (arith, e)) in omega (arith, h))

-- the terms after the first of several weigh no more than all
weights-drop-append : (f : ℕ → Tree) (xs ys : List ℕ) (n : ℕ) →
    weights (trees_of (map f (drop n xs ++ ys))) ≤ weights (trees_of (map f (xs ++ ys)))
weights-drop-append f [] ys zero = omega arith
weights-drop-append f [] ys (suc n) = omega arith
weights-drop-append f (x ∷ xs) ys zero = omega arith
weights-drop-append f (x ∷ xs) ys (suc n) = let h = weights-drop-append f xs ys n in omega (arith, h)

weights-drop : (f : ℕ → Tree) (xs : List ℕ) (n : ℕ) →
    weights (trees_of (map f (drop n xs))) ≤ weights (trees_of (map f xs))
weights-drop f xs zero = omega arith
weights-drop f [] (suc n) = omega arith
weights-drop f (x ∷ xs) (suc n) = let h = weights-drop f xs n in omega (arith, h)

-- where the terms of a part are too heavy together, those of all are
pub heavy_whole : (old new : StoreSpace) (places others : List ℕ) (b : Block ℕ) (n : ℕ) →
    IsBuilding old new places others b n → AreHeavy new (list_in new.chains b) → AreHeavy old (places ++ others)
heavy_whole old new places others b n is heavy =
    let part : List ℕ = drop n places ++ others in
    let list : list_in new.chains b ≡ part = is.block.list in
    let there : max_weight < weights (trees_of (map (term_of new) part)) =
    subst (λ xs. max_weight < weights (trees_of (map (term_of new) xs))) list heavy in
    let same : map (term_of new) part ≡ map (term_of old) part =
    map_same (term_of new) (term_of old) part (λ k d h. is.keeps.terms _) in
    let before : max_weight < weights (trees_of (map (term_of old) part)) =
    subst (λ ts. max_weight < weights (trees_of ts)) same there in
    let less = weights-drop-append (term_of old) places others n in
    omega (arith, before, less)

-- what is kept twice is kept
keeps_then : (a b c : StoreSpace) → KeepsChains a b → KeepsChains b c → KeepsChains a c
keeps_then a b c ab bc = record {
  symbols = bc.symbols ∙ ab.symbols;
  named = bc.named ∙ ab.named;
  shapes = bc.shapes ∙ ab.shapes;
  more = let p = ab.more in let q = bc.more in omega (arith, p, q);
  chains = λ j h. bc.chains j (let p = ab.more in omega (arith, p, h)) ∙ ab.chains j h;
  terms = λ k. bc.terms k ∙ ab.terms k;
}

-- what stands stays
stand_kept : (old new : StoreSpace) (places : List ℕ) → KeepsChains old new → Stand old places → Stand new places
stand_kept old new places keeps stand = subst (λ keys. All (λ i. i < length keys) places) (sym keeps.shapes) stand

-- one place more in front
pub one_before : (old now new : StoreSpace) (places others : List ℕ) (b longer : Block ℕ) (end_ : ℕ) →
    IsBuilding old now places others b end_ → 0 < end_ → Stand old places → KeepsChains now new
    → IsBlockIn new.chains longer (get_or places (end_ - 1) 0 ∷ list_in now.chains b) →
    IsBuilding old new places others longer (end_ - 1)
one_before old now new places others b longer end_ is some stand keeps made =
    let within = is.within in
    let place : ℕ = get_or places (end_ - 1) 0 in
    let last : suc (end_ - 1) ≡ end_ = omega arith in
    let first : drop (end_ - 1) places ≡ place ∷ drop (suc (end_ - 1)) places =
    drop-cons places (end_ - 1) 0 (omega (arith, within, some)) in
    let more : drop (end_ - 1) places ≡ place ∷ drop end_ places =
    subst (λ n. drop (end_ - 1) places ≡ place ∷ drop n places) last first in
    let whole : place ∷ list_in now.chains b ≡ drop (end_ - 1) places ++ others =
    ap (λ xs. place ∷ xs) is.block.list ∙ ap (λ xs. xs ++ others) (sym more) in
    let here : place < length now.shapes.keys =
    stand_kept old now places is.keeps stand (end_ - 1) 0 (omega (arith, within, some)) in
    let all : Stand now (place ∷ drop end_ places ++ others) =
    one_stands place (drop end_ places ++ others) here is.stand in
    record {
      keeps = keeps_then old now new is.keeps keeps;
      within = omega (arith, within);
      block = subst (IsBlockIn new.chains longer) whole made;
      stand = stand_kept now new (drop (end_ - 1) places ++ others)
          keeps (subst (λ xs. Stand now (xs ++ others)) (sym more) all);
    }
  where
    one_stands : (x : ℕ) (xs : List ℕ) → x < length now.shapes.keys → Stand now xs → Stand now (x ∷ xs)
    one_stands x xs h hs zero d within = h
    one_stands x xs h hs (suc k) d within = hs k d (omega (arith, within))

-- three places more than some blocks of three
whole_more : (x y z : ℕ) (xs : List ℕ) → IsWhole xs → IsWhole (x ∷ y ∷ z ∷ xs)
whole_more x y z xs is = let long = is.long in record { long = omega (arith, long) }

three_stand : (s : StoreSpace) (x y z : ℕ) (xs : List ℕ) → x < length s.shapes.keys → y < length s.shapes.keys →
    z < length s.shapes.keys → Stand s xs → Stand s (x ∷ y ∷ z ∷ xs)
three_stand s x y z xs hx hy hz hs zero d h = hx
three_stand s x y z xs hx hy hz hs (suc zero) d h = hy
three_stand s x y z xs hx hy hz hs (suc (suc zero)) d h = hz
three_stand s x y z xs hx hy hz hs (suc (suc (suc k))) d h = hs k d (omega (arith, h))

-- a chain that is built by three places at a time
module _ (old now : StoreSpace) (places : List ℕ) (rest_ end_ : ℕ) (is : IsLinking old now places rest_ end_)
    (more : 3 < end_) (stand : Stand old places) where
  abbrev front_place : ℕ
  front_place = get_or places (end_ - 3) 0

  abbrev middle_place : ℕ
  middle_place = get_or places (end_ - 2) 0

  abbrev last_place : ℕ
  last_place = get_or places (end_ - 1) 0

  abbrev pub three : Block ℕ
  three = record {
    front = fronts.Three (get_or places (end_ - 3) 0) (get_or places (end_ - 2) 0)
        (get_or places (end_ - 1) 0);
    rest = rest_;
  }

  three_more : drop (end_ - 3) places ≡ front_place ∷ middle_place ∷ last_place ∷ drop end_ places
  three_more =
      let within = is.within in
      let one : suc (end_ - 1) ≡ end_ = omega arith in
      let two : suc (end_ - 2) ≡ end_ - 1 = omega arith in
      let three_ : suc (end_ - 3) ≡ end_ - 2 = omega arith in
      let last : drop (end_ - 1) places ≡ last_place ∷ drop end_ places =
      subst (λ n. drop (end_ - 1) places ≡ last_place ∷ drop n places)
      one (drop-cons places (end_ - 1) 0 (omega (arith, within))) in
      let middle : drop (end_ - 2) places ≡ middle_place ∷ drop (end_ - 1) places =
      subst (λ n. drop (end_ - 2) places ≡ middle_place ∷ drop n places)
      two (drop-cons places (end_ - 2) 0 (omega (arith, within))) in
      let first : drop (end_ - 3) places ≡ front_place ∷ drop (end_ - 2) places =
      subst (λ n. drop (end_ - 3) places ≡ front_place ∷ drop n places)
      three_ (drop-cons places (end_ - 3) 0 (omega (arith, within))) in
      first ∙ ap (λ xs. front_place ∷ xs) (middle ∙ ap (λ xs. middle_place ∷ xs) last)

  three_list : list_in now.chains three ≡ drop (end_ - 3) places
  three_list = ap (λ xs. front_place ∷ middle_place ∷ last_place ∷ xs) is.list ∙ sym three_more

  standing : (i : ℕ) → i < length places → get_or places i 0 < length now.shapes.keys
  standing i h = stand_kept old now places is.keeps stand i 0 h

  stand_more : Stand now (drop (end_ - 3) places)
  stand_more =
      let within = is.within in
      subst (Stand now) (sym three_more)
      (three_stand now front_place middle_place last_place (drop end_ places)
      (standing (end_ - 3) (omega (arith, within))) (standing (end_ - 2) (omega (arith, within)))
      (standing (end_ - 1) (omega (arith, within))) is.stand)

  pub three_linked : (new : StoreSpace) (n : ℕ) → KeepsChains now new →
      IsChainIn new.chains n (list_in now.chains three) → IsLinking old new places n (end_ - 3)
  three_linked new n keeps chain =
      let within = is.within in
      record {
        keeps = keeps_then old now new is.keeps keeps;
        within = omega (arith, within);
        some = omega arith;
        rest = chain.within;
        list = chain.list ∙ three_list;
        whole = subst IsWhole (sym three_more)
            (whole_more front_place middle_place last_place (drop end_ places) is.whole);
        stand = stand_kept now new (drop (end_ - 3) places) keeps stand_more;
      }

  pub three_heavy : AreHeavy now (list_in now.chains three) → AreHeavy old places
  three_heavy heavy =
      let part : List ℕ = drop (end_ - 3) places in
      let there : max_weight < weights (trees_of (map (term_of now) part)) =
      subst (λ xs. max_weight < weights (trees_of (map (term_of now) xs))) three_list heavy in
      let same : map (term_of now) part ≡ map (term_of old) part =
      map_same (term_of now) (term_of old) part (λ k d h. is.keeps.terms _) in
      let before : max_weight < weights (trees_of (map (term_of old) part)) =
      subst (λ ts. max_weight < weights (trees_of ts)) same there in
      let less = weights-drop (term_of old) places (end_ - 3) in
      omega (arith, before, less)
