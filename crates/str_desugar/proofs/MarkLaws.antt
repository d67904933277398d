-- Marks: which stay, and that a name whose mark is not set is not among names that are marked.
use Rattle.std.proofs.Common.{⊎_elim, w64, ◌≡◌, ℕ, suc, ◌*◌, ◌/◌, ◌%◌, ◌^◌, ◌<◌, Bool, true, false, Some, None, List, [], ◌∷◌, ◌++◌, length, map, set, get_or, refl, sym, ◌∙◌, ap, subst, arith}
use Rattle.std.specs.Prelude.{◌==◌, ◌&&◌, if◌then◌else◌}
use Rattle.std.specs.Int.{bit_at}
use Rattle.std.specs.Int.Bits.{bit_or}
use Rattle.std.specs.List.{list_any}
use Rattle.std.specs.Option.{option_map}
use Rattle.std.specs.Cmp.{unsigned_Decides}
use Rattle.std.specs.Str.{bytes_eq}
use Rattle.std.proofs.lemmas.List.{get_or-set_same, get_or-set_other, map-append}
use Rattle.std.proofs.lemmas.Bool.{cases_eq}
use Rattle.std.proofs.lemmas.Nat.Bits.{bit_at_or, bit_at_set_same, bit_at-lt}
use Rattle.core_lang.specs.Named.{written, position_of}
use Rattle.indexmap.specs.IndexSet.{insert_key}
use Rattle.str_syntax.specs.Key.{Key, same_key}
use Rattle.str_syntax.specs.NameEquality.{same_name-Decides}
use Rattle.str_syntax.specs.Trees.{Bytes}
use Rattle.str_desugar.specs.Frames.{key_position}
use Rattle.str_desugar.specs.Keys.{named_key, AreKeysMarked}
use Rattle.str_desugar.specs.Marks.{mark_of, has_mark, is_marked, AreMarked, AreKept}
use Rattle.str_desugar.specs.declared.marks.Marks.{Marks}
use Rattle.keyed_hash.specs.declared.keys.HashKeys.{HashKeys}

pub mark_below : (hashing : HashKeys) (x : Bytes) → mark_of hashing x < 512
unfolding mark_of
mark_below hashing x = omega arith

-- names stay marked where marks are kept, and so does one more whose mark is set
pub marked_on : (old new : Marks) → AreKept old new → (xs : List Bytes) → AreMarked old xs → AreMarked new xs
marked_on old new kept [] m = tt
marked_on old new kept (x ∷ xs) m = (kept x m.0, marked_on old new kept xs m.1)

pub marked_more : (marks : Marks) (xs : List Bytes) (x : Bytes) → AreMarked marks xs →
    is_marked marks x ≡ true → AreMarked marks (xs ++ x ∷ [])
marked_more marks [] x m e = (e, tt)
marked_more marks (y ∷ xs) x m e = (m.0, marked_more marks xs x m.1 e)

-- names of which one has no mark are not the same
apart : (marks : Marks) (x y : Bytes) → is_marked marks y ≡ true → is_marked marks x ≡ false →
    bytes_eq x y ≡ true → ⊥
apart marks x y marked unmarked same =
    let equal : x ≡ y = (same_name-Decides x y).0 same in
    let clash : true ≡ false = sym marked ∙ ap (λ z. is_marked marks z) (sym equal) ∙ unmarked in
    absurd (cc)

-- a name that has no mark has no position among names that are marked
pub unmarked_name : (marks : Marks) (x : Bytes) (xs : List Bytes) → AreMarked marks xs →
    is_marked marks x ≡ false → position_of (written x) (map written xs) ≡ None
unmarked_name marks x [] m e = refl
unmarked_name marks x (y ∷ xs) m e = by (bytes_eq x y) refl (unmarked_name marks x xs m.1 e)
  where
    by : (b : Bool) → bytes_eq x y ≡ b → position_of (written x) (map written xs) ≡ None →
        position_of (written x) (map written (y ∷ xs)) ≡ None
    by true is rest = absurd (apart marks x y m.0 e is)
    by false is rest =
        ap (λ c. if c then Some 0 else option_map (λ i. suc i) (position_of (written x) (map written xs))) is ∙
        ap (option_map (λ i. suc i)) rest

-- nor has a key with its name
pub unmarked_key : (marks : Marks) (x : Bytes) (n k : ℕ) (ks : List Key) → AreKeysMarked marks ks →
    is_marked marks x ≡ false → key_position (map named_key ks) (written x) n k ≡ None
unmarked_key marks x n k [] m e = refl
unmarked_key marks x n k (d ∷ ks) m e = by (bytes_eq x d.name) refl (unmarked_key marks x n k ks m.1 e)
  where
    by : (b : Bool) → bytes_eq x d.name ≡ b → key_position (map named_key ks) (written x) n k ≡ None →
        key_position (map named_key (d ∷ ks)) (written x) n k ≡ None
    by true is rest = absurd (apart marks x d.name m.0 e is)
    by false is rest =
        ap (λ c. if c && ((n == d.strategies) && (k == d.terms)) then Some 0
        else option_map (λ i. suc i) (key_position (map named_key ks) (written x) n k)) is ∙
        ap (option_map (λ i. suc i)) rest

-- ---- a bit that is set

bit_kept : (word other place : ℕ) → (bit_at word place == 1) ≡ true → (bit_at (bit_or word other) place == 1) ≡ true
bit_kept word other place is =
    let one : bit_at word place ≡ 1 = (unsigned_Decides (bit_at word place) 1).0 is in
    (unsigned_Decides (bit_at (bit_or word other) place) 1).1
    (omega (arith, one, bit_at_or word other place, bit_at-lt other place))

module _ (words : List ℕ) (set_one : ℕ) (within : set_one / 64 < length words) where
  -- the words in which the bit of this mark is set
  abbrev with_bit : List ℕ
  with_bit = set words (set_one / 64) (bit_or (get_or words (set_one / 64) 0) (1 * 2 ^ (set_one % 64) % 2 ^ 64))

  pub set_added : has_mark with_bit set_one ≡ true
  set_added =
      let place : set_one % 64 < 64 = omega arith in
      ap (λ n. bit_at n (set_one % 64) == 1) (get_or-set_same words (set_one / 64) _ 0 within) ∙
      ap (λ n. n == 1) (bit_at_set_same w64 _ (set_one % 64) place)

  pub set_kept : (mark : ℕ) → has_mark words mark ≡ true → has_mark with_bit mark ≡ true
  set_kept mark is =
      ⊎_elim
      (λ same.
      let before : (bit_at (get_or words (set_one / 64) 0) (mark % 64) == 1) ≡ true =
      sym (ap (λ i. bit_at (get_or words i 0) (mark % 64) == 1) same) ∙ is in
      ap (λ i. bit_at (get_or with_bit i 0) (mark % 64) == 1) same ∙
      ap (λ n. bit_at n (mark % 64) == 1) (get_or-set_same words (set_one / 64) _ 0 within) ∙
      bit_kept _ _ (mark % 64) before)
      (λ other. ap (λ n. bit_at n (mark % 64) == 1) (get_or-set_other words (set_one / 64) (mark / 64) _ 0 other) ∙ is)
      (cases_eq (mark / 64) (set_one / 64))

-- ---- the same of keys

pub keys_marked_on : (old new : Marks) → AreKept old new → (ks : List Key) → AreKeysMarked old ks →
    AreKeysMarked new ks
keys_marked_on old new kept ks m = marked_on old new kept (map (λ k. k.name) ks) m

-- and with one more, where it is new
pub keys_marked_inserted : (marks : Marks) (ks : List Key) (k : Key) → AreKeysMarked marks ks →
    is_marked marks k.name ≡ true → AreKeysMarked marks (insert_key same_key ks k)
keys_marked_inserted marks ks k m e = by (list_any (same_key k) ks)
  where
    by : (there : Bool) → AreKeysMarked marks (if there then ks else ks ++ k ∷ [])
    by true = m
    by false = subst (AreMarked marks) (sym (map-append (λ l. l.name) ks (k ∷ [])))
        (marked_more marks (map (λ l. l.name) ks) k.name m e)
