-- Sets of names with numbers of arguments: what a walk over them finds, and one more pair.
use Rattle.std.proofs.Common.{◌≡◌, ◌<◌, ◌⊎◌, ◌++◌, ◌∷◌, inl, inr, ℕ, zero, suc, List, [], length, map, get_or, sym, refl, ◌∙◌, ap, arith, Contains}
use Rattle.std.proofs.lemmas.List.{get_or-map, length-map, get_or_default}
use Rattle.term_model.specs.PrimNames.{NameKey}
use Rattle.term_model.specs.NameSet.{key_at}
use Rattle.term_model.specs.NameSet.{EachOnce}

module _ {X Y : Type 0} (f : X → Y) where
  -- an element whose image is another one
  pub not_at : (xs : List X) (k : ℕ) (x : X) (y : Y) → k < length xs → x ≡ get_or xs k x → (f x ≡ y → ⊥) →
      get_or (map f xs) k y ≡ y → ⊥
  not_at xs k x y h is other here = other (ap f is ∙ sym (get_or-map f xs k x y h) ∙ here)

  -- what is nowhere in the image
  pub not_in_image : (xs : List X) (y : Y) → ((k : ℕ) → k < length xs → get_or (map f xs) k y ≡ y → ⊥) →
      Contains (map f xs) y → ⊥
  not_in_image xs y none c = none c.0 (rw length-map at c.1) c.2

at_first : (keys : List NameKey) (key : NameKey) (i : ℕ) → i < length keys → key_at (keys ++ key ∷ []) i ≡ key_at keys i
at_first [] key i h = absurd (omega arith)
at_first (k ∷ ks) key zero h = refl
at_first (k ∷ ks) key (suc i) h = at_first ks key i (omega arith)

at_last : (keys : List NameKey) (key : NameKey) → key_at (keys ++ key ∷ []) (length keys) ≡ key
at_last [] key = refl
at_last (k ∷ ks) key = at_last ks key

grown : (keys : List NameKey) (key : NameKey) → length (keys ++ key ∷ []) ≡ suc (length keys)
grown [] key = refl
grown (k ∷ ks) key = ap suc (grown ks key)

split : (n m : ℕ) → n < suc m → (n < m) ⊎ (n ≡ m)
split zero zero h = inr refl
split zero (suc m) h = inl (omega arith)
split (suc n) zero h = absurd (omega arith)
split (suc n) (suc m) h = by (split n m (omega arith))
  where
    by : (n < m) ⊎ (n ≡ m) → (suc n < suc m) ⊎ (suc n ≡ suc m)
    by (inl a) = inl (omega arith)
    by (inr e) = inr (ap suc e)

pub none_once : EachOnce []
none_once i j h k e = absurd (omega arith)

-- a pair that is not there may be added
pub one_more_once : (keys : List NameKey) (key : NameKey) → EachOnce keys → (Contains keys key → ⊥) →
    EachOnce (keys ++ key ∷ [])
one_more_once keys key once absent i j h k e =
    by (split i (length keys) (rw (grown keys key) at h)) (split j (length keys) (rw (grown keys key) at k))
  where
    there : (n : ℕ) → n < length keys → key_at (keys ++ key ∷ []) n ≡ key → ⊥
    there n below same =
        absent (n, below, get_or_default keys n key ([], 0) below ∙ sym (at_first keys key n below) ∙ same)

    by : (i < length keys) ⊎ (i ≡ length keys) → (j < length keys) ⊎ (j ≡ length keys) → i ≡ j
    by (inl a) (inl b) = once i j a b (sym (at_first keys key i a) ∙ e ∙ at_first keys key j b)
    by (inl a) (inr b) = absurd (there i a (e ∙ ap (key_at (keys ++ key ∷ [])) b ∙ at_last keys key))
    by (inr a) (inl b) = absurd (there j b (sym e ∙ ap (key_at (keys ++ key ∷ [])) a ∙ at_last keys key))
    by (inr a) (inr b) = a ∙ sym b
