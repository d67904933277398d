-- What the primitives of a registry mean, at names that are registered and at others.
use Rattle.std.proofs.Common.{◌≡◌, ◌<◌, ℕ, zero, suc, Bool, true, false, Option, None, List, [], ◌∷◌, length, get_or, refl, sym, ◌∙◌, ap, subst, arith, Contains}
use Rattle.std.specs.Prelude.{◌||◌, ◌&&◌, ◌==◌, if◌then◌else◌}
use Rattle.std.specs.Cmp.{unsigned_Decides}
use Rattle.std.specs.List.{list_any}
use Rattle.std.specs.Str.{bytes_eq}
use Rattle.std.proofs.lemmas.Map.Views.{Contains-from_any}
use Rattle.std.proofs.lemmas.Slice.Eq.{bytes_eq-Decides}
use Rattle.std.proofs.lemmas.Bool.{and_parts}
use Rattle.std.proofs.lemmas.List.{get_or_default}
use Rattle.term_model.specs.Flat.{FlatValue, Meaning}
use Rattle.term_model.specs.PrimNames.{NameKey}
use Rattle.term_model.specs.NameSet.{key_at}
use Rattle.prim_registry.specs.Registered.{same_key, registered}

equal_keys : (f g : List ℕ) (k j : ℕ) → bytes_eq f g && (k == j) ≡ true → (f ≡ g) × (k ≡ j)
equal_keys f g k j e = let q = and_parts (bytes_eq f g) (k == j) e in
    ((bytes_eq-Decides f g).0 q.0, (unsigned_Decides k j).0 q.1)

key_same : (a b : NameKey) → same_key a b ≡ true → a ≡ b
key_same a b e = let q = equal_keys a.0 b.0 a.1 b.1 e in λ i. (q.0 i, q.1 i)

own_key : (a : NameKey) → same_key a a ≡ true
own_key a = ap (λ x. x && (a.1 == a.1)) ((bytes_eq-Decides a.0 a.0).1 refl) ∙ (unsigned_Decides a.1 a.1).1 refl

any_key : (keys : List NameKey) (key : NameKey) (i : ℕ) → i < length keys → get_or keys i key ≡ key →
    list_any (same_key key) keys ≡ true
any_key [] key i h is = absurd (omega arith)
any_key (k ∷ ks) key zero h is =
    ap (λ b. b || list_any (same_key key) ks) (subst (λ x. same_key key x ≡ true) (sym is) (own_key key))
any_key (k ∷ ks) key (suc i) h is = by (same_key key k) (any_key ks key i (omega arith) is)
  where
    by : (b : Bool) {c : Bool} → c ≡ true → (b || c) ≡ true
    by true e = refl
    by false e = e

module _ (keys : List NameKey) (M : Meaning) (f : List ℕ) where
  -- registered with as many arguments, or not
  registered_there : (vs : List FlatValue) → Contains keys (f, length vs) → registered keys M f vs ≡ M f vs
  registered_there vs c = ap (λ b. if b then M f vs else None) (any_key keys (f, length vs) c.0 c.1 c.2)

  registered_nowhere : (vs : List FlatValue) → (Contains keys (f, length vs) → ⊥) → registered keys M f vs ≡ None
  registered_nowhere vs none = by (list_any (same_key (f, length vs)) keys) refl
    where
      by : (b : Bool) → list_any (same_key (f, length vs)) keys ≡ b → (if b then M f vs else None) ≡ None
      by true e = absurd (none (Contains-from_any key_same (f, length vs) keys e))
      by false e = refl

  pub registered_call : (vs : List FlatValue) (key : NameKey) (n : ℕ) (o : Option FlatValue) → key ≡ (f, n) →
      n ≡ length vs → Contains keys (f, n) → o ≡ M key.0 vs → o ≡ registered keys M f vs
  registered_call vs key n o is many there answer =
      answer ∙ (ap (λ x. M x.0 vs) is ∙ sym (registered_there vs (subst (λ k. Contains keys (f, k)) many there)))

  pub registered_none : (vs : List FlatValue) (n : ℕ) → n ≡ length vs → (Contains keys (f, n) → ⊥) →
      None ≡ registered keys M f vs
  registered_none vs n many none =
      sym (registered_nowhere vs (λ c. none (subst (λ k. Contains keys (f, k)) (sym many) c)))

  pub registered_same : (k : ℕ) → Contains keys (f, k) → (vs : List FlatValue) → length vs ≡ k →
      registered keys M f vs ≡ M f vs
  registered_same k there vs many = registered_there vs (subst (λ n. Contains keys (f, n)) (sym many) there)

-- what is registered of each name is registered of one
pub covered : (keys names : List NameKey) (key : NameKey) →
    ((i : ℕ) → i < length names → Contains keys (key_at names i)) → Contains names key → Contains keys key
covered keys names key each c =
    subst (λ x. Contains keys x) (get_or_default names c.0 ([], 0) key c.1 ∙ c.2) (each c.0 c.1)
