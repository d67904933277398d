-- Names that stand again after themselves, found by noting one after another.
use Rattle.std.proofs.Common.{◌≡◌, ◌∙◌, ℕ, ◌+◌, ◌<◌, ◌≤◌, Bool, true, false, ◌||◌, List, [], ◌∷◌, ◌++◌, map, take, drop, length, get_or, sym, refl, ap}
use Rattle.std.proofs.lemmas.Bool.Decides.{same_from_decides, Decides-like}
use Rattle.std.proofs.lemmas.List.{drop_all, drop_more, map_more, take_all}
use Rattle.std.proofs.lemmas.List.Folds.{list_any-append}
use Rattle.std.proofs.Math.Bool.{and-true, or-false, or_assoc}
use Rattle.std.specs.Bool.{Decides}
use Rattle.std.specs.List.{list_any}
use Rattle.str_syntax.specs.SameName.{same_name}
use Rattle.str_syntax.specs.NameEquality.{same_name-Decides}
use Rattle.str_syntax.specs.Trees.{Bytes}
use Rattle.scope_check.specs.Complaint.{bad_parameters, repeats}
use Rattle.scope_check.specs.Found.{Found, found_if, joined}
use Rattle.scope_check.specs.Seen.{Key, same_key, Seen, among, plain_key}
use Rattle.scope_check.specs.Tables.{repeats_after, AreWith}
use Rattle.scope_check.proofs.FoundLaws.{joined-assoc, joined-none}

-- predicates that agree everywhere are one
pub extensional : (A B : Seen) → ((k : Key) → A k ≡ B k) → A ≡ B
extensional A B e = λ i k. e k i

-- a test that decides equality goes both ways
pub test-sym : {X : Type 0} (t : X → X → Bool) → ((x y : X) → Decides (t x y) (x ≡ y)) → (x y : X) → t x y ≡ t y x
test-sym t decides x y = same_from_decides (t x y) (t y x) (decides x y)
    (Decides-like (t y x) (λ e. sym e) (λ e. sym e) (decides y x))

same_name-sym : (x y : Bytes) → same_name x y ≡ same_name y x
same_name-sym x y = test-sym same_name same_name-Decides x y

pub plain_key-same : (x y : Bytes) → same_key (plain_key x) (plain_key y) ≡ same_name x y
plain_key-same x y = and-true (same_name x y)

-- one of the names is seen, or stands again after itself
some_seen : Seen → List Bytes → Bool
some_seen L xs = list_any (λ x. L (plain_key x)) xs

mixed : (a b c d e : Bool) → (a || ((b || c) || (d || e))) ≡ ((a || b) || ((c || d) || e))
mixed true b c d e = refl
mixed false true c d e = refl
mixed false false true d e = refl
mixed false false false d e = refl

pub swapped : (a b c d : Bool) → ((a || b) || (c || d)) ≡ ((a || c) || (b || d))
swapped true b c d = refl
swapped false true true d = refl
swapped false true false d = refl
swapped false false true d = refl
swapped false false false d = refl

-- a name more is seen
one_more : (L : Seen) (x : Bytes) (xs : List Bytes) →
    list_any (λ y. L (plain_key y) || same_key (plain_key y) (plain_key x)) xs ≡
    (list_any (λ y. L (plain_key y)) xs || list_any (same_name x) xs)
one_more L x [] = refl
one_more L x (y ∷ ys) =
    let test : same_key (plain_key y) (plain_key x) ≡ same_name x y = plain_key-same y x ∙ same_name-sym y x in
    rw (test, one_more L x ys) (swapped (L (plain_key y)) (same_name x y) (list_any (λ z. L (plain_key z)) ys)
    (list_any (same_name x) ys))

pub repeats_after-is : (L : Seen) (xs : List Bytes) →
    repeats_after L xs ≡ (list_any (λ x. L (plain_key x)) xs || repeats xs)
repeats_after-is L [] = refl
repeats_after-is L (x ∷ xs) =
    ap (λ b. L (plain_key x) || b) (repeats_after-is (λ k. L k || same_key k (plain_key x)) xs ∙
    ap (λ b. b || repeats xs) (one_more L x xs)) ∙
    last (L (plain_key x)) (list_any (λ y. L (plain_key y)) xs) (list_any (same_name x) xs) (repeats xs)
  where
    last : (a b c d : Bool) → (a || ((b || c) || d)) ≡ ((a || b) || (c || d))
    last true b c d = refl
    last false true c d = refl
    last false false c d = refl

-- the names up to a place are in keys after others, and what was found, with what is found in the rest, is the whole
pub record Noting (old : List Key) (names : List Bytes) (i : ℕ) (keys : List Key) (before now : Found) : Type 0 where
  pub added : AreWith old (map plain_key (take i names)) keys
  pub rest : joined now (found_if bad_parameters (repeats_after (among keys) (drop i names))) ≡
      joined before (found_if bad_parameters (repeats_after (among old) names))

pub noting_begins : (old : List Key) (names : List Bytes) (before : Found) → Noting old names 0 old before before
noting_begins old names before = record { added = λ k. sym (or-false (among old k)); rest = refl }

-- one name more at the end
among-push : (ks : List Key) (x k : Key) → among (ks ++ x ∷ []) k ≡ (among ks k || same_key k x)
among-push ks x k = list_any-append (same_key k) ks (x ∷ []) ∙ ap (λ b. among ks k || b) (or-false (same_key k x))

pub noting_goes : (old : List Key) (names : List Bytes) (i : ℕ) (keys : List Key) (before now : Found) (x : Bytes)
    (keys' : List Key) (new : Found)
    → i < length names → x ≡ get_or names i x → Noting old names i keys before now →
    new ≡ joined now (found_if bad_parameters (among keys (plain_key x)))
    → ((k : Key) → among keys' k ≡ (among keys k || same_key k (plain_key x))) →
    Noting old names (i + 1) keys' before new
noting_goes old names i keys before now x keys' new within is noting found put = record {
  added = λ k. put k ∙ ap (λ b. b || same_key k (plain_key x)) (noting.added k) ∙
      or_assoc (among old k) (among (map plain_key (take i names)) k) (same_key k (plain_key x)) ∙
      ap (λ b. among old k || b) (sym (among-push (map plain_key (take i names)) (plain_key x) k) ∙
      ap (λ ks. among ks k) (sym taken));
  rest = ap (λ f. joined f (found_if bad_parameters (repeats_after (among keys') (drop (i + 1) names)))) found ∙
      joined-assoc now (found_if bad_parameters (among keys (plain_key x)))
      (found_if bad_parameters (repeats_after (among keys') (drop (i + 1) names))) ∙
      ap (λ L. joined now (found_if bad_parameters (among keys (plain_key x) || repeats_after L (drop (i + 1) names))))
      (extensional (among keys') (λ k. among keys k || same_key k (plain_key x)) put) ∙
      ap (λ xs. joined now (found_if bad_parameters (repeats_after (among keys) xs))) (sym dropped) ∙ noting.rest;
}
  where
    taken : map plain_key (take (i + 1) names) ≡ map plain_key (take i names) ++ plain_key x ∷ []
    taken = map_more plain_key names i x within ∙ ap (λ y. map plain_key (take i names) ++ plain_key y ∷ []) (sym is)

    dropped : drop i names ≡ x ∷ drop (i + 1) names
    dropped = drop_more names i x within ∙ ap (λ y. y ∷ drop (i + 1) names) (sym is)

pub noting_ends : (old : List Key) (names : List Bytes) (i : ℕ) (keys : List Key) (before now : Found) →
    length names ≤ i → Noting old names i keys before now
    → AreWith old (map plain_key names) keys ×
    (now ≡ joined before (found_if bad_parameters (repeats_after (among old) names)))
noting_ends old names i keys before now past noting = (
  λ k. noting.added k ∙ ap (λ xs. among old k || among (map plain_key xs) k) (take_all i names past),
  sym (joined-none now) ∙
      ap (λ xs. joined now (found_if bad_parameters (repeats_after (among keys) xs))) (sym (drop_all i names past)) ∙
      noting.rest,
)

-- names and others together
together : (xs ys : List Bytes) →
    repeats (xs ++ ys) ≡ (repeats xs || (list_any (λ y. among (map plain_key xs) (plain_key y)) ys || repeats ys))
together [] ys = ap (λ b. b || repeats ys) (sym (nothing_among ys))
  where
    nothing_among : (ys : List Bytes) → list_any (λ y. false) ys ≡ false
    nothing_among [] = refl
    nothing_among (y ∷ ys) = nothing_among ys
together (x ∷ xs) ys =
    ap (λ b. b || repeats (xs ++ ys)) (list_any-append (same_name x) xs ys) ∙
    ap (λ b. (list_any (same_name x) xs || list_any (same_name x) ys) || b) (together xs ys) ∙
    exchanged (list_any (same_name x) xs) (list_any (same_name x) ys) (repeats xs)
    (list_any (λ y. among (map plain_key xs) (plain_key y)) ys) (repeats ys) ∙
    ap (λ b. (list_any (same_name x) xs || repeats xs) || (b || repeats ys)) (sym (also ys))
  where
    exchanged : (a b c d e : Bool) → ((a || b) || (c || (d || e))) ≡ ((a || c) || ((b || d) || e))
    exchanged true b c d e = refl
    exchanged false true true d e = refl
    exchanged false true false d e = refl
    exchanged false false true d e = refl
    exchanged false false false d e = refl

    also : (zs : List Bytes) → list_any (λ y. same_key (plain_key y) (plain_key x) ||
        among (map plain_key xs) (plain_key y)) zs ≡
        (list_any (same_name x) zs || list_any (λ y. among (map plain_key xs) (plain_key y)) zs)
    also [] = refl
    also (z ∷ zs) =
        let test : same_key (plain_key z) (plain_key x) ≡ same_name x z = plain_key-same z x ∙ same_name-sym z x in
        rw (test, also zs) (swapped (same_name x z) (among (map plain_key xs) (plain_key z)) (list_any (same_name x) zs)
        (list_any (λ y. among (map plain_key xs) (plain_key y)) zs))

pub repeats_together : (xs ys : List Bytes) (ks : List Key) → AreWith [] (map plain_key xs) ks
    → (repeats_after (among []) xs || repeats_after (among ks) ys) ≡ repeats (xs ++ ys)
repeats_together xs ys ks noted =
    ap (λ b. b || repeats_after (among ks) ys) (repeats_after-is (among []) xs ∙
    ap (λ b. b || repeats xs) (none_seen xs)) ∙
    ap (λ b. repeats xs || b) (ap (λ L. repeats_after L ys)
    (extensional (among ks) (among (map plain_key xs)) noted) ∙ repeats_after-is (among (map plain_key xs)) ys) ∙
    sym (together xs ys)
  where
    none_seen : (zs : List Bytes) → list_any (λ y. false) zs ≡ false
    none_seen [] = refl
    none_seen (z ∷ zs) = none_seen zs
