-- A set of names that takes the primitives that occur in the parts of a core, one after another.
use Rattle.std.proofs.Common.{◌≡◌, ◌+◌, ◌<◌, ◌≤◌, ◌⊎◌, ◌++◌, inl, inr, ℕ, List, [], ◌∷◌, Contains, length, map, get_or, drop, suc, add-one, sym, ◌∙◌, ap, subst, arith}
use Rattle.std.specs.Prelude.{◌↔◌}
use Rattle.std.proofs.Math.Seq.{drop-cons}
use Rattle.std.proofs.lemmas.List.{drop_all}
use Rattle.std.proofs.lemmas.List.Elements.{Contains-append_left, Contains-push, Contains-push_cases}
use Rattle.term_model.specs.PrimNames.{NameKey}
use Rattle.term_model.specs.NameSet.{IsInserted}
use Rattle.core_lang.specs.declared.program.CoreArm.{CoreArm}
use Rattle.core_lang.specs.declared.program.CoreDef.{CoreDef}
use Rattle.core_lang.specs.declared.program.CorePattern.{CorePattern}
use Rattle.core_lang.specs.declared.program.CoreStrategy.{CoreStrategy}
use Rattle.core_lang.specs.Primitives.{OccursIn, OccursInAny, OccursInDefinitions, AreOccurring}
use Rattle.core_lang.specs.PrimitivesOfCode.{Adds, OccursInArm, OccursInArms}
use Rattle.core_lang.specs.Program.{seq, primitive, patterns_count}
use Rattle.core_lang.specs.Resolved.{ResolvedStrategy, ResolvedDefinitions}
use Rattle.core_lang.specs.Views.{Arm, arm_of, chain, def_of, definitions_of, first_of, patterns_of, strategies_in, strategies_of, strategy_of}
use Rattle.core_lang.proofs.RangeLaws.{counted_patterns}

abbrev Occurs : Type 1
Occurs = List ℕ → ℕ → Type 0

abbrev InStrategies : List CoreStrategy → Occurs
InStrategies ss f k = OccursInAny f k (strategies_of ss)

abbrev InArms : List CoreArm → Occurs
InArms arms f k = OccursInArms f k (map arm_of arms)

abbrev InDefinitions : List CoreDef → Occurs
InDefinitions ds f k = OccursInDefinitions f k (definitions_of ds)

-- the same, said of what is the same
adds_same : {old new : List NameKey} {P Q : Occurs} → ((f : List ℕ) (k : ℕ) → P f k ↔ Q f k) → Adds old P new →
    Adds old Q new
adds_same {old} {new} {P} {Q} same x =
    record { each = λ f k. (λ h. to f k ((x.each f k).0 h), λ h. (x.each f k).1 (from f k h)) }
  where
    to : (f : List ℕ) (k : ℕ) → Contains old (f, k) ⊎ P f k → Contains old (f, k) ⊎ Q f k
    to f k (inl h) = inl h
    to f k (inr h) = inr ((same f k).0 h)

    from : (f : List ℕ) (k : ℕ) → Contains old (f, k) ⊎ Q f k → Contains old (f, k) ⊎ P f k
    from f k (inl h) = inl h
    from f k (inr h) = inr ((same f k).1 h)

-- one part after another
pub adds_both : {old mid new : List NameKey} {P Q : Occurs} → Adds old P mid → Adds mid Q new →
    Adds old (λ f k. P f k ⊎ Q f k) new
adds_both {old} {mid} {new} {P} {Q} x y =
    record { each = λ f k. (λ h. to f k ((y.each f k).0 h), λ h. (y.each f k).1 (from f k h)) }
  where
    before : (f : List ℕ) (k : ℕ) → Contains old (f, k) ⊎ P f k → Contains old (f, k) ⊎ (P f k ⊎ Q f k)
    before f k (inl h) = inl h
    before f k (inr h) = inr (inl h)

    to : (f : List ℕ) (k : ℕ) → Contains mid (f, k) ⊎ Q f k → Contains old (f, k) ⊎ (P f k ⊎ Q f k)
    to f k (inl h) = before f k ((x.each f k).0 h)
    to f k (inr h) = inr (inr h)

    from : (f : List ℕ) (k : ℕ) → Contains old (f, k) ⊎ (P f k ⊎ Q f k) → Contains mid (f, k) ⊎ Q f k
    from f k (inl h) = inl ((x.each f k).1 (inl h))
    from f k (inr (inl h)) = inl ((x.each f k).1 (inr h))
    from f k (inr (inr h)) = inr h

abbrev key : List ℕ → ℕ → NameKey
key f k = (f, k)

same_key : {f g : List ℕ} {k j : ℕ} → g ≡ f → j ≡ k → key g j ≡ key f k
same_key is as_many i = key (is i) (as_many i)

-- one name with its number of arguments
adds_one : (old new : List NameKey) (g : List ℕ) (j : ℕ) → IsInserted old (g, j) new →
    Adds old (λ f k. (g ≡ f) × (j ≡ k)) new
adds_one old new g j (inl there) =
    record {
      each = λ f k. (
        λ h. inl (subst (λ xs. Contains xs (f, k)) there.1 h),
        λ h. subst (λ xs. Contains xs (f, k)) (sym there.1) (by f k h),
      );
    }
  where
    by : (f : List ℕ) (k : ℕ) → Contains old (f, k) ⊎ ((g ≡ f) × (j ≡ k)) → Contains old (f, k)
    by f k (inl h) = h
    by f k (inr is) = subst (λ x. Contains old x) (same_key is.0 is.1) there.0
adds_one old new g j (inr added) = record {
  each = λ f k. (
    λ h. to f k (Contains-push_cases old (g, j) (f, k) (subst (λ xs. Contains xs (f, k)) added.1 h)),
    λ h. subst (λ xs. Contains xs (f, k)) (sym added.1) (from f k h),
  );
}
  where
    to : (f : List ℕ) (k : ℕ) → Contains old (f, k) ⊎ (key g j ≡ key f k) → Contains old (f, k) ⊎ ((g ≡ f) × (j ≡ k))
    to f k (inl h) = inl h
    to f k (inr is) = inr (ap (λ x. x.0) is, ap (λ x. x.1) is)

    from : (f : List ℕ) (k : ℕ) → Contains old (f, k) ⊎ ((g ≡ f) × (j ≡ k)) → Contains (old ++ (g, j) ∷ []) (f, k)
    from f k (inl h) = Contains-append_left old ((g, j) ∷ []) (f, k) h
    from f k (inr is) = subst (λ x. Contains (old ++ (g, j) ∷ []) x) (same_key is.0 is.1) (Contains-push old (g, j))

-- with the parts that are left, these names are those of all parts
pub record AddsSoFar (old : List NameKey) (P left : Occurs) (new : List NameKey) : Type 0 where
  pub each : (f : List ℕ) (k : ℕ) → (Contains new (f, k) ⊎ left f k) ↔ (Contains old (f, k) ⊎ P f k)

pub adds_start : {old : List NameKey} {P : Occurs} → AddsSoFar old P P old
adds_start = record { each = λ f k. (λ h. h, λ h. h) }

-- a list of parts
module _ {A : Type 0} (Each : A → Occurs) (InAny : List A → Occurs)
    (first : (x : A) (xs : List A) (f : List ℕ) (k : ℕ) → InAny (x ∷ xs) f k ↔ (Each x f k ⊎ InAny xs f k)) where
  adds_next : (xs : List A) (i : ℕ) (x : A) {old mid new : List NameKey} → i < length xs → x ≡ get_or xs i x →
      AddsSoFar old (InAny xs) (InAny (drop i xs)) mid → Adds mid (Each x) new →
      AddsSoFar old (InAny xs) (InAny (drop (i + 1) xs)) new
  adds_next xs i x {old} {mid} {new} below is so_far more =
      record { each = λ f k. (λ h. (so_far.each f k).0 (to f k h), λ h. from f k ((so_far.each f k).1 h)) }
    where
      cut : drop i xs ≡ x ∷ drop (i + 1) xs
      cut = rw add-one (drop-cons xs i x below ∙ ap (λ u. u ∷ drop (suc i) xs) (sym is))

      left : (f : List ℕ) (k : ℕ) → InAny (drop i xs) f k ↔ (Each x f k ⊎ InAny (drop (i + 1) xs) f k)
      left f k = subst (λ ys. InAny ys f k ↔ (Each x f k ⊎ InAny (drop (i + 1) xs) f k)) (sym cut)
          (first x (drop (i + 1) xs) f k)

      before : (f : List ℕ) (k : ℕ) → Contains mid (f, k) ⊎ Each x f k → Contains mid (f, k) ⊎ InAny (drop i xs) f k
      before f k (inl h) = inl h
      before f k (inr h) = inr ((left f k).1 (inl h))

      to : (f : List ℕ) (k : ℕ) → Contains new (f, k) ⊎ InAny (drop (i + 1) xs) f k →
          Contains mid (f, k) ⊎ InAny (drop i xs) f k
      to f k (inl h) = before f k ((more.each f k).0 h)
      to f k (inr h) = inr ((left f k).1 (inr h))

      after : (f : List ℕ) (k : ℕ) → Each x f k ⊎ InAny (drop (i + 1) xs) f k →
          Contains new (f, k) ⊎ InAny (drop (i + 1) xs) f k
      after f k (inl h) = inl ((more.each f k).1 (inr h))
      after f k (inr h) = inr h

      from : (f : List ℕ) (k : ℕ) → Contains mid (f, k) ⊎ InAny (drop i xs) f k →
          Contains new (f, k) ⊎ InAny (drop (i + 1) xs) f k
      from f k (inl h) = inl ((more.each f k).1 (inl h))
      from f k (inr h) = after f k ((left f k).0 h)

module _ {A : Type 0} (InAny : List A → Occurs) (none : (f : List ℕ) (k : ℕ) → InAny [] f k → ⊥) where
  adds_all : (xs : List A) (i : ℕ) {old new : List NameKey} → length xs ≤ i →
      AddsSoFar old (InAny xs) (InAny (drop i xs)) new → Adds old (InAny xs) new
  adds_all xs i {old} {new} past so_far =
      record { each = λ f k. (λ h. (so_far.each f k).0 (inl h), λ h. by f k ((so_far.each f k).1 h)) }
    where
      by : (f : List ℕ) (k : ℕ) → Contains new (f, k) ⊎ InAny (drop i xs) f k → Contains new (f, k)
      by f k (inl h) = h
      by f k (inr h) = absurd (none f k (subst (λ ys. InAny ys f k) (drop_all i xs past) h))

-- lists of strategies, of arms and of definitions
pub strategies_next : (ss : List CoreStrategy) (i : ℕ) (s : CoreStrategy) {old mid new : List NameKey} → i < length ss →
    s ≡ get_or ss i s →
    AddsSoFar old (InStrategies ss) (InStrategies (drop i ss)) mid →
    Adds mid (λ f k. OccursIn f k (strategy_of s)) new →
    AddsSoFar old (InStrategies ss) (InStrategies (drop (i + 1) ss)) new
strategies_next = adds_next (λ s f k. OccursIn f k (strategy_of s)) InStrategies (λ s ss f k. (λ h. h, λ h. h))

pub strategies_all : (ss : List CoreStrategy) (i : ℕ) {old new : List NameKey} → length ss ≤ i →
    AddsSoFar old (InStrategies ss) (InStrategies (drop i ss)) new → Adds old (InStrategies ss) new
strategies_all = adds_all InStrategies (λ f k h. h)

pub arms_next : (arms : List CoreArm) (i : ℕ) (a : CoreArm) {old mid new : List NameKey} → i < length arms →
    a ≡ get_or arms i a →
    AddsSoFar old (InArms arms) (InArms (drop i arms)) mid → Adds mid (λ f k. OccursInArm f k (arm_of a)) new →
    AddsSoFar old (InArms arms) (InArms (drop (i + 1) arms)) new
arms_next = adds_next (λ a f k. OccursInArm f k (arm_of a)) InArms (λ a arms f k. (λ h. h, λ h. h))

pub arms_all : (arms : List CoreArm) (i : ℕ) {old new : List NameKey} → length arms ≤ i →
    AddsSoFar old (InArms arms) (InArms (drop i arms)) new → Adds old (InArms arms) new
arms_all = adds_all InArms (λ f k h. h)

pub definitions_next : (ds : List CoreDef) (i : ℕ) (d : CoreDef) {old mid new : List NameKey} → i < length ds →
    d ≡ get_or ds i d →
    AddsSoFar old (InDefinitions ds) (InDefinitions (drop i ds)) mid →
    Adds mid (λ f k. OccursIn f k (def_of d).body) new →
    AddsSoFar old (InDefinitions ds) (InDefinitions (drop (i + 1) ds)) new
definitions_next = adds_next (λ d f k. OccursIn f k (def_of d).body) InDefinitions (λ d ds f k. (λ h. h, λ h. h))

pub definitions_all : (ds : List CoreDef) (i : ℕ) {old new : List NameKey} → length ds ≤ i →
    AddsSoFar old (InDefinitions ds) (InDefinitions (drop i ds)) new → Adds old (InDefinitions ds) new
definitions_all = adds_all InDefinitions (λ f k h. h)

-- what occurs in a strategy that is this one
pub adds_at : {old new : List NameKey} {s z : ResolvedStrategy} → s ≡ z → Adds old (λ f k. OccursIn f k z) new →
    Adds old (λ f k. OccursIn f k s) new
adds_at {old} {new} is x = subst (λ w. Adds old (λ f k. OccursIn f k w) new) (sym is) x

chain_occurs : (f : List ℕ) (k : ℕ) (s : ResolvedStrategy) (ss : List ResolvedStrategy) →
    (OccursIn f k s ⊎ OccursInAny f k (strategies_in ss)) ↔ OccursIn f k (chain s ss)
chain_occurs f k s [] = (to, λ h. inl h)
  where
    to : OccursIn f k s ⊎ OccursInAny f k (strategies_in []) → OccursIn f k s
    to (inl h) = h
    to (inr h) = absurd h
chain_occurs f k s (r ∷ rs) = let others = chain_occurs f k r rs in (λ h. to others.0 h, λ h. from others.1 h)
  where
    to : (OccursIn f k r ⊎ OccursInAny f k (strategies_in rs) → OccursIn f k (chain r rs)) →
        OccursIn f k s ⊎ OccursInAny f k (strategies_in (r ∷ rs)) → OccursIn f k (chain s (r ∷ rs))
    to others (inl h) = inl h
    to others (inr h) = inr (others h)

    from : (OccursIn f k (chain r rs) → OccursIn f k r ⊎ OccursInAny f k (strategies_in rs)) →
        OccursIn f k (chain s (r ∷ rs)) → OccursIn f k s ⊎ OccursInAny f k (strategies_in (r ∷ rs))
    from others (inl h) = inl h
    from others (inr h) = inr (others h)

choice_occurs : (f : List ℕ) (k : ℕ) (arms : List Arm) (s : ResolvedStrategy) →
    (OccursInArms f k arms ⊎ OccursIn f k s) ↔ OccursIn f k (first_of arms s)
choice_occurs f k [] s = (to, λ h. inr h)
  where
    to : OccursInArms f k [] ⊎ OccursIn f k s → OccursIn f k s
    to (inl h) = absurd h
    to (inr h) = h
choice_occurs f k (a ∷ arms) s = let others = choice_occurs f k arms s in (λ h. to others.0 h, λ h. from others.1 h)
  where
    to : (OccursInArms f k arms ⊎ OccursIn f k s → OccursIn f k (first_of arms s)) →
        OccursInArms f k (a ∷ arms) ⊎ OccursIn f k s → OccursIn f k (first_of (a ∷ arms) s)
    to others (inl (inl (inl h))) = inl h
    to others (inl (inl (inr h))) = inr (inl h)
    to others (inl (inr h)) = inr (inr (others (inl h)))
    to others (inr h) = inr (inr (others (inr h)))

    last : OccursInArms f k arms ⊎ OccursIn f k s → OccursInArms f k (a ∷ arms) ⊎ OccursIn f k s
    last (inl h) = inl (inr h)
    last (inr h) = inr h

    from : (OccursIn f k (first_of arms s) → OccursInArms f k arms ⊎ OccursIn f k s) →
        OccursIn f k (first_of (a ∷ arms) s) → OccursInArms f k (a ∷ arms) ⊎ OccursIn f k s
    from others (inl h) = inl (inl (inl h))
    from others (inr (inl h)) = inl (inl (inr h))
    from others (inr (inr h)) = last (others h)

-- a sequence, and a choice, of the code
pub sequence_adds : {old one two new : List NameKey} {z : ResolvedStrategy} (s r : ResolvedStrategy)
    (ss : List ResolvedStrategy) → z ≡ seq s (chain r ss) →
    Adds old (λ f k. OccursIn f k s) one → Adds one (λ f k. OccursIn f k r) two →
    Adds two (λ f k. OccursInAny f k (strategies_in ss)) new → Adds old (λ f k. OccursIn f k z) new
sequence_adds s r ss is x y w = adds_at is (adds_both x (adds_same (λ f k. chain_occurs f k r ss) (adds_both y w)))

pub choice_adds : {old one two new : List NameKey} {z : ResolvedStrategy} (a : Arm) (arms : List Arm)
    (s : ResolvedStrategy) → z ≡ first_of (a ∷ arms) s →
    Adds old (λ f k. OccursInArm f k a) one → Adds one (λ f k. OccursInArms f k arms) two →
    Adds two (λ f k. OccursIn f k s) new → Adds old (λ f k. OccursIn f k z) new
choice_adds {old} a arms s is x y w =
    adds_at is (adds_same (λ f k. choice_occurs f k (a ∷ arms) s) (adds_both (adds_both x y) w))

-- a call of a primitive
pub primitive_adds : {old new : List NameKey} {z : ResolvedStrategy} (g : List ℕ) (j : ℕ) (f : List ℕ)
    (ps : List CorePattern) → z ≡ primitive f (patterns_of ps) →
    g ≡ f → j ≡ length ps → IsInserted old (g, j) new → Adds old (λ f k. OccursIn f k z) new
primitive_adds {old} {new} g j f ps is same as_many added =
    adds_at is (adds_one old new f (patterns_count (patterns_of ps))
    (subst (λ x. IsInserted old x new) (same_key same (as_many ∙ sym (counted_patterns ps))) added))

-- the names start with none
pub all_occurring : (names start : List NameKey) (C : ResolvedDefinitions) → start ≡ [] →
    Adds start (λ f k. OccursInDefinitions f k C) names → AreOccurring names C
all_occurring names start C is x f k = (λ h. by ((x.each f k).0 h), λ h. (x.each f k).1 (inr h))
  where
    none : Contains [] (key f k) → OccursInDefinitions f k C
    none h = absurd (omega (arith, h.1))

    by : Contains start (f, k) ⊎ OccursInDefinitions f k C → OccursInDefinitions f k C
    by (inl h) = none (subst (λ xs. Contains xs (key f k)) is h)
    by (inr h) = h
