-- The names of the standard primitives, and what registering them gives.
use Rattle.std.proofs.Common.{◌≡◌, ◌+◌, ◌<◌, ◌≤◌, ◌⊎◌, ◌↔◌, ◌&&◌, ◌++◌, ◌∷◌, ◌∙◌, ap, ℕ, zero, suc, Bool, true, false, true≢false, not, List, [], length, map, take, get_or, slice_index_or, subst, sym, refl, arith, inl, inr, Contains, Result, Ok, Err, IfErr}
use Rattle.std.specs.Prelude.{bytes_eq}
use Rattle.std.specs.List.{list_any}
use Rattle.std.proofs.lemmas.List.{get_or_default, map-append, take_more, take_all}
use Rattle.std.proofs.lemmas.Slice.Eq.{bytes_eq-Decides}
use Rattle.std.proofs.lemmas.Bool.{or_parts}
use Rattle.term_model.specs.declared.fault.Fault.{Fault}
use Rattle.term_model.specs.declared.fault.Fault.TheVariants.{Memory, DuplicateDeclaration}
use Rattle.term_model.specs.PrimNames.{NameKey}
use Rattle.prim_registry.specs.declared.primitive.Primitive.{Primitive}
use Rattle.prim_registry.specs.declared.registry.Registry.{Registry}
use Rattle.prim_registry.specs.Entries.{entry_of, entries_of, primitives_of}
use Rattle.prim_registry.specs.RegistryNames.{name_of, HasName}
use Rattle.prim_registry.specs.declared.standard_primitive.StandardPrimitive.{StandardPrimitive}
use Rattle.prim_registry.specs.StandardPrimitives.{key_of, standard_primitives, standard_entries}
use Rattle.strc_command.specs.Primitives.{names_of}

-- a name that is compared with each name of a list and found to be another
absent : (names : List (List ℕ)) (name : List ℕ) → list_any (bytes_eq name) names ≡ false → Contains names name → ⊥
absent [] name none (k, below, is) = absurd (omega arith)
absent (n ∷ ns) name none (zero, below, is) =
    true≢false (sym ((bytes_eq-Decides name n).1 (sym is)) ∙ (or_parts _ _ none).0)
absent (n ∷ ns) name none (suc k, below, is) = absent ns name (or_parts _ _ none).1 (k, omega arith, is)

-- no name stands twice
abbrev no_repeats : List (List ℕ) → Bool
no_repeats [] = true
no_repeats (n ∷ ns) = not (list_any (bytes_eq n) ns) && no_repeats ns

both : (a b : Bool) → (not a && b) ≡ true → (a ≡ false) × (b ≡ true)
both true b all = absurd (true≢false (sym all))
both false b all = (refl, all)

there : (ps : List StandardPrimitive) (i : ℕ) (p : StandardPrimitive) → i < length ps → p ≡ get_or ps i p →
    Contains (names_of (map key_of ps)) (key_of p).0
there [] i p below is = absurd (omega arith)
there (x ∷ ps) zero p below is = (0, omega arith, ap (λ y. (key_of y).0) (sym is))
there (x ∷ ps) (suc i) p below is = let found = there ps i p (omega arith) is in let at = found.1 in
    (suc found.0, omega arith, found.2)

-- where no name stands twice, a primitive's is not among those before it
not_before : (ps : List StandardPrimitive) (i : ℕ) (p : StandardPrimitive) →
    no_repeats (names_of (map key_of ps)) ≡ true → i < length ps → p ≡ get_or ps i p
    → Contains (names_of (map key_of (take i ps))) (key_of p).0 → ⊥
not_before [] i p once below is h = absurd (omega arith)
not_before (x ∷ ps) zero p once below is (k, within, at) = absurd (omega arith)
not_before (x ∷ ps) (suc i) p once below is (zero, within, at) =
    let apart = both (list_any (bytes_eq (key_of x).0) (names_of (map key_of ps)))
    (no_repeats (names_of (map key_of ps))) once in
    absent (names_of (map key_of ps))
    (key_of x).0 apart.0 (subst (λ name. Contains (names_of (map key_of ps)) name) (sym at)
    (there ps i p (omega arith) is))
not_before (x ∷ ps) (suc i) p once below is (suc k, within, at) =
    let apart = both (list_any (bytes_eq (key_of x).0) (names_of (map key_of ps)))
    (no_repeats (names_of (map key_of ps))) once in
    not_before ps i p apart.1 (omega arith) is (k, omega arith, at)

-- a primitive's name is not among those that were registered before it
pub fresh : (i : ℕ) (p : StandardPrimitive) (keys : List NameKey) → i < length standard_primitives →
    keys ≡ map key_of (take i standard_primitives)
    → Contains (names_of keys) (key_of (slice_index_or standard_primitives i p)).0 → ⊥
fresh i p keys below so h =
    not_before standard_primitives i (slice_index_or standard_primitives i p)
    refl below (get_or_default standard_primitives i p (slice_index_or standard_primitives i p) below)
    (subst (λ ks. Contains (names_of ks) (key_of (slice_index_or standard_primitives i p)).0) so h)

-- one primitive more
pub one_more : (i : ℕ) (p : StandardPrimitive) (old new : List NameKey) → i < length standard_primitives →
    old ≡ map key_of (take i standard_primitives)
    → new ≡ old ++ key_of (slice_index_or standard_primitives i p) ∷ [] →
    new ≡ map key_of (take (i + 1) standard_primitives)
one_more i p old new below so added =
    added ∙ ap (λ keys. keys ++ key_of (slice_index_or standard_primitives i p) ∷ []) so
    ∙ sym (ap (map key_of) (take_more standard_primitives i p below) ∙
    map-append key_of (take i standard_primitives) (slice_index_or standard_primitives i p ∷ []))

-- all of them
pub whole : (i : ℕ) (keys : List NameKey) → length standard_primitives ≤ i →
    keys ≡ map key_of (take i standard_primitives) → keys ≡ standard_entries
whole i keys end so = so ∙ ap (map key_of) (take_all i standard_primitives end)

-- the names that a registry has
named : {M X Y : Type 0} {F : X → Type 0} {G : Y → Type 0} {g : _} {h : _} (ps : List (Primitive M X Y F G g h)) →
    map name_of ps ≡ names_of (map entry_of ps)
named [] = refl
named (p ∷ ps) = ap (λ xs. p.name ∷ xs) (named ps)

-- a name that the registry lacks can be registered, but for memory
pub memory_alone : {M X Y : Type 0} {F : X → Type 0} {G : Y →
    Type 0} {g : _} {h : _} {A : Type 0} (r : Registry M X Y F G g h) (name other : List ℕ) (w : Result A Fault) →
    other ≡ name
    → (Contains (names_of (entries_of r)) name → ⊥) → ((w ≡ Err DuplicateDeclaration) ↔ HasName r other)
    → IfErr w (λ fault. (fault ≡ DuplicateDeclaration) ⊎ (fault ≡ Memory)) → IfErr w (λ fault. fault ≡ Memory)
memory_alone r name other (Ok v) is free duplicate kinds = tt
memory_alone r name other (Err fault) is free duplicate (inl same) =
    absurd (free (subst (λ xs. Contains xs name) (named (primitives_of r))
    (subst (HasName r) is (duplicate.0 (ap Err same)))))
memory_alone r name other (Err fault) is free duplicate (inr memory) = memory
