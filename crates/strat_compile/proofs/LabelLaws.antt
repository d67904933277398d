-- Where labels start: what is emitted leaves the labels that there were as they are.
use Rattle.std.proofs.Common.{◌≡◌, ◌+◌, ◌<◌, ◌≤◌, ◌⊎◌, inl, inr, ◌++◌, ℕ, zero, suc, Option, Some, List, [], ◌∷◌, length, set, replicate, refl, ap, ◌∙◌, arith}
use Rattle.std.specs.Prelude.{slice_get}
use Rattle.std.proofs.lemmas.List.{length-append, length-replicate}
use Rattle.core_lang.specs.declared.coordinate.Coordinate.{Coordinate}
use Rattle.core_lang.specs.Program.{Patterns}
use Rattle.core_lang.specs.Resolved.{ResolvedStrategy, ResolvedStrategies, ResolvedDefinitions}
use Rattle.strat_code.specs.Code.{Argument}
use Rattle.strat_compile.specs.Emission.{Emits, emits_id, emits_fail, emits_seq, emits_choice, emits_select, emits_match, emits_build, emits_scope, emits_inner, emits_all, emits_one, emits_some, emits_let, emits_call, emits_inline, emits_known, emits_open, emits_argument, emits_specialization, emits_same, emits_parameter, emits_primitive, EmitsCall, calls, EmitsChain, chain_end, chain_more, EmitsArm, emits_arm, EmitsThen, then_id, then_code, EmitsDefinitions, emits_definitions, EmitsBodies, emits_no_bodies, emits_more_bodies, EmitsBody, emits_body, emits_scope_body, EmitsArguments, emits_no_arguments, emits_code_argument, emits_parameter_argument, emits_known_argument}
use Rattle.strat_compile.specs.Chains.{Body}
use Rattle.strat_compile.specs.Sites.{Site}
use Rattle.strat_compile.specs.Output.{Emitted, count_of}

-- each label that there was starts where it did
pub record Keeps (old new : List ℕ) : Type 0 where
  pub long : length old ≤ length new
  pub same : (l : ℕ) → l < length old → slice_get new l ≡ slice_get old l

-- but for `count` labels from `label` on
pub record KeepsBut (label count : ℕ) (old new : List ℕ) : Type 0 where
  pub long : length old ≤ length new
  pub same : (l : ℕ) → l < length old → (l < label) ⊎ (label + count ≤ l) → slice_get new l ≡ slice_get old l

nothing_new : {A : List ℕ} → Keeps A A
nothing_new = record { long = omega arith; same = λ l h. refl }

pub then_keeps : {A B D : List ℕ} → Keeps A B → Keeps B D → Keeps A D
then_keeps one two = record {
  long = omega (arith, one.long, two.long);
  same =
      λ l h. two.same l (omega (arith, h, one.long)) ∙ one.same l h;
}

got_front : (xs ys : List ℕ) (l : ℕ) → l < length xs → slice_get (xs ++ ys) l ≡ slice_get xs l
got_front [] ys l h = absurd (omega (arith, h))
got_front (x ∷ xs) ys zero h = refl
got_front (x ∷ xs) ys (suc l) h = got_front xs ys l (omega (arith, h))

pub set_long : (xs : List ℕ) (i v : ℕ) → length (set xs i v) ≡ length xs
set_long [] i v = refl
set_long (x ∷ xs) zero v = refl
set_long (x ∷ xs) (suc i) v = ap suc (set_long xs i v)

pub set_other : (xs : List ℕ) (i v l : ℕ) → (l < i) ⊎ (suc i ≤ l) → slice_get (set xs i v) l ≡ slice_get xs l
set_other [] i v l h = refl
set_other (x ∷ xs) zero v zero (inl h) = absurd (omega (arith, h))
set_other (x ∷ xs) zero v zero (inr h) = absurd (omega (arith, h))
set_other (x ∷ xs) zero v (suc l) h = refl
set_other (x ∷ xs) (suc i) v zero h = refl
set_other (x ∷ xs) (suc i) v (suc l) (inl h) = set_other xs i v l (inl (omega (arith, h)))
set_other (x ∷ xs) (suc i) v (suc l) (inr h) = set_other xs i v l (inr (omega (arith, h)))

pub set_here : (xs : List ℕ) (i v : ℕ) → i < length xs → slice_get (set xs i v) i ≡ Some v
set_here [] i v h = absurd (omega (arith, h))
set_here (x ∷ xs) zero v h = refl
set_here (x ∷ xs) (suc i) v h = set_here xs i v (omega (arith, h))

-- labels more, of which these are set
all_but_new : {A B : List ℕ} {label : ℕ} (k : ℕ) → label ≡ length A → KeepsBut label k (A ++ replicate k 1) B →
    Keeps A B
all_but_new {A} {B} {label} k is h =
    let more : length (A ++ replicate k 1) ≡ length A + k =
    length-append A (replicate k 1) ∙ ap (λ n. length A + n) (length-replicate k 1) in
    record {
      long = omega (arith, more, h.long);
      same =
          λ l below. h.same l (omega (arith, more, below)) (inl (omega (arith, is, below))) ∙
          got_front A (replicate k 1) l below;
    }

one_more : {A B D : List ℕ} (label count v : ℕ) → Keeps A B → KeepsBut (suc label) count (set B label v) D →
    KeepsBut label (suc count) A D
one_more {A} {B} {D} label count v one others =
    let kept = set_long B label v in
    record { long = omega (arith, one.long, kept, others.long); same = λ l below apart. go l below apart }
  where
    go : (l : ℕ) → l < length A → (l < label) ⊎ (label + suc count ≤ l) → slice_get D l ≡ slice_get A l
    go l below (inl h) =
        let kept = set_long B label v in
        others.same l (omega (arith, below, one.long, kept)) (inl (omega (arith, h))) ∙ set_other B label v l (inl h) ∙
        one.same l below
    go l below (inr h) =
        let kept = set_long B label v in
        others.same l (omega (arith, below, one.long, kept)) (inr (omega (arith, h))) ∙
        set_other B label v l (inr (omega (arith, h))) ∙ one.same l below

-- one label more, which is set
one_new : (A B : List ℕ) (v : ℕ) → Keeps (A ++ replicate 1 1) B → Keeps A (set B (length A) v)
one_new A B v h =
    let more : length (A ++ replicate 1 1) ≡ suc (length A) = length-append A (replicate 1 1) ∙ omega arith in
    let size = set_long B (length A) v in
    record {
      long = omega (arith, more, size, h.long);
      same = λ l below. set_other B (length A) v l (inl below) ∙ h.same l (omega (arith, more, below)) ∙
          got_front A (replicate 1 1) l below;
    }

mutual
  pub kept : {w : Option ℕ} {S : Site} {x : ℕ} {s : ResolvedStrategy} {o o1 : Emitted} → Emits w S x s o o1 →
      Keeps o.starts o1.starts
  kept emits_id = nothing_new
  kept emits_fail = nothing_new
  kept (emits_seq a b) = then_keeps (kept a) (kept b)
  kept (emits_choice a b) = then_keeps (kept a) (kept_arm b)
  kept (emits_select a) = kept_chain a
  kept emits_match = nothing_new
  kept emits_build = nothing_new
  kept (emits_scope a) = kept a
  kept (emits_inner a) = kept a
  kept (emits_all a) = kept a
  kept (emits_one a) = kept a
  kept (emits_some a) = kept a
  kept (emits_let a b) = then_keeps (kept_definitions refl a) (kept b)
  kept (emits_call a) = kept_call a
  kept (emits_inline at body given a) = kept a
  kept (emits_known given a) = kept a
  kept (emits_open at body given a) = kept a
  kept (emits_argument none given a) = kept a
  kept (emits_specialization {o = o} {o1 = o1} at body given a) =
      one_new o.starts o1.starts (length o1.code) (kept_body a)
  kept (emits_same n label at given is) = nothing_new
  kept (emits_parameter none) = nothing_new
  kept emits_primitive = nothing_new

  pub kept_call : {S : Site} {x : ℕ} {y : Coordinate} {ss : ResolvedStrategies} {ps : Patterns Coordinate}
      {o o1 : Emitted} → EmitsCall S x y ss ps o o1 → Keeps o.starts o1.starts
  kept_call (calls has entry a) = kept_arguments a

  pub kept_chain : {w : Option ℕ} {S : Site} {last : ℕ} {bs : List Body} {s : ResolvedStrategy} {o o1 : Emitted} →
      EmitsChain w S s bs last o o1 → Keeps o.starts o1.starts
  kept_chain (chain_end a) = kept a
  kept_chain (chain_more asks rooted a b) = then_keeps (kept_chain a) (kept b)

  pub kept_arm : {w : Option ℕ} {S : Site} {x to : ℕ} {s1 s2 : ResolvedStrategy} {o o1 : Emitted} →
      EmitsArm w S x s1 s2 to o o1 → Keeps o.starts o1.starts
  kept_arm (emits_arm a b) = then_keeps (kept_then a) (kept b)

  pub kept_then : {w : Option ℕ} {S : Site} {to : ℕ} {s : ResolvedStrategy} {o o1 : Emitted} → EmitsThen w S s to o o1 →
      Keeps o.starts o1.starts
  kept_then then_id = nothing_new
  kept_then (then_code a) = kept a

  pub kept_definitions : {S : Site} {label to : ℕ} {ds : ResolvedDefinitions} {o o1 : Emitted} →
      label ≡ length o.starts → EmitsDefinitions S label ds to o o1 → Keeps o.starts o1.starts
  kept_definitions is (emits_definitions {ds = ds} a) = all_but_new (count_of ds) is (kept_bodies a)

  pub kept_bodies : {S : Site} {label : ℕ} {ds : ResolvedDefinitions} {o o1 : Emitted} → EmitsBodies S label ds o o1 →
      KeepsBut label (count_of ds) o.starts o1.starts
  kept_bodies emits_no_bodies = record { long = omega arith; same = λ l h apart. refl }
  kept_bodies (emits_more_bodies {label = label} {ds = ds} a b) =
      one_more label (count_of ds) _ (kept_body a) (kept_bodies b)

  pub kept_body : {S : Site} {k : ℕ} {s : ResolvedStrategy} {o o1 : Emitted} → EmitsBody S k s o o1 →
      Keeps o.starts o1.starts
  kept_body (emits_body none a) = kept a
  kept_body (emits_scope_body a) = kept a

  pub kept_arguments : {S : Site} {ss : ResolvedStrategies} {us : List Argument} {o o1 : Emitted} →
      EmitsArguments S ss o o1 us → Keeps o.starts o1.starts
  kept_arguments emits_no_arguments = nothing_new
  kept_arguments (emits_code_argument own a b) = then_keeps (kept a) (kept_arguments b)
  kept_arguments (emits_parameter_argument none b) = kept_arguments b
  kept_arguments (emits_known_argument given a b) = then_keeps (kept a) (kept_arguments b)
