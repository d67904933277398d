-- Ends of code, the addresses where they begin, and what is an end of what is emitted.
use Rattle.std.proofs.Common.{◌≡◌, ◌-◌, ◌≤◌, ◌++◌, ℕ, suc, Option, Some, List, [], ◌∷◌, map, length, refl, ap, sym, ◌∙◌, arith}
use Rattle.std.specs.Prelude.{slice_get}
use Rattle.std.specs.Option.{option_map}
use Rattle.std.proofs.lemmas.List.{append_assoc, length-append}
use Rattle.std.proofs.lemmas.Option.{slice_get-map}
use Rattle.core_lang.specs.declared.coordinate.Coordinate.{Coordinate}
use Rattle.core_lang.specs.Program.{Patterns}
use Rattle.core_lang.specs.Resolved.{ResolvedStrategy, ResolvedStrategies, ResolvedDefinitions}
use Rattle.strat_code.specs.Code.{Argument, Instr, Code, At}
use Rattle.strat_compile.specs.Emission.{Emits, emits_id, emits_fail, emits_seq, emits_choice, emits_select, emits_match, emits_build, emits_scope, emits_inner, emits_all, emits_one, emits_some, emits_let, emits_call, emits_inline, emits_known, emits_open, emits_argument, emits_specialization, emits_same, emits_parameter, emits_primitive, EmitsCall, calls, EmitsChain, chain_end, chain_more, EmitsArm, emits_arm, EmitsThen, then_id, then_code, EmitsDefinitions, emits_definitions, EmitsBodies, emits_no_bodies, emits_more_bodies, EmitsBody, emits_body, emits_scope_body, EmitsArguments, emits_no_arguments, emits_code_argument, emits_parameter_argument, emits_known_argument}
use Rattle.strat_compile.specs.Chains.{Body, selects}
use Rattle.strat_compile.specs.Located.{located}
use Rattle.strat_compile.specs.Sites.{Site}
use Rattle.strat_compile.specs.Output.{Emitted, place}

-- the second is an end of the first
pub data IsEnd (c : Code) : Code → Type 0 where
  whole_end : IsEnd c c
  later_end : {v : Instr} {d : Code} → IsEnd c (v ∷ d) → IsEnd c d

split_at : {c d : Code} → IsEnd c d → (b : Code) × (c ≡ b ++ d)
split_at whole_end = ([], refl)
split_at (later_end {v} {d} h) = let before = split_at h in
    (before.0 ++ v ∷ [], before.1 ∙ sym (append_assoc before.0 (v ∷ []) d))

pub long_enough : {c d : Code} → IsEnd c d → length d ≤ length c
long_enough {c} {d} h = let before = split_at h in omega (arith, ap length before.1, length-append before.0 d)

seam : (b : Code) (v : Instr) (d : Code) → slice_get (b ++ v ∷ d) (length b) ≡ Some v
seam [] v d = refl
seam (u ∷ b) v d = seam b v d

pub at_end : {c d : Code} {v : Instr} → IsEnd c (v ∷ d) → slice_get c (length c - length (v ∷ d)) ≡ Some v
at_end {c} {d} {v} h =
    let before = split_at h in
    let place : length c - length (v ∷ d) ≡ length before.0 =
    omega (arith, ap length before.1, length-append before.0 (v ∷ d)) in
    ap (λ k. slice_get c k) place ∙ ap (λ e. slice_get e (length before.0)) before.1 ∙ seam before.0 v d

-- the address after that of an instruction
pub next_address : {c d : Code} {v : Instr} → IsEnd c (v ∷ d) → suc (length c - length (v ∷ d)) ≡ length c - length d
next_address {c} {d} {v} h = let enough = long_enough h in omega (arith, enough)

-- the instruction with its addresses, in all of the code
pub located_at : (c : Code) (n : ℕ) (A : List ℕ) {d : Code} {v : Instr} → IsEnd c (v ∷ d) →
    At (map (located n A) c) (length c - length (v ∷ d)) (located n A v)
located_at c n A {d} {v} h = slice_get-map (located n A) c _ ∙ ap (λ r. option_map (located n A) r) (at_end h)

pub end_selects : {c : Code} (bs : List Body) (base last : ℕ) (d : Code) → IsEnd c (selects bs base last d) → IsEnd c d
end_selects [] base last d h = h
end_selects (b ∷ bs) base last d h = end_selects bs base last d (later_end h)

module _ (c : Code) where
  mutual
    pub end_emitted : {w : Option ℕ} {S : Site} {x : ℕ} {s : ResolvedStrategy} {o o1 : Emitted} → Emits w S x s o o1 →
        IsEnd c o1.code → IsEnd c o.code
    end_emitted emits_id h = later_end h
    end_emitted emits_fail h = later_end h
    end_emitted (emits_seq a b) h = end_emitted a (end_emitted b h)
    end_emitted (emits_choice a b) h = end_emitted a (end_arm b h)
    end_emitted (emits_select {last = last} {bs = bs} {o1 = o1} a) h =
        end_chain a (end_selects bs (place o1) last o1.code (later_end h))
    end_emitted emits_match h = later_end h
    end_emitted emits_build h = later_end h
    end_emitted (emits_scope a) h = later_end (end_emitted a (later_end h))
    end_emitted (emits_inner a) h = later_end (end_emitted a (later_end h))
    end_emitted (emits_all a) h = later_end (end_emitted a (later_end h))
    end_emitted (emits_one a) h = later_end (end_emitted a (later_end h))
    end_emitted (emits_some a) h = later_end (end_emitted a (later_end h))
    end_emitted (emits_let a b) h = end_definitions a (end_emitted b h)
    end_emitted (emits_call a) h = end_call a h
    end_emitted (emits_inline at body given a) h = end_emitted a h
    end_emitted (emits_known given a) h = end_emitted a h
    end_emitted (emits_open at body given a) h = end_emitted a h
    end_emitted (emits_argument none given a) h = end_emitted a h
    end_emitted (emits_specialization at body given a) h = end_body a (later_end h)
    end_emitted (emits_same n label at given is) h = later_end h
    end_emitted (emits_parameter none) h = later_end h
    end_emitted emits_primitive h = later_end h

    pub end_call : {S : Site} {x : ℕ} {y : Coordinate} {ss : ResolvedStrategies} {ps : Patterns Coordinate}
        {o o1 : Emitted} → EmitsCall S x y ss ps o o1 → IsEnd c o1.code → IsEnd c o.code
    end_call (calls has entry a) h = end_arguments a (later_end h)

    pub end_chain : {w : Option ℕ} {S : Site} {last : ℕ} {bs : List Body} {s : ResolvedStrategy} {o o1 : Emitted} →
        EmitsChain w S s bs last o o1 → IsEnd c o1.code → IsEnd c o.code
    end_chain (chain_end a) h = end_emitted a h
    end_chain (chain_more asks rooted a b) h = end_chain a (later_end (end_emitted b h))

    pub end_arm : {w : Option ℕ} {S : Site} {x to : ℕ} {s1 s2 : ResolvedStrategy} {o o1 : Emitted} →
        EmitsArm w S x s1 s2 to o o1 → IsEnd c o1.code → IsEnd c o.code
    end_arm (emits_arm a b) h = end_then a (end_emitted b (later_end h))

    pub end_then : {w : Option ℕ} {S : Site} {to : ℕ} {s : ResolvedStrategy} {o o1 : Emitted} →
        EmitsThen w S s to o o1 → IsEnd c o1.code → IsEnd c o.code
    end_then then_id h = later_end h
    end_then (then_code a) h = later_end (end_emitted a (later_end h))

    pub end_definitions : {S : Site} {label to : ℕ} {ds : ResolvedDefinitions} {o o1 : Emitted} →
        EmitsDefinitions S label ds to o o1 → IsEnd c o1.code → IsEnd c o.code
    end_definitions (emits_definitions a) h = end_bodies a (later_end h)

    pub end_bodies : {S : Site} {label : ℕ} {ds : ResolvedDefinitions} {o o1 : Emitted} → EmitsBodies S label ds o o1 →
        IsEnd c o1.code → IsEnd c o.code
    end_bodies emits_no_bodies h = h
    end_bodies (emits_more_bodies a b) h = end_body a (end_bodies b h)

    pub end_body : {S : Site} {k : ℕ} {s : ResolvedStrategy} {o o1 : Emitted} → EmitsBody S k s o o1 → IsEnd c o1.code →
        IsEnd c o.code
    end_body (emits_body none a) h = later_end (end_emitted a h)
    end_body (emits_scope_body a) h = later_end (end_emitted a h)

    pub end_arguments : {S : Site} {ss : ResolvedStrategies} {us : List Argument} {o o1 : Emitted} →
        EmitsArguments S ss o o1 us → IsEnd c o1.code → IsEnd c o.code
    end_arguments emits_no_arguments h = h
    end_arguments (emits_code_argument own a b) h = later_end (end_emitted a (end_arguments b h))
    end_arguments (emits_parameter_argument none b) h = end_arguments b h
    end_arguments (emits_known_argument given a b) h = later_end (end_emitted a (end_arguments b h))
