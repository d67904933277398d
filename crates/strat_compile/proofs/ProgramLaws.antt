-- What is emitted for a program stands for it.
use Rattle.std.proofs.Common.{◌≡◌, ◌-◌, ◌++◌, ℕ, zero, suc, None, List, [], ◌∷◌, map, length, replicate, refl, ap, ap₂, sym, ◌∙◌, subst, arith}
use Rattle.std.proofs.lemmas.List.{length-map, length-replicate}
use Rattle.term_model.specs.PrimNames.{NameKey}
use Rattle.core_lang.specs.declared.coordinate.Coordinate.{Coordinate}
use Rattle.core_lang.specs.declared.program.CoreDef.{CoreDef}
use Rattle.core_lang.specs.Core.{CoreParts, IsCore, program_of}
use Rattle.core_lang.specs.InRange.{InRange}
use Rattle.core_lang.specs.Program.{Patterns, call, no_strategies, no_patterns}
use Rattle.core_lang.specs.Resolved.{ResolvedDefinitions, here}
use Rattle.core_lang.specs.Views.{definitions_of}
use Rattle.strat_code.specs.Code.{At, finish}
use Rattle.strat_code.specs.CodeOf.{AllInRange, IsCode}
use Rattle.strat_code.specs.Context.{Specialization}
use Rattle.strat_code.specs.Ranges.{Ranges}
use Rattle.strat_code.specs.StandsFor.{StandsFor}
use Rattle.strat_compile.specs.Emission.{EmitsCall, calls, emits_no_arguments, EmitsBodies, EmitsProgram}
use Rattle.strat_compile.specs.Located.{code_in}
use Rattle.strat_compile.specs.Output.{Emitted, nothing, onto, with_labels, count_of}
use Rattle.strat_compile.specs.Sites.{Site, outermost, in_definitions, context, labelled}
use Rattle.strat_compile.proofs.EmissionLaws.{counted}
use Rattle.strat_compile.proofs.AddressLaws.{AllStart, sound_call, sound_bodies, all_in_range}
use Rattle.strat_compile.proofs.EndLaws.{IsEnd, whole_end, later_end, located_at, end_call}
use Rattle.strat_compile.proofs.LabelLaws.{kept_call}
use Rattle.strat_compile.proofs.PlacedLaws.{placed, placed_entry, placed_specialization}
use Rattle.strat_compile.proofs.RangeLaws.{Agrees, Stands, Listed, ranged_called, ranged_bodies}
use Rattle.strat_compile.proofs.SpecializationLaws.{made_bodies, made_call, all_in, all_first, all_second, both_placed}

-- a call without strategy arguments is one instruction
one_call : {S : Site} {x : ℕ} {y : Coordinate} {ps : Patterns Coordinate} {o o1 : Emitted} →
    EmitsCall S x y no_strategies ps o o1 → length o1.code ≡ suc (length o.code)
one_call (calls has entry emits_no_arguments) = refl

pub program_stands : (P : ResolvedDefinitions) (i : ℕ) (o : Emitted) → EmitsProgram P i o → InRange P i →
    StandsFor (code_in o) P i
program_stands P i o p range =
    let S : Site = in_definitions P 0 outermost in
    let n = length o.code in
    let zs : List Specialization = made_bodies p.bodies ++ made_call p.begins in
    let I : List Specialization = map (placed_specialization n o.starts) zs in
    let listed : Listed o I zs = all_in n o.starts I [] zs refl in
    let stands : Stands o I S = (((0, refl), range.each, tt), tt) in
    let call_first : n ≡ suc (suc (length p.bodies_only.code)) = one_call p.begins in
    let end : IsEnd o.code (finish ∷ p.bodies_only.code) = end_call o.code p.begins whole_end in
    let second : n - length (finish ∷ p.bodies_only.code) ≡ 1 = omega (arith, call_first) in
    let first : n - n ≡ 0 = omega arith in
    let empty : Agrees o.starts p.bodies_only.starts o.starts = record { same = λ l from below. refl } in
    let bodies = ranged_bodies o I p.bodies (omega (arith, length-replicate {A = ℕ} (count_of P) 1)) (later_end end)
    (λ l from below. (kept_call p.begins).same l below) stands range.each
    (all_first n o.starts I (made_bodies p.bodies) (made_call p.begins) listed) in
    let begins = ranged_called o I {w =
    None} p.begins whole_end empty stands (range.main, tt, tt)
    (all_second n o.starts I (made_bodies p.bodies) (made_call p.begins) listed) in
    record {
      entries = map (placed_entry n o.starts) (labelled 0 P);
      specializations = I;
      specialization_bodies = both_placed (code_in o) I n o.starts (made_bodies p.bodies) (made_call p.begins)
          bodies.1 begins.1;
      bodies = bodies.0;
      begins = subst (λ a. Ranges (code_in o) I None (placed n o.starts (context S))
          a 0 (call (here i) no_strategies no_patterns) 1) first
          (subst (λ a. Ranges (code_in o) I None (placed n o.starts (context S)) (n - n)
          0 (call (here i) no_strategies no_patterns) a) second begins.0);
      ends = subst (λ a. At (code_in o) a finish) second (located_at o.code n o.starts end);
    }

program_addresses : (P : ResolvedDefinitions) (i : ℕ) (o : Emitted) → EmitsProgram P i o →
    AllInRange (length o.code) (code_in o)
program_addresses P i o p =
    let call_first : length o.code ≡ suc (suc (length p.bodies_only.code)) = one_call p.begins in
    let bodies = sound_bodies p.bodies (record { code = tt; starts = ones (count_of P) }) in
    let made = sound_call p.begins (omega arith) (record { code = (tt, bodies.code); starts = bodies.starts }) in
    all_in_range (length o.code) (omega (arith, call_first)) o.starts o.code made.starts made.code
  where
    ones : (k : ℕ) → AllStart (replicate k 1)
    ones zero = tt
    ones (suc k) = (omega arith, ones k)

pub program_code : (P : ResolvedDefinitions) (i : ℕ) (o : Emitted) (prims : List NameKey) → EmitsProgram P i o →
    IsCore P i prims → IsCode (code_in o) prims
program_code P i o prims p core =
    record {
      program = P;
      main = i;
      core = core;
      stands = program_stands P i o p core.in_range;
      addresses = subst (λ n. AllInRange n (code_in o)) (sym (length-map o.code _)) (program_addresses P i o p);
    }

-- the same, by equations of what is emitted in turn
pub program_row : (ds : List CoreDef) (i m : ℕ) (S T : Site) (o o1 o2 o3 o4 : Emitted) →
    S ≡ in_definitions (definitions_of ds) 0 T → T ≡ outermost → m ≡ length ds →
    o ≡ nothing → o1 ≡ with_labels m o → EmitsBodies S 0 (definitions_of ds) o1 o2 → o3 ≡ onto finish o2 →
    EmitsCall S 0 (here i) no_strategies no_patterns o3 o4 →
    EmitsProgram (definitions_of ds) i o4
program_row ds i m S T o o1 o2 o3 o4 layer around many none labels bodies last begins =
    let same : S ≡ in_definitions (definitions_of ds) 0 outermost =
    layer ∙ ap (λ U. in_definitions (definitions_of ds) 0 U) around in
    let first : o1 ≡ with_labels (count_of (definitions_of ds)) nothing =
    labels ∙ ap₂ (λ k p. with_labels k p) (many ∙ sym (counted ds)) none in
    record {
      bodies_only = o2;
      bodies = subst (λ a. EmitsBodies (in_definitions (definitions_of ds) 0 outermost) 0 (definitions_of ds) a o2)
          first (subst (λ U. EmitsBodies U 0 (definitions_of ds) o1 o2) same bodies);
      begins = subst (λ a. EmitsCall (in_definitions (definitions_of ds) 0 outermost) 0 (here i)
          no_strategies no_patterns a o4) last
          (subst (λ U. EmitsCall U 0 (here i) no_strategies no_patterns o3 o4) same begins);
    }

pub of_core : (core : CoreParts) (ds : List CoreDef) (i : ℕ) (o : Emitted) → ds ≡ core.defs → i ≡ core.main →
    EmitsProgram (definitions_of ds) i o → EmitsProgram (program_of core) core.main o
of_core core ds i o defs main p =
    subst (λ k. EmitsProgram (program_of core) k o) main (subst (λ xs. EmitsProgram (definitions_of xs) i o) defs p)
