-- Each address in what is emitted is one of its instructions.
use Rattle.std.proofs.Common.{◌-◌, ◌<◌, ◌≤◌, ◌++◌, ℕ, zero, suc, Option, List, [], ◌∷◌, map, length, set, replicate, arith}
use Rattle.std.specs.Prelude.{slice_get}
use Rattle.core_lang.specs.declared.coordinate.Coordinate.{Coordinate}
use Rattle.core_lang.specs.Program.{Patterns}
use Rattle.core_lang.specs.Resolved.{ResolvedStrategy, ResolvedStrategies, ResolvedDefinitions}
use Rattle.strat_code.specs.Code.{Argument, code_at, parameter_at, Case, case, Instr, count, give_up, match_term, build_term, enter, leave, extend, shrink, try, commit, select, jump, traverse, part_done, call_definition, call_closure, end_definition, end_argument, apply_primitive, finish, Code}
use Rattle.strat_code.specs.CodeOf.{ArgumentsInRange, CasesInRange, AddressesInRange, AllInRange}
use Rattle.strat_compile.specs.Emission.{Emits, emits_id, emits_fail, emits_seq, emits_choice, emits_select, emits_match, emits_build, emits_scope, emits_inner, emits_all, emits_one, emits_some, emits_let, emits_call, emits_inline, emits_known, emits_open, emits_argument, emits_specialization, emits_same, emits_parameter, emits_primitive, EmitsCall, calls, EmitsChain, chain_end, chain_more, EmitsArm, emits_arm, EmitsThen, then_id, then_code, EmitsDefinitions, emits_definitions, EmitsBodies, emits_no_bodies, emits_more_bodies, EmitsBody, emits_body, emits_scope_body, EmitsArguments, emits_no_arguments, emits_code_argument, emits_parameter_argument, emits_known_argument}
use Rattle.core_lang.specs.Roots.{Root}
use Rattle.strat_compile.specs.Chains.{Body, place_passed, nodes_passed, cases_onto, cases_between, selects}
use Rattle.strat_compile.specs.Located.{located, address_if, argument_located, case_located}
use Rattle.strat_compile.specs.Sites.{Site}
use Rattle.strat_compile.specs.Output.{Emitted, place, count_of}
use Rattle.strat_compile.proofs.ChainLaws.{selects_long}

-- each place has an instruction
abbrev pub ArgumentsHavePlaces : List Argument → Type 0
ArgumentsHavePlaces [] = Unit {0}
ArgumentsHavePlaces (code_at p ∷ us) = (1 ≤ p) × ArgumentsHavePlaces us
ArgumentsHavePlaces (parameter_at y ∷ us) = ArgumentsHavePlaces us

abbrev pub CasesHavePlaces : List Case → Type 0
CasesHavePlaces [] = Unit {0}
CasesHavePlaces (case r k body otherwise ∷ cs) = (1 ≤ body) × (1 ≤ otherwise) × CasesHavePlaces cs

abbrev pub HasPlaces : Instr → Type 0
HasPlaces (count k) = Unit {0}
HasPlaces (give_up k) = Unit {0}
HasPlaces (match_term k p) = Unit {0}
HasPlaces (build_term k p) = Unit {0}
HasPlaces (enter k m) = Unit {0}
HasPlaces leave = Unit {0}
HasPlaces (extend k m) = Unit {0}
HasPlaces (shrink m) = Unit {0}
HasPlaces (try k a) = 1 ≤ a
HasPlaces (commit k a) = 1 ≤ a
HasPlaces (select k cs a) = CasesHavePlaces cs × (1 ≤ a)
HasPlaces (jump a) = 1 ≤ a
HasPlaces (traverse k m a) = 1 ≤ a
HasPlaces part_done = Unit {0}
HasPlaces (call_definition k h label room a us ps) = (1 ≤ a) × ArgumentsHavePlaces us
HasPlaces (call_closure k y) = Unit {0}
HasPlaces end_definition = Unit {0}
HasPlaces end_argument = Unit {0}
HasPlaces (apply_primitive k f ps) = Unit {0}
HasPlaces finish = Unit {0}

abbrev pub AllHavePlaces : Code → Type 0
AllHavePlaces [] = Unit {0}
AllHavePlaces (v ∷ vs) = HasPlaces v × AllHavePlaces vs

abbrev pub AllStart : List ℕ → Type 0
AllStart [] = Unit {0}
AllStart (p ∷ A) = (1 ≤ p) × AllStart A

-- the places and the starts of labels have instructions, and there is one at least
pub record Sound (o : Emitted) : Type 0 where
  pub code : AllHavePlaces o.code
  pub starts : AllStart o.starts

more_start : (A B : List ℕ) → AllStart A → AllStart B → AllStart (A ++ B)
more_start [] B a b = b
more_start (p ∷ A) B a b = (a.0, more_start A B a.1 b)

ones_start : (k : ℕ) → AllStart (replicate k 1)
ones_start zero = tt
ones_start (suc k) = (omega arith, ones_start k)

set_start : (A : List ℕ) (i p : ℕ) → 1 ≤ p → AllStart A → AllStart (set A i p)
set_start [] i p h a = tt
set_start (q ∷ A) zero p h a = (h, a.1)
set_start (q ∷ A) (suc i) p h a = (a.0, set_start A i p h a.1)

-- with an instruction in front
in_front : {v : Instr} {c : Code} {A : List ℕ} → HasPlaces v → Sound (record { code = c; starts = A }) →
    Sound (record { code = v ∷ c; starts = A })
in_front h s = record { code = (h, s.code); starts = s.starts }

abbrev BodiesHavePlaces : List Body → Type 0
BodiesHavePlaces [] = Unit {0}
BodiesHavePlaces (b ∷ bs) = (1 ≤ b.start) × BodiesHavePlaces bs

each_sound : (rs : List Root) (n start otherwise : ℕ) (cs : List Case) → 1 ≤ start → 1 ≤ otherwise →
    CasesHavePlaces cs → CasesHavePlaces (cases_onto rs n start otherwise cs)
each_sound [] n start otherwise cs h k s = s
each_sound (r ∷ rs) n start otherwise cs h k s = (h, k, each_sound rs n start otherwise cs h k s)

passed_sound : (left base last : ℕ) → 1 ≤ base → 1 ≤ last → 1 ≤ place_passed left base last
passed_sound zero base last h k = k
passed_sound (suc left) base last h k = omega (arith, h)

cases_sound : (bs : List Body) (base last : ℕ) → 1 ≤ base → 1 ≤ last → BodiesHavePlaces bs →
    CasesHavePlaces (cases_between bs base last)
cases_sound [] base last h k s = tt
cases_sound (b ∷ bs) base last h k s =
    each_sound b.roots (nodes_passed (length bs) b.nodes) b.start (place_passed (length bs) base last)
    (cases_between bs base last) s.0 (passed_sound (length bs) base last h k) (cases_sound bs base last h k s.1)

selects_sound : (bs : List Body) (base last : ℕ) (c : Code) → 1 ≤ base → 1 ≤ last → BodiesHavePlaces bs →
    AllHavePlaces c → AllHavePlaces (selects bs base last c)
selects_sound [] base last c h k p s = s
selects_sound (b ∷ bs) base last c h k p s =
    ((cases_sound (b ∷ bs) base last h k p, k), selects_sound bs base last c h k p.1 s)

mutual
  pub longer : {w : Option ℕ} {S : Site} {x : ℕ} {s : ResolvedStrategy} {o o1 : Emitted} → Emits w S x s o o1 →
      length o.code ≤ length o1.code
  longer emits_id = omega arith
  longer emits_fail = omega arith
  longer (emits_seq a b) = let one = longer a in let two = longer b in omega (arith, one, two)
  longer (emits_choice a b) = let one = longer a in let two = longer_arm b in omega (arith, one, two)
  longer (emits_select {last = last} {bs = bs} {o1 = o1} a) = let one = longer_chain a in let more =
      selects_long bs (place o1) last o1.code in omega (arith, one, more)
  longer emits_match = omega arith
  longer emits_build = omega arith
  longer (emits_scope a) = let one = longer a in omega (arith, one)
  longer (emits_inner a) = let one = longer a in omega (arith, one)
  longer (emits_all a) = let one = longer a in omega (arith, one)
  longer (emits_one a) = let one = longer a in omega (arith, one)
  longer (emits_some a) = let one = longer a in omega (arith, one)
  longer (emits_let a b) = let one = longer_definitions a in let two = longer b in omega (arith, one, two)
  longer (emits_call a) = longer_call a
  longer (emits_inline at body given a) = longer a
  longer (emits_known given a) = longer a
  longer (emits_open at body given a) = longer a
  longer (emits_argument none given a) = longer a
  longer (emits_specialization at body given a) = let one = longer_body a in omega (arith, one)
  longer (emits_same n label at given is) = omega arith
  longer (emits_parameter none) = omega arith
  longer emits_primitive = omega arith

  longer_call : {S : Site} {x : ℕ} {y : Coordinate} {ss : ResolvedStrategies} {ps : Patterns Coordinate}
      {o o1 : Emitted} → EmitsCall S x y ss ps o o1 → length o.code ≤ length o1.code
  longer_call (calls has entry a) = let one = longer_arguments a in omega (arith, one)

  longer_chain : {w : Option ℕ} {S : Site} {last : ℕ} {bs : List Body} {s : ResolvedStrategy} {o o1 : Emitted} →
      EmitsChain w S s bs last o o1 → length o.code ≤ length o1.code
  longer_chain (chain_end a) = longer a
  longer_chain (chain_more asks rooted a b) = let one = longer_chain a in let two = longer b in omega (arith, one, two)

  longer_arm : {w : Option ℕ} {S : Site} {x to : ℕ} {s1 s2 : ResolvedStrategy} {o o1 : Emitted} →
      EmitsArm w S x s1 s2 to o o1 → length o.code ≤ length o1.code
  longer_arm (emits_arm a b) = let one = longer_then a in let two = longer b in omega (arith, one, two)

  longer_then : {w : Option ℕ} {S : Site} {to : ℕ} {s : ResolvedStrategy} {o o1 : Emitted} → EmitsThen w S s to o o1 →
      length o.code ≤ length o1.code
  longer_then then_id = omega arith
  longer_then (then_code a) = let one = longer a in omega (arith, one)

  longer_definitions : {S : Site} {label to : ℕ} {ds : ResolvedDefinitions} {o o1 : Emitted} →
      EmitsDefinitions S label ds to o o1 → length o.code ≤ length o1.code
  longer_definitions (emits_definitions a) = let one = longer_bodies a in omega (arith, one)

  pub longer_bodies : {S : Site} {label : ℕ} {ds : ResolvedDefinitions} {o o1 : Emitted} → EmitsBodies S label ds o o1 →
      length o.code ≤ length o1.code
  longer_bodies emits_no_bodies = omega arith
  longer_bodies (emits_more_bodies a b) = let one = longer_body a in let two = longer_bodies b in
      omega (arith, one, two)

  longer_body : {S : Site} {k : ℕ} {s : ResolvedStrategy} {o o1 : Emitted} → EmitsBody S k s o o1 →
      length o.code < length o1.code
  longer_body (emits_body none a) = let one = longer a in omega (arith, one)
  longer_body (emits_scope_body a) = let one = longer a in omega (arith, one)

  longer_arguments : {S : Site} {ss : ResolvedStrategies} {us : List Argument} {o o1 : Emitted} →
      EmitsArguments S ss o o1 us → length o.code ≤ length o1.code
  longer_arguments emits_no_arguments = omega arith
  longer_arguments (emits_code_argument own a b) = let one = longer a in let two = longer_arguments b in
      omega (arith, one, two)
  longer_arguments (emits_parameter_argument none b) = longer_arguments b
  longer_arguments (emits_known_argument given a b) = let one = longer a in let two = longer_arguments b in
      omega (arith, one, two)

mutual
  pub sound : {w : Option ℕ} {S : Site} {x : ℕ} {s : ResolvedStrategy} {o o1 : Emitted} → Emits w S x s o o1 →
      1 ≤ length o.code → Sound o → Sound o1
  sound emits_id h s = in_front tt s
  sound emits_fail h s = in_front tt s
  sound (emits_seq a b) h s = let more = longer a in sound b (omega (arith, h, more)) (sound a h s)
  sound (emits_choice a b) h s = let more = longer a in sound_arm b h (omega (arith, h, more)) (sound a h s)
  sound (emits_select {last = last} {b = b} {bs = bs} {o1 = o1} a) h s =
      let more = longer_chain a in
      let made = sound_chain a h s in
      let base : 1 ≤ place o1 = omega (arith, h, more) in
      let cases = cases_sound (b ∷ bs) (place o1) last base made.1 made.0 in
      record {
        code = ((cases, made.1), selects_sound bs (place o1) last o1.code base made.1 made.0.1 made.2.code);
        starts = made.2.starts;
      }
  sound emits_match h s = in_front tt s
  sound emits_build h s = in_front tt s
  sound (emits_scope a) h s = in_front tt (sound a (omega (arith, h)) (in_front tt s))
  sound (emits_inner a) h s = in_front tt (sound a (omega (arith, h)) (in_front tt s))
  sound (emits_all a) h s = in_front h (sound a (omega (arith, h)) (in_front tt s))
  sound (emits_one a) h s = in_front h (sound a (omega (arith, h)) (in_front tt s))
  sound (emits_some a) h s = in_front h (sound a (omega (arith, h)) (in_front tt s))
  sound (emits_let a b) h s = let more = longer_definitions a in
      sound b (omega (arith, h, more)) (sound_definitions a h s)
  sound (emits_call a) h s = sound_call a h s
  sound (emits_inline at body given a) h s = sound a h s
  sound (emits_known given a) h s = sound a h s
  sound (emits_open at body given a) h s = sound a h s
  sound (emits_argument none given a) h s = sound a h s
  sound (emits_specialization {o = o} {o1 = o1} at body given a) h s =
      let more = longer_body a in
      let made = sound_body a (record {
        code = s.code;
        starts =
            more_start o.starts (replicate 1 1) s.starts (ones_start 1);
      }) in
      in_front (h, tt) (record {
        code = made.code;
        starts =
            set_start o1.starts (length o.starts) (length o1.code) (omega (arith, h, more)) made.starts;
      })
  sound (emits_same n label at given is) h s = in_front (h, tt) s
  sound (emits_parameter none) h s = in_front tt s
  sound emits_primitive h s = in_front tt s

  pub sound_call : {S : Site} {x : ℕ} {y : Coordinate} {ss : ResolvedStrategies} {ps : Patterns Coordinate}
      {o o1 : Emitted} → EmitsCall S x y ss ps o o1 → 1 ≤ length o.code → Sound o → Sound o1
  sound_call (calls has entry a) h s = let made = sound_arguments a h s in in_front (h, made.0) made.1

  sound_chain : {w : Option ℕ} {S : Site} {last : ℕ} {bs : List Body} {s : ResolvedStrategy} {o o1 : Emitted} →
      EmitsChain w S s bs last o o1 → 1 ≤ length o.code → Sound o →
      BodiesHavePlaces bs × (1 ≤ last) × Sound o1
  sound_chain (chain_end a) h s = let more = longer a in (tt, omega (arith, h, more), sound a h s)
  sound_chain (chain_more asks rooted a b) h s =
      let one = longer_chain a in
      let two = longer b in
      let made = sound_chain a h s in
      ((omega (arith, h, one, two), made.0), made.1, sound b (omega (arith, h, one)) (in_front h made.2))

  sound_arm : {w : Option ℕ} {S : Site} {x to : ℕ} {s1 s2 : ResolvedStrategy} {o o1 : Emitted} →
      EmitsArm w S x s1 s2 to o o1 → 1 ≤ to → 1 ≤ length o.code → Sound o → Sound o1
  sound_arm (emits_arm a b) to h s = let more = longer_then a in
      in_front h (sound b (omega (arith, h, more)) (sound_then a to h s))

  sound_then : {w : Option ℕ} {S : Site} {to : ℕ} {s : ResolvedStrategy} {o o1 : Emitted} → EmitsThen w S s to o o1 →
      1 ≤ to → 1 ≤ length o.code → Sound o → Sound o1
  sound_then then_id to h s = in_front to s
  sound_then (then_code a) to h s = let more = longer a in
      in_front (omega (arith, h, more)) (sound a (omega (arith, h)) (in_front to s))

  sound_definitions : {S : Site} {label to : ℕ} {ds : ResolvedDefinitions} {o o1 : Emitted} →
      EmitsDefinitions S label ds to o o1 → 1 ≤ to → Sound o → Sound o1
  sound_definitions (emits_definitions {ds = ds} {o = o} a) to s =
      in_front to (sound_bodies a
      (record {
        code = s.code;
        starts =
            more_start o.starts (replicate (count_of ds) 1) s.starts (ones_start (count_of ds));
      }))

  pub sound_bodies : {S : Site} {label : ℕ} {ds : ResolvedDefinitions} {o o1 : Emitted} → EmitsBodies S label ds o o1 →
      Sound o → Sound o1
  sound_bodies emits_no_bodies s = s
  sound_bodies (emits_more_bodies {label = label} {o1 = o1} a b) s =
      let more = longer_body a in let made = sound_body a s in
      sound_bodies b (record {
        code = made.code;
        starts =
            set_start o1.starts label (length o1.code) (omega (arith, more)) made.starts;
      })

  sound_body : {S : Site} {k : ℕ} {s : ResolvedStrategy} {o o1 : Emitted} → EmitsBody S k s o o1 → Sound o → Sound o1
  sound_body (emits_body none a) s = sound a (omega arith) (in_front tt s)
  sound_body (emits_scope_body a) s = sound a (omega arith) (in_front tt s)

  sound_arguments : {S : Site} {ss : ResolvedStrategies} {us : List Argument} {o o1 : Emitted} →
      EmitsArguments S ss o o1 us → 1 ≤ length o.code → Sound o → ArgumentsHavePlaces us × Sound o1
  sound_arguments emits_no_arguments h s = (tt, s)
  sound_arguments (emits_code_argument own a b) h s =
      let more = longer a in
      let rest = sound_arguments b (omega (arith, h, more)) (sound a (omega (arith, h)) (in_front tt s)) in
      ((omega (arith, h, more), rest.0), rest.1)
  sound_arguments (emits_parameter_argument none b) h s = sound_arguments b h s
  sound_arguments (emits_known_argument given a b) h s =
      let more = longer a in
      let rest = sound_arguments b (omega (arith, h, more)) (sound a (omega (arith, h)) (in_front tt s)) in
      ((omega (arith, h, more), rest.0), rest.1)

-- in code of n instructions, one at least
module _ (n : ℕ) (some_code : 1 ≤ n) where
  below : (p : ℕ) → 1 ≤ p → n - p < n
  below p h = omega (arith, h, some_code)

  arguments_in_range : (us : List Argument) → ArgumentsHavePlaces us → ArgumentsInRange n (map (argument_located n) us)
  arguments_in_range [] h = tt
  arguments_in_range (code_at p ∷ us) h = (below p h.0, arguments_in_range us h.1)
  arguments_in_range (parameter_at y ∷ us) h = arguments_in_range us h

  cases_in_range : (cs : List Case) → CasesHavePlaces cs → CasesInRange n (map (case_located n) cs)
  cases_in_range [] h = tt
  cases_in_range (case r k body otherwise ∷ cs) h = (below body h.0, below otherwise h.1, cases_in_range cs h.2)

  label_in_range : (A : List ℕ) (l : ℕ) → AllStart A → address_if n (slice_get A l) < n
  label_in_range [] l h = omega (arith, some_code)
  label_in_range (p ∷ A) zero h = below p h.0
  label_in_range (p ∷ A) (suc l) h = label_in_range A l h.1

  instr_in_range : (A : List ℕ) (v : Instr) → AllStart A → HasPlaces v → AddressesInRange n (located n A v)
  instr_in_range A (count k) s h = tt
  instr_in_range A (give_up k) s h = tt
  instr_in_range A (match_term k p) s h = tt
  instr_in_range A (build_term k p) s h = tt
  instr_in_range A (enter k m) s h = tt
  instr_in_range A leave s h = tt
  instr_in_range A (extend k m) s h = tt
  instr_in_range A (shrink m) s h = tt
  instr_in_range A (try k a) s h = below a h
  instr_in_range A (commit k a) s h = below a h
  instr_in_range A (select k cs a) s h = (cases_in_range cs h.0, below a h.1)
  instr_in_range A (jump a) s h = below a h
  instr_in_range A (traverse k m a) s h = below a h
  instr_in_range A part_done s h = tt
  instr_in_range A (call_definition k h label room a us ps) s has =
      (label_in_range A label s, below a has.0, arguments_in_range us has.1)
  instr_in_range A (call_closure k y) s h = tt
  instr_in_range A end_definition s h = tt
  instr_in_range A end_argument s h = tt
  instr_in_range A (apply_primitive k f ps) s h = tt
  instr_in_range A finish s h = tt

  pub all_in_range : (A : List ℕ) (vs : Code) → AllStart A → AllHavePlaces vs → AllInRange n (map (located n A) vs)
  all_in_range A [] s h = tt
  all_in_range A (v ∷ vs) s h = (instr_in_range A v s h.0, all_in_range A vs s h.1)
