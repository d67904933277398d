-- What is emitted stands for what it is emitted for, when its places and labels have become addresses.
use Rattle.std.proofs.Common.{◌≡◌, ◌+◌, ◌-◌, ◌<◌, ◌≤◌, inl, inr, ◌++◌, ℕ, suc, Option, Some, List, [], ◌∷◌, map, length, drop, replicate, refl, ap, sym, ◌∙◌, subst, arith}
use Rattle.std.specs.Prelude.{slice_get}
use Rattle.std.proofs.lemmas.List.{length-append, length-replicate}
use Rattle.core_lang.specs.declared.coordinate.Coordinate.{Coordinate}
use Rattle.core_lang.specs.Program.{Pattern, Patterns, id, fail, seq, choice, match, build, scope, all, one, some, with_definitions, call, primitive, more_strategies, strategies_count, patterns_count}
use Rattle.core_lang.specs.Resolved.{ResolvedStrategy, ResolvedStrategies, ResolvedDefinitions}
use Rattle.core_lang.specs.Roots.{Root}
use Rattle.core_lang.specs.InRange.{layer_of, layer_of_definitions, no_layers, outside, IsDefinition, IsCallee, PatternInRange, PatternsInRange, StrategyInRange, StrategiesInRange, DefinitionsInRange}
use Rattle.strat_code.specs.Code.{Argument, parameter_at, all_parts, one_part, some_parts, Instr, match_term, build_term, Case, try, commit, select, jump, traverse, call_definition, call_closure, apply_primitive, Code, At}
use Rattle.strat_code.specs.Context.{Context, Specialization, Hides, hides_top, keeps_definitions, layers_of, outer, frames_in, by_frames}
use Rattle.strat_code.specs.Renamed.{renamed, all_renamed}
use Rattle.strat_code.specs.Ranges.{AreKnown, AreKnownOpen, Cases, one_case, more_cases, Ranges, id_range, fail_range, seq_range, choice_range, else_range, select_range, Selects, select_last, select_more, match_range, build_range, scope_range, inner_range, all_range, one_range, some_range, let_jump_range, call_range, specialization_range, inline_range, known_range, open_range, argument_range, parameter_range, primitive_range, Bodies, no_bodies, Arguments, no_arguments, code_argument, known_argument, parameter_argument, Specializations, no_specializations}
use Rattle.strat_compile.specs.Emission.{IsNoScope, Emits, emits_id, emits_fail, emits_seq, emits_choice, emits_select, emits_match, emits_build, emits_scope, emits_inner, emits_all, emits_one, emits_some, emits_let, emits_call, emits_inline, emits_known, emits_open, emits_argument, emits_specialization, emits_same, emits_parameter, emits_primitive, EmitsCall, calls, EmitsChain, chain_end, chain_more, EmitsArm, emits_arm, EmitsThen, then_id, then_code, EmitsDefinitions, emits_definitions, EmitsBodies, emits_no_bodies, emits_more_bodies, EmitsBody, emits_body, emits_scope_body, EmitsArguments, emits_no_arguments, emits_code_argument, emits_parameter_argument, emits_known_argument}
use Rattle.strat_compile.specs.Chains.{Body, cases_onto, cases_between, selects}
use Rattle.strat_compile.specs.Located.{located, address, address_if, argument_located, case_located}
use Rattle.strat_compile.specs.Output.{Emitted, place, count_of}
use Rattle.strat_compile.specs.Sites.{Site, outermost, in_definitions, in_specialization, in_call, in_open_call, KnownArguments, AreGiven, AreGivenOpen, context, knowns, labelled, program_layers, room_for}
use Rattle.strat_compile.proofs.ChainLaws.{selects_long}
use Rattle.strat_compile.proofs.EndLaws.{IsEnd, later_end, next_address, located_at, end_emitted, end_selects, end_arm, end_bodies, end_arguments}
use Rattle.strat_compile.proofs.LabelLaws.{Keeps, kept, kept_chain, kept_arm, kept_then, kept_definitions, kept_bodies, kept_body, kept_arguments, set_long, set_other, set_here}
use Rattle.strat_compile.proofs.PlacedLaws.{IsLabelled, labelled_outer, labelled_knows, labelled_knows_open, labelled_given, labelled_unframed, as_many_given, body_as_called, body_in_range, outer_layers, pattern_kept, patterns_kept, placed, placed_entry, placed_knowns, placed_specialization, placed_layers, placed_outer, placed_frames, placed_by_frames, placed_parameter, placed_own_code, placed_knows, placed_knows_open, placed_are_known, placed_are_known_open, placed_asks, callee}
use Rattle.strat_compile.proofs.SiteLaws.{given_outside, given_open_outside, are_known, are_known_open}
use Rattle.strat_compile.proofs.SpecializationLaws.{made, made_call, made_chain, made_arm, made_then, made_definitions, made_bodies, made_body, made_arguments, AllIn, all_first, all_second, Registered, registered_given, registered_given_open, all_registered, same_registered, both_placed, BodyRange, plain_body, roomy_body, body_more, specialization_more}

no_room : (s : ResolvedStrategy) → IsNoScope s → room_for s ≡ 0
no_room id h = refl
no_room fail h = refl
no_room (seq s1 s2) h = refl
no_room (choice s1 s2 s3) h = refl
no_room (match p) h = refl
no_room (build p) h = refl
no_room (scope k s) h = elim h [ ]
no_room (all s) h = refl
no_room (one s) h = refl
no_room (some s) h = refl
no_room (with_definitions ds s) h = refl
no_room (call y ss ps) h = refl
no_room (primitive f ps) h = refl

-- the cases of an alternative, with addresses
located_cases : (count : ℕ) (rs : List Root) (n start otherwise : ℕ) (others : List Case) → 0 < length rs →
    Cases n (address count start) (address count otherwise) (map (case_located count) others) rs (map (case_located count) (cases_onto rs n start otherwise others))
located_cases count [] n start otherwise others rooted = absurd (omega (arith, rooted))
located_cases count (r ∷ []) n start otherwise others rooted = one_case
located_cases count (r ∷ q ∷ rs) n start otherwise others rooted = more_cases (located_cases count (q ∷ rs) n start otherwise others (omega arith))

-- the labels between these two are in the end where they are in the second
pub record Agrees (last old new : List ℕ) : Type 0 where
  pub same : (l : ℕ) → length old ≤ l → l < length new → slice_get last l ≡ slice_get new l

agrees_first : {A B D E : List ℕ} → Keeps D E → Agrees A B E → Agrees A B D
agrees_first earlier agree = record { same = λ l from below. agree.same l from (omega (arith, below, earlier.long)) ∙ earlier.same l below }

agrees_later : {A B D E : List ℕ} → Keeps B D → Agrees A B E → Agrees A D E
agrees_later earlier agree = record { same = λ l from below. agree.same l (omega (arith, from, earlier.long)) below }

-- the definition of the program that is called
program_called : (C : Context) (y : Coordinate) (label : ℕ) (ds : ResolvedDefinitions) → outer C y.layers_up ≡ context (in_definitions ds label outermost) → IsLabelled C → IsLabelled (context (in_definitions ds label outermost))
program_called C y label ds at h = subst IsLabelled at (labelled_outer C y.layers_up h)

program_definition : (C : Context) (y : Coordinate) (label m k : ℕ) (ds : ResolvedDefinitions) → outer C y.layers_up ≡ context (in_definitions ds label outermost) →
    IsCallee (outside (program_layers C) y.layers_up) y.slot m k → IsDefinition ds y.slot m k
program_definition C y label m k ds at called = subst (λ D. IsCallee (program_layers D) y.slot m k) at (subst (λ L. IsCallee L y.slot m k) (outer_layers C y.layers_up) called)

-- in all of the code, with the table of its specializations
module _ (whole : Emitted) (I : List Specialization) where
  abbrev final : Code
  final = map (located (length whole.code) whole.starts) whole.code

  -- the address where the code begins
  abbrev addr : Emitted → ℕ
  addr o = length whole.code - length o.code

  abbrev in_place : Context → Context
  in_place C = placed (length whole.code) whole.starts C

  -- the layers have labels, what they have is in range, and their specializations are in the table
  abbrev pub Stands : Site → Type 0
  Stands S = IsLabelled (context S) × Registered (length whole.code) whole.starts I S

  abbrev pub Listed : List Specialization → Type 0
  Listed zs = AllIn (length whole.code) whole.starts I zs

  -- the code of specializations
  abbrev pub Specialized : List Specialization → Type 0
  Specialized zs = Specializations final I (map (placed_specialization (length whole.code) whole.starts) zs)

  first_listed : (xs ys : List Specialization) → Listed (xs ++ ys) → Listed xs
  first_listed xs ys h = all_first (length whole.code) whole.starts I xs ys h

  second_listed : (xs ys : List Specialization) → Listed (xs ++ ys) → Listed ys
  second_listed xs ys h = all_second (length whole.code) whole.starts I xs ys h

  both : (xs ys : List Specialization) → Specialized xs → Specialized ys → Specialized (xs ++ ys)
  both xs ys p q = both_placed final I (length whole.code) whole.starts xs ys p q

  here : {d : Code} {v : Instr} → IsEnd whole.code (v ∷ d) → At final (length whole.code - length (v ∷ d)) (located (length whole.code) whole.starts v)
  here h = located_at whole.code (length whole.code) whole.starts h

  begins_at : {w : Option ℕ} {C : Context} {x i j k : ℕ} {s : ResolvedStrategy} → i ≡ k → Ranges final I w C k x s j → Ranges final I w C i x s j
  begins_at {w} {C} {x} {i} {j} {k} {s} is r = subst (λ a. Ranges final I w C a x s j) (sym is) r

  ends_at : {w : Option ℕ} {C : Context} {x i j k : ℕ} {s : ResolvedStrategy} → j ≡ k → Ranges final I w C i x s j → Ranges final I w C i x s k
  ends_at {w} {C} {x} {i} {j} {k} {s} is r = subst (λ a. Ranges final I w C i x s a) is r

  at_as : (i : ℕ) {v u : Instr} → v ≡ u → At final i v → At final i u
  at_as i {v} {u} is at = subst (λ r. At final i r) is at

  pattern_placed : (C : Context) (p : Pattern Coordinate) → PatternInRange (program_layers C) p → PatternInRange (layers_of (in_place C)) p
  pattern_placed C p h = subst (λ L. PatternInRange L p) (sym (placed_layers (length whole.code) whole.starts C)) (pattern_kept C p h)

  patterns_placed : (C : Context) (ps : Patterns Coordinate) → PatternsInRange (program_layers C) ps → PatternsInRange (layers_of (in_place C)) ps
  patterns_placed C ps h = subst (λ L. PatternsInRange L ps) (sym (placed_layers (length whole.code) whole.starts C)) (patterns_kept C ps h)

  same_frames : (C : Context) → by_frames C ≡ by_frames (in_place C)
  same_frames C = sym (placed_by_frames (length whole.code) whole.starts C)

  outer_placed : (C : Context) (i : ℕ) {D : Context} → outer C i ≡ D → outer (in_place C) i ≡ in_place D
  outer_placed C i at = placed_outer (length whole.code) whole.starts C i ∙ ap in_place at

  -- the program's definitions, which no frame is around
  program_hides : (C : Context) (y : Coordinate) (label : ℕ) (ds : ResolvedDefinitions) → outer C y.layers_up ≡ context (in_definitions ds label outermost) →
      Hides (outer (in_place C) y.layers_up) (in_place (context (in_definitions ds label outermost)))
  program_hides C y label ds at = subst (λ D. Hides D (in_place (context (in_definitions ds label outermost)))) (sym (outer_placed C y.layers_up at)) (keeps_definitions hides_top)

  given_placed : {S : Site} {ss : ResolvedStrategies} {ks : KnownArguments} → AreGiven S ss ks → AreKnown (in_place (context S)) ss (placed_knowns (length whole.code) whole.starts (knowns ks))
  given_placed given = placed_are_known (length whole.code) whole.starts (are_known given)

  given_open_placed : {S : Site} {ss : ResolvedStrategies} {ks : KnownArguments} → AreGivenOpen S ss ks → AreKnownOpen (in_place (context S)) ss (placed_knowns (length whole.code) whole.starts (knowns ks))
  given_open_placed given = placed_are_known_open (length whole.code) whole.starts (are_known_open given)

  ranged_call : (C : Context) (x : ℕ) (y : Coordinate) (ps : Patterns Coordinate) (i entry room to : ℕ) (us : List Argument) →
      At final i (call_definition (suc x) (frames_in C y.layers_up) entry room to us (all_renamed (by_frames C) ps)) →
      At final i (call_definition (suc x) (frames_in (in_place C) y.layers_up) entry room to us (all_renamed (by_frames (in_place C)) ps))
  ranged_call C x y ps i entry room to us at =
      subst (λ f. At final i (call_definition (suc x) (frames_in (in_place C) y.layers_up) entry room to us (all_renamed f ps))) (same_frames C)
      (subst (λ k. At final i (call_definition (suc x) k entry room to us (all_renamed (by_frames C) ps))) (sym (placed_frames (length whole.code) whole.starts C y.layers_up)) at)

  -- what the code of a chain stands for: the strategy, where no alternative is left, or the cases of its select
  abbrev Chained : Option ℕ → Context → ResolvedStrategy → List Body → (base last to : ℕ) → Type 0
  Chained w C s [] base last to = Ranges final I w C (address (length whole.code) last) 0 s to
  Chained w C s (b ∷ bs) base last to = Selects final I w C s (map (case_located (length whole.code)) (cases_between (b ∷ bs) base last)) (address (length whole.code) last) to

  selected : {w z : Option ℕ} {S : Site} {D : Context} {i x a last to : ℕ} {b : Body} {bs : List Body} {cs : List Case} {s : ResolvedStrategy} {o o1 : Emitted} → EmitsChain w S s (b ∷ bs) last o o1 →
      At final i (select (suc x) cs a) → Selects final I z D s cs a to → Ranges final I z D i x s to
  selected (chain_more asks rooted a b) at cases = select_range at cases

  -- the select for the cases from one on, which stands after those for more cases
  select_at : (b : Body) (bs : List Body) (last : ℕ) (d : Emitted) → IsEnd whole.code (selects (b ∷ bs) (place d) last d.code) →
      At final (address (length whole.code) (place d + suc (length bs))) (select 1 (map (case_located (length whole.code)) (cases_between (b ∷ bs) (place d) last)) (address (length whole.code) last))
  select_at b bs last d h =
      let many = selects_long bs (place d) last d.code in
      let there : suc (length (selects bs (place d) last d.code)) ≡ place d + suc (length bs) = omega (arith, many) in
      subst (λ p. At final (address (length whole.code) p) (select 1 (map (case_located (length whole.code)) (cases_between (b ∷ bs) (place d) last)) (address (length whole.code) last))) there
      (here h)

  mutual
    -- the range, and those of the specializations that are made in it
    pub ranged : {w : Option ℕ} {S : Site} {x : ℕ} {s : ResolvedStrategy} {o o1 : Emitted} (e : Emits w S x s o o1) → IsEnd whole.code o1.code → Agrees whole.starts o.starts o1.starts →
        Stands S → StrategyInRange (program_layers (context S)) s → Listed (made e) → Ranges final I w (in_place (context S)) (addr o1) x s (addr o) × Specialized (made e)
    ranged emits_id h agree stands range listed = (ends_at (next_address h) (id_range (here h)), no_specializations)
    ranged emits_fail h agree stands range listed = (ends_at (next_address h) (fail_range (here h)), no_specializations)
    ranged (emits_seq a b) h agree stands range listed =
        let one = ranged b h (agrees_later (kept a) agree) stands range.0 (second_listed (made a) (made b) listed) in
        let two = ranged a (end_emitted whole.code b h) (agrees_first (kept b) agree) stands range.1 (first_listed (made a) (made b) listed) in
        (seq_range one.0 two.0, both (made a) (made b) two.1 one.1)
    ranged (emits_choice {o = o} a b) h agree stands range listed =
        let last = ranged a (end_arm whole.code b h) (agrees_first (kept_arm b) agree) stands range.2 (first_listed (made a) (made_arm b) listed) in
        let arm = ranged_arm (addr o) b refl h (agrees_later (kept a) agree) stands range.0 range.1 (second_listed (made a) (made_arm b) listed) last.0 in
        (arm.0, both (made a) (made_arm b) last.1 arm.1)
    ranged (emits_select {last = last} {bs = bs} {o1 = o1} a) h agree stands range listed =
        let chain = ranged_chain o1 a (later_end h) (end_selects bs (place o1) last o1.code (later_end h)) agree stands range listed in
        (selected a (here h) chain.0, chain.1)
    ranged (emits_match {S = S} {x = x} {p = p} {o = o}) h agree stands range listed = (
      ends_at (next_address h) (match_range (pattern_placed (context S) p range) (at_as _ (ap (λ f. match_term (suc x) (renamed f p)) (same_frames (context S))) (here h))),
      no_specializations,
    )
    ranged (emits_build {S = S} {x = x} {p = p} {o = o}) h agree stands range listed = (
      ends_at (next_address h) (build_range (pattern_placed (context S) p range) (at_as _ (ap (λ f. build_term (suc x) (renamed f p)) (same_frames (context S))) (here h))),
      no_specializations,
    )
    ranged (emits_scope a) h agree stands range listed =
        let inner = end_emitted whole.code a (later_end h) in
        let body = ranged a (later_end h) agree stands range listed in
        (ends_at (next_address inner) (scope_range (here h) (begins_at (next_address h) body.0) (here inner)), body.1)
    ranged (emits_inner a) h agree stands range listed =
        let inner = end_emitted whole.code a (later_end h) in
        let body = ranged a (later_end h) agree stands range listed in
        (ends_at (next_address inner) (inner_range (here h) (begins_at (next_address h) body.0) (here inner)), body.1)
    ranged (emits_all {x = x} a) h agree stands range listed =
        let inner = end_emitted whole.code a (later_end h) in
        let body = ranged a (later_end h) agree stands range listed in (
          ends_at (next_address inner)
              (all_range (at_as _ (ap (λ j. traverse (suc x) all_parts j) (sym (next_address inner))) (here h)) (begins_at (next_address h) body.0) (here inner)),
          body.1,
        )
    ranged (emits_one {x = x} a) h agree stands range listed =
        let inner = end_emitted whole.code a (later_end h) in
        let body = ranged a (later_end h) agree stands range listed in (
          ends_at (next_address inner)
              (one_range (at_as _ (ap (λ j. traverse (suc x) one_part j) (sym (next_address inner))) (here h)) (begins_at (next_address h) body.0) (here inner)),
          body.1,
        )
    ranged (emits_some {x = x} a) h agree stands range listed =
        let inner = end_emitted whole.code a (later_end h) in
        let body = ranged a (later_end h) agree stands range listed in (
          ends_at (next_address inner)
              (some_range (at_as _ (ap (λ j. traverse (suc x) some_parts j) (sym (next_address inner))) (here h)) (begins_at (next_address h) body.0) (here inner)),
          body.1,
        )
    ranged (emits_let {S = S} {ds = ds} {o = o} a b) h agree stands range listed =
        let inside : Stands (in_definitions ds (length o.starts) S) = (((length o.starts, refl), range.0, stands.0), stands.1) in
        let defined = ranged_definitions a refl (end_emitted whole.code b h) (agrees_first (kept b) agree) inside range.0 (first_listed (made_definitions a) (made b) listed) in
        let body = ranged b h (agrees_later (kept_definitions refl a) agree) inside range.1 (second_listed (made_definitions a) (made b) listed) in
        (let_jump_range defined.0 body.0 defined.1, both (made_definitions a) (made b) defined.2 body.1)
    ranged (emits_call a) h agree stands range listed = ranged_called a h agree stands range listed
    ranged (emits_inline {S = S} {label = label} {y = y} {s = s} {ss = ss} {ds = ds} {ks = ks} at body given a) h agree stands range listed =
        let program = program_called (context S) y label ds at stands.0 in
        let definition = program_definition (context S) y label (strategies_count ss) 0 ds at range.0 in
        let many = sym (body_as_called (strategies_count ss) 0 body definition).0 ∙ as_many_given given in
        let inside : Stands (in_call ks (in_definitions ds label outermost)) = ((labelled_given given stands.0 (labelled_unframed (context S) stands.0), program), (all_registered (length whole.code) whole.starts I given stands.1 stands.1, tt)) in
        let own = body_in_range (layer_of_definitions ds no_layers) body program.1 in
        let found = ranged a h agree inside (subst (λ z. StrategyInRange (layer_of z 0 (layer_of_definitions ds no_layers)) s) many own) listed in
        (inline_range (program_hides (context S) y label ds at) definition body (given_placed given) found.0, found.1)
    ranged (emits_known {S = S} {T = T} {y = y} {s = s} given a) h agree stands range listed =
        let knows = given_outside S y.layers_up y.slot s T given in
        let there = labelled_knows (outer (context S) y.layers_up) y.slot s (context T) knows (labelled_outer (context S) y.layers_up stands.0) in
        let found = ranged a h agree (there.1, registered_given (length whole.code) whole.starts I S y.layers_up y.slot s T given stands.1) there.0 listed in
        (known_range (placed_knows (length whole.code) whole.starts (context S) y s (context T) knows) found.0, found.1)
    ranged (emits_open {S = S} {label = label} {y = y} {s = s} {ss = ss} {ds = ds} {ks = ks} at body given a) h agree stands range listed =
        let program = program_called (context S) y label ds at stands.0 in
        let definition = program_definition (context S) y label (strategies_count ss) 0 ds at range.0 in
        let many = sym (body_as_called (strategies_count ss) 0 body definition).0 ∙ as_many_given given in
        let inside : Stands (in_open_call ks (in_definitions ds label outermost)) =
        ((labelled_given given stands.0 stands.0, program), (all_registered (length whole.code) whole.starts I given stands.1 stands.1, tt)) in
        let own = body_in_range (layer_of_definitions ds no_layers) body program.1 in
        let found = ranged a h agree inside (subst (λ z. StrategyInRange (layer_of z 0 (layer_of_definitions ds no_layers)) s) many own) listed in
        (open_range (program_hides (context S) y label ds at) definition body (given_open_placed given) found.0, found.1)
    ranged (emits_argument {S = S} {T = T} {y = y} {s = s} none given a) h agree stands range listed =
        let knows = given_open_outside S y.layers_up y.slot s T given in
        let there = labelled_knows_open (outer (context S) y.layers_up) y.slot s (context T) knows (labelled_outer (context S) y.layers_up stands.0) in
        let found = ranged a h agree (there.1, registered_given_open (length whole.code) whole.starts I S y.layers_up y.slot s T given stands.1) there.0 listed in (
          argument_range (placed_frames (length whole.code) whole.starts (context S) y.layers_up ∙ none)
              (placed_knows_open (length whole.code) whole.starts (context S) y s (context T) knows) found.0,
          found.1,
        )
    ranged (emits_specialization {S = S} {x = x} {k = k} {label = label} {y = y} {s = s} {ss = ss} {ps = ps} {ds = ds} {ks = ks} {o = o} {o1 = o1} at body given a) h agree stands range listed =
        let program = program_called (context S) y label ds at stands.0 in
        let definition = program_definition (context S) y label (strategies_count ss) (patterns_count ps) ds at range.0 in
        let many = sym (body_as_called (strategies_count ss) (patterns_count ps) body definition).0 ∙ as_many_given given in
        let inside : Stands (in_specialization y.slot (length o.starts) (room_for s) k ks (in_definitions ds label outermost)) = ((labelled_given given stands.0 (labelled_unframed (context S) stands.0), program), (listed.0, all_registered (length whole.code) whole.starts I given stands.1 stands.1, tt)) in
        let own = body_in_range (layer_of_definitions ds no_layers) body program.1 in
        let long = length-append o.starts (replicate 1 1) in
        let size = set_long o1.starts (length o.starts) (length o1.code) in
        let mine = kept_body a in
        let start = agree.same (length o.starts) (omega arith) (omega (arith, long, size, mine.long)) ∙ set_here o1.starts (length o.starts) (length o1.code) (omega (arith, long, mine.long)) in
        let later : Agrees whole.starts (o.starts ++ replicate 1 1) o1.starts = record {
          same = λ l from below. agree.same l (omega (arith, from, long)) (omega (arith, below, size)) ∙ set_other o1.starts (length o.starts) (length o1.code) l (inr (omega (arith, from, long)));
        } in
        let found = ranged_body _ (ap (λ p. address_if (length whole.code) p) (sym start)) a (later_end h) later inside
        (subst (λ z. StrategyInRange (layer_of z k (layer_of_definitions ds no_layers)) s) many own) listed.1 in (
          specialization_range listed.0.0 (outer_placed (context S) y.layers_up at) definition listed.0.1 (given_placed given) (patterns_placed (context S) ps range.2)
              (ranged_call (context S) x y ps _ _ _ _ _ (here h)),
          specialization_more final I body found.0 found.1,
        )
    ranged (emits_same {S = S} {x = x} {own = own} {room = room} {y = y} {ss = ss} {ps = ps} {ds = ds} {ks = ks} n label at given is) h agree stands range listed =
        let found = same_registered (length whole.code) whole.starts I S n y.slot own room ks (in_definitions ds label outermost) is stands.1 in
        let definition = program_definition (context S) y label (strategies_count ss) (patterns_count ps) ds at range.0 in (
          specialization_range found.0 (outer_placed (context S) y.layers_up at) definition found.1 (given_placed given) (patterns_placed (context S) ps range.2)
              (ranged_call (context S) x y ps _ _ _ _ _ (here h)),
          no_specializations,
        )
    ranged (emits_parameter {S = S} {x = x} {y = y} {ss = ss} {ps = ps} none) h agree stands range listed = (
      ends_at (next_address h)
          (parameter_range (placed_parameter (length whole.code) whole.starts (context S) y (strategies_count ss) (patterns_count ps) none range.0)
          (at_as _ (ap (λ f. call_closure (suc x) (f y)) (same_frames (context S))) (here h))),
      no_specializations,
    )
    ranged (emits_primitive {S = S} {x = x} {f = g} {ps = ps}) h agree stands range listed = (
      ends_at (next_address h)
          (primitive_range (patterns_placed (context S) ps range) (at_as _ (ap (λ f. apply_primitive (suc x) g (all_renamed f ps)) (same_frames (context S))) (here h))),
      no_specializations,
    )

    pub ranged_called : {w : Option ℕ} {S : Site} {x : ℕ} {y : Coordinate} {ss : ResolvedStrategies} {ps : Patterns Coordinate} {o o1 : Emitted} (e : EmitsCall S x y ss ps o o1) → IsEnd whole.code o1.code →
        Agrees whole.starts o.starts o1.starts → Stands S → StrategyInRange (program_layers (context S)) (call y ss ps) → Listed (made_call e) →
        Ranges final I w (in_place (context S)) (addr o1) x (call y ss ps) (addr o) × Specialized (made_call e)
    ranged_called (calls {S = S} {x = x} {y = y} {ss = ss} {ps = ps} has entry a) h agree stands range listed =
        let found = callee (length whole.code) whole.starts (context S) y (strategies_count ss) (patterns_count ps) has stands.0 range.0 in
        let arguments = ranged_arguments a (later_end h) agree stands range.1 listed in (
          call_range (placed_outer (length whole.code) whole.starts (context S) y.layers_up ∙ found.is) found.definition
              (found.entry ∙ ap (λ e. Some (placed_entry (length whole.code) whole.starts e)) entry) arguments.0
              (patterns_placed (context S) ps range.2) (ranged_call (context S) x y ps _ _ _ _ _ (here h)),
          arguments.1,
        )

    -- in front of the code d of the chain stand the selects for the cases after the first
    ranged_chain : {w : Option ℕ} {S : Site} {last : ℕ} {bs : List Body} {s : ResolvedStrategy} {o o1 : Emitted} (d : Emitted) (e : EmitsChain w S s bs last o o1) →
        IsEnd whole.code (selects (drop 1 bs) (place d) last d.code) → IsEnd whole.code o1.code → Agrees whole.starts o.starts o1.starts →
        Stands S → StrategyInRange (program_layers (context S)) s → Listed (made_chain e) → Chained w (in_place (context S)) s bs (place d) last (addr o) × Specialized (made_chain e)
    ranged_chain d (chain_end a) block h agree stands range listed = ranged a h agree stands range listed
    ranged_chain d (chain_more {n = n} {last = last} {rs = rs} {bs = []} {o2 = o2} asks rooted a b) block h agree stands range listed =
        let middle = end_emitted whole.code b h in
        let first = ranged b h (agrees_later (kept_chain a) agree) stands range.0 (second_listed (made_chain a) (made b) listed) in
        let rest = ranged_chain d a block (later_end middle) (agrees_first (kept b) agree) stands range.2 (first_listed (made_chain a) (made b) listed) in (
          select_last (placed_asks (length whole.code) whole.starts asks) (located_cases (length whole.code) rs n (place o2) last [] rooted) first.0 (here middle) rest.0,
          both (made_chain a) (made b) rest.1 first.1,
        )
    ranged_chain d (chain_more {n = n} {last = last} {rs = rs} {bs = c ∷ bs} {o2 = o2} asks rooted a b) block h agree stands range listed =
        let middle = end_emitted whole.code b h in
        let first = ranged b h (agrees_later (kept_chain a) agree) stands range.0 (second_listed (made_chain a) (made b) listed) in
        let rest = ranged_chain d a (later_end block) (later_end middle) (agrees_first (kept b) agree) stands range.2 (first_listed (made_chain a) (made b) listed) in (
          select_more (placed_asks (length whole.code) whole.starts asks)
              (located_cases (length whole.code) rs (suc n) (place o2) (place d + suc (length bs)) (cases_between (c ∷ bs) (place d) last) rooted) first.0 (here middle)
              (selected a (select_at c bs last d block) rest.0) rest.0,
          both (made_chain a) (made b) rest.1 first.1,
        )

    ranged_arm : {w : Option ℕ} {S : Site} {x to : ℕ} {s1 s2 s3 : ResolvedStrategy} {o o1 : Emitted} (j : ℕ) (e : EmitsArm w S x s1 s2 to o o1) → address (length whole.code) to ≡ j →
        IsEnd whole.code o1.code → Agrees whole.starts o.starts o1.starts → Stands S → StrategyInRange (program_layers (context S)) s1 → StrategyInRange (program_layers (context S)) s2 → Listed (made_arm e) →
        Ranges final I w (in_place (context S)) (addr o) 0 s3 j → Ranges final I w (in_place (context S)) (addr o1) x (choice s1 s2 s3) j × Specialized (made_arm e)
    ranged_arm j (emits_arm a b) is h agree stands range1 range2 listed otherwise =
        let middle = end_emitted whole.code b (later_end h) in
        let guard = ranged b (later_end h) (agrees_later (kept_then a) agree) stands range1 (second_listed (made_then a) (made b) listed) in
        let then = ranged_then _ j a is middle (agrees_first (kept b) agree) stands range2 (first_listed (made_then a) (made b) listed) (here h) (begins_at (next_address h) guard.0) otherwise in
        (then.0, both (made_then a) (made b) then.1 guard.1)

    ranged_then : {w : Option ℕ} {S : Site} {to x : ℕ} {s1 s2 s3 : ResolvedStrategy} {o o1 : Emitted} (i j : ℕ) (e : EmitsThen w S s2 to o o1) → address (length whole.code) to ≡ j →
        IsEnd whole.code o1.code → Agrees whole.starts o.starts o1.starts → Stands S → StrategyInRange (program_layers (context S)) s2 → Listed (made_then e) → At final i (try (suc x) (addr o)) →
        Ranges final I w (in_place (context S)) (suc i) 0 s1 (addr o1) → Ranges final I w (in_place (context S)) (addr o) 0 s3 j → Ranges final I w (in_place (context S)) i x (choice s1 s2 s3) j × Specialized (made_then e)
    ranged_then {x = x} i j then_id is h agree stands range listed at guard otherwise = (
      else_range (subst (λ a. At final i (try (suc x) a)) (sym (next_address h)) at) guard (at_as _ (ap (λ a. commit 1 a) is) (here h)) (begins_at (next_address h) otherwise),
      no_specializations,
    )
    ranged_then {x = x} i j (then_code a) is h agree stands range listed at guard otherwise =
        let last = end_emitted whole.code a (later_end h) in
        let body = ranged a (later_end h) agree stands range listed in (
          choice_range (subst (λ a. At final i (try (suc x) a)) (sym (next_address last)) at) guard
              (at_as _ (ap (λ a. commit 0 a) (sym (next_address h))) (here h))
              (begins_at (next_address h) body.0) (at_as _ (ap (λ a. jump a) is) (here last)) (begins_at (next_address last) otherwise),
          body.1,
        )

    ranged_definitions : {S : Site} {label to : ℕ} {ds : ResolvedDefinitions} {o o1 : Emitted} (e : EmitsDefinitions S label ds to o o1) → label ≡ length o.starts →
        IsEnd whole.code o1.code → Agrees whole.starts o.starts o1.starts → Stands S → DefinitionsInRange (program_layers (context S)) ds → Listed (made_definitions e) →
        Bodies final I (in_place (context S)) ds (map (placed_entry (length whole.code) whole.starts) (labelled label ds)) × At final (addr o1) (jump (address (length whole.code) to)) × Specialized (made_definitions e)
    ranged_definitions (emits_definitions {label = label} {ds = ds} {o = o} a) is h agree stands range listed =
        let more = length-append o.starts (replicate (count_of ds) 1) ∙ ap (λ n. length o.starts + n) (length-replicate (count_of ds) 1) in
        let found = ranged_bodies a (omega (arith, is, more)) (later_end h) (λ l from below. agree.same l (omega (arith, is, from)) below) stands range listed in
        (found.0, here h, found.1)

    pub ranged_bodies : {S : Site} {label : ℕ} {ds : ResolvedDefinitions} {o o1 : Emitted} (e : EmitsBodies S label ds o o1) → label + count_of ds ≤ length o.starts →
        IsEnd whole.code o1.code → ((l : ℕ) → label ≤ l → l < length o1.starts → slice_get whole.starts l ≡ slice_get o1.starts l) → Stands S → DefinitionsInRange (program_layers (context S)) ds → Listed (made_bodies e) →
        Bodies final I (in_place (context S)) ds (map (placed_entry (length whole.code) whole.starts) (labelled label ds)) × Specialized (made_bodies e)
    ranged_bodies emits_no_bodies room h agree stands range listed = (no_bodies, no_specializations)
    ranged_bodies (emits_more_bodies {S} {label} {m} {k} {y} {s} {ds} {o} {o1} {o2} a b) room h agree stands range listed =
        let mine = kept_body a in
        let others = kept_bodies b in
        let size = set_long o1.starts label (length o1.code) in
        let start = agree label (omega arith) (omega (arith, room, mine.long, others.long, size)) ∙ others.same label (omega (arith, room, mine.long, size)) (inl (omega arith)) ∙
        set_here o1.starts label (length o1.code) (omega (arith, room, mine.long)) in
        let rest = ranged_bodies b (omega (arith, room, mine.long, size)) h (λ l from below. agree l (omega (arith, from)) below) stands range.1 (second_listed (made_body a) (made_bodies b) listed) in
        let own : Agrees whole.starts o.starts o1.starts = record {
          same = λ l from below. agree l (omega (arith, from, room)) (omega (arith, below, size, others.long)) ∙
              others.same l (omega (arith, below, size)) (inr (omega (arith, from, room))) ∙ set_other o1.starts label (length o1.code) l (inr (omega (arith, from, room)));
        } in
        let body = ranged_body _ (ap (λ p. address_if (length whole.code) p) (sym start)) a (end_bodies whole.code b h) own stands range.0 (first_listed (made_body a) (made_bodies b) listed) in
        (body_more final I body.0 rest.0, both (made_body a) (made_bodies b) body.1 rest.1)

    ranged_body : {S : Site} {k : ℕ} {s : ResolvedStrategy} {o o1 : Emitted} (entry : ℕ) → addr o1 ≡ entry → (e : EmitsBody S k s o o1) →
        IsEnd whole.code o1.code → Agrees whole.starts o.starts o1.starts → Stands S → StrategyInRange (program_layers (context S)) s → Listed (made_body e) →
        BodyRange final I (in_place (context S)) k s entry (room_for s) × Specialized (made_body e)
    ranged_body entry is (emits_body {S} {k} {s} none a) h agree stands range listed =
        let last = end_emitted whole.code a h in
        let found = ranged a h agree stands range listed in
        (subst (λ r. BodyRange final I (in_place (context S)) k s entry r) (sym (no_room s none)) (plain_body (begins_at (sym is) found.0) (here last)), found.1)
    ranged_body entry is (emits_scope_body a) h agree stands range listed =
        let last = end_emitted whole.code a h in
        let found = ranged a h agree stands range listed in
        (roomy_body (begins_at (sym is) found.0) (here last), found.1)

    ranged_arguments : {S : Site} {ss : ResolvedStrategies} {us : List Argument} {o o1 : Emitted} (e : EmitsArguments S ss o o1 us) → IsEnd whole.code o1.code →
        Agrees whole.starts o.starts o1.starts → Stands S → StrategiesInRange (program_layers (context S)) ss → Listed (made_arguments e) →
        Arguments final I (in_place (context S)) ss (map (argument_located (length whole.code)) us) × Specialized (made_arguments e)
    ranged_arguments emits_no_arguments h agree stands range listed = (no_arguments, no_specializations)
    ranged_arguments (emits_code_argument {S} {s} own a b) h agree stands range listed =
        let middle = end_arguments whole.code b h in
        let last = end_emitted whole.code a middle in
        let first = ranged a middle (agrees_first (kept_arguments b) agree) stands range.0 (first_listed (made a) (made_arguments b) listed) in
        let rest = ranged_arguments b h (agrees_later (kept a) agree) stands range.1 (second_listed (made a) (made_arguments b) listed) in
        (code_argument (placed_own_code (length whole.code) whole.starts (context S) s own) first.0 (here last) rest.0, both (made a) (made_arguments b) first.1 rest.1)
    ranged_arguments (emits_parameter_argument {S} {y} {vs} {ss} {ps} {us} none b) h agree stands range listed =
        let rest = ranged_arguments b h agree stands range.1 listed in (
          subst (λ f. Arguments final I (in_place (context S)) (more_strategies (call y vs ps) ss) (parameter_at (f y) ∷ map (argument_located (length whole.code)) us)) (sym (same_frames (context S)))
              (parameter_argument (placed_parameter (length whole.code) whole.starts (context S) y (strategies_count vs) (patterns_count ps) none range.0.0) rest.0),
          rest.1,
        )
    ranged_arguments (emits_known_argument {S = S} {T = T} {y = y} {s = s} given a b) h agree stands range listed =
        let middle = end_arguments whole.code b h in
        let last = end_emitted whole.code a middle in
        let knows = given_outside S y.layers_up y.slot s T given in
        let there = labelled_knows (outer (context S) y.layers_up) y.slot s (context T) knows (labelled_outer (context S) y.layers_up stands.0) in
        let first = ranged a middle (agrees_first (kept_arguments b) agree) (there.1, registered_given (length whole.code) whole.starts I S y.layers_up y.slot s T given stands.1) there.0
        (first_listed (made a) (made_arguments b) listed) in
        let rest = ranged_arguments b h (agrees_later (kept a) agree) stands range.1 (second_listed (made a) (made_arguments b) listed) in
        (known_argument (placed_knows (length whole.code) whole.starts (context S) y s (context T) knows) first.0 (here last) rest.0, both (made a) (made_arguments b) first.1 rest.1)
