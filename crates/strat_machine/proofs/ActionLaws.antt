-- Instructions of a loaded program.
use Rattle.std.proofs.Common.{◌≡◌, ◌↔◌, ◌+◌, ◌-◌, ◌<◌, ◌≤◌, ℕ, zero, suc, Option, Some, None, List, [], ◌∷◌, ◌++◌, length, take, drop, get_or, map, Contains, Vec, Global, refl, sym, ◌∙◌, ap, subst, arith, add-one}
use Rattle.std.specs.Prelude.{Bool, IsTrue, slice_get}
use Rattle.std.specs.Option.{IfSome, IsSome, option_map}
use Rattle.std.proofs.lemmas.List.{length-map, length-append}
use Rattle.std.proofs.lemmas.Option.{slice_get-map, slice_get_past, slice_get_read}
use Rattle.term_model.specs.Flat.{Meaning}
use Rattle.term_model.specs.PrimNames.{NameKey}
use Rattle.term_model.specs.NameSet.{key_at}
use Rattle.term_model.specs.Space.{Space, Keeps}
use Rattle.term_model.specs.Symbol.{Symbol}
use Rattle.core_lang.specs.declared.program.CorePattern.{CorePattern}
use Rattle.core_lang.specs.Views.{pattern_of, patterns_in}
use Rattle.strat_code.specs.Code as model
use Rattle.strat_code.specs.Code.{match_term, build_term, select, call_definition, apply_primitive, nodes_of}
use Rattle.strat_code.specs.CodeOf.{instr_of, code_of, case_of, cases_of, table_at, argument_of}
use Rattle.strat_code.specs.declared.instr.Case.{Case}
use Rattle.strat_code.specs.declared.instr.Instr.{Instr}
use Rattle.strat_code.specs.declared.instr.Instr.TheVariants as forms
use Rattle.strat_steps.specs.State.{Frame}
use Rattle.strat_steps.specs.References.{Places, RefRecord, RefState, ref_running}
use Rattle.strat_steps.specs.ReferenceSteps.{Does, StepRef, performs, leaves_code, cannot_pay}
use Rattle.strat_steps.specs.Marks.{Safe}
use Rattle.strat_machine.specs.Opened.{AllOpened, StateOpened, StepOpened}
use Rattle.strat_machine.specs.Actions.{IsAction, IsLoadedInstr, AreLoadedInstrs, IsLoadedProgram}
use Rattle.strat_patterns.specs.Loaded.{AllKnown, IsLoaded, AreLoaded, loaded_of, all_loaded_of}
use Rattle.strat_machine.specs.RecordStack.{records_of}
use Rattle.strat_machine.specs.Stacks.{state_of}
use Rattle.strat_machine.specs.Tables.{case_meant, IsPosition, AreLoadedTables, TablesKnown, cases_meant, loaded_at}
use Rattle.strat_code.specs.declared.instr.Argument.{Argument}
use Rattle.strat_patterns.specs.declared.loaded.LoadedPattern.{LoadedPattern}
use Rattle.strat_machine.specs.declared.program.Action.{Action}
use Rattle.strat_machine.specs.declared.program.Action.TheVariants as actions
use Rattle.strat_machine.specs.declared.program.LoadedInstr.{LoadedInstr}
use Rattle.strat_machine.specs.declared.program.LoadedProgram.{LoadedProgram}
use Rattle.strat_machine.specs.declared.stacks.Next.TheVariants.{Running, Spent, Stuck}
use Rattle.strat_machine.specs.declared.stacks.Position.{Position}
use Rattle.strat_machine.specs.declared.stacks.Stacks.{Stacks}
use Rattle.strat_machine.specs.declared.tables.LoadedTable.{LoadedTable}
use Rattle.strat_patterns.proofs.LoadedLaws.{is_loaded_later, are_loaded_later}
use Rattle.strat_machine.proofs.OpenedLaws.{IsPlain, does_opened, opened_kept}
use Rattle.strat_machine.proofs.TableLaws.{tables_kept, taken}

-- names stay known with their symbols, so what is loaded stays loaded
module _ {N : Type 0} {knows knows1 : N → Bool} {symbol_of symbol_of1 : N → Symbol} (later : (n : N) →
    IsTrue (knows n) → IsTrue (knows1 n)) (same : (n : N) → IsTrue (knows n) →
    symbol_of1 n ≡ symbol_of n) (keys : List NameKey) where
  action_later : (a : Action N) (v : Instr) → IsAction knows symbol_of keys a v → IsAction knows1 symbol_of1 keys a v
  action_later (actions.Match p) v h = (h.0, h.1, h.2, is_loaded_later later same h.3)
  action_later (actions.Build p) v h = (h.0, h.1, h.2, is_loaded_later later same h.3)
  action_later (actions.CallDefinition c us ps) v h = (h.0, h.1, h.2, h.3, h.4, are_loaded_later later same h.5)
  action_later (actions.ApplyPrimitive at ps) v h = (h.0, h.1, h.2, h.3, h.4, are_loaded_later later same h.5)
  action_later _ v h = h

  instr_later : {x : LoadedInstr N} {v : Instr} → IsLoadedInstr knows symbol_of keys x v →
      IsLoadedInstr knows1 symbol_of1 keys x v
  instr_later {x} {v} h = record { nodes = h.nodes; action = action_later x.action v h.action }

  pub instrs_later : {xs : List (LoadedInstr N)} {vs : List Instr} → AreLoadedInstrs knows symbol_of keys xs vs →
      AreLoadedInstrs knows1 symbol_of1 keys xs vs
  instrs_later h = record { long = h.long; each = λ i x v a b. instr_later (h.each i x v a b) }

  pub program_later : {number_of : N → ℕ} {l : LoadedProgram N} {ts : List (Vec Case Global)} {vs : List Instr} →
      IsLoadedProgram knows symbol_of keys number_of l ts vs → IsLoadedProgram knows1 symbol_of1 keys number_of l ts vs
  program_later {number_of} {l} {ts} h =
      record { instrs = instrs_later h.instrs; tables = tables_kept later same number_of l.tables.items ts h.tables }

  pub program_loaded : {number_of : N →
      ℕ} (l : LoadedProgram N) {ts ts1 : List (Vec Case Global)} {vs vs1 : List Instr} → ts1 ≡ ts → vs1 ≡ vs →
      AreLoadedTables knows symbol_of number_of l.tables.items ts1 →
      AreLoadedInstrs knows1 symbol_of1 keys l.instrs.items vs1 →
      IsLoadedProgram knows1 symbol_of1 keys number_of l ts vs
  program_loaded {number_of} l {ts} {ts1} are is h k = record {
    instrs = subst (λ xs. AreLoadedInstrs knows1 symbol_of1 keys l.instrs.items xs) is k;
    tables = subst (λ xs. AreLoadedTables knows1 symbol_of1 number_of l.tables.items xs)
        are (tables_kept later same number_of l.tables.items ts1 h);
  }

-- one more
module _ {N : Type 0} {knows : N → Bool} {symbol_of : N → Symbol} (keys : List NameKey) where
  each_push : (xs : List (LoadedInstr N)) (vs : List Instr) (x : LoadedInstr N) (v : Instr) → length xs ≡ length vs →
      ((i : ℕ) (y : LoadedInstr N) (u : Instr) → slice_get xs i ≡ Some y → slice_get vs i ≡ Some u →
      IsLoadedInstr knows symbol_of keys y u) →
      IsLoadedInstr knows symbol_of keys x v → (i : ℕ) (y : LoadedInstr N) (u : Instr) →
      slice_get (xs ++ x ∷ []) i ≡ Some y → slice_get (vs ++ v ∷ []) i ≡ Some u →
      IsLoadedInstr knows symbol_of keys y u
  each_push [] [] x v long each last zero y u at there =
      let left : x ≡ y = cc in let right : v ≡ u = cc in
      subst (λ z. IsLoadedInstr knows symbol_of keys y z)
      right (subst (λ z. IsLoadedInstr knows symbol_of keys z v) left last)
  each_push [] [] x v long each last (suc i) y u at there = absurd (cc)
  each_push [] (b ∷ vs) x v long each last i y u at there = absurd (omega arith)
  each_push (a ∷ xs) [] x v long each last i y u at there = absurd (omega arith)
  each_push (a ∷ xs) (b ∷ vs) x v long each last zero y u at there = each zero y u at there
  each_push (a ∷ xs) (b ∷ vs) x v long each last (suc i) y u at there =
      each_push xs vs x v (omega arith) (λ j p q h k. each (suc j) p q h k) last i y u at there

  pub one_more_instr : (xs new : List (LoadedInstr N)) (x : LoadedInstr N) (vs : List Instr) (i : ℕ) (v : Instr) →
      AreLoadedInstrs knows symbol_of keys xs (take i vs) → IsLoadedInstr knows symbol_of keys x v → i < length vs →
      v ≡ get_or vs i v → new ≡ xs ++ x ∷ [] →
      AreLoadedInstrs knows symbol_of keys new (take (i + 1) vs)
  one_more_instr xs new x vs i v h k within at is =
      subst (λ ys. AreLoadedInstrs knows symbol_of keys ys (take (i + 1) vs)) (sym is)
      (subst (λ us. AreLoadedInstrs knows symbol_of keys (xs ++ x ∷ []) us) (sym (taken vs i v within at)) (record {
        long = length-append xs (x ∷ []) ∙ (ap (λ n. n + 1) h.long ∙ sym (length-append (take i vs) (v ∷ [])));
        each = each_push xs (take i vs) x v h.long h.each k;
      }))

  -- a primitive is looked up, and its arguments are loaded
  pub primitive_loaded : (f : Vec ℕ Global) (n : ℕ) (qs : Vec CorePattern Global) (at : Option ℕ) (name : List ℕ)
      (count : ℕ) (ps : Vec (LoadedPattern N) Global) (xs : List CorePattern) (v : Instr) →
      v ≡ forms.ApplyPrimitive n f qs → name ≡ f.items → count ≡ length qs.items → xs ≡ qs.items →
      (IsSome at ↔ Contains keys (name, count)) → IfSome at (λ k. k < length keys) →
      IfSome at (λ k. key_at keys k ≡ (name, count)) → AreLoaded knows symbol_of ps.items (map pattern_of xs) →
      IsAction knows symbol_of keys (actions.ApplyPrimitive at ps) v
  primitive_loaded f n qs at name count ps xs v is same many are there within entry loaded =
      let h : AreLoaded knows symbol_of ps.items (map pattern_of qs.items) =
      subst (λ ys. AreLoaded knows symbol_of ps.items (map pattern_of ys)) are loaded in
      let long : count ≡ length ps.items =
      many ∙ (sym (length-map qs.items pattern_of) ∙
      (sym (ap length h.are) ∙ length-map ps.items (loaded_of symbol_of))) in (
        n,
        f,
        qs,
        is,
        subst (λ a. IsPosition keys at (a, length ps.items))
            same (subst (λ m. IsPosition keys at (name, m)) long (position_is at there within entry)),
        h,
      )
    where
      position_is : (o : Option ℕ) → (IsSome o ↔ Contains keys (name, count)) → IfSome o (λ k. k < length keys) →
          IfSome o (λ k. key_at keys k ≡ (name, count)) → IsPosition keys o (name, count)
      position_is None there within entry = λ h. let none = there.1 h in absurd (cc)
      position_is (Some k) there within entry = (within, entry)

-- the position is that of a primitive with this number of arguments
pub takes_as_many : (keys : List NameKey) (at : Option ℕ) (f : List ℕ) (n : ℕ) → IsPosition keys at (f, n) →
    IfSome at (λ k. (k < length keys) × ((key_at keys k).1 ≡ n))
takes_as_many keys None f n h = tt
takes_as_many keys (Some k) f n h = (h.0, ap (λ key. key.1) h.1)

-- the same number of arguments
pub position_as : (keys : List NameKey) (at : Option ℕ) (f : List ℕ) {n m : ℕ} → n ≡ m → IsPosition keys at (f, n) →
    IsPosition keys at (f, m)
position_as keys at f same h = subst (λ k. IsPosition keys at (f, k)) same h

pub known_as : {N : Type 0} (knows : N → Bool) {ps qs : List (LoadedPattern N)} → ps ≡ qs → AllKnown knows qs →
    AllKnown knows ps
known_as knows same h = subst (AllKnown knows) (sym same) h

-- loaded tables stand for those of the code
module _ {N : Type 0} (knows : N → Bool) (symbol_of : N → Symbol) (number_of : N → ℕ) where
  all_known : (ls : List (LoadedTable N)) (ts : List (Vec Case Global)) →
      AreLoadedTables knows symbol_of number_of ls ts → TablesKnown knows number_of ls
  all_known [] [] h = tt
  all_known (t ∷ ls) (u ∷ ts) h = (record { cases = h.0.cases.known; index = h.0.index }, all_known ls ts h.1)
  all_known [] (u ∷ ts) h = absurd h
  all_known (t ∷ ls) [] h = absurd h

  pub tables_known : (ls xs : List (LoadedTable N)) (ts : List (Vec Case Global)) → xs ≡ ls →
      AreLoadedTables knows symbol_of number_of ls ts → TablesKnown knows number_of xs
  tables_known ls xs ts same h = subst (TablesKnown knows number_of) (sym same) (all_known ls ts h)

  table_is : (ls : List (LoadedTable N)) (ts : List (Vec Case Global)) (j : ℕ) →
      AreLoadedTables knows symbol_of number_of ls ts →
      map (case_meant symbol_of) (loaded_at ls j) ≡ map case_of (table_at ts j)
  table_is [] [] j h = refl
  table_is (t ∷ ls) (u ∷ ts) zero h = h.0.cases.are
  table_is (t ∷ ls) (u ∷ ts) (suc j) h = table_is ls ts j h.1
  table_is [] (u ∷ ts) j h = absurd h
  table_is (t ∷ ls) [] j h = absurd h

  pub cases_are : (ls xs : List (LoadedTable N)) (ts : List (Vec Case Global)) (j k : ℕ) →
      AreLoadedTables knows symbol_of number_of ls ts → xs ≡ ls → cases_meant symbol_of xs j k ≡ cases_of ts j k
  cases_are ls xs ts j k h same = ap (λ ys. cases_meant symbol_of ys j k) same ∙ ap (drop k) (table_is ls ts j h)

-- neither begins a traversal nor ends the code for a part
abbrev pub IsPlainAction : {N : Type 0} → Action N → Type 0
IsPlainAction (actions.Traverse kind a) = ⊥
IsPlainAction actions.PartDone = ⊥
IsPlainAction _ = Unit {0}

plain_at : (ts : List (Vec Case Global)) {u v : Instr} → v ≡ u → IsPlain (instr_of ts u) → IsPlain (instr_of ts v)
plain_at ts is h = subst (λ u. IsPlain (instr_of ts u)) (sym is) h

plain_instr : {N : Type 0} (knows : N → Bool) (symbol_of : N → Symbol) (keys : List NameKey)
    (ts : List (Vec Case Global)) (a : Action N) (v : Instr) → IsAction knows symbol_of keys a v → IsPlainAction a →
    IsPlain (instr_of ts v)
plain_instr knows symbol_of keys ts actions.Count v h plain = plain_at ts h.1 tt
plain_instr knows symbol_of keys ts actions.GiveUp v h plain = plain_at ts h.1 tt
plain_instr knows symbol_of keys ts (actions.Match p) v h plain = plain_at ts h.2 tt
plain_instr knows symbol_of keys ts (actions.Build p) v h plain = plain_at ts h.2 tt
plain_instr knows symbol_of keys ts (actions.Enter k) v h plain = plain_at ts h.1 tt
plain_instr knows symbol_of keys ts actions.Leave v h plain = plain_at ts h tt
plain_instr knows symbol_of keys ts (actions.Extend k) v h plain = plain_at ts h.1 tt
plain_instr knows symbol_of keys ts (actions.Shrink k) v h plain = plain_at ts h tt
plain_instr knows symbol_of keys ts (actions.Try a) v h plain = plain_at ts h.1 tt
plain_instr knows symbol_of keys ts (actions.Commit a) v h plain = plain_at ts h.1 tt
plain_instr knows symbol_of keys ts (actions.Select j k a) v h plain = plain_at ts h.1 tt
plain_instr knows symbol_of keys ts (actions.Jump a) v h plain = plain_at ts h tt
plain_instr knows symbol_of keys ts (actions.Traverse kind a) v h plain = absurd plain
plain_instr knows symbol_of keys ts actions.PartDone v h plain = absurd plain
plain_instr knows symbol_of keys ts (actions.CallDefinition c us ps) v h plain = plain_at ts h.3 tt
plain_instr knows symbol_of keys ts (actions.CallClosure y) v h plain = plain_at ts h.1 tt
plain_instr knows symbol_of keys ts actions.EndDefinition v h plain = plain_at ts h tt
plain_instr knows symbol_of keys ts actions.EndArgument v h plain = plain_at ts h tt
plain_instr knows symbol_of keys ts (actions.ApplyPrimitive at ps) v h plain = plain_at ts h.3 tt
plain_instr knows symbol_of keys ts actions.Finish v h plain = plain_at ts h tt

-- the instruction at an address
pub none_at : (ts : List (Vec Case Global)) (instrs : List Instr) (i : ℕ) → length instrs ≤ i →
    slice_get (code_of ts instrs) i ≡ None
none_at ts instrs i h = slice_get-map (instr_of ts) instrs i ∙ ap (option_map (instr_of ts)) (slice_get_past instrs i h)

pub found_at : (ts : List (Vec Case Global)) (instrs : List Instr) (i : ℕ) (v : Instr) → slice_get instrs i ≡ Some v →
    slice_get (code_of ts instrs) i ≡ Some (instr_of ts v)
found_at ts instrs i v h = slice_get-map (instr_of ts) instrs i ∙ ap (option_map (instr_of ts)) h

there : {N : Type 0} (xs : List (LoadedInstr N)) (vs : List Instr) (i : ℕ) → length xs ≡ length vs → i < length xs →
    (v : Instr) × (slice_get vs i ≡ Some v)
there [] vs i long low = absurd (omega arith)
there (x ∷ xs) [] i long low = absurd (omega arith)
there (x ∷ xs) (v ∷ vs) zero long low = (v, refl)
there (x ∷ xs) (v ∷ vs) (suc i) long low = there xs vs i (omega arith) (omega arith)

module _ {W R Y N : Type 0} (S : Space W R Y N) (M : Meaning)
    {keys : List NameKey} {l : LoadedProgram N} {ts : List (Vec Case Global)} {vs : List Instr} {w : W}
    (loaded : IsLoadedProgram (S.knows w) (S.symbol_of w) keys S.number_of l ts vs) (p : Position R) (m : Stacks R Y)
  where
    -- the run leaves the code
    pub steps_out : (xs : List (LoadedInstr N)) → xs ≡ l.instrs.items → length xs ≤ p.address →
        StepRef S (code_of ts vs) M w (state_of Running p m) w (state_of Stuck p m)
    steps_out xs same past = let long = loaded.instrs.long in let length_same = ap length same in
        leaves_code (none_at ts vs p.address (omega (arith, past, long, length_same)))

    module _ (xs : List (LoadedInstr N)) (same : xs ≡ l.instrs.items) (x : LoadedInstr N) (within : p.address < length xs)
        (read : x ≡ get_or xs p.address x) where
      pub instr_there : (v : Instr) × (slice_get vs p.address ≡ Some v)
      instr_there = let length_same = ap length same in there xs vs p.address (length_same ∙ loaded.instrs.long) within

      pub is_loaded : IsLoadedInstr (S.knows w) (S.symbol_of w) keys x instr_there.0
      is_loaded =
          loaded.instrs.each p.address x instr_there.0
          (subst (λ ys. slice_get ys p.address ≡ Some x)
          same (slice_get_read xs (length xs) p.address x refl within read)) instr_there.1

      pub is_action : (a : Action N) → x.action ≡ a → IsAction (S.knows w) (S.symbol_of w) keys a instr_there.0
      is_action a form = subst (λ b. IsAction (S.knows w) (S.symbol_of w) keys b instr_there.0) form is_loaded.action

      -- the budget does not suffice
      pub cannot_step : m.left < x.nodes →
          StepOpened S (code_of ts vs) M w (state_of Running p m) w (state_of Spent p m)
      cannot_step low =
          let n = is_loaded.nodes ts in
          record {
            step = cannot_pay (found_at ts vs p.address instr_there.0 instr_there.1) (omega (arith, n, low));
            opened = λ holds o. tt;
          }

      module _ {w1 : W} {n : RefState R Y} (a : Action N) (form : x.action ≡ a) (paid : x.nodes ≤ m.left)
          (does : (v : Instr) → IsAction (S.knows w) (S.symbol_of w) keys a v →
          Does S M w (instr_of ts v)
          p.address p.frame p.term m.places.slots m.frames m.places.trail m.places.barrier (records_of m.records)
          (m.left - x.nodes) w1 n) where
        step_is : StepRef S (code_of ts vs) M w (state_of Running p m) w1 n
        step_is =
            let n = is_loaded.nodes ts in
            performs (m.left - x.nodes) (found_at ts vs p.address instr_there.0 instr_there.1) (omega (arith, n, paid))
            (does instr_there.0 (is_action a form))

        -- it is performed, and goes on with no traversal
        pub steps_by : IsPlainAction a → StepOpened S (code_of ts vs) M w (state_of Running p m) w1 n
        steps_by plain = record {
          step = step_is;
          opened = λ holds o. does_opened (does instr_there.0 (is_action a form))
              (plain_instr (S.knows w) (S.symbol_of w) keys ts a instr_there.0 (is_action a form) plain) holds.1 o;
        }

        -- it is performed, and traversals that have their first portions stay so
        pub steps_on : Keeps S w w1 → (AllOpened S w1 (records_of m.records) → StateOpened S w1 n) →
            StepOpened S (code_of ts vs) M w (state_of Running p m) w1 n
        steps_on keeps stays = record {
          step = step_is;
          opened = λ holds o. stays (opened_kept keeps holds.1 o);
        }

-- what an instruction that handles patterns is
module _ {N : Type 0} {knows : N → Bool} {symbol_of : N → Symbol} (ts : List (Vec Case Global)) {v : Instr} where
  pub match_is : {n : ℕ} {q : CorePattern} {p : LoadedPattern N} → v ≡ forms.Match n q →
      IsLoaded knows symbol_of p (pattern_of q) → instr_of ts v ≡ match_term n (loaded_of symbol_of p)
  match_is {n} is h = ap (instr_of ts) is ∙ ap (match_term n) (sym h.is)

  pub build_is : {n : ℕ} {q : CorePattern} {p : LoadedPattern N} → v ≡ forms.Build n q →
      IsLoaded knows symbol_of p (pattern_of q) → instr_of ts v ≡ build_term n (loaded_of symbol_of p)
  build_is {n} is h = ap (instr_of ts) is ∙ ap (build_term n) (sym h.is)

  pub call_is : {n h a k to : ℕ} {us : Vec Argument Global} {qs : Vec CorePattern Global}
      {ps ys : List (LoadedPattern N)} {xs : List Argument} → v ≡ forms.CallDefinition n h a k to us qs →
      xs ≡ us.items → ys ≡ ps → AreLoaded knows symbol_of ps (map pattern_of qs.items) →
      instr_of ts v ≡ call_definition n h a k to (map argument_of xs) (all_loaded_of symbol_of ys)
  call_is {n} {h} {a} {k} {to} {us} {qs} {ps} {ys} {xs} is same terms x =
      ap (instr_of ts) is ∙ (ap (λ zs. call_definition n h a k to zs (patterns_in (map pattern_of qs.items)))
      (ap (map argument_of) (sym same))
      ∙ ap (λ zs. call_definition n h a k to (map argument_of xs) (patterns_in zs)) (sym x.are ∙
      ap (map (loaded_of symbol_of)) (sym terms)))

  pub primitive_is : {n : ℕ} {f : Vec ℕ Global} {qs : Vec CorePattern Global} {ps ys : List (LoadedPattern N)} →
      v ≡ forms.ApplyPrimitive n f qs → ys ≡ ps → AreLoaded knows symbol_of ps (map pattern_of qs.items) →
      instr_of ts v ≡ apply_primitive n f.items (all_loaded_of symbol_of ys)
  primitive_is {n} {f} is terms x =
      ap (instr_of ts) is ∙ ap (λ zs. apply_primitive n f.items (patterns_in zs)) (sym x.are ∙
      ap (map (loaded_of symbol_of)) (sym terms))

pub select_is : {N : Type 0} (knows : N → Bool) (symbol_of : N → Symbol) (number_of : N →
    ℕ) (ls xs : List (LoadedTable N)) (ts : List (Vec Case Global)) {n j k a : ℕ} {v : Instr} →
    v ≡ forms.Select n j k a → AreLoadedTables knows symbol_of number_of ls ts → xs ≡ ls →
    instr_of ts v ≡ select n (cases_meant symbol_of xs j k) a
select_is knows symbol_of number_of ls xs ts {n} {j} {k} {a} is h same =
    ap (instr_of ts) is ∙ ap (λ ds. select n ds a) (sym (cases_are knows symbol_of number_of ls xs ts j k h same))

-- the next address
pub next_run : {R Y : Type 0} (i : ℕ)
    {p b l : ℕ} {t : R} {e : Places R} {F : List Frame} {T : List ℕ} {K : List (RefRecord R Y)} →
    ref_running (suc i) p t e F T b K l ≡ ref_running (i + 1) p t e F T b K l
next_run i {p} {b} {l} {t} {e} {F} {T} {K} = ap (λ k. ref_running k p t e F T b K l) (sym (add-one i))

module _ {W R Y N : Type 0} {S : Space W R Y N} {M : Meaning} {w w1 : W} {i p b l : ℕ} {t : R} {e : Places R}
    {F : List Frame} {T : List ℕ} {K : List (RefRecord R Y)} where
  -- an instruction that is this one
  pub as_instr : {m : RefState R Y} {u : Instr} (ts : List (Vec Case Global)) (v : Instr) → u ≡ v →
      Does S M w (instr_of ts v) i p t e F T b K l w1 m → Does S M w (instr_of ts u) i p t e F T b K l w1 m
  as_instr {m} ts v is x = subst (λ y. Does S M w (instr_of ts y) i p t e F T b K l w1 m) (sym is) x

  pub as_meant : {m : RefState R Y} {u v : model.Instr} → u ≡ v → Does S M w v i p t e F T b K l w1 m →
      Does S M w u i p t e F T b K l w1 m
  as_meant {m} is x = subst (λ y. Does S M w y i p t e F T b K l w1 m) (sym is) x
