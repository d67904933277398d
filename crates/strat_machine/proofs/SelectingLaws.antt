-- The first case that has a term's root, of the Rust machine.
use Rattle.std.proofs.Common.{◌≡◌, ◌↔◌, ◌+◌, ◌-◌, ◌<◌, ◌≤◌, ℕ, ℤ, zero, suc, List, [], ◌∷◌, length, get_or, drop, map, refl, sym, ◌∙◌, ap, subst, arith, add-one}
use Rattle.std.specs.Prelude.{Bool, true, false, ◌&&◌, IsTrue, Some, None, slice_get}
use Rattle.std.proofs.Math.Dec.{leb, eqb}
use Rattle.std.proofs.lemmas.Bool.{leb-true, le-leb, and_parts}
use Rattle.std.proofs.lemmas.Bool.Decides.{Decides-eqb}
use Rattle.std.proofs.lemmas.List.{drop_all, drop_more}
use Rattle.std.proofs.lemmas.Option.{slice_get_within, slice_get_past, get_or_from_slice_get}
use Rattle.std.proofs.Math.Seq.{drop-cons}
use Rattle.term_model.specs.declared.term.Head.TheVariants as heads
use Rattle.term_model.specs.Symbol.{Symbol}
use Rattle.term_model.specs.Flat.{Meaning}
use Rattle.term_model.specs.Same.{same_head, same_head-Decides}
use Rattle.term_model.specs.Space.{Space, IsApplied, IsList}
use Rattle.term_model.specs.Term.{Tree, node, Trees, end, more, list_of}
use Rattle.term_model.specs.TermParts.{head_of}
use Rattle.core_lang.specs.Roots.{Root, are_many, has_root, integer_root, symbol_root, list_root}
use Rattle.strat_code.specs.Code.{Instr, select}
use Rattle.strat_steps.specs.State.{Frame, run_spent, saved}
use Rattle.strat_steps.specs.References.{Places, RefRecord, RefState, ref_choice, ref_running, ref_stopped}
use Rattle.strat_steps.specs.ReferenceSteps.{Selecting, selects_none, selects_this, selects_later, selects_spent, selects}
use Rattle.strat_machine.specs.RecordStack.{records_of}
use Rattle.strat_machine.specs.Stacks.{Performs, PutsChoice, state_of}
use Rattle.strat_machine.specs.Selecting.{Selects}
use Rattle.strat_machine.specs.Indexing.{nodes_before, IsFirst}
use Rattle.strat_machine.specs.Tables.{root_meant, case_has, case_meant, cases_meant, loaded_at, RootKnown, CasesKnown, TableKnown, TablesKnown}
use Rattle.strat_machine.proofs.StepLaws.{does_to}
use Rattle.strat_machine.specs.declared.tables.LoadedCase.{LoadedCase}
use Rattle.strat_machine.specs.declared.tables.LoadedTable.{LoadedTable}
use Rattle.strat_machine.specs.declared.select.Selected.{Selected}
use Rattle.strat_machine.specs.declared.select.Selected.TheVariants as selected
use Rattle.strat_machine.specs.declared.stacks.Stacks.{Stacks}
use Rattle.strat_machine.specs.declared.stacks.Position.{Position}
use Rattle.strat_machine.specs.declared.stacks.Next.{Next}
use Rattle.strat_machine.specs.declared.stacks.Next.TheVariants.{Running, Spent}

-- roots
pub integer_is : (t : Tree) (z : ℤ) → has_root (integer_root z) t ≡ same_head (head_of t) (heads.Int z)
integer_is (node h ts annos) z = refl

both_true : {a b : Bool} → a ≡ true → b ≡ true → (a && b) ≡ true
both_true {a} {b} h k = ap (λ x. x && b) h ∙ k

many_exact : (n : ℕ) (ts : Trees) → (are_many n false ts ≡ true) ↔ (length (list_of ts) ≡ n)
many_exact zero end = (λ h. refl, λ h. refl)
many_exact zero (more t ts) = (λ h. absurd (cc), λ h. absurd (omega arith))
many_exact (suc n) end = (λ h. absurd (cc), λ h. absurd (omega arith))
many_exact (suc n) (more t ts) = let q = many_exact n ts in (λ h. ap (λ k. suc k) (q.0 h), λ h. q.1 (omega arith))

many_open : (n : ℕ) (ts : Trees) → (are_many n true ts ≡ true) ↔ (n ≤ length (list_of ts))
many_open zero ts = (λ h. omega arith, λ h. refl)
many_open (suc n) end = (λ h. absurd (cc), λ h. absurd (omega arith))
many_open (suc n) (more t ts) = let q = many_open n ts in (λ h. let k = q.0 h in omega arith, λ h. q.1 (omega arith))

pub symbol_is : (t : Tree) (f : Symbol) (n : ℕ) → (has_root (symbol_root f n) t ≡ true) ↔ IsApplied t f n
symbol_is (node h ts annos) f n = (
  λ k. let q = and_parts (same_head h (heads.App f)) (are_many n false ts) k in
      record { head = (same_head-Decides h (heads.App f)).0 q.0; long = (many_exact n ts).0 q.1 },
  λ k. both_true ((same_head-Decides h (heads.App f)).1 k.head) ((many_exact n ts).1 k.long),
)

module _ (t : Tree) (n : ℕ) where
  pub no_list_root : (o : Bool) → (head_of t ≡ heads.List → ⊥) → has_root (list_root n o) t ≡ true → ⊥
  no_list_root o none has = by t none has
    where
      by : (u : Tree) → (head_of u ≡ heads.List → ⊥) → has_root (list_root n o) u ≡ true → ⊥
      by (node h ts annos) none has =
          none ((same_head-Decides h heads.List).0 (and_parts (same_head h heads.List) (are_many n o ts) has).0)

  pub list_is : (k : ℕ) → IsList t k → (has_root (list_root n false) t ≡ true) ↔ (n ≡ k)
  list_is k is = by t k is
    where
      by : (u : Tree) (k : ℕ) → IsList u k → (has_root (list_root n false) u ≡ true) ↔ (n ≡ k)
      by (node h ts annos) k is = (
        λ has. sym ((many_exact n ts).0 (and_parts (same_head h heads.List) (are_many n false ts) has).1) ∙ is.long,
        λ same. both_true ((same_head-Decides h heads.List).1 is.head) ((many_exact n ts).1 (is.long ∙ sym same)),
      )

  pub open_list_is : (k : ℕ) → IsList t k → (has_root (list_root n true) t ≡ true) ↔ (n ≤ k)
  open_list_is k is = by t k is
    where
      by : (u : Tree) (k : ℕ) → IsList u k → (has_root (list_root n true) u ≡ true) ↔ (n ≤ k)
      by (node h ts annos) k is = (
        λ has. subst (λ m. n ≤ m)
            is.long ((many_open n ts).0 (and_parts (same_head h heads.List) (are_many n true ts) has).1),
        λ low. both_true ((same_head-Decides h heads.List).1 is.head)
            ((many_open n ts).1 (subst (λ m. n ≤ m) (sym is.long) low)),
      )

-- the walk over the cases: those before this one were passed by and paid for
module _ {W R Y N : Type 0} (S : Space W R Y N) (symbol_of : N →
    Symbol) (w : W) (last : ℕ) (p : Position R) (cs : List (LoadedCase N)) (m : Stacks R Y) where
  pub record Passed (i : ℕ) (m1 : Stacks R Y) : Type 0 where
    pub kept : m1 ≡ record m { left = m1.left }
    pub comes : (u : RefState R Y) →
        Selecting S w last p.frame p.term m.places.slots m.frames m.places.trail m.places.barrier (records_of m.records)
        (map (case_meant symbol_of) (drop i cs)) m1.left u →
        Selecting S w last p.frame p.term m.places.slots m.frames m.places.trail m.places.barrier (records_of m.records)
        (map (case_meant symbol_of) cs) m.left u

  pub nothing_passed : Passed 0 m
  nothing_passed = record { kept = refl; comes = λ u h. h }

  module _ (i : ℕ) (m1 : Stacks R Y) (so_far : Passed i m1) where
    pub passed_all : (M : Meaning) (n j : ℕ) → length cs ≤ i →
        Performs S M (select n (map (case_meant symbol_of) cs) last) j p w m w Running (record p { address = last }) m1
    passed_all M n j past =
        let u : RefState R Y = ref_running last p.frame p.term m.places.slots m.frames m.places.trail m.places.barrier
        (records_of m.records) m1.left in
        let none : Selecting S w last p.frame p.term m.places.slots m.frames m.places.trail m.places.barrier
        (records_of m.records) (map (case_meant symbol_of) (drop i cs)) m1.left u =
        subst (λ ds. Selecting S w last p.frame p.term m.places.slots m.frames m.places.trail m.places.barrier
        (records_of m.records) (map (case_meant symbol_of) ds) m1.left u) (sym (drop_all i cs past)) selects_none in
        does_to (selects (so_far.comes u none))
        (sym (ap (λ x. state_of Running (record p { address = last }) x) so_far.kept))

    module _ (c : LoadedCase N) (below : i < length cs) (read : c ≡ get_or cs i c) where
      cut : drop i cs ≡ c ∷ drop (i + 1) cs
      cut = rw add-one (drop-cons cs i c below ∙ ap (λ u. u ∷ drop (suc i) cs) (sym read))

      comes_here : (u : RefState R Y) →
          Selecting S w last p.frame p.term m.places.slots m.frames m.places.trail m.places.barrier
          (records_of m.records) (case_meant symbol_of c ∷ map (case_meant symbol_of) (drop (i + 1) cs)) m1.left u →
          Selecting S w last p.frame p.term m.places.slots m.frames m.places.trail m.places.barrier
          (records_of m.records) (map (case_meant symbol_of) cs) m.left u
      comes_here u h = so_far.comes u
          (subst (λ ds. Selecting S w last p.frame p.term m.places.slots m.frames m.places.trail m.places.barrier
          (records_of m.records) (map (case_meant symbol_of) ds) m1.left u) (sym cut) h)

      pub passes_case : (m2 : Stacks R Y) → has_root (root_meant symbol_of c.root) (S.term_of w p.term) ≡ false →
          c.nodes ≤ m1.left → m2 ≡ record m1 { left = m1.left - c.nodes } → Passed (i + 1) m2
      passes_case m2 other low is =
          let left : m2.left ≡ m1.left - c.nodes = ap (λ x. x.left) is in
          let paid : Stacks R Y → Stacks R Y = λ x. record x { left = m1.left - c.nodes } in
          let with : ℕ → Stacks R Y = λ l. record m { left = l } in
          record {
            kept = is ∙ (ap paid so_far.kept ∙ ap with (sym left));
            comes = λ u h. comes_here u (selects_later other low
                (subst (λ l. Selecting S w last p.frame p.term m.places.slots m.frames m.places.trail m.places.barrier
                (records_of m.records) (map (case_meant symbol_of) (drop (i + 1) cs)) l u) left h));
          }

      pub spent_at_case : (M : Meaning) (n j : ℕ) →
          has_root (root_meant symbol_of c.root) (S.term_of w p.term) ≡ false → m1.left < c.nodes →
          Performs S M (select n (map (case_meant symbol_of) cs) last) j p w m w Spent p m1
      spent_at_case M n j other low = selects (comes_here (ref_stopped run_spent m1.left) (selects_spent other low))

      pub selects_case : (M : Meaning) (n j : ℕ) → has_root (root_meant symbol_of c.root) (S.term_of w p.term) ≡ true →
          Selects S M (select n (map (case_meant symbol_of) cs) last) j p w m (selected.Case c.otherwise) (record p {
            address = c.body;
          }) m1
      selects_case M n j has m2 x =
          let run : Stacks R Y → RefState R Y =
          λ v. ref_running c.body p.frame p.term v.places.slots v.frames v.places.trail (length v.places.slots)
          (ref_choice c.otherwise p.term (saved p.frame (length v.frames) (length v.places.trail) v.places.barrier)
          x.mark ∷ records_of v.records) v.left in
          does_to (selects (comes_here (run (record m { left = m1.left })) (selects_this has x.marks)))
          (sym (x.leads c.body ∙ ap run so_far.kept))

-- the names of each case are known
pub case_known : {N : Type 0} (knows : N → Bool) (cs : List (LoadedCase N)) (i : ℕ) (c : LoadedCase N) →
    CasesKnown knows cs → i < length cs → c ≡ get_or cs i c → RootKnown knows c.root
case_known knows [] i c h below is = absurd (omega arith)
case_known knows (d ∷ cs) zero c h below is = subst (λ x. RootKnown knows x.root) (sym is) h.0
case_known knows (d ∷ cs) (suc i) c h below is = case_known knows cs i c h.1 (omega arith) is

-- a test that is false
pub not_has : (b v : Bool) → IsTrue b ↔ (v ≡ true) → b ≡ false → v ≡ false
not_has b true same is = let yes = same.1 refl in absurd (cc)
not_has b false same is = refl

-- a test that says whether there is this root
module _ (t : Tree) (b : Bool) where
  pub is_symbol_root : (r : Root) (f : Symbol) (n : ℕ) → r ≡ symbol_root f n → IsTrue b ↔ IsApplied t f n →
      IsTrue b ↔ (has_root r t ≡ true)
  is_symbol_root r f n is test = (
    λ h. ap (λ q. has_root q t) is ∙
        (symbol_is t f n).1 (test.0 h),
    λ h. test.1 ((symbol_is t f n).0 (ap (λ q. has_root q t) (sym is) ∙ h)),
  )

  pub is_list_root : (n : ℕ) (o : Bool) (k : ℕ) → o ≡ false → IsList t k → b ≡ eqb n k →
      IsTrue b ↔ (has_root (list_root n o) t ≡ true)
  is_list_root n o k closed is test =
      let law = list_is t n k is in let e = Decides-eqb n k in (
        λ h. ap (λ x. has_root (list_root n x) t) closed ∙ law.1 (e.0 (sym test ∙ h)),
        λ h. test ∙ e.1 (law.0 (ap (λ x. has_root (list_root n x) t) (sym closed) ∙ h)),
      )

  pub is_open_list_root : (n : ℕ) (o : Bool) (k : ℕ) → o ≡ true → IsList t k → b ≡ leb n k →
      IsTrue b ↔ (has_root (list_root n o) t ≡ true)
  is_open_list_root n o k opened is test =
      let law = open_list_is t n k is in (
        λ h. ap (λ x. has_root (list_root n x) t) opened ∙ law.1 (leb-true n k (sym test ∙ h)),
        λ h. test ∙ le-leb n k (law.0 (ap (λ x. has_root (list_root n x) t) (sym opened) ∙ h)),
      )

-- cases that lack the root are passed at once
module _ {W R Y N : Type 0} (S : Space W R Y N) (symbol_of : N →
    Symbol) (w : W) (last p : ℕ) (t : R) (e : Places R) (F : List Frame) (T : List ℕ) (b : ℕ) (K : List (RefRecord R Y))
  where
    abbrev pub At : List (LoadedCase N) → ℕ → RefState R Y → Type 0
    At cs l u = Selecting S w last p t e F T b K (map (case_meant symbol_of) cs) l u

    with_left : (cs : List (LoadedCase N)) (l m : ℕ) (u : RefState R Y) → l ≡ m → At cs l u → At cs m u
    with_left cs l m u same h = subst (λ k. At cs k u) same h

    none_before : (cs : List (LoadedCase N)) → nodes_before cs 0 ≡ 0
    none_before [] = refl
    none_before (c ∷ cs) = refl

    passes : (cs : List (LoadedCase N)) (n l : ℕ) (u : RefState R Y) →
        ((j : ℕ) (c : LoadedCase N) → j < n → slice_get cs j ≡ Some c → case_has symbol_of (S.term_of w t) c ≡ false) →
        n ≤ length cs → nodes_before cs n ≤ l →
        At (drop n cs) (l - nodes_before cs n) u → At cs l u
    passes cs zero l u lacks within pays h = let none = none_before cs in
        with_left cs (l - nodes_before cs 0) l u (omega arith) h
    passes [] (suc n) l u lacks within pays h = absurd (omega arith)
    passes (c ∷ cs) (suc n) l u lacks within pays h =
        selects_later (lacks 0 c (omega arith) refl) (omega arith)
        (passes cs n (l - c.nodes) u (λ j d low is. lacks (suc j) d (omega arith) is) (omega arith) (omega arith)
        (with_left (drop n cs) (l - (c.nodes + nodes_before cs n)) (l - c.nodes - nodes_before cs n) u (omega arith)
        h))

    pub passes_from : (cs : List (LoadedCase N)) (k i l : ℕ) (u : RefState R Y) → k ≤ i → i ≤ length cs →
        ((j : ℕ) (c : LoadedCase N) → k ≤ j → j < i → slice_get cs j ≡ Some c →
        case_has symbol_of (S.term_of w t) c ≡ false) → nodes_before cs i - nodes_before cs k ≤ l →
        At (drop i cs) (l - (nodes_before cs i - nodes_before cs k)) u → At (drop k cs) l u
    passes_from cs zero i l u low within lacks pays h =
        let none = none_before cs in
        passes cs i l u (λ j c under is. lacks j c (omega arith) under is) within (omega arith)
        (with_left (drop i cs) (l - (nodes_before cs i - nodes_before cs 0)) (l - nodes_before cs i) u (omega arith)
        h)
    passes_from [] (suc k) i l u low within lacks pays h = absurd (omega arith)
    passes_from (c ∷ cs) (suc k) zero l u low within lacks pays h = absurd (omega arith)
    passes_from (c ∷ cs) (suc k) (suc i) l u low within lacks pays h =
        let same : c.nodes + nodes_before cs i - (c.nodes + nodes_before cs k) ≡ nodes_before cs i - nodes_before cs k =
        omega arith in
        passes_from cs k i l u (omega arith) (omega arith)
        (λ j d from under is. lacks (suc j) d (omega arith) (omega arith) is) (omega (arith, same, pays))
        (with_left (drop i cs) (l - (c.nodes + nodes_before cs i - (c.nodes + nodes_before cs k)))
        (l - (nodes_before cs i - nodes_before cs k)) u (ap (λ x. l - x) same) h)

map_drop : {A B : Type 0} (f : A → B) (k : ℕ) (xs : List A) → map f (drop k xs) ≡ drop k (map f xs)
map_drop f zero xs = refl
map_drop f (suc k) [] = refl
map_drop f (suc k) (x ∷ xs) = map_drop f k xs

drop_at : {A : Type 0} (xs : List A) (i : ℕ) (x : A) → slice_get xs i ≡ Some x → drop i xs ≡ x ∷ drop (i + 1) xs
drop_at xs i x is =
    let below : i < length xs = slice_get_within xs i x is in
    drop_more xs i x below ∙ ap (λ y. y ∷ drop (i + 1) xs) (get_or_from_slice_get xs i x x is)

module _ {W R Y N : Type 0} (S : Space W R Y N) (symbol_of : N →
    Symbol) (w : W) (last : ℕ) (p : Position R) (cs : List (LoadedCase N)) (m : Stacks R Y) where
  -- a walk over the cases from number k on
  pub walks_rest : (M : Meaning) (n j k : ℕ) (rest : List (LoadedCase N)) (x : Selected) (q : Position R) (m1 : Stacks
      R Y) → rest ≡ drop k cs → Selects S M (select n (map (case_meant symbol_of) rest) last) j p w m x q m1 →
      Selects S M (select n (drop k (map (case_meant symbol_of) cs)) last) j p w m x q m1
  walks_rest M n j k rest x q m1 are h = subst (λ ds. Selects S M (select n ds last) j p w m x q m1) (ap (map
      (case_meant symbol_of)) are ∙ map_drop (case_meant symbol_of) k cs) h

  pub nothing_left : (M : Meaning) (n j k : ℕ) → length cs ≤ k →
      Performs S M (select n (drop k (map (case_meant symbol_of) cs)) last)
      j p w m w Running (record p { address = last }) m
  nothing_left M n j k past =
      let none : map (case_meant symbol_of) (drop k cs) ≡ [] = ap (map (case_meant symbol_of)) (drop_all k cs past) in
      subst (λ ds. Performs S M (select n ds last) j p w m w Running (record p { address = last }) m) (sym none ∙
      map_drop (case_meant symbol_of) k cs) (selects selects_none)

  module _ (k i cost : ℕ) (first : IsFirst (case_has symbol_of (S.term_of w p.term)) cs k i)
      (is : cost + nodes_before cs k ≡ nodes_before cs i) (low : cost ≤ m.left) where
    comes_to : (M : Meaning) (n j : ℕ) (next : Next) (q : Position R) (m1 : Stacks R Y) →
        Selecting S w last p.frame p.term m.places.slots m.frames m.places.trail m.places.barrier (records_of m.records)
        (map (case_meant symbol_of) (drop i cs)) (m.left - cost) (state_of next q m1) →
        Performs S M (select n (drop k (map (case_meant symbol_of) cs)) last) j p w m w next q m1
    comes_to M n j next q m1 h =
        let paid : cost ≡ nodes_before cs i - nodes_before cs k = omega (arith, is) in
        let left : Selecting S w last p.frame p.term m.places.slots m.frames m.places.trail m.places.barrier
        (records_of m.records) (map (case_meant symbol_of) (drop i cs))
        (m.left - (nodes_before cs i - nodes_before cs k)) (state_of next q m1) =
        subst (λ x. Selecting S w last p.frame p.term m.places.slots m.frames m.places.trail m.places.barrier
        (records_of m.records) (map (case_meant symbol_of) (drop i cs)) (m.left - x) (state_of next q m1)) paid h in
        subst (λ ds. Performs S M (select n ds last) j p w m w next q m1) (map_drop (case_meant symbol_of) k cs)
        (selects (passes_from S symbol_of w last p.frame p.term m.places.slots m.frames m.places.trail m.places.barrier
        (records_of m.records) cs k i m.left (state_of next q m1)
        first.from first.within first.passed (omega (arith, paid, low)) left))

    pub passes_all : (M : Meaning) (n j : ℕ) → length cs ≤ i →
        Performs S M (select n (drop k (map (case_meant symbol_of) cs)) last)
        j p w m w Running (record p { address = last }) (record m { left = m.left - cost })
    passes_all M n j past =
        comes_to M n j Running (record p { address = last }) (record m { left = m.left - cost })
        (subst (λ ds. Selecting S w last p.frame p.term m.places.slots m.frames m.places.trail m.places.barrier
        (records_of m.records) (map (case_meant symbol_of) ds) (m.left - cost)
        (ref_running last p.frame p.term m.places.slots m.frames m.places.trail m.places.barrier
        (records_of m.records) (m.left - cost)))
        (sym (drop_all i cs past)) selects_none)

    pub comes_to_case : (c : LoadedCase N) → slice_get cs i ≡ Some c → (M : Meaning) (n j : ℕ) →
        Selects S M (select n (drop k (map (case_meant symbol_of) cs)) last) j p w m (selected.Case c.otherwise)
        (record p { address = c.body }) (record m { left = m.left - cost })
    comes_to_case c at M n j m2 x =
        let u : RefState R Y = ref_running c.body p.frame p.term m.places.slots m.frames m.places.trail
        (length m.places.slots)
        (ref_choice c.otherwise p.term (saved p.frame (length m.frames) (length m.places.trail) m.places.barrier)
        x.mark ∷ records_of m.records) (m.left - cost) in
        let this : Selecting S w last p.frame p.term m.places.slots m.frames m.places.trail m.places.barrier
        (records_of m.records) (map (case_meant symbol_of) (c ∷ drop (i + 1) cs)) (m.left - cost) u =
        selects_this (first.has_it c at) x.marks in
        let there : Selecting S w last p.frame p.term m.places.slots m.frames m.places.trail m.places.barrier
        (records_of m.records) (map (case_meant symbol_of) (drop i cs)) (m.left - cost) u =
        subst (λ ds. Selecting S w last p.frame p.term m.places.slots m.frames m.places.trail m.places.barrier
        (records_of m.records) (map (case_meant symbol_of) ds) (m.left - cost) u) (sym (drop_at cs i c at)) this in
        comes_to M n j Running (record p { address = c.body })
        m2 (subst (λ v. Selecting S w last p.frame p.term m.places.slots m.frames m.places.trail m.places.barrier
        (records_of m.records) (map (case_meant symbol_of) (drop i cs)) (m.left - cost) v) (sym (x.leads c.body))
        there)

-- the table at a position
module _ {N : Type 0} where
  pub known_table : (knows : N → Bool) (number_of : N → ℕ) (ts : List (LoadedTable N)) (j : ℕ) (x : LoadedTable N) →
      TablesKnown knows number_of ts → slice_get ts j ≡ Some x → TableKnown knows number_of x
  known_table knows number_of [] j x h is = absurd (cc)
  known_table knows number_of (y ∷ ts) zero x h is = let same : y ≡ x = cc in
      subst (λ z. TableKnown knows number_of z) same h.0
  known_table knows number_of (y ∷ ts) (suc j) x h is = known_table knows number_of ts j x h.1 is

  table_there : (ts : List (LoadedTable N)) (j : ℕ) (x : LoadedTable N) → slice_get ts j ≡ Some x →
      loaded_at ts j ≡ x.cases.items
  table_there [] j x is = absurd (cc)
  table_there (y ∷ ts) zero x is = let same : y ≡ x = cc in ap (λ z. z.cases.items) same
  table_there (y ∷ ts) (suc j) x is = table_there ts j x is

  no_table : (ts : List (LoadedTable N)) (j : ℕ) → slice_get ts j ≡ None → loaded_at ts j ≡ []
  no_table [] j is = refl
  no_table (y ∷ ts) zero is = absurd (cc)
  no_table (y ∷ ts) (suc j) is = no_table ts j is

module _ {W R Y N : Type 0} (S : Space W R Y N) (symbol_of : N →
    Symbol) (w : W) (last : ℕ) (p : Position R) (ts : List (LoadedTable N)) (m : Stacks R Y) (table k : ℕ) where
  pub selects_in : (x : LoadedTable N) (M : Meaning) (n j : ℕ) (o : Selected) (q : Position R) (m1 : Stacks R Y) →
      slice_get ts table ≡ Some x → Selects S M (select n (drop k (map (case_meant symbol_of) x.cases.items)) last) j
      p w m o q m1 →
      Selects S M (select n (cases_meant symbol_of ts table k) last) j p w m o q m1
  selects_in x M n j o q m1 is h = subst (λ cs. Selects S M (select n (drop k (map (case_meant symbol_of) cs)) last) j
      p w m o q m1) (sym (table_there ts table x is)) h

  pub selects_no_table : (M : Meaning) (n j : ℕ) → length ts ≤ table →
      Performs S M (select n (cases_meant symbol_of ts table k) last) j p w m w Running (record p { address = last }) m
  selects_no_table M n j is =
      subst (λ cs. Performs S M (select n (drop k (map (case_meant symbol_of) cs)) last)
      j p w m w Running (record p { address = last }) m) (sym (no_table ts table (slice_get_past ts table is)))
      (nothing_left S symbol_of w last p [] m M n j k (omega arith))

pub known_rest : {N : Type 0} (knows : N → Bool) (cs rest : List (LoadedCase N)) (k : ℕ) → rest ≡ drop k cs →
    CasesKnown knows cs → CasesKnown knows rest
known_rest {N} knows cs rest k are h = subst (CasesKnown knows) (sym are) (later cs k h)
  where
    later : (xs : List (LoadedCase N)) (i : ℕ) → CasesKnown knows xs → CasesKnown knows (drop i xs)
    later xs zero h = h
    later [] (suc i) h = tt
    later (x ∷ xs) (suc i) h = later xs i h.1

module _ {W R Y N : Type 0} (S : Space W R Y N) (M : Meaning) (w : W) (v : Instr) (i : ℕ) (p : Position R) (m : Stacks
    R Y) where
  -- what a selection comes to is this
  pub selects_as : {x y : Selected} (q : Position R) (m1 : Stacks R Y) → x ≡ y → Selects S M v i p w m x q m1 →
      Selects S M v i p w m y q m1
  selects_as q m1 is h = subst (λ z. Selects S M v i p w m z q m1) is h

  -- the case that a selection comes to is tried
  pub case_tried : {q q1 : Position R} {m1 m2 : Stacks R Y} {o o1 : ℕ} (m3 : Stacks R Y) → q1 ≡ q → m2 ≡ m1 →
      o1 ≡ o → Selects S M v i p w m (selected.Case o) q m1 → PutsChoice S w m2 o1 q1 m3 →
      Performs S M v i p w m w Running q1 m3
  case_tried {q} {q1} {m1} {m2} {o} {o1} m3 position stacks otherwise h x =
      let here : PutsChoice S w m1 o1 q1 m3 = subst (λ y. PutsChoice S w y o1 q1 m3) stacks x in
      let so : PutsChoice S w m1 o q1 m3 = subst (λ a. PutsChoice S w m1 a q1 m3) otherwise here in
      subst (λ r. Performs S M v i p w m w Running r m3) (sym position) (h m3 (subst (λ r. PutsChoice S w m1 o r m3)
      position so))
