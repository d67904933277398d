-- The beginning of a traversal and the end of the code for a part, of the Rust machine.
use Rattle.std.proofs.Common.{◌≡◌, ◌≤◌, ℕ, suc, ◌+◌, min, List, [], ◌∷◌, ◌++◌, length, take, drop, map, reverse, append_assoc, refl, sym, ◌∙◌, ap, subst, arith}
use Rattle.std.specs.Prelude.{Bool, true, false}
use Rattle.std.specs.Option.{option_map}
use Rattle.std.proofs.Math.Seq.{take-append-add, drop-append-add}
use Rattle.std.proofs.lemmas.List.{reverse-append, reverse-reverse, length-reverse, length-take}
use Rattle.term_model.specs.Term.{Tree, end, more, list_of, Fits}
use Rattle.term_model.specs.TermParts.{parts_of}
use Rattle.term_model.proofs.SpaceLaws.{keeps_same}
use Rattle.term_model.proofs.SpaceLemmas.{whole}
use Rattle.core_lang.specs.Environment.{Bindings}
use Rattle.term_model.specs.Flat.{Meaning}
use Rattle.core_lang.specs.Ending.{ok, oversize, rebuilt}
use Rattle.strat_code.specs.CodeOf.{traversal_of}
use Rattle.strat_code.specs.declared.instr.Traversal as kinds
use Rattle.strat_code.specs.declared.instr.Traversal.TheVariants as forms
use Rattle.strat_code.specs.Code.{Instr, Traversal, traverse, part_done, all_parts, one_part, some_parts}
use Rattle.strat_steps.specs.State as state
use Rattle.strat_steps.specs.State.{Frame, stuck}
use Rattle.strat_steps.specs.Binding.{trimmed}
use Rattle.strat_steps.specs.Step.{in_order}
use Rattle.term_model.specs.Space.{Space, IsMark, Stands}
use Rattle.strat_steps.specs.References.{Places, RefRecord, RefState, ref_one, ref_some, ref_running, ref_failing, ref_stopped, record_tree, trees, trees_left, AllRefs}
use Rattle.strat_steps.specs.ReferenceSteps.{HasNoMore, Does, begins_all, begins_one, begins_some, part_of_one, part_of_one_oversize, part_of_some, sticks, OnAll, all_whole, OnOne, one_none, OnSome, some_none}
use Rattle.strat_steps.specs.Marks.{Safe}
use Rattle.strat_patterns.specs.PlaceStack.{PlaceStack}
use Rattle.strat_machine.specs.Opened.{AllOpened}
use Rattle.strat_machine.specs.RecordStack.{saved_of, records_in, records_of, with_record}
use Rattle.strat_machine.specs.Traversing.{RebuildsTo, rebuilds, rebuilds_none, HasTried, StaysOpened, TakesPortion}
use Rattle.strat_steps.specs.Counted.{AllCounted}
use Rattle.strat_machine.specs.declared.stacks.Stacks.{Stacks}
use Rattle.strat_machine.specs.declared.stacks.Position.{Position}
use Rattle.strat_machine.specs.declared.stacks.Next.{Next}
use Rattle.strat_machine.specs.declared.records.Saved.{Saved}
use Rattle.strat_machine.specs.declared.records.Traversed.{Traversed}
use Rattle.strat_machine.specs.declared.records.Record.{Record}
use Rattle.strat_machine.specs.declared.records.Record.TheVariants as records
use Rattle.strat_machine.specs.declared.records.Records.{Records}
use Rattle.strat_machine.proofs.StepLaws.{does_to}
use Rattle.strat_machine.proofs.PortionLaws.{left_long}
use Rattle.strat_machine.proofs.TraversalLaws.{over, in_order_are, rebuilt_fits, all_goes, one_goes, some_goes, all_opened, one_opened, some_opened}
use Rattle.strat_patterns.proofs.ReferenceLists.{refs_append, refs_reverse}

-- a term without parts is rebuilt
rebuilt_leaf : {W R Y N : Type 0} (S : Space W R Y N) (w : W) (t : R) → HasNoMore S w t 0 → Fits (S.term_of w t) →
    (bound : Bindings) → rebuilt (S.term_of w t) (ok end bound) ≡ ok (S.term_of w t) bound
rebuilt_leaf S w t no_more fit bound =
    let same : S.term_of w t ≡ over (S.term_of w t) [] 0 = sym (whole (S.term_of w t)) in
    ap (λ us. rebuilt (S.term_of w t) (ok us bound)) (sym no_more) ∙
    rebuilt_fits (S.term_of w) t [] bound (S.term_of w t) same (subst Fits same fit)

-- a traversal begins, with no reference to a part of the term yet
module _ {W R Y N : Type 0} {S : Space W R Y N} {M : Meaning} {w : W} {i here b l k next : ℕ} {t : R} {e : Places R}
    {F : List Frame} {T : List ℕ} {K : List (RefRecord R Y)} {kind : Traversal} where
  module _ {st : RefState R Y} (body : ℕ) (at : body ≡ suc i) where
    pub all_begins : {w1 : W} → kind ≡ all_parts → OnAll S w body next here t e F T b K l [] [] w1 st →
        Does S M w (traverse k kind next) i here t e F T b K l w1 st
    all_begins {w1} is x =
        subst (λ j. Does S M w (traverse k j next) i here t e F T b K l w1 st) (sym is)
        (begins_all refl tt (subst (λ a. OnAll S w a next here t e F T b K l [] [] w1 st) at x))

    pub one_begins : kind ≡ one_part → OnOne S w body next here t e F T b K l [] [] st →
        Does S M w (traverse k kind next) i here t e F T b K l w st
    one_begins is x =
        subst (λ j. Does S M w (traverse k j next) i here t e F T b K l w st) (sym is)
        (begins_one refl tt (subst (λ a. OnOne S w a next here t e F T b K l [] [] st) at x))

    pub some_begins : {w1 : W} → kind ≡ some_parts → OnSome S w body next here t e F T b K l [] false [] w1 st →
        Does S M w (traverse k kind next) i here t e F T b K l w1 st
    some_begins {w1} is x =
        subst (λ j. Does S M w (traverse k j next) i here t e F T b K l w1 st) (sym is)
        (begins_some refl tt (subst (λ a. OnSome S w a next here t e F T b K l [] false [] w1 st) at x))

  -- a term without parts is as it was
  module _ (no_more : HasNoMore S w t 0) where
    pub all_of_leaf : kind ≡ all_parts → Stands S w t → Fits (S.term_of w t) →
        Does S M w (traverse k kind next) i here t e F T b K l w (ref_running next here t e F T b K l)
    all_of_leaf is stands fit =
        all_begins (suc i) refl is
        (all_whole no_more (keeps_same S w) stands (rebuilt_leaf S w t no_more fit (map (option_map (S.term_of w)) e)))

    pub one_of_leaf : kind ≡ one_part →
        Does S M w (traverse k kind next) i here t e F T b K l w (ref_failing e F T b K l)
    one_of_leaf is = one_begins (suc i) refl is (one_none no_more)

    pub some_of_leaf : kind ≡ some_parts →
        Does S M w (traverse k kind next) i here t e F T b K l w (ref_failing e F T b K l)
    some_of_leaf is = some_begins (suc i) refl is (some_none no_more)

-- nothing is taken
pub untouched : {R Y : Type 0} (rs np : Records R Y) → np ≡ record rs { left = np.left } → np.left ≡ rs.left → np ≡ rs
untouched rs np kept same = kept ∙ ap (λ l. record rs { left = l }) same

-- a traversal of a term without parts
module _ {W R Y N : Type 0} {S : Space W R Y N} {M : Meaning} {w : W} {i here b l k next : ℕ} {t : R}
    {e : Places R} {F : List Frame} {T : List ℕ} (rs np : Records R Y) (is : np ≡ rs) (no_more : HasNoMore S w t 0)
    (kind : kinds.Traversal) where
  pub leaf_stays : kind ≡ forms.All → Stands S w t → Fits (S.term_of w t) →
      Does S M w (traverse k (traversal_of kind) next) i here t e F T b (records_of rs) l w
      (ref_running next here t e F T b (records_of np) l)
  leaf_stays form stands fit =
      subst (λ x. Does S M w (traverse k (traversal_of kind) next) i here t e F T b (records_of rs) l w
      (ref_running next here t e F T b (records_of x) l)) (sym is)
      (all_of_leaf no_more (ap traversal_of form) stands fit)

  other_fails : (form : kinds.Traversal) → (form ≡ forms.All → ⊥) →
      Does S M w (traverse k (traversal_of form) next) i here t e F T b (records_of rs) l w
      (ref_failing e F T b (records_of rs) l)
  other_fails forms.All other = absurd (other refl)
  other_fails forms.One other = one_of_leaf no_more refl
  other_fails forms.Some other = some_of_leaf no_more refl

  pub leaf_fails : (kind ≡ forms.All → ⊥) →
      Does S M w (traverse k (traversal_of kind) next) i here t e F T b (records_of rs) l w
      (ref_failing e F T b (records_of np) l)
  leaf_fails other =
      subst (λ x. Does S M w (traverse k (traversal_of kind) next) i here t e F T b (records_of rs) l w
      (ref_failing e F T b (records_of x) l)) (sym is) (other_fails kind other)

-- the records are the same
pub opened_same : {W R Y N : Type 0} (S : Space W R Y N) (w : W) {rs np : Records R Y} → np ≡ rs →
    AllOpened S w (records_of rs) → AllOpened S w (records_of np)
opened_same S w is o = subst (λ x. AllOpened S w (records_of x)) (sym is) o

-- without those that are left of the first portion, the records are as before
module _ {R Y : Type 0} (rs np : Records R Y) (left : ℕ) (kept : np ≡ record rs { left = np.left })
    (after : rs.left ≡ drop left np.left) where
  records_before : record np { left = drop left np.left } ≡ rs
  records_before =
      ap (λ (x : Records R Y). record x { left = drop left np.left }) kept ∙
      ap (λ l. record rs { left = l }) (sym after)

  pub begun_performs : {W N : Type 0} {S : Space W R Y N} {M : Meaning} {w w1 : W} {v : Instr} {i here l b : ℕ} {t : R}
      {e : Places R} {F : List Frame} {T : List ℕ} {n : RefState R Y} →
      Does S M w v i here t e F T b (records_of (record np { left = drop left np.left })) l w1 n →
      Does S M w v i here t e F T b (records_of rs) l w1 n
  begun_performs {S = S} {M} {w} {w1} {v} {i} {here} {l} {b} {t} {e} {F} {T} {n} x =
      subst (λ y. Does S M w v i here t e F T b (records_of y) l w1 n) records_before x

  pub begun_stays : {W N : Type 0} {S : Space W R Y N} {w : W} {next : Next} {p : Position R} {m : Stacks R Y} →
      StaysOpened S (records_of (record np { left = drop left np.left })) w next p m →
      StaysOpened S (records_of rs) w next p m
  begun_stays {S = S} {w} {next} {p} {m} x = subst (λ y. StaysOpened S (records_of y) w next p m) records_before x

-- the first part of a traversal is taken
module _ {W R Y N : Type 0} {S : Space W R Y N} {w : W} (rs np : Records R Y) (kept : np ≡ record rs { left = np.left })
    (body next left : ℕ) (whole t part : R) (same : whole ≡ t) (taken : TakesPortion S w t 0 rs.left part left np.left)
  where
    begun : TakesPortion S w whole 0 rs.left part left np.left
    begun = subst (λ u. TakesPortion S w u 0 rs.left part left np.left) (sym same) taken

    module _ {M : Meaning} {i here b l k : ℕ} {e : Places R} {F : List Frame} {T : List ℕ} {kind : Traversal}
        (at : body ≡ suc i) where
      pub all_first : kind ≡ all_parts → (stack : List (Record R Y)) →
          stack ≡ records.All (record { body = body; next_address = next; whole = whole; done = 0; left = left }) ∷
          np.records →
          Does S M w (traverse k kind next) i here t e F T b (records_of rs) l w
          (ref_running body here part e F T b (records_in stack np.done np.left) l)
      all_first is stack put =
          let n = ref_running body here part e F T b (records_in stack np.done np.left) l in
          all_begins body at is (subst (λ u. OnAll S w body next here u e F T b (records_of rs) l [] [] w n) same
          (all_goes rs np kept (record { body = body; next_address = next; whole = whole; done = 0; left = 0 })
          (record { body = body; next_address = next; whole = whole; done = 0; left = left }) part left refl begun.after
          here e F T b l begun.next stack put))

      module _ (g : Saved) (m : Y) (n : RefState R Y)
          (saves : saved_of g ≡ state.saved here (length F) (length T) b) (marks : IsMark S w m) where
        pub one_first : kind ≡ one_part → n ≡ ref_running body here part e F T (length e)
            (with_record (records.One
            (record { body = body; next_address = next; whole = whole; done = 0; left = left }) part g m) np) l →
            Does S M w (traverse k kind next) i here t e F T b (records_of rs) l w n
        one_first is leads =
            one_begins body at is (subst (λ u. OnOne S w body next here u e F T b (records_of rs) l [] [] n) same
            (one_goes rs np kept (record { body = body; next_address = next; whole = whole; done = 0; left = 0 })
            (record { body = body; next_address = next; whole = whole; done = 0; left = left }) part left refl
            begun.after here e F T b l begun.next g m n saves marks leads))

        pub some_first : kind ≡ some_parts → n ≡ ref_running body here part e F T (length e)
            (with_record (records.Some
            (record { body = body; next_address = next; whole = whole; done = 0; left = left }) part false g m) np) l →
            Does S M w (traverse k kind next) i here t e F T b (records_of rs) l w n
        some_first is leads =
            some_begins body at is
            (subst (λ u. OnSome S w body next here u e F T b (records_of rs) l [] false [] w n) same
            (some_goes rs np kept (record { body = body; next_address = next; whole = whole; done = 0; left = 0 })
            (record { body = body; next_address = next; whole = whole; done = 0; left = left }) part left refl
            begun.after here e F T b l begun.next false g m n saves marks leads))

    module _ (o : AllOpened S w (records_of rs)) where
      pub all_first_opened : (stack : List (Record R Y)) →
          stack ≡ records.All (record { body = body; next_address = next; whole = whole; done = 0; left = left }) ∷
          np.records → AllOpened S w (records_in stack np.done np.left)
      all_first_opened stack put =
          all_opened rs np kept (record { body = body; next_address = next; whole = whole; done = 0; left = 0 })
          (record { body = body; next_address = next; whole = whole; done = 0; left = left }) part left refl begun.after
          S w begun.enough o stack put

      pub one_first_opened : (g : Saved) (m : Y) → AllOpened S w (with_record (records.One
          (record { body = body; next_address = next; whole = whole; done = 0; left = left }) part g m) np)
      one_first_opened g m =
          one_opened rs np kept (record { body = body; next_address = next; whole = whole; done = 0; left = 0 })
          (record { body = body; next_address = next; whole = whole; done = 0; left = left }) part left refl begun.after
          S w begun.enough o g m

      pub some_first_opened : (g : Saved) (m : Y) → AllOpened S w (with_record (records.Some
          (record { body = body; next_address = next; whole = whole; done = 0; left = left }) part false g m) np)
      some_first_opened g m =
          some_opened rs np kept (record { body = body; next_address = next; whole = whole; done = 0; left = 0 })
          (record { body = body; next_address = next; whole = whole; done = 0; left = left }) part left refl begun.after
          S w begun.enough o false g m

list_of_trees : {R : Type 0} (f : R → Tree) (rs : List R) → length (list_of (trees f rs)) ≡ length rs
list_of_trees f [] = refl
list_of_trees f (r ∷ rs) = ap suc (list_of_trees f rs)

-- the newest record is this one
pub opened_now : {W R Y N : Type 0} (S : Space W R Y N) (w : W) {old new : List (Record R Y)} {r : Record R Y}
    (D E : List R) → AllOpened S w (records_in old D E) → old ≡ r ∷ new → (x : Record R Y) → r ≡ x →
    AllOpened S w (records_in (x ∷ new) D E)
opened_now S w {new = new} D E o popped x is = subst (λ y. AllOpened S w (records_in (y ∷ new) D E))
    is (subst (λ rs. AllOpened S w (records_in rs D E)) popped o)

-- what holds of the newest record, which is taken off
module _ {W R Y N : Type 0} {S : Space W R Y N} {w : W} {e : Places R} {T : List ℕ} {b : ℕ}
    {old new : List (Record R Y)} {r : Record R Y} (D E : List R)
    (safe : Safe S w e T b (records_in old D E))
    (counted : AllCounted (map (record_tree (S.term_of w)) (records_in old D E)))
    (o : AllOpened S w (records_in old D E)) (popped : old ≡ r ∷ new) where
  safe_now : (x : Record R Y) → r ≡ x → Safe S w e T b (records_in (x ∷ new) D E)
  safe_now x is = subst (λ y. Safe S w e T b (records_in (y ∷ new) D E))
      is (subst (λ rs. Safe S w e T b (records_in rs D E)) popped safe)

  counted_now : (x : Record R Y) → r ≡ x → AllCounted (map (record_tree (S.term_of w)) (records_in (x ∷ new) D E))
  counted_now x is = subst (λ y. AllCounted (map (record_tree (S.term_of w)) (records_in (y ∷ new) D E)))
      is (subst (λ rs. AllCounted (map (record_tree (S.term_of w)) (records_in rs D E))) popped counted)

  many : (d l : ℕ) (whole : R) →
      length (list_of (trees (S.term_of w) (take d D))) +
      suc (length (list_of (trees_left (S.term_of w) whole (suc (length (take d D))) (take l E)))) ≡
      length (parts_of (S.term_of w whole)) →
      length (take d D) + suc (length (take l E)) ≤ length (parts_of (S.term_of w whole))
  many d l whole h =
      let a = list_of_trees (S.term_of w) (take d D) in
      let b = left_long (S.term_of w) whole (suc (length (take d D))) (take l E) in
      omega (arith, a, b, h)

  pub all_tried : {t : R} → Stands S w t → (v : Traversed R) → r ≡ records.All v →
      HasTried S w (record { records = new; done = D; left = E }) v t
  all_tried stands v is =
      let s = (safe_now (records.All v) is).records.0 in
      record {
        part = stands;
        whole = s.0;
        done = s.1;
        left = s.2;
        count =
            many v.done v.left v.whole (counted_now (records.All v) is).0;
        enough = (opened_now S w D E o popped (records.All v) is).0;
      }

  pub one_tried : {t : R} → Stands S w t → (v : Traversed R) (u : R) (g : Saved) (m : Y) → r ≡ records.One v u g m →
      HasTried S w (record { records = new; done = D; left = E }) v t
  one_tried stands v u g m is =
      let s = (safe_now (records.One v u g m) is).records.0 in
      record {
        part = stands;
        whole = s.0;
        done = s.1;
        left = s.3;
        count =
            many v.done v.left v.whole (counted_now (records.One v u g m) is).0;
        enough = (opened_now S w D E o popped (records.One v u g m) is).0;
      }

  pub some_tried : {t : R} → Stands S w t → (v : Traversed R) (u : R) (found : Bool) (g : Saved) (m : Y) →
      r ≡ records.Some v u found g m → HasTried S w (record { records = new; done = D; left = E }) v t
  some_tried stands v u found g m is =
      let s = (safe_now (records.Some v u found g m) is).records.0 in
      record {
        part = stands;
        whole = s.0;
        done = s.1;
        left = s.3;
        count =
            many v.done v.left v.whole (counted_now (records.Some v u found g m) is).0;
        enough = (opened_now S w D E o popped (records.Some v u found g m) is).0;
      }

pub part_of_nothing : {W R Y N : Type 0} {S : Space W R Y N} {M : Meaning} {w : W} {i here b l : ℕ} {t : R}
    {e : Places R} {F : List Frame} {T : List ℕ} {old : List (Record R Y)} (D E : List R) → old ≡ [] →
    Does S M w part_done i here t e F T b (records_in old D E) l w (ref_stopped stuck l)
part_of_nothing {S = S} {M} {w} {i} {here} {b} {l} {t} {e} {F} {T} D E none =
    subst (λ rs. Does S M w part_done i here t e F T b (records_in rs D E) l w (ref_stopped stuck l)) (sym none)
    (sticks refl)

-- what the end of a part's code does, with the newest record taken off
module _ {W R Y N : Type 0} {S : Space W R Y N} {M : Meaning} {w : W} {i here b l : ℕ} {t : R} {e : Places R}
    {F : List Frame} {T : List ℕ} {old new : List (Record R Y)} {r : Record R Y} (D E : List R) where
  pub part_at : {w1 : W} {n : RefState R Y} (x : Record R Y) →
      Does S M w part_done i here t e F T b (records_in (x ∷ new) D E) l w1 n → old ≡ r ∷ new → r ≡ x →
      Does S M w part_done i here t e F T b (records_in old D E) l w1 n
  part_at {w1} {n} x y popped is =
      subst (λ rs. Does S M w part_done i here t e F T b (records_in rs D E) l w1 n) (sym popped)
      (subst (λ z. Does S M w part_done i here t e F T b (records_in (z ∷ new) D E) l w1 n) (sym is) y)

  pub part_of_call : (a h : ℕ) → old ≡ r ∷ new → r ≡ records.Call a h →
      Does S M w part_done i here t e F T b (records_in old D E) l w (ref_stopped stuck l)
  part_of_call a h popped is = part_at (records.Call a h) (sticks refl) popped is

  pub part_of_choice : (a : ℕ) (u : R) (g : Saved) (m : Y) → old ≡ r ∷ new → r ≡ records.Choice a u g m →
      Does S M w part_done i here t e F T b (records_in old D E) l w (ref_stopped stuck l)
  part_of_choice a u g m popped is = part_at (records.Choice a u g m) (sticks refl) popped is

-- the whole is made at the end of the code for a part of one(s)
pub one_made : {W R Y N : Type 0} {S : Space W R Y N} {M : Meaning} {w w1 : W} {i here body next q k h d b : ℕ}
    {t u v : R} {done us : List R} {T : List ℕ} {m : Stacks R Y} {e : Places R} {K : List (RefRecord R Y)} {mark : Y}
    {n : RefState R Y} →
    RebuildsTo S w u (reverse done ++ t ∷ us) m K next here w1 n →
    m.places ≡ record { slots = e; trail = trimmed h d T; barrier = d } →
    Does S M w part_done i here t e m.frames T b (ref_one body next u done v us (state.saved q k h d) mark ∷ K)
    m.left w1 n
one_made {S = S} {w = w} {w1} {here = here} {next = next} {h = h} {d} {t = t} {u} {done =
    done} {us} {T} {m} {e} {K} (rebuilds {u = x} g sx is) places =
    let f = S.term_of w in
    let same : rebuilt (f u) (ok (in_order (trees f done) (more (f t) (trees_left f u (suc (length done)) us)))
    (map (option_map f) e)) ≡
    rebuilt (f u) (ok (trees_left f u 0 (reverse done ++ t ∷ us)) (map (option_map f) e)) =
    ap (λ ts. rebuilt (f u) (ok ts (map (option_map f) e))) (in_order_are f u done (t ∷ us)) in
    let slots = ap (λ p. p.slots) places in
    let is_so = subst (λ y. rebuilt (f u) (ok (trees_left f u 0 (reverse done ++ t ∷ us)) (map (option_map f) y)) ≡
    ok (S.term_of w1 x) (map (option_map f) y)) slots is in
    does_to (part_of_one g sx (same ∙ is_so))
    (ap (λ y. ref_running next here x y m.frames (trimmed h d T) d K m.left) (sym slots) ∙
    (ap (λ y. ref_running next here x m.places.slots m.frames y d K m.left) (ap (λ p. p.trail) (sym places)) ∙
    ap (λ y. ref_running next here x m.places.slots m.frames m.places.trail y K m.left)
    (ap (λ p. p.barrier) (sym places))))
one_made {S = S} {w = w} {t = t} {u} {done = done} {us} {e = e} (rebuilds_none g is) places =
    let f = S.term_of w in
    let same : rebuilt (f u) (ok (in_order (trees f done) (more (f t) (trees_left f u (suc (length done)) us)))
    (map (option_map f) e)) ≡
    rebuilt (f u) (ok (trees_left f u 0 (reverse done ++ t ∷ us)) (map (option_map f) e)) =
    ap (λ ts. rebuilt (f u) (ok ts (map (option_map f) e))) (in_order_are f u done (t ∷ us)) in
    part_of_one_oversize g (same ∙
    subst (λ y. rebuilt (f u) (ok (trees_left f u 0 (reverse done ++ t ∷ us)) (map (option_map f) y)) ≡ oversize {A = Tree})
    (ap (λ p. p.slots) places) is)

-- a part of some(s) is done
pub some_ended : {W R Y N : Type 0} {S : Space W R Y N} {M : Meaning} {w w1 : W} {i here body next q k h d b l : ℕ}
    {t u v : R} {done us : List R} {F : List Frame} {T : List ℕ} {P : PlaceStack R} {e : Places R}
    {K : List (RefRecord R Y)} {found : Bool} {mark : Y} {n : RefState R Y} →
    OnSome S w body next here u P.slots F P.trail P.barrier K l (t ∷ done) true us w1 n →
    P ≡ record { slots = e; trail = trimmed h d T; barrier = d } →
    Does S M w part_done i here t e F T b (ref_some body next u done v us found (state.saved q k h d) mark ∷ K) l w1 n
some_ended {S = S} {w = w} {w1} {here = here} {body} {next} {h = h} {d} {l = l} {t} {u} {done =
    done} {us} {F} {T} {P} {e} {K} {n = n} x places =
    part_of_some (subst (λ y. OnSome S w body next here u y.slots F y.trail y.barrier K l (t ∷ done) true us w1 n)
    places x)

-- the machine's own records are not seen
with_records : {W R Y N : Type 0} {S : Space W R Y N} {w w1 : W} {t : R} {ps : List R} {m : Stacks R Y}
    {K : List (RefRecord R Y)} {next here : ℕ} {n : RefState R Y} (rs : Records R Y) →
    RebuildsTo S w t ps m K next here w1 n →
    RebuildsTo S w t ps (record m { records = rs }) K next here w1 n
with_records rs (rebuilds g s is) = rebuilds g s is
with_records rs (rebuilds_none g is) = rebuilds_none g is

-- the parts of one(s), all on one stack
module _ {R : Type 0} (d l moved : ℕ) (D E one two : List R) (t : R) (put : one ≡ t ∷ D)
    (was : two ≡ reverse (take l E) ++ one) (many_moved : moved ≡ min l (length E)) where
  two_is : two ≡ reverse (take l E) ++ t ∷ D
  two_is = was ∙ ap (λ x. reverse (take l E) ++ x) put

  long : suc d + moved ≡ length (reverse (take l E)) + suc d
  long = let a = length-reverse (take l E) in let c = length-take l E in omega arith

  pub parts_taken : take (suc d + moved) two ≡ reverse (take l E) ++ t ∷ take d D
  parts_taken = ap (take (suc d + moved)) two_is ∙
      (ap (λ k. take k (reverse (take l E) ++ t ∷ D)) long ∙ take-append-add (reverse (take l E)) (t ∷ D) (suc d))

  pub parts_left : drop (suc d + moved) two ≡ drop d D
  parts_left = ap (drop (suc d + moved)) two_is ∙
      (ap (λ k. drop k (reverse (take l E) ++ t ∷ D)) long ∙ drop-append-add (reverse (take l E)) (t ∷ D) (suc d))

  pub parts_in_order : reverse (take (suc d + moved) two) ≡ reverse (take d D) ++ t ∷ take l E
  parts_in_order =
      ap reverse parts_taken ∙ (reverse-append (reverse (take l E)) (t ∷ take d D) ∙
      (ap (λ x. reverse (t ∷ take d D) ++ x) (reverse-reverse (take l E)) ∙
      (ap (λ x. x ++ take l E) (reverse-append (t ∷ []) (take d D)) ∙
      append_assoc (reverse (take d D)) (t ∷ []) (take l E))))

  pub parts_stand : (P : R → Type 0) → P t → AllRefs P (take d D) → AllRefs P (take l E) →
      AllRefs P (take (suc d + moved) two)
  parts_stand P h ds us = subst (AllRefs P) (sym parts_taken)
      (refs_append P (reverse (take l E)) (t ∷ take d D) (refs_reverse P (take l E) us) (h, ds))

  module _ {W Y N : Type 0} {S : Space W R Y N} {w w1 : W} {here : ℕ} {m : Stacks R Y} {n : RefState R Y}
      (rs : List (Record R Y)) (records2 : Records R Y) (v end : Traversed R) (F : List R)
      (at : v.done ≡ d) (left_at : v.left ≡ l) (ends : end ≡ record v { done = suc v.done + moved; left = 0 })
      (cut : F ≡ drop l E) where
    pub whole_of_one : RebuildsTo S w end.whole (reverse (take end.done two))
        m (records_in rs (drop end.done two) (drop end.left F)) end.next_address here w1 n →
        RebuildsTo S w v.whole (reverse (take d D) ++ t ∷ take l E) (record m { records = records2 })
        (records_in rs (drop d D) (drop l E)) v.next_address here w1 n
    whole_of_one x =
        let x1 : RebuildsTo S w v.whole (reverse (take (suc v.done + moved) two))
        m (records_in rs (drop (suc v.done + moved) two) F) v.next_address here w1 n =
        subst (λ u. RebuildsTo S w u.whole (reverse (take u.done two))
        m (records_in rs (drop u.done two) (drop u.left F)) u.next_address here w1 n) ends x in
        let x2 : RebuildsTo S w v.whole (reverse (take (suc d + moved) two))
        m (records_in rs (drop (suc d + moved) two) F) v.next_address here w1 n =
        subst (λ k. RebuildsTo S w v.whole (reverse (take (suc k + moved) two))
        m (records_in rs (drop (suc k + moved) two) F) v.next_address here w1 n) at x1 in
        let x3 : RebuildsTo S w v.whole (reverse (take d D) ++ t ∷ take l E)
        m (records_in rs (drop (suc d + moved) two) F) v.next_address here w1 n =
        subst (λ us. RebuildsTo S w v.whole us m (records_in rs (drop (suc d + moved) two) F) v.next_address here w1 n)
        parts_in_order x2 in
        let x4 : RebuildsTo S w v.whole (reverse (take d D) ++ t ∷ take l E) m (records_in rs (drop d D) F)
        v.next_address here w1 n =
        subst (λ us. RebuildsTo S w v.whole (reverse (take d D) ++ t ∷ take l E) m (records_in rs us F)
        v.next_address here w1 n) parts_left x3 in
        with_records records2 (subst
        (λ us. RebuildsTo S w v.whole (reverse (take d D) ++ t ∷ take l E) m (records_in rs (drop d D) us)
        v.next_address here w1 n) cut x4)
