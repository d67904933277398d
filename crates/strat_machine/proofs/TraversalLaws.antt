-- Traversals of the Rust machine.
use Rattle.std.proofs.Common.{◌≡◌, ◌≤◌, ◌<◌, ℕ, suc, ◌+◌, ◌-◌, List, [], ◌∷◌, ◌++◌, length, take, drop, map, reverse, append_assoc, append-nil, refl, sym, ◌∙◌, ap, subst, arith}
use Rattle.std.specs.Prelude.{Bool, true, false}
use Rattle.std.specs.Option.{option_map}
use Rattle.std.proofs.Math.Seq.{take-append_seam, drop-append_seam}
use Rattle.std.proofs.lemmas.List.{reverse-append, reverse-reverse, length-map, length-take, length-drop}
use Rattle.std.proofs.lemmas.Bool.{false_from_ne_true}
use Rattle.term_model.specs.Term.{Tree, node, end, term, trees_of, fits, Fits}
use Rattle.term_model.specs.TermParts.{head_of, parts_of, annos_of}
use Rattle.term_model.specs.declared.made.Made.{Made}
use Rattle.term_model.specs.declared.made.Made.TheVariants as made
use Rattle.term_model.specs.Space.{Space, Keeps, IsMark, Makes, Pushes}
use Rattle.strat_machine.specs.PartsOf.{PutsParts}
use Rattle.term_model.proofs.TermLemmas.{trees_of-list_of}
use Rattle.term_model.proofs.FitsLaws.{fits-complete, fits-sound}
use Rattle.core_lang.specs.Environment.{Bindings}
use Rattle.core_lang.specs.Ending.{ok, oversize, if_fits, with_parts, rebuilt}
use Rattle.strat_steps.specs.Step.{in_order}
use Rattle.strat_steps.specs.State as state
use Rattle.strat_steps.specs.State.{Frame, run_oversize}
use Rattle.strat_steps.specs.References.{Places, RefRecord, RefState, ref_all, ref_one, ref_some, ref_running, ref_failing, ref_stopped, trees, trees_left}
use Rattle.term_model.specs.Flat.{Meaning}
use Rattle.strat_code.specs.Code.{part_done}
use Rattle.strat_machine.specs.CompactRecords.{AdvancesAll}
use Rattle.strat_steps.specs.ReferenceSteps.{IsNext, HasNoMore, Does, part_of_all, OnAll, all_goes_on, all_whole, all_oversize, OnOne, one_goes_on, OnSome, some_goes_on, some_whole, some_oversize, some_none}
use Rattle.strat_machine.specs.Opened.{HasOpened, AllOpened, StateOpened}
use Rattle.strat_machine.specs.RecordStack.{saved_of, records_in, records_of, with_record}
use Rattle.strat_machine.proofs.OpenedLaws.{opened_rebuilt}
use Rattle.strat_machine.proofs.PortionLaws.{left_are, next_first, none_after}
use Rattle.strat_machine.specs.Traversing.{RebuildsTo, rebuilds, rebuilds_none, HasParts, HasTried}
use Rattle.strat_machine.specs.declared.portions.TheConstants.{FIRST_PORTION}
use Rattle.strat_machine.specs.declared.stacks.Stacks.{Stacks}
use Rattle.strat_machine.specs.declared.records.Saved.{Saved}
use Rattle.strat_machine.specs.declared.records.Traversed.{Traversed}
use Rattle.strat_machine.specs.declared.records.Record.{Record}
use Rattle.strat_machine.specs.declared.records.Record.TheVariants as records
use Rattle.strat_machine.specs.declared.records.Records.{Records}

-- the terms of references

pub in_order_are : {R : Type 0} (f : R → Tree) (t : R) (done us : List R) →
    in_order (trees f done) (trees_left f t (length done) us) ≡ trees_left f t 0 (reverse done ++ us)
in_order_are f t [] us = refl
in_order_are f t (r ∷ done) us =
    in_order_are f t done (r ∷ us) ∙
    ap (trees_left f t 0) (sym (append_assoc (reverse done) (r ∷ []) us) ∙
    ap (λ l. l ++ us) (sym (reverse-append (r ∷ []) done)))

-- the term over other parts
with_parts_is : (t : Tree) (us : List Tree) → with_parts t (trees_of us) ≡ term (head_of t) us (annos_of t)
with_parts_is (node h ts annos) us = ap (λ a. node h (trees_of us) a) (sym (trees_of-list_of annos))

-- the term with other first parts
abbrev pub over : Tree → List Tree → (n : ℕ) → Tree
over t us n = term (head_of t) (us ++ drop n (parts_of t)) (annos_of t)

module _ {R : Type 0} (f : R → Tree) (t : R) (rs : List R) (e : Bindings) where
  rebuilt_is : rebuilt (f t) (ok (trees_left f t 0 rs) e) ≡
      if_fits (fits (over (f t) (map f rs) (length rs))) (over (f t) (map f rs) (length rs)) e
  rebuilt_is =
      let same : 0 + length rs ≡ length rs = omega arith in
      ap (λ us. rebuilt (f t) (ok us e)) (left_are f t 0 rs ∙
      ap (λ k. trees_of (map f rs ++ drop k (parts_of (f t)))) same) ∙
      ap (λ u. if_fits (fits u) u e) (with_parts_is (f t) (map f rs ++ drop (length rs) (parts_of (f t))))

  pub rebuilt_fits : (u : Tree) → u ≡ over (f t) (map f rs) (length rs) →
      Fits (over (f t) (map f rs) (length rs)) → rebuilt (f t) (ok (trees_left f t 0 rs) e) ≡ ok u e
  rebuilt_fits u is fit =
      rebuilt_is ∙ (ap (λ b. if_fits b (over (f t) (map f rs) (length rs)) e) (fits-complete _ fit) ∙
      ap (λ v. ok v e) (sym is))

  pub rebuilt_large : (Fits (over (f t) (map f rs) (length rs)) → ⊥) →
      rebuilt (f t) (ok (trees_left f t 0 rs) e) ≡ oversize
  rebuilt_large large = rebuilt_is ∙
      ap (λ b. if_fits b (over (f t) (map f rs) (length rs)) e)
      (false_from_ne_true _ (λ h. large (fits-sound _ h)))

-- parts of a term are put on a stack, the first one on top
pub parts_put : {W R Y N : Type 0} (S : Space W R Y N) (w : W) (t : R) (from to b : ℕ) (old mid new seen : List R) →
    to ≤ length (parts_of (S.term_of w t)) →
    Pushes S w (take (to - from) (drop from (parts_of (S.term_of w t)))) old mid → b ≡ length old →
    new ≡ take b mid ++ reverse (drop b mid) → reverse old ≡ seen →
    PutsParts S w t from to seen (reverse new)
parts_put S w t from to b old mid new seen within pushed at turned is =
    let there = pushed.after in
    let kept : take b mid ≡ old =
    ap (λ k. take k mid) at ∙ (ap (take (length old)) there ∙ take-append_seam old pushed.pushed) in
    let rest : drop b mid ≡ pushed.pushed =
    ap (λ k. drop k mid) at ∙ (ap (drop (length old)) there ∙ drop-append_seam old pushed.pushed) in
    let ps = parts_of (S.term_of w t) in
    let long = length-map pushed.pushed (S.term_of w) in
    let same = ap length pushed.are in
    let taken = length-take (to - from) (drop from ps) in
    let dropped = length-drop from ps in
    record {
      parts = pushed.pushed;
      after =
          ap reverse (turned ∙ (ap (λ us. us ++ reverse (drop b mid)) kept ∙ ap (λ us. old ++ reverse us) rest)) ∙
          (reverse-append old (reverse pushed.pushed) ∙
          (ap (λ us. us ++ reverse old) (reverse-reverse pushed.pushed) ∙ ap (λ us. pushed.pushed ++ us) is));
      count = omega (arith, within, long, same, taken, dropped);
      standing = pushed.standing;
      are = pushed.are;
    }

-- the whole is made

module _ {W R Y N : Type 0} {S : Space W R Y N} {w w1 : W}
    (t : R) (ps seen : List R) (m : Stacks R Y) (K : List (RefRecord R Y)) (next here : ℕ)
    {v : Made R} (keeps : Keeps S w w1)
    (makes : Makes S w1 (over (S.term_of w t) (map (S.term_of w) seen) (length seen)) v)
    (same : seen ≡ ps) where
  pub whole_fits : {u : R} {L : List (RefRecord R Y)} → v ≡ made.Fits u → K ≡ L →
      RebuildsTo S w t ps m K next here w1
      (ref_running next here u m.places.slots m.frames m.places.trail m.places.barrier L m.left)
  whole_fits {u} {L} is rest =
      let made_so : Makes S w1 (over (S.term_of w t) (map (S.term_of w) ps) (length ps)) (made.Fits u) =
      subst (λ us. Makes S w1 (over (S.term_of w t) (map (S.term_of w) us) (length us)) (made.Fits u)) same
      (subst (λ x. Makes S w1 (over (S.term_of w t) (map (S.term_of w) seen) (length seen)) x) is makes)
      in
      subst (λ L. RebuildsTo S w t ps m K next here w1
      (ref_running next here u m.places.slots m.frames m.places.trail m.places.barrier L m.left)) rest
      (rebuilds keeps made_so.0
      (rebuilt_fits (S.term_of w) t ps (map (option_map (S.term_of w)) m.places.slots)
      (S.term_of w1 u) made_so.1 made_so.2))

  pub whole_large : v ≡ made.Oversize → RebuildsTo S w t ps m K next here w1 (ref_stopped run_oversize m.left)
  whole_large is =
      let large : Makes S w1 (over (S.term_of w t) (map (S.term_of w) ps) (length ps)) made.Oversize =
      subst (λ us. Makes S w1 (over (S.term_of w t) (map (S.term_of w) us) (length us)) made.Oversize) same
      (subst (λ x. Makes S w1 (over (S.term_of w t) (map (S.term_of w) seen) (length seen)) x) is makes)
      in
      rebuilds_none keeps (rebuilt_large (S.term_of w) t ps (map (option_map (S.term_of w)) m.places.slots) large)

in_order_whole : {R : Type 0} (f : R → Tree) (t : R) (done : List R) (e : Bindings) →
    trees_left f t (length done) [] ≡ end →
    rebuilt (f t) (ok (in_order (trees f done) end) e) ≡ rebuilt (f t) (ok (trees_left f t 0 (reverse done)) e)
in_order_whole f t done e none = ap (λ us. rebuilt (f t) (ok us e)) (ap (in_order (trees f done)) (sym none) ∙
    (in_order_are f t done [] ∙ ap (trees_left f t 0) (append-nil (reverse done))))

module _ {W R Y N : Type 0} {S : Space W R Y N} {w w1 : W} (body : ℕ)
    {next here : ℕ} {t : R} {m : Stacks R Y} {K : List (RefRecord R Y)} (done : List R)
    (none : HasNoMore S w t (length done)) where
  all_made : {n : RefState R Y} → RebuildsTo S w t (reverse done) m K next here w1 n →
      OnAll S w body next here t m.places.slots m.frames m.places.trail m.places.barrier K m.left done [] w1 n
  all_made (rebuilds g st is) =
      all_whole none g st (in_order_whole (S.term_of w) t done (map (option_map (S.term_of w)) m.places.slots) none ∙
      is)
  all_made (rebuilds_none g is) =
      all_oversize none g (in_order_whole (S.term_of w) t done (map (option_map (S.term_of w)) m.places.slots) none ∙
      is)

  some_made : {n : RefState R Y} → RebuildsTo S w t (reverse done) m K next here w1 n →
      OnSome S w body next here t m.places.slots m.frames m.places.trail m.places.barrier K m.left done true [] w1 n
  some_made (rebuilds g st is) =
      some_whole none g st (in_order_whole (S.term_of w) t done (map (option_map (S.term_of w)) m.places.slots) none ∙
      is)
  some_made (rebuilds_none g is) =
      some_oversize none g (in_order_whole (S.term_of w) t done (map (option_map (S.term_of w)) m.places.slots) none ∙
      is)

-- a traversal without a part that is left
module _ {R Y : Type 0} (rs np : Records R Y) (kept : np ≡ record rs { left = np.left }) (v : Traversed R)
    (same : np.left ≡ rs.left) (none : take v.left rs.left ≡ []) where
  np_is : np ≡ rs
  np_is = kept ∙ ap (λ l. record rs { left = l }) same

  module _ {W N : Type 0} {S : Space W R Y N} {w w1 : W} (body : ℕ)
      {next here : ℕ} {t : R} {m : Stacks R Y} {n : RefState R Y}
      (no_more : HasNoMore S w t (length (take v.done rs.done)))
      (made_so : RebuildsTo S w t (reverse (take v.done np.done))
      m (records_in np.records (drop v.done np.done) (drop v.left np.left)) next here w1 n) where
    made_here : RebuildsTo S w t (reverse (take v.done rs.done))
        m (records_in rs.records (drop v.done rs.done) (drop v.left rs.left)) next here w1 n
    made_here = subst (λ x. RebuildsTo S w t (reverse (take v.done x.done))
        m (records_in x.records (drop v.done x.done) (drop v.left x.left)) next here w1 n) np_is made_so

    pub all_ends : OnAll S w body next here t m.places.slots m.frames m.places.trail m.places.barrier
        (records_in rs.records (drop v.done rs.done) (drop v.left rs.left)) m.left (take v.done rs.done)
        (take v.left rs.left) w1 n
    all_ends = subst (λ us. OnAll S w body next here t m.places.slots m.frames m.places.trail m.places.barrier
        (records_in rs.records (drop v.done rs.done) (drop v.left rs.left)) m.left (take v.done rs.done) us w1 n)
        (sym none)
        (all_made body (take v.done rs.done) no_more made_here)

    pub some_made_whole : (found : Bool) → found ≡ true →
        OnSome S w body next here t m.places.slots m.frames m.places.trail m.places.barrier
        (records_in rs.records (drop v.done rs.done) (drop v.left rs.left)) m.left (take v.done rs.done)
        found (take v.left rs.left) w1 n
    some_made_whole found was =
        subst (λ x. OnSome S w body next here t m.places.slots m.frames m.places.trail m.places.barrier
        (records_in rs.records (drop v.done rs.done) (drop v.left rs.left)) m.left (take v.done rs.done)
        x (take v.left rs.left) w1 n) (sym was)
        (subst (λ us. OnSome S w body next here t m.places.slots m.frames m.places.trail m.places.barrier
        (records_in rs.records (drop v.done rs.done) (drop v.left rs.left)) m.left (take v.done rs.done)
        true us w1 n) (sym none)
        (some_made body (take v.done rs.done) no_more made_here))

    pub whole_opened : AllOpened S w1 (records_in rs.records (drop v.done rs.done) (drop v.left rs.left)) →
        StateOpened S w1 n
    whole_opened o = opened_rebuilt made_here o

  rest_is : (cut : Records R Y) →
      cut ≡ record { records = np.records; done = drop v.done np.done; left = drop v.left np.left } →
      records_in rs.records (drop v.done rs.done) (drop v.left rs.left) ≡ records_of cut
  rest_is cut is = ap (λ x. records_in x.records (drop v.done x.done) (drop v.left x.left)) (sym np_is) ∙
      ap (λ x. records_of x) (sym is)

  pub cut_opened : {W N : Type 0} (S : Space W R Y N) (w : W) (cut : Records R Y) →
      cut ≡ record { records = np.records; done = drop v.done np.done; left = drop v.left np.left } →
      AllOpened S w (records_in rs.records (drop v.done rs.done) (drop v.left rs.left)) → AllOpened S w (records_of cut)
  cut_opened S w cut is o = subst (AllOpened S w) (rest_is cut is) o

  module _ {W N : Type 0} {S : Space W R Y N} {w : W} (body next here : ℕ) (t : R) (e : Places R) (F : List Frame)
      (T : List ℕ) (b l : ℕ) (done : List R) (cut : Records R Y)
      (is : cut ≡ record { records = np.records; done = drop v.done np.done; left = drop v.left np.left })
      (no_more : HasNoMore S w t (length done)) where
    pub some_fails : (found : Bool) → found ≡ false →
        OnSome S w body next here t e F T b (records_in rs.records (drop v.done rs.done) (drop v.left rs.left))
        l done found (take v.left rs.left) w (ref_failing e F T b (records_of cut) l)
    some_fails found was_not =
        subst (λ L. OnSome S w body next here t e F T b
        (records_in rs.records (drop v.done rs.done) (drop v.left rs.left)) l done found (take v.left rs.left)
        w (ref_failing e F T b L l)) (rest_is cut is)
        (subst (λ x. OnSome S w body next here t e F T b
        (records_in rs.records (drop v.done rs.done) (drop v.left rs.left)) l done x (take v.left rs.left)
        w (ref_failing e F T b (records_in rs.records (drop v.done rs.done) (drop v.left rs.left)) l)) (sym was_not)
        (subst (λ us. OnSome S w body next here t e F T b
        (records_in rs.records (drop v.done rs.done) (drop v.left rs.left))
        l done false us w (ref_failing e F T b (records_in rs.records (drop v.done rs.done) (drop v.left rs.left))
        l)) (sym none) (some_none no_more)))

-- a traversal with a next part
module _ {R Y : Type 0} (rs np : Records R Y) (kept : np ≡ record rs { left = np.left }) (v others : Traversed R)
    (part : R) (k : ℕ) (other : others ≡ record v { left = k })
    (after : drop v.left rs.left ≡ drop k np.left) where
  rest_of : records_in np.records (drop others.done np.done) (drop others.left np.left) ≡
      records_in rs.records (drop v.done rs.done) (drop v.left rs.left)
  rest_of =
      ap (λ j. records_in np.records (drop j np.done) (drop others.left np.left)) (ap (λ u. u.done) other) ∙
      (ap (λ j. records_in np.records (drop v.done np.done) (drop j np.left)) (ap (λ u. u.left) other) ∙
      (ap (λ l. records_in np.records (drop v.done np.done) l) (sym after) ∙
      ap (λ x. records_in x.records (drop v.done x.done) (drop v.left rs.left)) kept))

  done_of : take others.done np.done ≡ take v.done rs.done
  done_of = ap (λ j. take j np.done) (ap (λ u. u.done) other) ∙ ap (λ x. take v.done x.done) kept

  left_of : take others.left np.left ≡ take k np.left
  left_of = ap (λ j. take j np.left) (ap (λ u. u.left) other)

  all_record_is : (stack : List (Record R Y)) → stack ≡ records.All others ∷ np.records →
      ref_all v.body v.next_address v.whole (take v.done rs.done) (take k np.left) ∷
      records_in rs.records (drop v.done rs.done) (drop v.left rs.left) ≡ records_in stack np.done np.left
  all_record_is stack put =
      let a = rest_of in let d = done_of in let c = left_of in
      let x = ap (λ u. u.body) other in let y = ap (λ u. u.next_address) other in let z = ap (λ u. u.whole) other in
      let same : ref_all v.body v.next_address v.whole (take v.done rs.done) (take k np.left) ∷
      records_in rs.records (drop v.done rs.done) (drop v.left rs.left) ≡
      records_in (records.All others ∷ np.records) np.done np.left = cc in
      same ∙ ap (λ r. records_in r np.done np.left) (sym put)

  one_record_is : (g : Saved) (m : Y) (sv : state.Saved) → saved_of g ≡ sv →
      ref_one v.body v.next_address v.whole (take v.done rs.done) part (take k np.left) sv m ∷
      records_in rs.records (drop v.done rs.done) (drop v.left rs.left) ≡
      with_record (records.One others part g m) np
  one_record_is g m sv is =
      let a = rest_of in let d = done_of in let c = left_of in
      let x = ap (λ u. u.body) other in let y = ap (λ u. u.next_address) other in let z = ap (λ u. u.whole) other in
      cc

  some_record_is : (found : Bool) (g : Saved) (m : Y) (sv : state.Saved) → saved_of g ≡ sv →
      ref_some v.body v.next_address v.whole (take v.done rs.done) part (take k np.left) found sv m ∷
      records_in rs.records (drop v.done rs.done) (drop v.left rs.left) ≡
      with_record (records.Some others part found g m) np
  some_record_is found g m sv is =
      let a = rest_of in let d = done_of in let c = left_of in
      let x = ap (λ u. u.body) other in let y = ap (λ u. u.next_address) other in let z = ap (λ u. u.whole) other in
      cc

  module _ {W N : Type 0} (S : Space W R Y N) (w : W)
      (enough : HasOpened S w v.whole (length (take v.done rs.done) + suc (length (take k np.left))))
      (o : AllOpened S w (records_in rs.records (drop v.done rs.done) (drop v.left rs.left))) where
    pub all_opened : (stack : List (Record R Y)) → stack ≡ records.All others ∷ np.records →
        AllOpened S w (records_in stack np.done np.left)
    all_opened stack put = subst (AllOpened S w) (all_record_is stack put) (enough, o)

    pub one_opened : (g : Saved) (m : Y) → AllOpened S w (with_record (records.One others part g m) np)
    one_opened g m = subst (AllOpened S w) (one_record_is g m (saved_of g) refl) (enough, o)

    pub some_opened : (found : Bool) (g : Saved) (m : Y) →
        AllOpened S w (with_record (records.Some others part found g m) np)
    some_opened found g m = subst (AllOpened S w) (some_record_is found g m (saved_of g) refl) (enough, o)

  module _ {W N : Type 0} {S : Space W R Y N} {w : W} (here : ℕ) (e : Places R) (F : List Frame) (T : List ℕ) (b l : ℕ)
      (next : IsNext S w v.whole (length (take v.done rs.done)) (take v.left rs.left) part (take k np.left)) where
    pub all_goes : (stack : List (Record R Y)) → stack ≡ records.All others ∷ np.records →
        OnAll S w v.body v.next_address here v.whole e F T b
        (records_in rs.records (drop v.done rs.done) (drop v.left rs.left)) l (take v.done rs.done)
        (take v.left rs.left) w
        (ref_running others.body here part e F T b (records_in stack np.done np.left) l)
    all_goes stack put =
        let K = records_in rs.records (drop v.done rs.done) (drop v.left rs.left) in
        subst (λ n. OnAll S w v.body v.next_address here v.whole e F T b K l (take v.done rs.done)
        (take v.left rs.left) w n)
        (ap (λ L. ref_running v.body here part e F T b L l) (all_record_is stack put) ∙
        ap (λ a. ref_running a here part e F T b (records_in stack np.done np.left) l)
        (ap (λ u. u.body) (sym other)))
        (all_goes_on next)

    pub one_goes : (g : Saved) (m : Y) (n : RefState R Y) → saved_of g ≡ state.saved here (length F) (length T) b →
        IsMark S w m → n ≡ ref_running others.body here part e F T (length e)
        (with_record (records.One others part g m) np) l →
        OnOne S w v.body v.next_address here v.whole e F T b
        (records_in rs.records (drop v.done rs.done) (drop v.left rs.left)) l (take v.done rs.done)
        (take v.left rs.left) n
    one_goes g m n saves marks leads =
        let K = records_in rs.records (drop v.done rs.done) (drop v.left rs.left) in
        subst (λ n. OnOne S w v.body v.next_address here v.whole e F T b K l (take v.done rs.done)
        (take v.left rs.left) n)
        (ap (λ L. ref_running v.body here part e F T (length e) L l)
        (one_record_is g m (state.saved here (length F) (length T) b) saves) ∙
        (ap (λ a. ref_running a here part e F T (length e) (with_record (records.One others part g m) np) l)
        (ap (λ u. u.body) (sym other)) ∙ sym leads))
        (one_goes_on next marks)

    pub some_goes : (found : Bool) (g : Saved) (m : Y) (n : RefState R Y) →
        saved_of g ≡ state.saved here (length F) (length T) b → IsMark S w m →
        n ≡ ref_running others.body here part e F T (length e) (with_record (records.Some others part found g m) np) l →
        OnSome S w v.body v.next_address here v.whole e F T b
        (records_in rs.records (drop v.done rs.done) (drop v.left rs.left)) l (take v.done rs.done)
        found (take v.left rs.left) w n
    some_goes found g m n saves marks leads =
        let K = records_in rs.records (drop v.done rs.done) (drop v.left rs.left) in
        subst (λ n. OnSome S w v.body v.next_address here v.whole e F T b K l (take v.done rs.done)
        found (take v.left rs.left) w n)
        (ap (λ L. ref_running v.body here part e F T (length e) L l)
        (some_record_is found g m (state.saved here (length F) (length T) b) saves) ∙
        (ap (λ a. ref_running a here part e F T (length e) (with_record (records.Some others part found g m) np) l)
        (ap (λ u. u.body) (sym other)) ∙ sym leads))
        (some_goes_on next marks)

-- all(s) goes on with its next part, its record changed in place
module _ {R Y : Type 0} (rs : Records R Y) (new : List (Record R Y)) (others done : List R) (body : ℕ) (part t : R)
    (a : AdvancesAll rs.records rs.left body part new others) (put : done ≡ t ∷ rs.done) where
  record_before : records_of rs ≡
      ref_all a.traversed.body a.traversed.next_address a.traversed.whole (take a.traversed.done rs.done)
      (part ∷ take (a.traversed.left - 1) others) ∷
      records_in a.rest (drop a.traversed.done rs.done) (drop (a.traversed.left - 1) others)
  record_before =
      let v = a.traversed in
      let k = v.left - 1 in
      let some_left = a.more in
      let one_less : v.left ≡ suc k = omega (arith, some_left) in
      ap (λ x. records_in x rs.done rs.left) a.was ∙
      (ap (λ E. ref_all v.body v.next_address v.whole (take v.done rs.done) (take v.left E) ∷
      records_in a.rest (drop v.done rs.done) (drop v.left E)) a.taken ∙
      ap (λ j. ref_all v.body v.next_address v.whole (take v.done rs.done) (take j (part ∷ others)) ∷
      records_in a.rest (drop v.done rs.done) (drop j (part ∷ others))) one_less)

  record_after :
      ref_all a.traversed.body a.traversed.next_address a.traversed.whole (t ∷ take a.traversed.done rs.done)
      (take (a.traversed.left - 1) others) ∷
      records_in a.rest (drop a.traversed.done rs.done) (drop (a.traversed.left - 1) others) ≡
      records_in new done others
  record_after =
      let v = a.traversed in
      let k = v.left - 1 in
      sym (ap (λ x. records_in x done others) a.is ∙
      ap (λ D. ref_all v.body v.next_address v.whole (take (suc v.done) D) (take k others) ∷
      records_in a.rest (drop (suc v.done) D) (drop k others)) put)

  pub advance_opened : {W N : Type 0} (S : Space W R Y N) (w : W) → AllOpened S w (records_of rs) →
      AllOpened S w (records_in new done others)
  advance_opened S w o =
      let before = subst (AllOpened S w) record_before o in
      let enough = before.0 in
      subst (AllOpened S w) record_after (omega (arith, enough), before.1)

  pub all_advances : {W N : Type 0} {S : Space W R Y N} {M : Meaning} {w : W} {i here b l : ℕ} {e : Places R}
      {F : List Frame} {T : List ℕ} →
      Does S M w part_done i here t e F T b (records_of rs)
      l w (ref_running body here part e F T b (records_in new done others) l)
  all_advances {S = S} {M} {w} {i} {here} {b} {l} {e} {F} {T} =
      let v = a.traversed in
      let k = v.left - 1 in
      let K0 = records_in a.rest (drop v.done rs.done) (drop k others) in
      subst (λ K. Does S M w part_done i here t e F T b K l w
      (ref_running body here part e F T b (records_in new done others) l)) (sym record_before)
      (subst (λ K. Does S M w part_done i here t e F T b
      (ref_all v.body v.next_address v.whole (take v.done rs.done) (part ∷ take k others) ∷ K0)
      l w (ref_running body here part e F T b K l)) record_after
      (subst (λ a. Does S M w part_done i here t e F T b
      (ref_all v.body v.next_address v.whole (take v.done rs.done) (part ∷ take k others) ∷ K0)
      l w (ref_running a here part e F T b
      (ref_all v.body v.next_address v.whole (t ∷ take v.done rs.done) (take k others) ∷ K0) l)) (sym a.code)
      (part_of_all (all_goes_on next_first))))

-- a part of a traversal has become this, and the traversal goes on
module _ {W R Y N : Type 0} {S : Space W R Y N} {w : W} (rs : Records R Y) (v more : Traversed R) (t : R) (D : List R)
    (tried : HasTried S w rs v t) (is : more ≡ record v { done = suc v.done }) (put : D ≡ t ∷ rs.done) where
  pub tried_parts : HasParts S w (record rs { done = D }) more
  tried_parts =
      let count = tried.count in
      let enough = tried.enough in
      let parts : HasParts S w (record rs { done = t ∷ rs.done }) (record v { done = suc v.done }) =
      record {
        whole = tried.whole;
        done = (tried.part, tried.done);
        left = tried.left;
        count = omega (arith, count);
        enough = omega (arith, enough);
      } in
      subst (λ u. HasParts S w (record rs { done = D }) u) (sym is)
      (subst (λ E. HasParts S w (record rs { done = E }) (record v { done = suc v.done })) (sym put) parts)

  -- fewer parts than a first portion may have are done, and none is left: the term has no others
  module _ (none_left : more.left ≡ 0) (few : more.done < FIRST_PORTION) where
    left_none : v.left ≡ 0
    left_none = ap (λ u. u.left) (sym is) ∙ none_left

    no_more_after : HasNoMore S w v.whole (suc (length (take v.done rs.done)))
    no_more_after =
        let none : length (take v.left rs.left) ≡ 0 = ap (λ k. length (take k rs.left)) left_none in
        let many = length-take v.done rs.done in
        let enough = tried.enough in
        let less = ap (λ u. u.done) is in
        none_after (S.term_of w) v.whole (suc (length (take v.done rs.done)))
        (omega (arith, enough, none, many, less, few))

    module _ {w1 : W} {here : ℕ} {m : Stacks R Y} {n : RefState R Y}
        (made : RebuildsTo S w more.whole (reverse (take more.done D)) m
        (records_in rs.records (drop more.done D) (drop more.left rs.left)) more.next_address here w1 n) where
      made_at_end : RebuildsTo S w v.whole (reverse (t ∷ take v.done rs.done)) m
          (records_in rs.records (drop v.done rs.done) (drop v.left rs.left)) v.next_address here w1 n
      made_at_end = subst (λ E. RebuildsTo S w v.whole (reverse (take (suc v.done) E)) m
          (records_in rs.records (drop (suc v.done) E) (drop v.left rs.left)) v.next_address here w1 n) put
          (subst (λ u. RebuildsTo S w u.whole (reverse (take u.done D)) m
          (records_in rs.records (drop u.done D) (drop u.left rs.left)) u.next_address here w1 n) is made)

      pub all_at_end : OnAll S w v.body v.next_address here v.whole m.places.slots m.frames m.places.trail
          m.places.barrier (records_in rs.records (drop v.done rs.done) (drop v.left rs.left)) m.left
          (t ∷ take v.done rs.done) (take v.left rs.left) w1 n
      all_at_end =
          let none : take v.left rs.left ≡ [] = ap (λ k. take k rs.left) left_none in
          subst (λ us. OnAll S w v.body v.next_address here v.whole m.places.slots m.frames m.places.trail
          m.places.barrier (records_in rs.records (drop v.done rs.done) (drop v.left rs.left)) m.left
          (t ∷ take v.done rs.done) us w1 n) (sym none)
          (all_made v.body (t ∷ take v.done rs.done) no_more_after made_at_end)

      pub end_opened : AllOpened S w1 (records_in rs.records (drop v.done rs.done) (drop v.left rs.left)) →
          StateOpened S w1 n
      end_opened o = opened_rebuilt made_at_end o
