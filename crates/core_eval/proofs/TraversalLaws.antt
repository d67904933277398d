-- The loops over the parts of a term: what comes of the parts that are left decides the whole.
use Rattle.std.proofs.Common.{◌≡◌, ℕ, zero, suc, ◌+◌, ◌<◌, ◌≤◌, List, [], ◌∷◌, ◌++◌, length, take, drop, get_or, add-one, length-append, Some, refl, sym, ◌∙◌, ap, arith, subst}
use Rattle.std.specs.Prelude.{Bool, true, false, slice_set}
use Rattle.std.proofs.Math.Seq.{drop-cons}
use Rattle.term_model.specs.declared.made.Made.{Made}
use Rattle.term_model.specs.Flat.{Meaning}
use Rattle.term_model.specs.Term.{Tree, node, Trees, end, more, term, trees_of, made_of}
use Rattle.term_model.specs.TermParts.{head_of, parts_of, annos_of}
use Rattle.term_model.proofs.TermLemmas.{trees_of-list_of}
use Rattle.core_lang.specs.declared.coordinate.Coordinate.{Coordinate}
use Rattle.core_lang.specs.declared.run.Outcome.{Outcome}
use Rattle.core_lang.specs.declared.run.Outcome.TheVariants.{Rewritten, Failed, Oversize, Spent}
use Rattle.core_lang.specs.Derivation.{parts}
use Rattle.core_lang.specs.Ending.{ok, failed, oversize, rebuilt, with_parts}
use Rattle.core_lang.specs.Environment.{Environment, Bindings}
use Rattle.core_lang.specs.Program.{Strategy, all, one, some}
use Rattle.core_lang.specs.Resolved.{by_coordinates}
use Rattle.core_lang.specs.Settled.{Verdict, ends, spent, AllSettled, OneSettled, SomeSettled, verdict_in_front}
use Rattle.core_lang.proofs.SettledLaws.{all_stops, all_spends, all_rebuilt, all_spent, one_stops, one_spends, one_rebuilt, one_spent, some_at_end, some_at_none, some_stops, some_spends, some_rebuilt, some_spent}
use Rattle.core_eval.specs.Evaluates.{Evaluates, verdict_of, made_ending}
use Rattle.core_eval.proofs.EvalLaws.{IsNoTerm, made_built}

-- what is known of the parts from some bindings and budget on; the test says whether one before them was ok
abbrev pub Known : Type 1
Known = Bool → Trees → Bindings → ℕ → Verdict Trees → ℕ → Type 0

abbrev pub OfAll : Meaning → Environment Coordinate ℕ → Strategy Coordinate ℕ → Known
OfAll M V s found ts e b v c = AllSettled by_coordinates M V s ts e b v c

abbrev pub OfOne : Meaning → Environment Coordinate ℕ → Strategy Coordinate ℕ → Known
OfOne M V s found ts e b v c = OneSettled by_coordinates M V s ts e b v c

abbrev pub OfSome : Meaning → Environment Coordinate ℕ → Strategy Coordinate ℕ → Known
OfSome M V s found ts e b v c = SomeSettled by_coordinates M V s ts e found b v c

-- the parts that are done, before the others
abbrev pub joined : List Tree → Trees → Trees
joined [] ts = ts
joined (u ∷ us) ts = more u (joined us ts)

abbrev pub after : List Tree → Verdict Trees → Verdict Trees
after [] v = v
after (u ∷ us) v = verdict_in_front u (after us v)

after_push : (us : List Tree) (u : Tree) (v : Verdict Trees) → after us (verdict_in_front u v) ≡ after (us ++ u ∷ []) v
after_push [] u v = refl
after_push (t ∷ us) u v = ap (λ z. verdict_in_front t z) (after_push us u v)

after_ok : (us : List Tree) (ts : Trees) (f : Bindings) → after us (ends (ok ts f)) ≡ ends (ok (joined us ts) f)
after_ok [] ts f = refl
after_ok (u ∷ us) ts f = ap (λ z. verdict_in_front u z) (after_ok us ts f)

joined_end : (us : List Tree) → joined us end ≡ trees_of us
joined_end [] = refl
joined_end (u ∷ us) = ap (λ ts. more u ts) (joined_end us)

-- how parts end where one of them ends the walk
abbrev pub stop_of : Outcome Tree → Verdict Trees
stop_of (Rewritten t) = spent
stop_of Failed = ends failed
stop_of Oversize = ends oversize
stop_of Spent = spent

after_stop : (us : List Tree) (o : Outcome Tree) → after us (stop_of o) ≡ stop_of o
after_stop [] o = refl
after_stop (u ∷ us) o = ap (λ z. verdict_in_front u z) (after_stop us o) ∙ in_front o
  where
    in_front : (o : Outcome Tree) → verdict_in_front u (stop_of o) ≡ stop_of o
    in_front (Rewritten t) = refl
    in_front Failed = refl
    in_front Oversize = refl
    in_front Spent = refl

-- whatever comes of the parts that are left, the whole comes to that following what is done
pub record Decides (K : Known) (whole : List Tree) (e0 : Bindings) (b0 : ℕ) (found : Bool) (left : List Tree)
    (e : Bindings) (b : ℕ) (done : List Tree) : Type 0 where
  pub less : b ≤ b0
  pub decides : (v : Verdict Trees) (c : ℕ) → K found (trees_of left) e b v c →
      K false (trees_of whole) e0 b0 (after done v) c

module _ {K : Known} {whole : List Tree} {e0 : Bindings} {b0 : ℕ} where
  pub decides_start : (left done : List Tree) → left ≡ whole → done ≡ [] → Decides K whole e0 b0 false left e0 b0 done
  decides_start left done h k = record {
    less = omega arith;
    decides = λ v c x. subst (λ us. K false (trees_of whole) e0 b0 (after us v) c) (sym k)
        (subst (λ ts. K false (trees_of ts) e0 b0 v c) h x);
  }

  module _ {t : Tree} {left rest done : List Tree} {found : Bool} {e : Bindings} {b : ℕ} (is : left ≡ t ∷ rest)
      (d : Decides K whole e0 b0 found left e b done) where
    from_left : (v : Verdict Trees) (c : ℕ) → K found (more t (trees_of rest)) e b v c →
        K false (trees_of whole) e0 b0 (after done v) c
    from_left v c x = d.decides v c (subst (λ ts. K found (trees_of ts) e b v c) (sym is) x)

    pub decides_on : (u : Tree) {now_found : Bool} {f : Bindings} {c : ℕ} {now_done : List Tree} →
        now_done ≡ done ++ u ∷ [] → c ≤ b →
        ((v : Verdict Trees) (d : ℕ) → K now_found (trees_of rest) f c v d →
        K found (more t (trees_of rest)) e b (verdict_in_front u v) d) →
        Decides K whole e0 b0 now_found rest f c now_done
    decides_on u k fewer law = record {
      less = let before = d.less in omega arith;
      decides = λ v c y. subst (λ us. K false (trees_of whole) e0 b0 (after us v) c) (sym k)
          (subst (λ z. K false (trees_of whole) e0 b0 z c) (after_push done u v)
          (from_left (verdict_in_front u v) c (law v c y)));
    }

    pub decides_stop : (o : Outcome Tree) {c : ℕ} → K found (more t (trees_of rest)) e b (stop_of o) c →
        K false (trees_of whole) e0 b0 (stop_of o) c
    decides_stop o {c} x = subst (λ z. K false (trees_of whole) e0 b0 z c) (after_stop done o)
        (from_left (stop_of o) c x)

    pub decides_found : (ts : Trees) {f : Bindings} {c : ℕ} → K found (more t (trees_of rest)) e b (ends (ok ts f)) c →
        K false (trees_of whole) e0 b0 (ends (ok (joined done ts) f)) c
    decides_found ts {f} {c} x =
        subst (λ z. K false (trees_of whole) e0 b0 z c) (after_ok done ts f) (from_left (ends (ok ts f)) c x)

  module _ {left done : List Tree} {found : Bool} {e : Bindings} {b : ℕ} (is : left ≡ [])
      (d : Decides K whole e0 b0 found left e b done) where
    pub decides_end : K found end e b (ends (ok end e)) b →
        K false (trees_of whole) e0 b0 (ends (ok (trees_of done) e)) b
    decides_end x =
        subst (λ z. K false (trees_of whole) e0 b0 z b) (after_ok done end e ∙
        ap (λ ts. ends (ok ts e)) (joined_end done))
        (d.decides (ends (ok end e)) b (subst (λ ts. K found (trees_of ts) e b (ends (ok end e)) b) (sym is) x))

    pub decides_none : K found end e b (ends failed) b → K false (trees_of whole) e0 b0 (ends failed) b
    decides_none x =
        subst (λ z. K false (trees_of whole) e0 b0 z b) (after_stop done Failed)
        (d.decides (ends failed) b (subst (λ ts. K found (trees_of ts) e b (ends failed) b) (sym is) x))

-- the parts from a position on
pub left_at : (xs : List Tree) (i : ℕ) (t : Tree) → i < length xs → t ≡ get_or xs i t → drop i xs ≡ t ∷ drop (i + 1) xs
left_at xs i t h is = rw add-one (drop-cons xs i t h ∙ ap (λ u. u ∷ drop (suc i) xs) (sym is))

-- one part changed
one_set : (xs : List Tree) (i : ℕ) (u : Tree) → i < length xs →
    joined (take i xs) (more u (trees_of (drop (suc i) xs))) ≡ trees_of (slice_set xs i u)
one_set [] i u h = absurd (omega arith)
one_set (x ∷ xs) zero u h = refl
one_set (x ∷ xs) (suc i) u h = ap (λ ts. more x ts) (one_set xs i u (omega arith))

pub one_changed : (xs : List Tree) (i : ℕ) (u : Tree) → i < length xs →
    joined (take i xs) (more u (trees_of (drop (i + 1) xs))) ≡ trees_of (slice_set xs i u)
one_changed xs i u h = rw add-one (one_set xs i u h)

next_taken : (xs : List Tree) (i : ℕ) (t : Tree) → i < length xs → t ≡ get_or xs i t →
    take (suc i) xs ≡ take i xs ++ t ∷ []
next_taken [] i t h is = absurd (omega arith)
next_taken (x ∷ xs) zero t h is = ap (λ u. u ∷ []) (sym is)
next_taken (x ∷ xs) (suc i) t h is = ap (λ us. x ∷ us) (next_taken xs i t (omega arith) is)

pub taken_at : (xs : List Tree) (i : ℕ) (t : Tree) → i < length xs → t ≡ get_or xs i t →
    take (i + 1) xs ≡ take i xs ++ t ∷ []
taken_at xs i t h is = rw add-one (next_taken xs i t h is)

pub one_more : (us vs : List Tree) (u : Tree) (i : ℕ) → vs ≡ us ++ u ∷ [] → length us ≡ i → length vs ≡ i + 1
one_more us vs u i h k = omega (arith, ap (λ xs. length xs) h, length-append us (u ∷ []), k)

-- the term over other parts
remade : (t : Tree) (us : List Tree) → term (head_of t) us (annos_of t) ≡ with_parts t (trees_of us)
remade (node h ts annos) us = ap (λ xs. node h (trees_of us) xs) (trees_of-list_of annos)

the_parts : (t : Tree) → trees_of (parts_of t) ≡ parts t
the_parts (node h ts annos) = trees_of-list_of ts

pub remade_ending : (t : Tree) (us : List Tree) (m : Made Tree) (e : Bindings) →
    m ≡ made_of (term (head_of t) us (annos_of t)) →
    ends (made_ending (Some m) e) ≡ ends (rebuilt t (ok (trees_of us) e))
remade_ending t us m e h =
    ap (λ z. ends (made_ending (Some z) e)) (h ∙ ap made_of (remade t us)) ∙
    ap (λ z. ends z) (made_built (Some (with_parts t (trees_of us))) e)

module _ {M : Meaning} {V : Environment Coordinate ℕ} {s : Strategy Coordinate ℕ} (t : Tree)
    {e : Bindings} {b c : ℕ} {xs : List Tree} (is : xs ≡ parts_of t) where
  whole_all : (v : Verdict Trees) → OfAll M V s false (trees_of xs) e b v c → OfAll M V s false (parts t) e b v c
  whole_all v x = subst (λ ts. AllSettled by_coordinates M V s ts e b v c) (ap trees_of is ∙ the_parts t) x

  whole_one : (v : Verdict Trees) → OfOne M V s false (trees_of xs) e b v c → OfOne M V s false (parts t) e b v c
  whole_one v x = subst (λ ts. OneSettled by_coordinates M V s ts e b v c) (ap trees_of is ∙ the_parts t) x

  whole_some : (v : Verdict Trees) → OfSome M V s false (trees_of xs) e b v c → OfSome M V s false (parts t) e b v c
  whole_some v x = subst (λ ts. SomeSettled by_coordinates M V s ts e false b v c) (ap trees_of is ∙ the_parts t) x

  module _ (fewer : c ≤ b) where
    pub all_done : (us : Trees) (f : Bindings) (v : Verdict Tree) → v ≡ ends (rebuilt t (ok us f)) →
        OfAll M V s false (trees_of xs) e b (ends (ok us f)) c → Evaluates M V (all s) t e (1 + b) v c
    all_done us f v k x = subst (λ z. Evaluates M V (all s) t e (1 + b) z c) (sym k)
        (record { settled = all_rebuilt (whole_all (ends (ok us f)) x); left = omega arith })

    pub one_done : (us : Trees) (f : Bindings) (v : Verdict Tree) → v ≡ ends (rebuilt t (ok us f)) →
        OfOne M V s false (trees_of xs) e b (ends (ok us f)) c → Evaluates M V (one s) t e (1 + b) v c
    one_done us f v k x = subst (λ z. Evaluates M V (one s) t e (1 + b) z c) (sym k)
        (record { settled = one_rebuilt (whole_one (ends (ok us f)) x); left = omega arith })

    pub some_done : (us : Trees) (f : Bindings) (v : Verdict Tree) → v ≡ ends (rebuilt t (ok us f)) →
        OfSome M V s false (trees_of xs) e b (ends (ok us f)) c → Evaluates M V (some s) t e (1 + b) v c
    some_done us f v k x = subst (λ z. Evaluates M V (some s) t e (1 + b) z c) (sym k)
        (record { settled = some_rebuilt (whole_some (ends (ok us f)) x); left = omega arith })

    -- a part ends the walk, or there is none left
    pub all_stopped : (f : Bindings) (o : Outcome Tree) → IsNoTerm o →
        OfAll M V s false (trees_of xs) e b (stop_of o) c → Evaluates M V (all s) t e (1 + b) (verdict_of o f) c
    all_stopped f (Rewritten u) n x = absurd n
    all_stopped f Failed n x = record { settled = all_rebuilt (whole_all (ends failed) x); left = omega arith }
    all_stopped f Oversize n x = record { settled = all_rebuilt (whole_all (ends oversize) x); left = omega arith }
    all_stopped f Spent n x = record { settled = all_spent (whole_all spent x); left = omega arith }

    pub one_stopped : (f : Bindings) (o : Outcome Tree) → IsNoTerm o →
        OfOne M V s false (trees_of xs) e b (stop_of o) c → Evaluates M V (one s) t e (1 + b) (verdict_of o f) c
    one_stopped f (Rewritten u) n x = absurd n
    one_stopped f Failed n x = record { settled = one_rebuilt (whole_one (ends failed) x); left = omega arith }
    one_stopped f Oversize n x = record { settled = one_rebuilt (whole_one (ends oversize) x); left = omega arith }
    one_stopped f Spent n x = record { settled = one_spent (whole_one spent x); left = omega arith }

    pub some_stopped : (f : Bindings) (o : Outcome Tree) → IsNoTerm o →
        OfSome M V s false (trees_of xs) e b (stop_of o) c → Evaluates M V (some s) t e (1 + b) (verdict_of o f) c
    some_stopped f (Rewritten u) n x = absurd n
    some_stopped f Failed n x = record { settled = some_rebuilt (whole_some (ends failed) x); left = omega arith }
    some_stopped f Oversize n x = record { settled = some_rebuilt (whole_some (ends oversize) x); left = omega arith }
    some_stopped f Spent n x = record { settled = some_spent (whole_some spent x); left = omega arith }

-- a part that is no term, by each of the three
module _ {M : Meaning} {V : Environment Coordinate ℕ} {s : Strategy Coordinate ℕ} {t : Tree} {ts : Trees} {e : Bindings}
    {b c : ℕ} (f : Bindings) where
  pub all_ended : (o : Outcome Tree) → IsNoTerm o → Evaluates M V s t e b (verdict_of o f) c →
      OfAll M V s false (more t ts) e b (stop_of o) c
  all_ended (Rewritten u) n x = absurd n
  all_ended Failed n x = all_stops x.settled
  all_ended Oversize n x = all_stops x.settled
  all_ended Spent n x = all_spends x.settled

  pub one_ended : (o : Outcome Tree) → IsNoTerm o → (o ≡ Failed → ⊥) → Evaluates M V s t e b (verdict_of o f) c →
      OfOne M V s false (more t ts) e b (stop_of o) c
  one_ended (Rewritten u) n h x = absurd n
  one_ended Failed n h x = absurd (h refl)
  one_ended Oversize n h x = one_stops x.settled
  one_ended Spent n h x = one_spends x.settled

  pub some_ended : (found : Bool) (o : Outcome Tree) → IsNoTerm o → (o ≡ Failed → ⊥) →
      Evaluates M V s t e b (verdict_of o f) c → OfSome M V s found (more t ts) e b (stop_of o) c
  some_ended found (Rewritten u) n h x = absurd n
  some_ended found Failed n h x = absurd (h refl)
  some_ended found Oversize n h x = some_stops x.settled
  some_ended found Spent n h x = some_spends x.settled

-- a loop's facts: what is left decides, and as many are done as the position says
pub record Walk (K : Known) (whole : List Tree) (e0 : Bindings) (b0 : ℕ) (found : Bool) (i : ℕ) (e : Bindings) (b : ℕ)
    (done : List Tree) : Type 0 where
  pub decides : Decides K whole e0 b0 found (drop i whole) e b done
  pub count : length done ≡ i

pub walk_moved : {K : Known} {whole : List Tree} {e0 : Bindings} {b0 : ℕ} {found now_found : Bool} {i : ℕ}
    {e f : Bindings} {b c : ℕ} {done now_done : List Tree} →
    now_found ≡ found → f ≡ e → c ≡ b → now_done ≡ done → Walk K whole e0 b0 found i e b done →
    Walk K whole e0 b0 now_found i f c now_done
walk_moved {K} {whole} {e0} {b0} {found} {now_found} {i} {e} {f} {b} {c} {done} {now_done} hf he hb hd x =
    subst (λ z. Walk K whole e0 b0 z i f c now_done) (sym hf)
    (subst (λ z. Walk K whole e0 b0 found i z c now_done) (sym he)
    (subst (λ z. Walk K whole e0 b0 found i e z now_done) (sym hb)
    (subst (λ z. Walk K whole e0 b0 found i e b z) (sym hd) x)))

-- no part is left: whether one was ok decides
module _ (M : Meaning) (V : Environment Coordinate ℕ) (s : Strategy Coordinate ℕ) (e : Bindings) (b : ℕ) (found : Bool)
  where
    pub none_found : found ≡ false → OfSome M V s found end e b (ends failed) b
    none_found is = subst (λ z. SomeSettled by_coordinates M V s end e z b (ends failed) b) (sym is)
        (some_at_none V s e b)

    pub some_found : found ≡ true → OfSome M V s found end e b (ends (ok end e)) b
    some_found is = subst (λ z. SomeSettled by_coordinates M V s end e z b (ends (ok end e)) b) (sym is)
        (some_at_end V s e b)
