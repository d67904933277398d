-- What it is for a range to do as its strategy does, and what the rows of this have in common.
use Rattle.std.proofs.Common.{◌≡◌, ℕ, suc, ◌+◌, ◌*◌, ◌≤◌, Option, Some, None, List, [], ◌∷◌, length, take, ◌++◌, refl, sym, ◌∙◌, ap, arith, subst, length-append}
use Rattle.std.proofs.lemmas.List.{length-take-le, length-replicate}
use Rattle.std.specs.Prelude.{Bool, true, false, slice_get}
use Rattle.std.proofs.Math.Seq.{take-append_seam}
use Rattle.term_model.specs.Term.{Tree, fits}
use Rattle.term_model.specs.Flat.{Meaning}
use Rattle.core_lang.specs.Program.{scope}
use Rattle.core_lang.specs.Environment.{Bindings, empty_places}
use Rattle.core_lang.specs.Ending.{Ending, ok, failure, excess, stop, keeping, if_fits, built}
use Rattle.core_lang.specs.Resolved.{ResolvedStrategy, ResolvedEnvironment}
use Rattle.core_lang.specs.Settled.{Verdict, ends}
use Rattle.strat_code.specs.Code.{Case, jump, Code, At}
use Rattle.strat_code.specs.Context.{Specialization, Context, within}
use Rattle.strat_code.specs.Ranges.{Selects, Ranges}
use Rattle.strat_steps.specs.State.{Frame, frame, Record, State, running, failing}
use Rattle.strat_steps.specs.Binding.{undone, above, down_to}
use Rattle.strat_steps.specs.Step.{goes_on, selected, Steps, no_step}
use Rattle.core_lang.specs.Going.{with_ending}
use Rattle.strat_steps.specs.Trail.{Restores}
use Rattle.strat_steps.proofs.TrailLaws.{take_less, take_whole, above_new, down_new, restores_whole}
use Rattle.strat_steps.proofs.Representation.{Represents, got_last}
use Rattle.strat_steps.proofs.Landing.{Lands, lands_ok, lands_failed, lands_oversize, lands_spent, steps_then, paid_step, wider, onward}

-- going back to a record restores the places, the frames and the trail that it was put on with
pub restored : (go : Bindings → List Frame → List ℕ → State) (e f : Bindings) (F G : List Frame) (T U new : List ℕ) →
    U ≡ new ++ T → Restores (length e) e new f → take (length F) G ≡ F →
    go (take (length e) (undone (above (length T) U) f)) (take (length F) G) (down_to (length T) U) ≡ go e F T
restored go e f F G T U new is back same =
    ap (λ A. go (take (length e) (undone (above (length T) A) f)) (take (length F) G) (down_to (length T) A)) is
    ∙ ap (λ A. go (take (length e) (undone A f)) (take (length F) G) (down_to (length T) (new ++ T))) (above_new new T)
    ∙ ap (λ A. go (take (length e) (undone new f)) (take (length F) G) A) (down_new new T)
    ∙ ap (λ A. go A (take (length F) G) T) (restores_whole e f new back)
    ∙ ap (λ A. go e A T) same

pub shorter : (e g f : Bindings) → length f ≡ length (e ++ g) → length (take (length e) f) ≡ length e
shorter e g f h = let k = length-append e g in length-take-le (length e) f (omega arith)

pub less_frames : (F G H : List Frame) → take (length (F ++ G)) H ≡ F ++ G → take (length F) H ≡ F
less_frames F G H h =
    let k = length-append F G in
    sym (take_less (length F) (length (F ++ G)) H (omega arith)) ∙ ap (take (length F)) h ∙ take-append_seam F G

pub append_none : (e : Bindings) → e ++ [] ≡ e
append_none [] = refl
append_none (v ∷ e) = ap (λ f. v ∷ f) (append_none e)

pub more_places : (e : Bindings) (n : ℕ) → length (e ++ empty_places n) ≡ length e + n
more_places e n = length-append e (empty_places n) ∙ ap (λ k. length e + k) (length-replicate n None)

-- the frame p has its last k places at the end of n
pub data Last (F : List Frame) (p k n : ℕ) : Type 0 where
  ends_at : {base up : ℕ} {cs : List (ℕ × ℕ)} → slice_get F p ≡ Some (frame base up cs) → n ≡ base + k → Last F p k n

-- where the innermost frame can be given more places, it ends where the places end
abbrev pub OnTop : Option ℕ → List Frame → ℕ → ℕ → Type 0
OnTop w F p n = (k : ℕ) → w ≡ Some k → Last F p k n

pub on_top_same : {w : Option ℕ} {F : List Frame} {p : ℕ} (e f : Bindings) → length f ≡ length e →
    OnTop w F p (length e) → OnTop w F p (length f)
on_top_same {F = F} {p = p} e f h on_top = λ k is. subst (λ n. Last F p k n) (sym h) (on_top k is)

-- the frame has its last k places at the end of n
pub on_top_at : {F : List Frame} {p k n : ℕ} → Last F p k n → OnTop (Some k) F p n
on_top_at {F} {p} {k} {n} h = λ i is. subst (λ j. Last F p j n) (same_number k i is) h
  where
    same_number : (k i : ℕ) → Some k ≡ Some i → k ≡ i
    same_number k i h = cc

pub never_on_top : {F : List Frame} {p n : ℕ} → OnTop None F p n
never_on_top = λ i is. absurd (cc)

pub on_top_of_frame : (F : List Frame) (f : Frame) (base up k : ℕ) (cs : List (ℕ × ℕ)) (n : ℕ) → f ≡ frame base up cs →
    n ≡ base + k → Last (F ++ f ∷ []) (length F) k n
on_top_of_frame F f base up k cs n is h = ends_at (got_last F f ∙ ap Some is) h

-- an ending that leaves these places
abbrev pub Leaves : Bindings → Ending Tree → Type 0
Leaves e (ok u f) = f ≡ e
Leaves e (stop q) = Unit {0}

pub fits_leaves : (v : Bool) (u : Tree) (e : Bindings) → Leaves e (if_fits v u e)
fits_leaves true u e = refl
fits_leaves false u e = tt

pub built_leaves : (v : Option Tree) (e : Bindings) → Leaves e (built v e)
built_leaves None e = tt
built_leaves (Some u) e = fits_leaves (fits u) u e

-- From the first address of each range for the strategy, in frames that represent the environment and with a budget of
-- b over the x nodes around, the machine lands at the range's end as the strategy goes from b, in at most 3 steps for
-- each node
abbrev pub Simulates : Code → List Specialization → Meaning → ResolvedEnvironment → ResolvedStrategy → Tree → Bindings →
    ℕ → Verdict Tree → ℕ → Type 0
Simulates code I M V s t e b q c =
    (w : Option ℕ) (C : Context) (i x to p : ℕ) (F : List Frame) (T : List ℕ) (bar : ℕ) (K : List Record) (l : ℕ) →
    Ranges code I w C i x s to → Represents code I F C V p → OnTop w F p (length e) → bar ≤ length e → l ≡ x + b →
    Lands code M to p e F T bar K (running i p t e F T bar K l) (3 * b) q c

-- so it does from the cases of a chain of alternatives, where the node of the choice is paid for
abbrev pub SimulatesChain : Code → List Specialization → Meaning → ResolvedEnvironment → ResolvedStrategy → Tree →
    Bindings → ℕ → Verdict Tree → ℕ → Type 0
SimulatesChain code I M V s t e b q c =
    (w : Option ℕ) (C : Context) (cs : List Case) (last to p : ℕ) (F : List Frame) (T : List ℕ) (bar : ℕ)
    (K : List Record) (l : ℕ) →
    Selects code I w C s cs last to → Represents code I F C V p → OnTop w F p (length e) → bar ≤ length e → b ≡ suc l →
    Lands code M to p e F T bar K (selected cs last p t e F T bar K l) (3 * l) q c

-- so it does from a range for what is inside a scope, where the places of the scope are there and its node is not paid
-- for yet
abbrev pub SimulatesBody : Code → List Specialization → Meaning → ResolvedEnvironment → ResolvedStrategy → Tree →
    Bindings → ℕ → Verdict Tree → ℕ → Type 0
SimulatesBody code I M V s t e b q c =
    (C : Context) (n i x to p : ℕ) (F : List Frame) (T : List ℕ) (bar : ℕ) (K : List Record) (l : ℕ) (offset : ℕ)
    (r : ResolvedStrategy) → s ≡ scope n r →
    Ranges code I (Some (offset + n)) (within n offset C) i (suc x) r to → Represents code I F C V p →
    Last F p offset (length e) → bar ≤ length e → l ≡ x + b →
    (o : Verdict Tree) × (q ≡ with_ending (keeping (length e)) o) ×
    Lands code M to p (e ++ empty_places n) F T bar K (running i p t (e ++ empty_places n) F T bar K l) (3 * b) o c

module _ {code : Code} {M : Meaning} where
  -- at the end of a range
  pub here_lands : (i p : ℕ) (u : Tree) (e : Bindings) (F : List Frame) (T : List ℕ) (bar : ℕ) (K : List Record)
      (c : ℕ) → Lands code M i p e F T bar K (running i p u e F T bar K c) (1 + 3 * c) (ends (ok u e)) c
  here_lands i p u e F T bar K c = lands_ok [] no_step refl refl refl (omega arith)

  pub fails_here : (i p : ℕ) (e : Bindings) (F : List Frame) (T : List ℕ) (bar : ℕ) (K : List Record) (c : ℕ) →
      Lands code M i p e F T bar K (failing e F T bar K c) (1 + 3 * c) (ends (stop failure)) c
  fails_here i p e F T bar K c = lands_failed [] no_step refl refl (take_whole F) (omega arith)

  -- one range after another
  pub through : {j to p : ℕ} {e f : Bindings} {F : List Frame} {T : List ℕ} {bar : ℕ} {K : List Record} {start : State}
      {u : Tree} {d c r r2 : ℕ} {q : Verdict Tree} (z : ℕ) →
      Lands code M j p e F T bar K start r (ends (ok u f)) d →
      ((U : List ℕ) → length f ≡ length e → Lands code M to p f F U bar K (running j p u f F U bar K d) r2 q c) →
      r2 ≤ 1 + 3 * d + z → Lands code M to p e F T bar K start (r + z) q c
  through {r = r} z (lands_ok {U = U} new x is back same bound) others room =
      wider (r + z) (omega arith) (onward new x is back same (others U same))

  -- after a jump
  pub jumped : {k to p : ℕ} {e : Bindings} {F : List Frame} {T : List ℕ} {bar : ℕ} {K : List Record} {start : State}
      {r c : ℕ} {q : Verdict Tree} →
      Lands code M k p e F T bar K start r q c → At code k (jump to) → Lands code M to p e F T bar K start (1 + r) q c
  jumped (lands_ok {c = c} new x is back same bound) at =
      lands_ok new (steps_then x (paid_step c at (omega arith))) is back same (omega arith)
  jumped (lands_failed new x is back same bound) at = lands_failed new x is back same (omega arith)
  jumped (lands_oversize x bound) at = lands_oversize x (omega arith)
  jumped (lands_spent x bound) at = lands_spent x (omega arith)

  -- states that are the same
  pub same_state : {m m1 : State} → m ≡ m1 → Steps code M 0 m m1
  same_state {m} h = subst (λ m1. Steps code M 0 m m1) h no_step

  -- goes on as an ending says that leaves the places
  pub goes_on_lands : (i p : ℕ) (e : Bindings) (F : List Frame) (T : List ℕ) (bar : ℕ) (K : List Record) (c : ℕ)
      (o : Ending Tree) → Leaves e o →
      Lands code M i p e F T bar K (goes_on F T bar K c i p e o) (1 + 3 * c) (ends o) c
  goes_on_lands i p e F T bar K c (ok u f) h =
      subst (λ f. Lands code M i p e F T bar K (running i p u f F T bar K c) (1 + 3 * c) (ends (ok u f)) c) (sym h)
      (here_lands i p u e F T bar K c)
  goes_on_lands i p e F T bar K c (stop failure) h = fails_here i p e F T bar K c
  goes_on_lands i p e F T bar K c (stop excess) h = lands_oversize no_step (omega arith)
