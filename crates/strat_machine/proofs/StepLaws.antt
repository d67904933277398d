-- Steps of the Rust machine are steps of the machine over references.
use Rattle.std.proofs.Common.{◌≡◌, ℕ, suc, Option, Some, None, List, [], ◌∷◌, map, refl, sym, ◌∙◌, ap, subst}
use Rattle.std.specs.Prelude.{length, slice_get}
use Rattle.std.specs.Option.{option_map}
use Rattle.term_model.specs.Term.{Tree}
use Rattle.term_model.specs.Flat.{Meaning}
use Rattle.term_model.specs.Space.{Space}
use Rattle.strat_code.specs.Code.{Instr, try, leave, commit, end_definition, end_argument}
use Rattle.strat_steps.specs.State.{Frame, frame, Saved, saved, call_record, stuck, ended}
use Rattle.strat_steps.specs.Step.{left, returned, out_of_argument, committed}
use Rattle.strat_steps.specs.References.{Places, RefRecord, ref_call, ref_choice, ref_all, ref_one, ref_some, RefState, ref_running, ref_stopped, record_tree}
use Rattle.strat_steps.specs.ReferenceSteps.{Does, tries, sticks}
use Rattle.strat_patterns.specs.Frames.{IsBaseOf}
use Rattle.strat_machine.specs.Stacks.{Performs, PutsChoice}
use Rattle.strat_machine.specs.declared.stacks.Stacks.{Stacks}
use Rattle.strat_machine.specs.declared.stacks.Next.TheVariants.{Running}
use Rattle.strat_machine.specs.declared.stacks.Position.{Position}
use Rattle.strat_machine.specs.RecordStack.{records_of, IsNoCall, IsNoChoice, IsChoice}

module _ {W R Y N : Type 0} {S : Space W R Y N} {M : Meaning} {w w1 : W} {v : Instr} {i p b l : ℕ} {t : R}
    {e : Places R} {F : List Frame} {T : List ℕ} {K : List (RefRecord R Y)} where
  -- what is done leads to a state that is the same
  pub does_to : {m m1 : RefState R Y} → Does S M w v i p t e F T b K l w1 m → m ≡ m1 →
      Does S M w v i p t e F T b K l w1 m1
  does_to x is = subst (λ m. Does S M w v i p t e F T b K l w1 m) is x

-- a running state from parts that are the same
pub same_run : {R Y : Type 0} {i j p q b d l : ℕ} {t : R} {e f : Places R} {F G : List Frame} {T U : List ℕ}
    {K L : List (RefRecord R Y)} → i ≡ j → p ≡ q → e ≡ f → F ≡ G → T ≡ U → b ≡ d → K ≡ L →
    ref_running i p t e F T b K l ≡ ref_running j q t f G U d L l
same_run i p e F T b K = cc

-- a choice record is put on
pub tries_so : {W R Y N : Type 0} {S : Space W R Y N} (M : Meaning)
    {w : W} {m m1 : Stacks R Y} {otherwise : ℕ} {p : Position R} (n i : ℕ) → p.address ≡ suc i →
    PutsChoice S w m otherwise p m1 → Performs S M (try n otherwise) i p w m w Running p m1
tries_so M {m = m} {otherwise = otherwise} {p} n i at x =
    does_to (tries x.marks)
    (sym (x.leads p.address ∙ ap (λ a. ref_running a p.frame p.term m.places.slots m.frames m.places.trail
    (length m.places.slots)
    (ref_choice otherwise p.term (saved p.frame (length m.frames) (length m.places.trail) m.places.barrier) x.mark ∷
    records_of m.records) m.left) at))

-- the frame of a position
pub no_frame : (o : Option Frame) → IsBaseOf None o → o ≡ None
no_frame None h = refl
no_frame (Some (frame base up cs)) h = absurd (cc)

pub some_frame : (o : Option Frame) (base up : ℕ) → IsBaseOf (Some (base, up)) o → (cs : List (ℕ × ℕ)) ×
    (o ≡ Some (frame base up cs))
some_frame None base up h = absurd (cc)
some_frame (Some (frame base2 up2 cs)) base up h = (cs, ap (same_frame cs) (sym h))
  where
    same_frame : List (ℕ × ℕ) → Option (ℕ × ℕ) → Option Frame
    same_frame cs None = None
    same_frame cs (Some v) = Some (frame v.0 v.1 cs)

-- what code of no program comes to
module _ (e : List (Option Tree)) (F : List Frame) (T : List ℕ) (b l : ℕ) {R Y : Type 0} (f : R → Tree) where
  no_call : (t : Tree) (K : List (RefRecord R Y)) → IsNoCall K →
      out_of_argument t e F T b (map (record_tree f) K) l ≡ ended stuck l
  no_call t [] h = refl
  no_call t (ref_call a q ∷ K) h = absurd h
  no_call t (ref_choice a u s m ∷ K) h = refl
  no_call t (ref_all body after u done us ∷ K) h = refl
  no_call t (ref_one body after u done x us s m ∷ K) h = refl
  no_call t (ref_some body after u done x us found s m ∷ K) h = refl

  no_return : (p : ℕ) (t : Tree) (o : Option Frame) (K : List (RefRecord R Y)) → IsNoCall K →
      returned p t e F T b (map (record_tree f) K) l o ≡ ended stuck l
  no_return p t o [] h = refl
  no_return p t o (ref_call a q ∷ K) h = absurd h
  no_return p t o (ref_choice a u s m ∷ K) h = refl
  no_return p t o (ref_all body after u done us ∷ K) h = refl
  no_return p t o (ref_one body after u done x us s m ∷ K) h = refl
  no_return p t o (ref_some body after u done x us found s m ∷ K) h = refl

  no_choice : (i p : ℕ) (t : Tree) (K : List (RefRecord R Y)) → IsNoChoice K →
      committed i p t e F T b (map (record_tree f) K) l ≡ ended stuck l
  no_choice i p t [] h = refl
  no_choice i p t (ref_call a q ∷ K) h = refl
  no_choice i p t (ref_choice a u s m ∷ K) h = absurd h
  no_choice i p t (ref_all body after u done us ∷ K) h = refl
  no_choice i p t (ref_one body after u done x us s m ∷ K) h = refl
  no_choice i p t (ref_some body after u done x us found s m ∷ K) h = refl

module _ {W R Y N : Type 0} {S : Space W R Y N} {M : Meaning} {w : W} {i p b l : ℕ} {t : R} {e : Places R}
    {F : List Frame} {T : List ℕ} {K : List (RefRecord R Y)} where
  pub leaves_nothing : slice_get F p ≡ None → Does S M w leave i p t e F T b K l w (ref_stopped stuck l)
  leaves_nothing none = sticks (ap
      (left F T b (map (record_tree (S.term_of w)) K) l (suc i) p (S.term_of w t) (map (option_map (S.term_of w)) e))
      none)

  pub ends_no_argument : IsNoCall K → Does S M w end_argument i p t e F T b K l w (ref_stopped stuck l)
  ends_no_argument h = sticks (no_call (map (option_map (S.term_of w)) e) F T b l (S.term_of w) (S.term_of w t) K h)

  pub ends_no_definition : IsNoCall K → Does S M w end_definition i p t e F T b K l w (ref_stopped stuck l)
  ends_no_definition h = sticks
      (no_return (map (option_map (S.term_of w)) e) F T b l (S.term_of w) p (S.term_of w t) (slice_get F p) K h)

  pub commits_nothing : {n a : ℕ} → IsNoChoice K → Does S M w (commit n a) i p t e F T b K l w (ref_stopped stuck l)
  commits_nothing {a = a} h = sticks
      (no_choice (map (option_map (S.term_of w)) e) F T b l (S.term_of w) a p (S.term_of w t) K h)

  -- the records before are those of a call
  pub after_call : {v : Instr} {w1 : W} {m : RefState R Y} {a h : ℕ} {L : List (RefRecord R Y)} → L ≡ ref_call a h ∷ K →
      Does S M w v i p t e F T b (ref_call a h ∷ K) l w1 m → Does S M w v i p t e F T b L l w1 m
  after_call {v} {w1} {m} is x = subst (λ L. Does S M w v i p t e F T b L l w1 m) (sym is) x

  pub ends_without_frame : {a h : ℕ} → slice_get F p ≡ None →
      Does S M w end_definition i p t e F T b (ref_call a h ∷ K) l w (ref_stopped stuck l)
  ends_without_frame {a} {h} none =
      sticks (ap (returned p (S.term_of w t) (map (option_map (S.term_of w)) e)
      F T b (call_record a h ∷ map (record_tree (S.term_of w)) K) l) none)

  pub commits_this : {n a : ℕ} {s : Saved} {L : List (RefRecord R Y)} {m : RefState R Y} (x : IsChoice L s K) →
      Does S M w (commit n a) i p t e F T b (ref_choice x.otherwise x.term s x.mark ∷ K) l w m →
      Does S M w (commit n a) i p t e F T b L l w m
  commits_this {n} {a} {m = m} x y = subst (λ L. Does S M w (commit n a) i p t e F T b L l w m) (sym x.are) y
