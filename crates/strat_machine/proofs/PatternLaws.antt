-- Instructions that handle patterns, of the Rust machine.
use Rattle.std.proofs.Common.{◌≡◌, ℕ, suc, Option, List, map, refl, sym, ◌∙◌, ap, subst}
use Rattle.std.proofs.lemmas.List.{append-nil, append_assoc}
use Rattle.std.proofs.Math.Seq.{take-append_seam}
use Rattle.std.specs.Prelude.{Bool, true, false, ◌∷◌, [], ◌++◌, length, take, replicate, Some, None}
use Rattle.std.specs.Option.{option_map}
use Rattle.term_model.specs.Term.{Tree, Trees}
use Rattle.term_model.specs.Flat.{Meaning}
use Rattle.term_model.specs.Space.{Space, Keeps}
use Rattle.core_lang.specs.Program.{Pattern, Patterns}
use Rattle.core_lang.specs.declared.coordinate.Coordinate.{Coordinate}
use Rattle.core_lang.specs.Building.{instance, instances}
use Rattle.strat_code.specs.Code.{Argument, match_term, build_term, call_definition}
use Rattle.strat_steps.specs.State.{Frame, frame, place_at, frames_up, closed, run_oversize}
use Rattle.strat_steps.specs.Binding.{attempt, attempted}
use Rattle.strat_steps.specs.Matches.{Goes, LeavesSpace}
use Rattle.strat_patterns.specs.Applied.{PutsOnPlaces}
use Rattle.strat_patterns.specs.Builds.{Builds, AreArguments, Puts}
use Rattle.strat_patterns.specs.PlaceStack.{PlaceStack}
use Rattle.strat_patterns.specs.declared.building.Built.{Built}
use Rattle.strat_patterns.specs.declared.building.Built.TheVariants as built_forms
use Rattle.strat_patterns.specs.declared.building.Pushed.{Pushed}
use Rattle.strat_patterns.specs.declared.building.Pushed.TheVariants as pushed
use Rattle.strat_steps.specs.References.{Places, RefRecord, ref_call, RefState, ref_running, ref_failing, ref_stopped}
use Rattle.strat_steps.specs.ReferenceSteps.{Does, matches, matches_not, builds, builds_none, builds_oversize, calls, calls_none, calls_oversize}
use Rattle.strat_machine.proofs.StepLaws.{does_to}
use Rattle.strat_patterns.proofs.BuiltLaws.{build_is_ok, build_fails, build_is_large, arguments_are_ok, arguments_fail, arguments_are_large}

module _ {W R Y N : Type 0} {S : Space W R Y N} {M : Meaning} {w w1 : W}
    (n : ℕ) {i p b d l : ℕ} {q : Pattern Coordinate} {t : R} {e f : Places R} {F : List Frame} {T U : List ℕ}
    {K : List (RefRecord R Y)} {y : Bool} (keeps : Keeps S w w1) (unchanged : LeavesSpace q → w1 ≡ w)
    (goes : Goes S b (attempted (place_at F p) b q (S.term_of w t)) (attempt y) w e T w1 f U) (same : d ≡ b) where
  pub matches_so : {next : ℕ} → y ≡ true → next ≡ suc i →
      Does S M w (match_term n q) i p t e F T b K l w1 (ref_running next p t f F U d K l)
  matches_so {next} is at =
      does_to (matches keeps unchanged goes.bound (goes.comes_to ∙
      ap (λ v. attempt v (map (option_map (S.term_of w1)) f) U) is))
      (ap (λ a. ref_running a p t f F U b K l) (sym at) ∙ ap (λ c. ref_running next p t f F U c K l) (sym same))

  pub matches_not_so : y ≡ false → Does S M w (match_term n q) i p t e F T b K l w1 (ref_failing f F U d K l)
  matches_not_so is =
      does_to (matches_not keeps unchanged goes.bound (goes.comes_to ∙
      ap (λ v. attempt v (map (option_map (S.term_of w1)) f) U) is)) (ap (λ c. ref_failing f F U c K l) (sym same))

built_as : {W R Y N : Type 0} (S : Space W R Y N) (w : W) {o v : Option Tree} {made m : Built R} → o ≡ v → made ≡ m →
    Builds S w o made → Builds S w v m
built_as S w {o} {v} {made} {m} same is h = subst (λ x. Builds S w x m) same (subst (λ x. Builds S w o x) is h)

module _ {W R Y N : Type 0} {S : Space W R Y N} {M : Meaning} {w w1 : W}
    (n : ℕ) {i b l : ℕ} (p : ℕ) (q : Pattern Coordinate) (F : List Frame)
    {t : R} {e s : Places R} {T : List ℕ} {K : List (RefRecord R Y)} {made : Built R} (keeps : Keeps S w w1)
    (same : s ≡ e) (made_so : Builds S w1 (instance (place_at F p) q (map (option_map (S.term_of w)) s)) made) where
  pub builds_so : {next : ℕ} {u : R} → made ≡ built_forms.Made u → next ≡ suc i →
      Does S M w (build_term n q) i p t e F T b K l w1 (ref_running next p u e F T b K l)
  builds_so {next} {u} is at =
      does_to (builds keeps (built_as S w1 (ap (λ x. instance (place_at F p) q (map (option_map (S.term_of w)) x)) same)
      is made_so).0
      (build_is_ok S w1 (instance (place_at F p) q (map (option_map (S.term_of w)) e))
      (map (option_map (S.term_of w)) e)
      u (built_as S w1 (ap (λ x. instance (place_at F p) q (map (option_map (S.term_of w)) x)) same) is made_so)))
      (ap (λ a. ref_running a p u e F T b K l) (sym at))

  pub builds_none_so : made ≡ built_forms.NoInstance →
      Does S M w (build_term n q) i p t e F T b K l w1 (ref_failing e F T b K l)
  builds_none_so is = builds_none keeps
      (build_fails S w1 (instance (place_at F p) q (map (option_map (S.term_of w)) e))
      (map (option_map (S.term_of w)) e)
      (built_as S w1 (ap (λ x. instance (place_at F p) q (map (option_map (S.term_of w)) x)) same) is made_so))

  pub builds_large_so : made ≡ built_forms.Oversize →
      Does S M w (build_term n q) i p t e F T b K l w1 (ref_stopped run_oversize l)
  builds_large_so is = builds_oversize keeps
      (build_is_large S w1 (instance (place_at F p) q (map (option_map (S.term_of w)) e))
      (map (option_map (S.term_of w)) e)
      (built_as S w1 (ap (λ x. instance (place_at F p) q (map (option_map (S.term_of w)) x)) same) is made_so))

module _ {W R Y N : Type 0} (S : Space W R Y N) (w : W) {made m : Pushed} where
  pub arguments_as : {old new : List R} {o v : Option Trees} → o ≡ v → made ≡ m →
      Puts S w old new (λ rs. AreArguments S.term_of w o rs made) →
      Puts S w old new (λ rs. AreArguments S.term_of w v rs m)
  arguments_as {old} {new} {o} {v} same is h =
      subst (λ x. Puts S w old new (λ rs. AreArguments S.term_of w x rs m))
      same (subst (λ x. Puts S w old new (λ rs. AreArguments S.term_of w o rs x)) is h)

  placed_as : {P P1 : PlaceStack R} (o : Option Trees) → made ≡ m →
      PutsOnPlaces S w P P1 (λ rs. AreArguments S.term_of w o rs made) →
      PutsOnPlaces S w P P1 (λ rs. AreArguments S.term_of w o rs m)
  placed_as {P} {P1} o is h = subst (λ x. PutsOnPlaces S w P P1 (λ rs. AreArguments S.term_of w o rs x)) is h

module _ {W R Y N : Type 0} {S : Space W R Y N} {M : Meaning} {w w1 : W}
    (n : ℕ) {h a k to i l : ℕ} {us : List Argument} (p : ℕ) (ps : Patterns Coordinate) (F : List Frame)
    {t : R} {P P1 : PlaceStack R} {K : List (RefRecord R Y)} {made : Pushed}
    (keeps : Keeps S w w1) (placed : PutsOnPlaces S w1 P P1
    (λ rs. AreArguments S.term_of w1 (instances (place_at F p) ps (map (option_map (S.term_of w)) P.slots))
    rs made)) where
  pub calls_so : {base : ℕ} {m1 : RefState R Y} → made ≡ pushed.All → base ≡ length P.slots →
      m1 ≡ ref_running a (length F) t (P1.slots ++ replicate k None) (F ++
      frame base (frames_up F p h) (closed F p us) ∷ []) P1.trail P1.barrier (ref_call to p ∷ K) l →
      Does S M w (call_definition n h a k to us ps) i p t P.slots F P.trail P.barrier K l w1 m1
  calls_so {base} {m1} is at state =
      let x = placed_as S w1 (instances (place_at F p) ps (map (option_map (S.term_of w)) P.slots)) is placed in
      does_to (calls x.put keeps x.standing
      (arguments_are_ok S.term_of w1 (instances (place_at F p) ps (map (option_map (S.term_of w)) P.slots))
      (map (option_map (S.term_of w)) P.slots) x.put x.are))
      (ap (λ e. ref_running a (length F) t e (F ++ frame (length P.slots) (frames_up F p h) (closed F p us) ∷ [])
      P.trail P.barrier (ref_call to p ∷ K) l)
      (sym (append_assoc P.slots (map (λ r. Some r) x.put) (replicate k None))) ∙
      (ap (λ Q. ref_running a (length F) t (Q.slots ++ replicate k None) (F ++
      frame (length P.slots) (frames_up F p h) (closed F p us) ∷ []) Q.trail Q.barrier (ref_call to p ∷ K) l)
      (sym x.after) ∙
      (ap (λ j. ref_running a (length F) t (P1.slots ++ replicate k None) (F ++
      frame j (frames_up F p h) (closed F p us) ∷ []) P1.trail P1.barrier (ref_call to p ∷ K) l) (sym at) ∙
      sym state)))

  pub calls_none_so : made ≡ pushed.NoInstance →
      Does S M w (call_definition n h a k to us ps)
      i p t P.slots F P.trail P.barrier K l w1 (ref_failing P1.slots F P1.trail P1.barrier K l)
  calls_none_so is =
      let x = placed_as S w1 (instances (place_at F p) ps (map (option_map (S.term_of w)) P.slots)) is placed in
      let none : P1.slots ≡ P.slots =
      ap (λ Q. Q.slots) x.after ∙ (ap (λ rs. P.slots ++ map (λ r. Some r) rs) x.are.1 ∙ append-nil P.slots) in
      does_to (calls_none keeps
      (arguments_fail S.term_of w1 (instances (place_at F p) ps (map (option_map (S.term_of w)) P.slots))
      (map (option_map (S.term_of w)) P.slots) x.put x.are))
      (ap (λ e. ref_failing e F P.trail P.barrier K l) (sym none) ∙
      (ap (λ T. ref_failing P1.slots F T P.barrier K l) (sym (ap (λ Q. Q.trail) x.after)) ∙
      ap (λ b. ref_failing P1.slots F P1.trail b K l) (sym (ap (λ Q. Q.barrier) x.after))))

  pub calls_large_so : made ≡ pushed.Oversize →
      Does S M w (call_definition n h a k to us ps)
      i p t P.slots F P.trail P.barrier K l w1 (ref_stopped run_oversize l)
  calls_large_so is =
      let x = placed_as S w1 (instances (place_at F p) ps (map (option_map (S.term_of w)) P.slots)) is placed in
      calls_oversize keeps (arguments_are_large S.term_of w1
      (instances (place_at F p) ps (map (option_map (S.term_of w)) P.slots))
      (map (option_map (S.term_of w)) P.slots) x.put x.are)

module _ {W R Y N : Type 0} (S : Space W R Y N) (w : W) (o : Option Trees)
    {old new : List R} {made : Pushed} (put_so : Puts S w old new (λ rs. AreArguments S.term_of w o rs made)) where
  pub none_left : made ≡ pushed.NoInstance → new ≡ old
  none_left is =
      let x = arguments_as S w refl is put_so in
      x.after ∙ (ap (λ rs. old ++ rs) x.are.1 ∙ append-nil old)

  pub large_left : made ≡ pushed.Oversize → new ≡ old
  large_left is =
      let x = arguments_as S w refl is put_so in
      x.after ∙ (ap (λ rs. old ++ rs) x.are.3 ∙ append-nil old)

pub moved_out : {W R Y N : Type 0} (S : Space W R Y N) (w : W) {old new last : List R} {Are : List R →
    Type 0} {from : ℕ} → Puts S w old new Are → from ≡ length old → last ≡ take from new → last ≡ old
moved_out S w {old} {new} x at is =
    is ∙ (ap (λ j. take j new) at ∙ (ap (take (length old)) x.after ∙ take-append_seam old x.put))
