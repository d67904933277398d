-- The frames of the Rust machine: more closures, and fewer frames.
use Rattle.std.proofs.Common.{◌≡◌, Some, None, ℕ, zero, suc, ◌+◌, ◌-◌, ◌≤◌, ◌<◌, List, [], ◌∷◌, ◌++◌, length, take, drop, map, get_or, append_assoc, append-nil, length-take, refl, sym, ◌∙◌, ap, subst, arith}
use Rattle.std.specs.Option.{option_map}
use Rattle.std.proofs.lemmas.Option.{slice_get-map}
use Rattle.std.proofs.Math.Seq.{take-length, drop-append_seam}
use Rattle.std.proofs.lemmas.List.{take-map, map-append, take_more, take-append-le, take_all, length-append, length-map, drop-map}
use Rattle.strat_steps.specs.State as state
use Rattle.strat_steps.specs.State.{around, frames_up, closure_in, closed}
use Rattle.strat_code.specs.Code as code
use Rattle.strat_code.specs.CodeOf.{argument_of}
use Rattle.strat_code.specs.declared.instr.Argument.{Argument}
use Rattle.std.specs.Prelude.{slice_get}
use Rattle.strat_patterns.specs.declared.frames.Closure.{Closure}
use Rattle.strat_patterns.specs.declared.frames.Frame.{Frame}
use Rattle.strat_patterns.specs.Frames.{closure_of, frame_in, frames_in, AreLaid}

-- what stands within a front part of a list
pub within_front : {A : Type 0} (a k n : ℕ) (l : List A) → a + k ≤ n → take k (drop a (take n l)) ≡ take k (drop a l)
within_front zero zero n l h = refl
within_front zero (suc k) zero l h = absurd (omega (arith, h))
within_front zero (suc k) (suc n) [] h = refl
within_front zero (suc k) (suc n) (v ∷ l) h = ap (λ m. v ∷ m) (within_front zero k n l (omega (arith, h)))
within_front (suc a) k zero l h = absurd (omega (arith, h))
within_front (suc a) k (suc n) [] h = refl
within_front (suc a) k (suc n) (v ∷ l) h = within_front a k n l (omega (arith, h))

pub laid_push : (from : ℕ) (fs : List Frame) (f : Frame) (m n : ℕ) → AreLaid from fs m → m ≡ f.first →
    f.first + f.count ≡ n → AreLaid from (fs ++ f ∷ []) n
laid_push from [] f m n laid h k = (laid ∙ h, k)
laid_push from (g ∷ fs) f m n laid h k = (laid.0, laid_push (g.first + g.count) fs f m n laid.1 h k)

laid_from : (from : ℕ) (fs : List Frame) (m : ℕ) → AreLaid from fs m → from ≤ m
laid_from from [] m laid = omega (arith, laid)
laid_from from (f ∷ fs) m laid = let h = laid_from (f.first + f.count) fs m laid.1 in let k = laid.0 in omega arith

-- the closures of the frames before one stand before its own
pub laid_cut : (from : ℕ) (fs : List Frame) (k m : ℕ) (f : Frame) → AreLaid from fs m → k < length fs →
    f ≡ get_or fs k f → AreLaid from (take k fs) f.first
laid_cut from [] k m f laid h is = absurd (omega arith)
laid_cut from (g ∷ fs) zero m f laid h is = subst (λ (g : Frame). from ≡ g.first) (sym is) laid.0
laid_cut from (g ∷ fs) (suc k) m f laid h is = (laid.0, laid_cut (g.first + g.count) fs k m f laid.1 (omega arith) is)

laid_within : (from : ℕ) (fs : List Frame) (k m : ℕ) (f : Frame) → AreLaid from fs m → k < length fs →
    f ≡ get_or fs k f → f.first ≤ m
laid_within from [] k m f laid h is = absurd (omega arith)
laid_within from (g ∷ fs) zero m f laid h is =
    let l = laid_from (g.first + g.count) fs m laid.1 in let low : g.first ≤ m = omega arith in
    subst (λ (g : Frame). g.first ≤ m) (sym is) low
laid_within from (g ∷ fs) (suc k) m f laid h is = laid_within (g.first + g.count) fs k m f laid.1 (omega arith) is

-- closures beyond those of the frames are not seen
pub frames_within : (from : ℕ) (fs : List Frame) (n : ℕ) (cs : List Closure) → AreLaid from fs n →
    frames_in (take n cs) fs ≡ frames_in cs fs
frames_within from [] n cs laid = refl
frames_within from (f ∷ fs) n cs laid =
    let k = laid_from (f.first + f.count) fs n laid.1 in
    ap (λ l. state.frame f.base f.up (map closure_of l) ∷ frames_in (take n cs) fs)
    (within_front f.first f.count n cs k)
    ∙ ap (λ gs. frame_in cs f ∷ gs) (frames_within (f.first + f.count) fs n cs laid.1)

-- one frame up
pub up_one : (F : List state.Frame) (p n k : ℕ) → k < n →
    frames_up F (around (slice_get F p) p) (n - (k + 1)) ≡ frames_up F p (n - k)
up_one F p n k h = let e : n - k ≡ suc (n - (k + 1)) = omega arith in rw e refl

-- there is no frame at the position, so there is none around it
pub up_stays : (cs : List Closure) (fs : List Frame) (p n : ℕ) → slice_get fs p ≡ None →
    frames_up (frames_in cs fs) p n ≡ p
up_stays cs fs p zero h = refl
up_stays cs fs p (suc n) h =
    let none = slice_get-map (frame_in cs) fs p ∙ ap (option_map (frame_in cs)) h in
    ap (λ v. frames_up (frames_in cs fs) (around v p) n) none ∙ up_stays cs fs p n h

-- the frame around one that is there
pub up_next : (cs : List Closure) (fs : List Frame) (p : ℕ) (f : Frame) → slice_get fs p ≡ Some f →
    around (slice_get (frames_in cs fs) p) p ≡ f.up
up_next cs fs p f h = ap (λ v. around v p) (slice_get-map (frame_in cs) fs p ∙ ap (option_map (frame_in cs)) h)

-- the closures of arguments, one after another
closed_append : (F : List state.Frame) (p : ℕ) (us vs : List code.Argument) →
    closed F p (us ++ vs) ≡ closed F p us ++ closed F p vs
closed_append F p [] vs = refl
closed_append F p (code.code_at a ∷ us) vs = ap (λ l. (a, p) ∷ l) (closed_append F p us vs)
closed_append F p (code.parameter_at y ∷ us) vs = ap (λ l. closure_in F p y ∷ l) (closed_append F p us vs)

-- the closures of the first n arguments were put after the old ones
pub record ArePushed (fs : List Frame) (old : List Closure) (p : ℕ) (args : List Argument) (i : ℕ)
    (now : List Closure) : Type 0 where
  pub kept : take (length old) now ≡ old
  pub are : map closure_of now ≡ map closure_of old ++ closed (frames_in old fs) p (map argument_of (take i args))

pub none_pushed : (fs : List Frame) (old : List Closure) (p : ℕ) (args : List Argument) → ArePushed fs old p args 0 old
none_pushed fs old p args = record { kept = take-length old; are = sym (append-nil (map closure_of old)) }

pub all_pushed : (fs : List Frame) (old : List Closure) (p : ℕ) (args : List Argument) (i : ℕ) (now : List Closure) →
    length args ≤ i → ArePushed fs old p args i now →
    map closure_of now ≡ map closure_of old ++ closed (frames_in old fs) p (map argument_of args)
all_pushed fs old p args i now h pushed =
    pushed.are ∙ ap (λ l. map closure_of old ++ closed (frames_in old fs) p (map argument_of l)) (take_all i args h)

pub one_pushed : (fs : List Frame) (old : List Closure) (p : ℕ) (args : List Argument) (i : ℕ)
    (now seen after : List Closure) (a : Argument) (c : Closure) → AreLaid 0 fs (length old) → i < length args →
    ArePushed fs old p args i now → a ≡ get_or args i a → seen ≡ now →
    closed (frames_in seen fs) p (argument_of a ∷ []) ≡ closure_of c ∷ [] → after ≡ now ++ c ∷ [] →
    ArePushed fs old p args (i + 1) after
one_pushed fs old p args i now seen after a c laid h pushed is looked made put =
    let long : length old ≤ length now = let l = length-take (length old) now in let k = ap length pushed.kept in
    omega arith in
    let same : frames_in seen fs ≡ frames_in old fs =
    ap (λ cs. frames_in cs fs) looked ∙
    (sym (frames_within 0 fs (length old) now laid) ∙ ap (λ cs. frames_in cs fs) pushed.kept) in
    let F = frames_in old fs in
    record {
      kept = ap (take (length old)) put ∙ (take-append-le (length old) now (c ∷ []) long ∙ pushed.kept);
      are =
          ap (map closure_of) put ∙ (map-append closure_of now (c ∷ []) ∙
          (ap (λ l. l ++ closure_of c ∷ []) pushed.are ∙
          (append_assoc (map closure_of old) (closed F p (map argument_of (take i args))) (closure_of c ∷ []) ∙
          ap (λ l. map closure_of old ++ l) (
          ap (λ l. closed F p (map argument_of (take i args)) ++ l) (sym made ∙
          ap (λ G. closed G p (argument_of a ∷ [])) same) ∙
          (sym (closed_append F p (map argument_of (take i args)) (argument_of a ∷ [])) ∙
          ap (closed F p) (
          sym (map-append argument_of (take i args) (a ∷ [])) ∙
          ap (map argument_of) (ap (λ b. take i args ++ b ∷ []) is ∙ sym (take_more args i a h))
          ))
          ))));
    }

pub ruleset pushing = (none_pushed, all_pushed)

-- the first n frames, with the closures before those of the next
pub cut_laid : (fs gs : List Frame) (cs ds : List Closure) (k : ℕ) (f : Frame) → AreLaid 0 fs (length cs) →
    k < length fs → f ≡ get_or fs k f → gs ≡ take k fs → ds ≡ take f.first cs → AreLaid 0 gs (length ds)
cut_laid fs gs cs ds k f laid h is fewer less =
    let before = laid_cut 0 fs k (length cs) f laid h is in
    let low = laid_within 0 fs k (length cs) f laid h is in
    let long : f.first ≡ length ds = let e = ap length less in let l = length-take f.first cs in
    omega (arith, low, e, l) in
    subst (λ gs. AreLaid 0 gs (length ds)) (sym fewer) (subst (λ n. AreLaid 0 (take k fs) n) long before)

pub cut_frames : (fs gs : List Frame) (cs ds : List Closure) (k : ℕ) (f : Frame) → AreLaid 0 fs (length cs) →
    k < length fs → f ≡ get_or fs k f → gs ≡ take k fs → ds ≡ take f.first cs →
    frames_in ds gs ≡ take k (frames_in cs fs)
cut_frames fs gs cs ds k f laid h is fewer less =
    ap (λ gs. frames_in ds gs) fewer ∙ (ap (λ ds. frames_in ds (take k fs)) less ∙
    (frames_within 0 (take k fs) f.first cs (laid_cut 0 fs k (length cs) f laid h is) ∙
    sym (take-map (frame_in cs) k fs)))

closed_length : (F : List state.Frame) (p : ℕ) (us : List code.Argument) → length (closed F p us) ≡ length us
closed_length F p [] = refl
closed_length F p (code.code_at a ∷ us) = ap suc (closed_length F p us)
closed_length F p (code.parameter_at y ∷ us) = ap suc (closed_length F p us)

-- more closures at the end
grown_frames : (fs : List Frame) (cs ds : List Closure) → AreLaid 0 fs (length cs) → take (length cs) ds ≡ cs →
    frames_in ds fs ≡ frames_in cs fs
grown_frames fs cs ds laid kept = sym (frames_within 0 fs (length cs) ds laid) ∙ ap (λ l. frames_in l fs) kept

-- the closures of a call's arguments were added, and the frames stayed as they were
pub record IsGrown (fs gs : List Frame) (cs ds : List Closure) (p : ℕ) (args : List Argument) : Type 0 where
  pub frames : gs ≡ fs
  pub kept : take (length cs) ds ≡ cs
  pub are : map closure_of ds ≡ map closure_of cs ++ closed (frames_in cs fs) p (map argument_of args)

pub grown_by_call : (fs gs seen : List Frame) (cs ds es : List Closure) (p : ℕ) {args : List Argument} → gs ≡ fs →
    ds ≡ es → take (length cs) es ≡ cs → seen ≡ fs →
    map closure_of es ≡ map closure_of cs ++ closed (frames_in cs seen) p (map argument_of args) →
    IsGrown fs gs cs ds p args
grown_by_call fs gs seen cs ds es p {args = args} same same_closures kept looked are = record {
  frames = same;
  kept = ap (take (length cs)) same_closures ∙ kept;
  are = ap (map closure_of) same_closures ∙
      (are ∙ ap (λ l. map closure_of cs ++ closed (frames_in cs l) p (map argument_of args)) looked);
}

pub grown_by_nothing : (fs gs : List Frame) (cs ds : List Closure) (p : ℕ) (args : List Argument) → gs ≡ fs → ds ≡ cs →
    length args ≡ 0 → IsGrown fs gs cs ds p args
grown_by_nothing fs gs cs ds p [] same same_closures none = record {
  frames = same;
  kept = ap (take (length cs)) same_closures ∙ take-length cs;
  are = ap (map closure_of) same_closures ∙ sym (append-nil (map closure_of cs));
}
grown_by_nothing fs gs cs ds p (a ∷ args) same same_closures none = absurd (omega arith)

-- the frame of a call is added, with its closures
module _ (fs gs seen : List Frame) (f : Frame) (cs ds : List Closure) (p : ℕ) (args : List Argument)
    (laid : AreLaid 0 fs (length cs)) (first : f.first ≡ length cs) (count : f.count ≡ length args)
    (put : gs ≡ fs ++ f ∷ []) (kept : take (length cs) ds ≡ cs) (looked : seen ≡ fs)
    (are : map closure_of ds ≡ map closure_of cs ++ closed (frames_in cs seen) p (map argument_of args)) where
  many : length ds ≡ length cs + length args
  many =
      let a = ap length are in
      let b = length-append (map closure_of cs) (closed (frames_in cs seen) p (map argument_of args)) in
      let c = length-map ds closure_of in
      let d = length-map cs closure_of in
      let e = closed_length (frames_in cs seen) p (map argument_of args) in
      let g = length-map args argument_of in
      omega arith

  pub call_laid : AreLaid 0 gs (length ds)
  call_laid = subst (λ gs. AreLaid 0 gs (length ds)) (sym put)
      (laid_push 0 fs f (length cs) (length ds) laid (sym first) (let m = many in omega (arith, first, count, m)))

  own : map closure_of (take f.count (drop f.first ds)) ≡ closed (frames_in cs fs) p (map argument_of args)
  own =
      let X = closed (frames_in cs fs) p (map argument_of args) in
      let are2 : map closure_of ds ≡ map closure_of cs ++ X =
      are ∙ ap (λ gs. map closure_of cs ++ closed (frames_in cs gs) p (map argument_of args)) looked in
      let at : f.first ≡ length (map closure_of cs) = first ∙ sym (length-map cs closure_of) in
      let long : f.count ≡ length X =
      count ∙ (sym (length-map args argument_of) ∙
      sym (closed_length (frames_in cs fs) p (map argument_of args))) in
      sym (take-map closure_of f.count (drop f.first ds)) ∙
      (ap (take f.count) (sym (drop-map closure_of f.first ds)) ∙
      (ap (λ l. take f.count (drop f.first l)) are2 ∙
      (ap (λ n. take f.count (drop n (map closure_of cs ++ X))) at ∙
      (ap (take f.count) (drop-append_seam (map closure_of cs) X) ∙
      (ap (λ n. take n X) long ∙ take-length X)))))

  pub call_frames : frames_in ds gs ≡ frames_in cs fs ++
      state.frame f.base f.up (closed (frames_in cs fs) p (map argument_of args)) ∷ []
  call_frames =
      ap (frames_in ds) put ∙
      (map-append (frame_in ds) fs (f ∷ []) ∙
      (ap (λ F. F ++ frame_in ds f ∷ []) (grown_frames fs cs ds laid kept) ∙
      ap (λ l. frames_in cs fs ++ state.frame f.base f.up l ∷ []) own))

-- the frames are as they were where the closures that came are dropped again
pub same_laid : (fs hs : List Frame) (cs es : List Closure) → AreLaid 0 fs (length cs) → hs ≡ fs → es ≡ cs →
    AreLaid 0 hs (length es)
same_laid fs hs cs es laid same same_closures = subst (λ l. AreLaid 0 l (length es)) (sym same)
    (subst (λ l. AreLaid 0 fs (length l)) (sym same_closures) laid)

pub same_frames : (fs hs : List Frame) (cs es : List Closure) → hs ≡ fs → es ≡ cs → frames_in es hs ≡ frames_in cs fs
same_frames fs hs cs es same same_closures = ap (frames_in es) same ∙ ap (λ l. frames_in l fs) same_closures

-- closures came, and the frames are those that there were: then the closures are dropped, or the frame of the call is
-- added
module _ (fs gs hs : List Frame) (cs ds : List Closure) (p : ℕ) (args : List Argument) (laid : AreLaid 0 fs (length cs))
    (grown : IsGrown fs gs cs ds p args) where
  pub closures_dropped : (first : ℕ) (es : List Closure) → first ≡ length cs → es ≡ take first ds → es ≡ cs
  closures_dropped first es at less = less ∙ (ap (λ n. take n ds) at ∙ grown.kept)

  module _ (f : Frame) (first : f.first ≡ length cs) (count : f.count ≡ length args) (put : hs ≡ gs ++ f ∷ []) where
    put_here : hs ≡ fs ++ f ∷ []
    put_here = put ∙ ap (λ l. l ++ f ∷ []) grown.frames

    pub one_more_laid : AreLaid 0 hs (length ds)
    one_more_laid = call_laid fs hs fs f cs ds p args laid first count put_here grown.kept refl grown.are

    pub one_more_frame : frames_in ds hs ≡ frames_in cs fs ++
        state.frame f.base f.up (closed (frames_in cs fs) p (map argument_of args)) ∷ []
    one_more_frame = call_frames fs hs fs f cs ds p args laid first count put_here grown.kept refl grown.are
