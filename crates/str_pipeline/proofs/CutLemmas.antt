-- The search for the line `#term`.
use Rattle.std.proofs.Common.{◌≡◌, ◌≢◌, ◌+◌, ◌-◌, ◌<◌, ◌≤◌, inr, ℕ, Bool, true, false, nat_eq, List, [], ◌∷◌, ◌++◌, length, take, drop, get_or, sym, ◌∙◌, ap, refl, codes, arith, subst, append_assoc, length-append, length-take-le, length-drop}
use Rattle.std.proofs.lemmas.List.{take_at, take-append-drop, drop-drop, length_push, take_all, drop_all, take_more, get_or_append_left, get_or_at, append-nil, take-append-le, drop-append-le, drop_at, get_or-drop}
use Rattle.std.proofs.lemmas.Grind.{common_steps}
use Rattle.std.proofs.lemmas.Bool.{cases_lt}
use Rattle.std.proofs.Common.{⊎_elim}
use Rattle.std.specs.List.{starts_with}
use Rattle.std.specs.Prelude.{Option, None, Some, IfSome, IsSomeAnd, IsTrue}
use Rattle.str_pipeline.specs.Transfer.{Loses, IsDry}
use Rattle.str_pipeline.specs.declared.joined.Step.TheVariants.{TooLong}
use Rattle.str_pipeline.specs.Joined.{IsBeforeLine, IsTermLine, by_line_feed, by_return, by_end, HasTermLine, IsSplit, parted, unparted}
use Rattle.str_pipeline.specs.Search.{CanFollow, IsKind, IsClear, IsSearched, IsNear, IsEarly, IsFound, IsStep, HasLongDefinitions}
use Rattle.str_pipeline.specs.declared.joined.LineKind.TheVariants.{Term, Other}
use Rattle.str_pipeline.specs.declared.joined.Search.{Search}
use Rattle.str_pipeline.specs.declared.joined.Search.TheVariants.{AtLine, InLine}

-- of two fronts of one text one begins with the other
pub fronts : (xs ys more after : List ℕ) → xs ++ more ≡ ys ++ after → starts_with nat_eq xs ys ≡ false →
    starts_with nat_eq ys xs ≡ false → ⊥
fronts [] ys more after same first second = cc
fronts (x ∷ xs) [] more after same first second = cc
fronts (x ∷ xs) (y ∷ ys) more after same first second =
    let heads : x ≡ y = cc in
    let tails : xs ++ more ≡ ys ++ after = cc in
    fronts xs ys more after tails (grind (arith, common_steps)) (grind (arith, common_steps))

-- bytes that begin neither line, and that neither line begins with
pub other_kind : (known : List ℕ) (is_end : Bool) → is_end ≡ false
    → starts_with nat_eq known (codes "#term" ++ 10 ∷ []) ≡ false →
    starts_with nat_eq known (codes "#term" ++ 13 ∷ 10 ∷ []) ≡ false
    → starts_with nat_eq (codes "#term" ++ 10 ∷ []) known ≡ false →
    starts_with nat_eq (codes "#term" ++ 13 ∷ 10 ∷ []) known ≡ false
    → IsKind is_end known Other
other_kind known is_end goes_on feed ret in_feed in_return more line after follow same (by_line_feed is) =
    fronts known (codes "#term" ++ 10 ∷ []) more after (same ∙ ap (λ (xs : List ℕ). xs ++ after) is) feed in_feed
other_kind known is_end goes_on feed ret in_feed in_return more line after follow same (by_return is) =
    fronts known (codes "#term" ++ 13 ∷ 10 ∷ []) more after (same ∙ ap (λ (xs : List ℕ). xs ++ after) is) ret in_return
other_kind known is_end goes_on feed ret in_feed in_return more line after follow same (by_end is last) =
    let bare : known ++ more ≡ codes "#term" =
    same ∙ (ap (λ (xs : List ℕ). xs ++ after) is ∙ ap (λ (xs : List ℕ). codes "#term" ++ xs) last) in
    let fed : known ++ (more ++ 10 ∷ []) ≡ (codes "#term" ++ 10 ∷ []) ++ [] =
    sym (append_assoc known more (10 ∷ [])) ∙ ap (λ (xs : List ℕ). xs ++ 10 ∷ []) bare in
    fronts known (codes "#term" ++ 10 ∷ []) (more ++ 10 ∷ []) [] fed feed in_feed

-- where no such line begins
pub nothing_before : (known : List ℕ) → IsClear false known 0
nothing_before known = record { clear = λ more before line after follow has. omega arith }

-- more bytes become known
pub clear_append : (known more : List ℕ) (n : ℕ) → IsClear false known n → IsClear false (known ++ more) n
clear_append known more n clear = record {
  clear = λ rest before line after follow has. clear.clear (more ++ rest)
      before line after tt (rw (append_assoc known more rest) at has);
}

pub searched_append : (known more : List ℕ) (search : Search) → IsSearched false known search →
    IsSearched false (known ++ more) search
searched_append known more (AtLine n) (within, begins, clear) =
    let long : n ≤ length (known ++ more) = rw length-append (omega arith) in
    (long, rw (take-append-le n known more within) begins, clear_append known more n clear)
searched_append known more (InLine n) (within, clear) =
    let long : n ≤ length (known ++ more) = rw length-append (omega arith) in
    (long, clear_append known more (n + 1) clear)

-- what holds whatever follows holds where nothing does
pub clear_at : (is_end : Bool) (known : List ℕ) (n : ℕ) → IsClear false known n → IsClear is_end known n
clear_at is_end known n clear =
    record { clear = λ more before line after follow has. clear.clear more before line after tt has }

pub searched_at : (is_end : Bool) (known : List ℕ) (search : Search) → IsSearched false known search →
    IsSearched is_end known search
searched_at is_end known (AtLine n) (within, begins, clear) = (within, begins, clear_at is_end known n clear)
searched_at is_end known (InLine n) (within, clear) = (within, clear_at is_end known (n + 1) clear)

-- the front of a text, and the rest after it
split_at : (known more before rest : List ℕ) (n : ℕ) → known ++ more ≡ before ++ rest → length before ≡ n →
    n ≤ length known
    → (before ≡ take n known) × (drop n known ++ more ≡ rest)
split_at known more before rest n same long within = (
  sym (take_at before rest n long) ∙ (ap (take n) (sym same) ∙ take-append-le n known more within),
  sym (drop-append-le n known more within) ∙ (ap (drop n) same ∙ drop_at before rest n long),
)

-- the front of a text, a part after it and the rest
three_parts : (known more : List ℕ) (n m : ℕ) →
    known ++ more ≡ take n known ++ (take m (drop n known) ++ (drop (n + m) known ++ more))
three_parts known more n m =
    rw (
      ← append_assoc (take m (drop n known)) (drop (n + m) known) more,
      ← drop-drop m n known,
      take-append-drop m (drop n known),
      ← append_assoc (take n known) (drop n known) more,
      take-append-drop n known,
    )

-- the line at n is another one
pub clear_other : (is_end : Bool) (known : List ℕ) (n : ℕ) → n ≤ length known → IsClear is_end known n →
    IsKind is_end (drop n known) Other
    → IsClear is_end known (n + 1)
clear_other is_end known n within clear other = record {
  clear = λ more before line after follow has. ⊎_elim
      (λ (more_than : n < length before). let h : n + 1 ≤ length before = omega arith in h)
      (λ (at_most : length before ≤ n).
      let at_least : n ≤ length before = clear.clear more before line after follow has in
      let long : length before ≡ n = omega arith in
      absurd (other more line after follow ((split_at known more before (line ++ after) n has.whole long within).1)
      has.is_line))
      (cases_lt n (length before));
}

-- no line begins after a byte that is no line feed
pub clear_line : (is_end : Bool) (known : List ℕ) (n m : ℕ) → m ≤ length known → IsClear is_end known (n + 1)
    → ((k : ℕ) → n ≤ k → k < m → get_or known k 0 ≢ 10) → IsClear is_end known (m + 1)
clear_line is_end known n m within clear none = record {
  clear = λ more before line after follow has. ⊎_elim
      (λ (more_than : m < length before). let h : m + 1 ≤ length before = omega arith in h)
      (λ (at_most : length before ≤ m).
      let at_least : n + 1 ≤ length before = clear.clear more before line after follow has in
      absurd (⊎_elim
      (λ (empty : before ≡ []). let h : length before ≡ 0 = ap length empty in let bad : ⊥ = omega arith in bad)
      (λ (ended : (front : List ℕ) × (before ≡ front ++ 10 ∷ [])).
      let long : length before ≡ length ended.0 + 1 = ap length ended.1 ∙ length_push ended.0 10 in
      let below : length ended.0 < m = omega arith in
      let from : n ≤ length ended.0 = omega arith in
      let inside : length ended.0 < length known = omega arith in
      let whole : known ++ more ≡ ended.0 ++ 10 ∷ (line ++ after) =
      has.whole ∙ (ap (λ (xs : List ℕ). xs ++ (line ++ after)) ended.1 ∙
      append_assoc ended.0 (10 ∷ []) (line ++ after)) in
      none (length ended.0) from below
      (sym (get_or_append_left known more 0 (length ended.0) inside)
      ∙ (ap (λ (xs : List ℕ). get_or xs (length ended.0) 0) whole ∙
      get_or_at ended.0 10 (line ++ after) 0 (length ended.0) refl)))
      has.begins))
      (cases_lt m (length before));
}

pub clear_fewer : (is_end : Bool) (known : List ℕ) (n m : ℕ) → IsClear is_end known n → m ≤ n → IsClear is_end known m
clear_fewer is_end known n m clear fewer = record {
  clear = λ more before line after follow has.
      let far : n ≤ length before = clear.clear more before line after follow has in
      let h : m ≤ length before = omega arith in
      h;
}

-- no line begins within bytes after the first n of which none is a line feed
pub clear_rest : (is_end : Bool) (known : List ℕ) (n m : ℕ) → n ≤ length known → IsClear is_end known (n + 1) →
    m ≤ length (drop n known)
    → ((k : ℕ) → k < m → get_or (drop n known) k 0 ≢ 10) → IsClear is_end known (n + m + 1)
clear_rest is_end known n m within clear room none =
    let short : m ≤ length known - n = rw (← length-drop n known) room in
    clear_line is_end known n (n + m) (omega arith) clear
    (λ k from below is.
    let less : k - n < m = omega arith in
    let same : n + (k - n) ≡ k = omega arith in
    none (k - n) less (get_or-drop n known (k - n) 0 ∙ (ap (λ (i : ℕ). get_or known i 0) same ∙ is)))

-- with no line feed in the rest, no line begins in it
pub clear_to_end : (is_end : Bool) (known : List ℕ) (n : ℕ) → IsSearched is_end known (InLine n)
    → ((k : ℕ) → k < length (drop n known) → get_or (drop n known) k 0 ≢ 10) → IsClear is_end known (length known + 1)
clear_to_end is_end known n (within, clear) none =
    clear_fewer is_end known (n + length (drop n known) + 1) (length known + 1)
    (clear_rest is_end known n (length (drop n known)) within clear (omega arith) none)
    (rw length-drop (omega arith))

-- after a first line feed a line begins, and none before
pub next_line : (is_end : Bool) (known : List ℕ) (n m : ℕ) → IsSearched is_end known (InLine n) →
    m < length (drop n known)
    → get_or (drop n known) m 0 ≡ 10 → ((k : ℕ) → k < m → get_or (drop n known) k 0 ≢ 10) →
    IsSearched is_end known (AtLine (n + m + 1))
next_line is_end known n m (within, clear) inside feed none =
    let short : m < length known - n = rw (← length-drop n known) inside in
    let is : get_or known (n + m) 0 ≡ 10 = sym (get_or-drop n known m 0) ∙ feed in
    let below : n + m < length known = omega arith in
    let begins : IsBeforeLine (take (n + m + 1) known) =
    inr (take (n + m) known, rw (← is) (take_more known (n + m) 0 below)) in
    (omega arith, begins, clear_rest is_end known n m within clear (omega arith) none)

-- a line that begins at n is the one that is looked for
pub found_line : (is_end : Bool) (known : List ℕ) (n m : ℕ) → IsSearched is_end known (AtLine n) →
    IsKind is_end (drop n known) (Term m)
    → IsFound is_end known n (n + m)
found_line is_end known n m (within, begins, clear) (short, kind) =
    let room : m ≤ length known - n = rw (← length-drop n known) short in
    record {
      defs_within = within;
      term_within = omega arith;
      split = λ more follow.
          let has : HasTermLine (known ++ more) (take n known) (take m (drop n known)) (drop (n + m) known ++ more) =
          record {
            whole = three_parts known more n m;
            begins = begins;
            is_line = rw (← drop-drop m n known) (kind more follow);
          } in
          parted has (λ before other after h. rw (length-take-le n known within)
          (clear.clear more before other after follow h));
    }

-- a text without such a line is all definitions
pub found_none : (known : List ℕ) → IsClear true known (length known + 1) →
    IsFound true known (length known) (length known)
found_none known clear = record {
  defs_within = omega arith;
  term_within = omega arith;
  split = λ more nothing.
      let whole : known ++ more ≡ known = ap (λ (xs : List ℕ). known ++ xs) nothing ∙ append-nil known in
      rw (
        nothing,
        append-nil known,
        take_all (length known) known (omega arith),
        append-nil (drop (length known) known),
        drop_all (length known) known (omega arith),
      )
      (unparted (λ before line after has.
      let has_all : HasTermLine (known ++ []) before line after = rw append-nil has in
      let far : length known + 1 ≤ length before = clear.clear [] before line after refl has_all in
      let sizes : length known ≡ length before + length (line ++ after) =
      ap length has.whole ∙ length-append before (line ++ after) in
      let bad : ⊥ = omega arith in
      bad));
}

-- the split of a text of which this front is known
pub front_split : (told left known : List ℕ) (is_end : Bool) (defs term : ℕ) → told ≡ known ++ left →
    (is_end ≡ true → left ≡ [])
    → IsFound is_end known defs term → IsSplit told (take defs known) (drop term known ++ left)
front_split told left known true defs term same dry found = rw same (found.split left (dry refl))
front_split told left known false defs term same dry found = rw same (found.split left tt)

follows_at : (is_end : Bool) (left : List ℕ) → (is_end ≡ true → left ≡ []) → CanFollow is_end left
follows_at true left dry = dry refl
follows_at false left dry = tt

-- the definitions are too long where none of the first places is before the line
pub front_too_long : (told left known : List ℕ) (is_end : Bool) (limit : ℕ) → told ≡ known ++ left →
    (is_end ≡ true → left ≡ [])
    → limit < length known → IsClear is_end known (limit + 1) → HasLongDefinitions limit told
front_too_long told left known is_end limit same dry long clear _ _ (parted {defs} {line} {term} has least) =
    let far : limit + 1 ≤ length defs =
    clear.clear left defs line term (follows_at is_end left dry) (rw (← same) has) in
    omega arith
front_too_long told left known is_end limit same dry long clear _ _ (unparted none) =
    let sizes : length told ≡ length known + length left = ap length same ∙ length-append known left in
    omega arith

pub too_long_told : (old new : Option (List ℕ)) (known : List ℕ) (is_end : Bool) (limit : ℕ) → Loses old new known →
    (IsTrue is_end → IsDry new)
    → IsStep is_end limit known TooLong → IfSome old (λ told. IsSomeAnd new (λ left. HasLongDefinitions limit told))
too_long_told None new known is_end limit loses dry step = tt
too_long_told (Some told) None known is_end limit loses dry step = absurd loses
too_long_told (Some told) (Some left) known is_end limit loses dry (long, clear) =
    front_too_long told left known is_end limit loses dry long clear

-- where little is left to be searched, little more than the definitions is known
near_line : (known more d line t : List ℕ) (s : Search) → IsSearched false known s → IsNear known s →
    HasTermLine (known ++ more) d line t → length known ≤ length d + 6
near_line known more d line t (AtLine n) (within, begins, clear) near has =
    let far : n ≤ length d = clear.clear more d line t tt has in
    omega arith
near_line known more d line t (InLine n) (within, clear) near has =
    let far : n + 1 ≤ length d = clear.clear more d line t tt has in
    omega arith

near_split : (known more d t : List ℕ) (s : Search) → IsSearched false known s → IsNear known s →
    IsSplit (known ++ more) d t → length known ≤ length d + 6
near_split known more d t s searched near (parted has first) = near_line known more d _ t s searched near has
near_split known more d t s searched near (unparted none) =
    let whole : length (known ++ more) ≡ length known + length more = length-append known more in
    omega arith

-- before anything is read
pub early_start : (told : Option (List ℕ)) (reads : ℕ) → IsEarly told reads reads
early_start None reads = tt
early_start (Some told) reads = λ d t split. omega arith

-- one more read while the line is looked for
pub early_step : (told now : Option (List ℕ)) (known : List ℕ) (s : Search) (before reads : ℕ) →
    IsSearched false known s → IsNear known s → Loses told now known → reads ≤ before + length known →
    IsEarly told before (reads + 1)
early_step None now known s before reads searched near loses few = tt
early_step (Some told) None known s before reads searched near loses few = absurd loses
early_step (Some told) (Some left) known s before reads searched near loses few =
    λ d t split.
    let close : length known ≤ length d + 6 =
    near_split known left d t s searched near (subst (λ (text : List ℕ). IsSplit text d t) loses split) in
    omega arith

-- a line `#term` and what comes after it
same_rest : (line other t u : List ℕ) → IsTermLine line t → IsTermLine other u → line ++ t ≡ other ++ u → t ≡ u
same_rest line other t u (by_line_feed a) (by_line_feed b) same =
    let h : (codes "#term" ++ 10 ∷ []) ++ t ≡ (codes "#term" ++ 10 ∷ []) ++ u =
    sym (ap (λ (xs : List ℕ). xs ++ t) a) ∙ (same ∙ ap (λ (xs : List ℕ). xs ++ u) b) in
    cc
same_rest line other t u (by_line_feed a) (by_return b) same =
    let h : (codes "#term" ++ 10 ∷ []) ++ t ≡ (codes "#term" ++ 13 ∷ 10 ∷ []) ++ u =
    sym (ap (λ (xs : List ℕ). xs ++ t) a) ∙ (same ∙ ap (λ (xs : List ℕ). xs ++ u) b) in
    cc
same_rest line other t u (by_line_feed a) (by_end b last) same =
    let h : (codes "#term" ++ 10 ∷ []) ++ t ≡ codes "#term" ++ u =
    sym (ap (λ (xs : List ℕ). xs ++ t) a) ∙ (same ∙ ap (λ (xs : List ℕ). xs ++ u) b) in
    cc
same_rest line other t u (by_return a) (by_line_feed b) same =
    let h : (codes "#term" ++ 13 ∷ 10 ∷ []) ++ t ≡ (codes "#term" ++ 10 ∷ []) ++ u =
    sym (ap (λ (xs : List ℕ). xs ++ t) a) ∙ (same ∙ ap (λ (xs : List ℕ). xs ++ u) b) in
    cc
same_rest line other t u (by_return a) (by_return b) same =
    let h : (codes "#term" ++ 13 ∷ 10 ∷ []) ++ t ≡ (codes "#term" ++ 13 ∷ 10 ∷ []) ++ u =
    sym (ap (λ (xs : List ℕ). xs ++ t) a) ∙ (same ∙ ap (λ (xs : List ℕ). xs ++ u) b) in
    cc
same_rest line other t u (by_return a) (by_end b last) same =
    let h : (codes "#term" ++ 13 ∷ 10 ∷ []) ++ t ≡ codes "#term" ++ u =
    sym (ap (λ (xs : List ℕ). xs ++ t) a) ∙ (same ∙ ap (λ (xs : List ℕ). xs ++ u) b) in
    cc
same_rest line other t u (by_end a none) (by_line_feed b) same =
    let h : codes "#term" ++ t ≡ (codes "#term" ++ 10 ∷ []) ++ u =
    sym (ap (λ (xs : List ℕ). xs ++ t) a) ∙ (same ∙ ap (λ (xs : List ℕ). xs ++ u) b) in
    cc
same_rest line other t u (by_end a none) (by_return b) same =
    let h : codes "#term" ++ t ≡ (codes "#term" ++ 13 ∷ 10 ∷ []) ++ u =
    sym (ap (λ (xs : List ℕ). xs ++ t) a) ∙ (same ∙ ap (λ (xs : List ℕ). xs ++ u) b) in
    cc
same_rest line other t u (by_end a none) (by_end b last) same = none ∙ sym last

-- a text is split in one way
pub one_split : (text d t e u : List ℕ) → IsSplit text d t → IsSplit text e u → (d ≡ e) × (t ≡ u)
one_split text d t e u (parted {line} has least) (parted {line = other} again smallest) =
    let long : length d ≤ length e = least e other u again in
    let short : length e ≤ length d = smallest d line t has in
    let sizes : length e ≡ length d = omega arith in
    let same : d ++ (line ++ t) ≡ e ++ (other ++ u) = sym has.whole ∙ again.whole in
    let parts = split_at d (line ++ t) e (other ++ u) (length d) same sizes (omega arith) in
    let fronts_same : d ≡ e = sym (parts.0 ∙ take_all (length d) d (omega arith)) in
    let rests : line ++ t ≡ other ++ u =
    sym (ap (λ (xs : List ℕ). xs ++ (line ++ t)) (drop_all (length d) d (omega arith))) ∙ parts.1 in
    (fronts_same, same_rest line other t u has.is_line again.is_line rests)
one_split text d t _ _ (parted {line} has least) (unparted none) = absurd (none d line t has)
one_split text _ _ e u (unparted none) (parted {line} has least) = absurd (none e line u has)
one_split text _ _ _ _ (unparted none) (unparted still) = (refl, refl)
