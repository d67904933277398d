-- The tables of numbers of arguments: what adding to them gives, and that they are those of the declarations.
use Rattle.std.proofs.Common.{◌≡◌, ◌∙◌, ℕ, Bool, true, false, cond, ◌||◌, ◌&&◌, ◌==◌, nat_eq, List, [], ◌∷◌, ◌++◌, Option, None, Some, Vec, is_some, sym, refl, ap, true≢false}
use Rattle.std.specs.declared.alloc.Global.{Global}
use Rattle.std.specs.Cmp.Lexicographic.{pointwise}
use Rattle.std.specs.Map.{lookup, set_value}
use Rattle.std.specs.Cmp.{unsigned_Decides}
use Rattle.std.specs.Option.{option_or, unwrap_or}
use Rattle.std.proofs.lemmas.List.Folds.{list_any-append}
use Rattle.std.proofs.Math.Bool.{or-false}
use Rattle.indexmap.specs.IndexMap.{IndexMap, get_by, insert_entry}
use Rattle.str_syntax.specs.SameName.{same_name}
use Rattle.str_syntax.specs.NameEquality.{same_name-Decides, same_name-true}
use Rattle.str_syntax.specs.Trees.{Bytes}
use Rattle.signature_core.specs.Arities.{has_number, with_number, first_number, numbers_of, AreNumbersOf, IsNoted}
use Rattle.signature_core.specs.Signature.{Declared, arity_of, arity_known, is_declared_name}
use Rattle.signature_core.specs.Lookup.{first_arity}

-- the key is this name
abbrev has_name : Bytes → Vec ℕ Global → Bool
has_name f key = pointwise nat_eq f key.items

-- a choice that is made twice
again : {A : Type 0} (b : Bool) (x y z : A) → cond b x z ≡ cond b x (cond b y z)
again true x y z = refl
again false x y z = refl

-- choices that are not both taken
exchanged : {A : Type 0} (b c : Bool) (x y z : A) → ((b ≡ true) × (c ≡ true) → ⊥) →
    cond b x (cond c y z) ≡ cond c y (cond b x z)
exchanged true true x y z apart = absurd (apart (refl, refl))
exchanged true false x y z apart = refl
exchanged false true x y z apart = refl
exchanged false false x y z apart = refl

-- a name is not two different ones
different : (f g h : Bytes) → same_name g h ≡ false → (same_name f h ≡ true) × (same_name f g ≡ true) → ⊥
different f g h differ both =
    let first : f ≡ h = same_name-true f h both.0 in
    let second : f ≡ g = same_name-true f g both.1 in
    let equal : same_name g h ≡ true = (same_name-Decides g h).1 (sym second ∙ first) in
    true≢false (sym equal ∙ differ)

-- after a write at a name that is there, it has what was written, and other names have what they had
lookup-set_value : {X : Type 0} (f name : Bytes) (es : List (Vec ℕ Global × X)) (w old : X)
    → lookup (has_name name) es ≡ Some old
    → lookup (has_name f) (set_value (has_name name) es w) ≡ cond (same_name f name) (Some w) (lookup (has_name f) es)
lookup-set_value f name [] w old found = cc
lookup-set_value {X} f name (e ∷ es) w old found =
    by (same_name name e.0.items) refl (λ later. lookup-set_value f name es w old later)
  where
    by : (b : Bool) → same_name name e.0.items ≡ b
        → (lookup (has_name name) es ≡ Some old →
        lookup (has_name f) (set_value (has_name name) es w) ≡
        cond (same_name f name) (Some w) (lookup (has_name f) es))
        → lookup (has_name f) (set_value (has_name name) (e ∷ es) w) ≡
        cond (same_name f name) (Some w) (lookup (has_name f) (e ∷ es))
    by true here others =
        let same : same_name f name ≡ same_name f e.0.items = ap (same_name f) (same_name-true name e.0.items here) in
        rw (here, same) (again (same_name f e.0.items) (Some w) (Some e.1) (lookup (has_name f) es))
    by false here others =
        let later : lookup (has_name name) es ≡ Some old =
        sym (ap (λ b. cond b (Some e.1) (lookup (has_name name) es)) here) ∙ found in
        let rest : lookup (has_name f) (set_value (has_name name) es w) ≡
        cond (same_name f name) (Some w) (lookup (has_name f) es) = others later in
        rw (here, rest) (exchanged (same_name f e.0.items) (same_name f name) (Some e.1) (Some w)
        (lookup (has_name f) es) (different f name e.0.items here))

-- a write of what is there changes nothing
pub set_value-same : {X : Type 0} (test : Vec ℕ Global → Bool) (es : List (Vec ℕ Global × X)) (w : X) →
    lookup test es ≡ Some w → set_value test es w ≡ es
set_value-same test [] w found = refl
set_value-same {X} test (e ∷ es) w found = by (test e.0) refl (λ later. set_value-same test es w later)
  where
    by : (b : Bool) → test e.0 ≡ b → (lookup test es ≡ Some w → set_value test es w ≡ es) →
        set_value test (e ∷ es) w ≡ e ∷ es
    by true here others =
        let there : Some e.1 ≡ Some w = sym (ap (λ b. cond b (Some e.1) (lookup test es)) here) ∙ found in
        let equal : e.1 ≡ w = cc in
        rw here (λ i. (e.0, sym equal i) ∷ es)
    by false here others =
        let later : lookup test es ≡ Some w = sym (ap (λ b. cond b (Some e.1) (lookup test es)) here) ∙ found in
        rw here (ap (λ more. e ∷ more) (others later))

pub set_value-unchanged : {X : Type 0} (test : Vec ℕ Global → Bool) (es : List (Vec ℕ Global × X)) (w old : X) →
    lookup test es ≡ Some old → w ≡ old → set_value test es w ≡ es
set_value-unchanged test es w old found same = ap (set_value test es) same ∙ set_value-same test es old found

-- after a name that is new is put in, it has what was put, and other names have what they had
lookup-insert_entry : {X : Type 0} (f : Bytes) (key : Vec ℕ Global) (es : List (Vec ℕ Global × X)) (v : X)
    → lookup (has_name key.items) es ≡ None
    → lookup (has_name f) (insert_entry (λ x y. pointwise nat_eq x.items y.items) es key v) ≡
    cond (same_name f key.items) (Some v) (lookup (has_name f) es)
lookup-insert_entry f key [] v absent = refl
lookup-insert_entry {X} f key (e ∷ es) v absent =
    by (same_name key.items e.0.items) refl (λ later. lookup-insert_entry f key es v later)
  where
    by : (b : Bool) → same_name key.items e.0.items ≡ b
        → (lookup (has_name key.items) es ≡ None →
        lookup (has_name f) (insert_entry (λ x y. pointwise nat_eq x.items y.items) es key v) ≡
        cond (same_name f key.items) (Some v) (lookup (has_name f) es))
        → lookup (has_name f) (insert_entry (λ x y. pointwise nat_eq x.items y.items) (e ∷ es) key v) ≡
        cond (same_name f key.items) (Some v) (lookup (has_name f) (e ∷ es))
    by true here others =
        let there : Some e.1 ≡ None = sym (ap (λ b. cond b (Some e.1) (lookup (has_name key.items) es)) here) ∙
        absent in
        cc
    by false here others =
        let later : lookup (has_name key.items) es ≡ None =
        sym (ap (λ b. cond b (Some e.1) (lookup (has_name key.items) es)) here) ∙ absent in
        let rest : lookup (has_name f) (insert_entry (λ x y. pointwise nat_eq x.items y.items) es key v) ≡
        cond (same_name f key.items) (Some v) (lookup (has_name f) es) = others later in
        rw (here, rest) (exchanged (same_name f e.0.items) (same_name f key.items) (Some e.1) (Some v)
        (lookup (has_name f) es) (different f key.items e.0.items here))

-- a table in which a name was given numbers is one in which a number was noted
noted : {S : Type 0} (old new : IndexMap (Vec ℕ Global) (List ℕ) S) (name : Bytes) (n : ℕ) (w : List ℕ)
    → ((f : Bytes) → get_by (has_name f) new ≡ cond (same_name f name) (Some w) (get_by (has_name f) old))
    → w ≡ with_number (numbers_of old name) n → IsNoted old name n new
noted old new name n w put added f = by (same_name f name) refl
  where
    by : (b : Bool) → same_name f name ≡ b →
        numbers_of new f ≡ cond (same_name f name) (with_number (numbers_of old f) n) (numbers_of old f)
    by true here =
        let found : get_by (has_name f) new ≡ Some w =
        put f ∙ ap (λ b. cond b (Some w) (get_by (has_name f) old)) here in
        let equal : name ≡ f = sym (same_name-true f name here) in
        rw here (ap (λ r. unwrap_or r []) found ∙ added ∙ ap (λ g. with_number (numbers_of old g) n) equal)
    by false here =
        let kept : get_by (has_name f) new ≡ get_by (has_name f) old =
        put f ∙ ap (λ b. cond b (Some w) (get_by (has_name f) old)) here in
        rw here (ap (λ r. unwrap_or r []) kept)

pub noted_there : {S : Type 0} (old new : IndexMap (Vec ℕ Global) (List ℕ) S) (name : Bytes) (n : ℕ) (ns w : List ℕ)
    → get_by (has_name name) old ≡ Some ns → new.entries ≡ set_value (has_name name) old.entries w →
    w ≡ with_number ns n → IsNoted old name n new
noted_there old new name n ns w found set added =
    noted old new name n w
    (λ f. ap (lookup (has_name f)) set ∙ lookup-set_value f name old.entries w ns found)
    (added ∙ ap (λ more. with_number more n) (sym (ap (λ r. unwrap_or r []) found)))

pub noted_new : {S : Type 0} (old kept new : IndexMap (Vec ℕ Global) (List ℕ) S) (name : Bytes) (key : Vec ℕ Global)
    (n : ℕ) (v : List ℕ)
    → key.items ≡ name → v ≡ n ∷ [] → get_by (has_name name) old ≡ None → kept ≡ old
    → new.entries ≡ insert_entry (λ x y. pointwise nat_eq x.items y.items) kept.entries key v → IsNoted old name n new
noted_new old kept new name key n v spelled alone absent same put =
    let unknown : get_by (has_name key.items) old ≡ None = ap (λ f. get_by (has_name f) old) spelled ∙ absent in
    noted old new name n v
    (λ f. ap (lookup (has_name f)) (put ∙
    ap (λ m. insert_entry (λ x y. pointwise nat_eq x.items y.items) m.entries key v) same) ∙
    lookup-insert_entry f key old.entries v unknown ∙
    ap (λ g. cond (same_name f g) (Some v) (lookup (has_name f) old.entries)) spelled)
    (alone ∙ ap (λ more. with_number more n) (sym (ap (λ r. unwrap_or r []) absent)))

-- adding a number to one and others adds it to the others, where it is not the one
pub with_number-others : (first n : ℕ) (others : List ℕ) → nat_eq n first ≡ false →
    first ∷ with_number others n ≡ with_number (first ∷ others) n
with_number-others first n others differ = rw differ (by (has_number others n))
  where
    by : (b : Bool) → first ∷ cond b others (others ++ n ∷ []) ≡ cond b (first ∷ others) (first ∷ (others ++ n ∷ []))
    by true = refl
    by false = refl

-- a number that is there is found again
has_number-there : (ns : List ℕ) (m n : ℕ) → has_number ns m ≡ true → has_number ns n ≡ (has_number ns n || nat_eq n m)
has_number-there ns m n here = by (has_number ns n) (nat_eq n m) refl refl
  where
    by : (b c : Bool) → has_number ns n ≡ b → nat_eq n m ≡ c → b ≡ (b || c)
    by true c found e = refl
    by false false found e = refl
    by false true found e =
        let equal : n ≡ m = (unsigned_Decides n m).0 e in
        sym found ∙ ap (has_number ns) equal ∙ here

-- a number that was added is there, and the others as before
has_number-with_number : (ns : List ℕ) (m n : ℕ) → has_number (with_number ns m) n ≡ (has_number ns n || nat_eq n m)
has_number-with_number ns m n = by (has_number ns m) refl
  where
    by : (b : Bool) → has_number ns m ≡ b → has_number (with_number ns m) n ≡ (has_number ns n || nat_eq n m)
    by true here = rw here (has_number-there ns m n here)
    by false here = rw here (list_any-append (nat_eq n) ns (m ∷ []) ∙
        ap (λ b. has_number ns n || b) (or-false (nat_eq n m)))

first_number-with_number : (ns : List ℕ) (n : ℕ) →
    first_number (with_number ns n) ≡ option_or (first_number ns) (Some n)
first_number-with_number [] n = refl
first_number-with_number (k ∷ ks) n = by (has_number (k ∷ ks) n)
  where
    by : (b : Bool) → first_number (cond b (k ∷ ks) (k ∷ (ks ++ n ∷ []))) ≡ Some k
    by true = refl
    by false = refl

first_arity-append : (ds : List Declared) (d : Declared) (f : Bytes) →
    first_arity (ds ++ d ∷ []) f ≡ option_or (first_arity ds f) (cond (same_name f d.name) (Some (arity_of d)) None)
first_arity-append [] d f = refl
first_arity-append (e ∷ es) d f = by (same_name f e.name) (first_arity-append es d f)
  where
    by : (b : Bool) → first_arity (es ++ d ∷ []) f ≡
        option_or (first_arity es f) (cond (same_name f d.name) (Some (arity_of d)) None)
        → cond b (Some (arity_of e)) (first_arity (es ++ d ∷ []) f) ≡
        option_or (cond b (Some (arity_of e)) (first_arity es f))
        (cond (same_name f d.name) (Some (arity_of d)) None)
    by true rest = refl
    by false rest = rest

-- the tables of no declarations are empty
pub none_noted : {S : Type 0} (table : IndexMap (Vec ℕ Global) (List ℕ) S) → table.entries ≡ [] → AreNumbersOf [] table
none_noted table empty = record { known = λ f n. rw empty refl; first = λ f. rw empty refl }

-- tables with the same entries serve as well
pub still_noted : {S : Type 0} (ds : List Declared) (old new : IndexMap (Vec ℕ Global) (List ℕ) S) →
    AreNumbersOf ds old → new.entries ≡ old.entries → AreNumbersOf ds new
still_noted ds old new before same =
    record { known = λ f n. rw same (before.known f n); first = λ f. rw same (before.first f) }

-- one more declaration, whose number is noted
pub one_more_noted : {S : Type 0} (ds : List Declared) (d : Declared) (old new : IndexMap (Vec ℕ Global) (List ℕ) S)
    → AreNumbersOf ds old → IsNoted old d.name (arity_of d) new → AreNumbersOf (ds ++ d ∷ []) new
one_more_noted ds d old new before noted = record { known = known; first = first }
  where
    known : (f : Bytes) (n : ℕ) → has_number (numbers_of new f) n ≡ arity_known (ds ++ d ∷ []) f n
    known f n =
        let is_one : Declared → Bool = λ e. same_name f e.name && n == arity_of e in
        ap (λ ns. has_number ns n) (noted f) ∙ by (same_name f d.name) refl ∙ sym (list_any-append is_one ds (d ∷ []))
      where
        by : (b : Bool) → same_name f d.name ≡ b →
            has_number (cond (same_name f d.name) (with_number (numbers_of old f) (arity_of d)) (numbers_of old f)) n ≡
            (arity_known ds f n || ((same_name f d.name && n == arity_of d) || false))
        by true here = rw here (has_number-with_number (numbers_of old f) (arity_of d) n ∙
            ap (λ b. b || (n == arity_of d)) (before.known f n) ∙
            ap (λ b. arity_known ds f n || b) (sym (or-false (n == arity_of d))))
        by false here = rw here (before.known f n ∙ sym (or-false (arity_known ds f n)))

    first : (f : Bytes) → first_number (numbers_of new f) ≡ first_arity (ds ++ d ∷ []) f
    first f = ap first_number (noted f) ∙ by (same_name f d.name) refl ∙ sym (first_arity-append ds d f)
      where
        by : (b : Bool) → same_name f d.name ≡ b →
            first_number (cond (same_name f d.name) (with_number (numbers_of old f) (arity_of d)) (numbers_of old f)) ≡
            option_or (first_arity ds f) (cond (same_name f d.name) (Some (arity_of d)) None)
        by true here = rw here (first_number-with_number (numbers_of old f) (arity_of d) ∙
            ap (λ r. option_or r (Some (arity_of d))) (before.first f))
        by false here = rw here (before.first f ∙ or_none (first_arity ds f))
          where
            or_none : (r : Option ℕ) → r ≡ option_or r None
            or_none None = refl
            or_none (Some n) = refl

-- a name is declared where it has a first number
pub is_declared_name-first_arity : (ds : List Declared) (f : Bytes) → is_some (first_arity ds f) ≡ is_declared_name ds f
is_declared_name-first_arity [] f = refl
is_declared_name-first_arity (d ∷ ds) f = by (same_name f d.name) (is_declared_name-first_arity ds f)
  where
    by : (b : Bool) → is_some (first_arity ds f) ≡ is_declared_name ds f →
        is_some (cond b (Some (arity_of d)) (first_arity ds f)) ≡ (b || is_declared_name ds f)
    by true rest = refl
    by false rest = rest

pub ruleset numbers = (with_number-others)

pub ruleset none = (none_noted)

pub ruleset declares = (still_noted, one_more_noted)

pub ruleset names = (is_declared_name-first_arity)
