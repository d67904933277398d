-- How phrases are made of others, and what reading a part of one makes of reading the whole.
use Rattle.std.proofs.Common.{◌≡◌, ℕ, ◌<◌, ◌≤◌, List, ◌∷◌, length, Option, Some, None, Result, Ok, Err, IsErrAnd, refl, ◌∙◌, ap, arith}
use Rattle.str_parser.specs.declared.refusal.ParseRefusal.{ParseRefusal}
use Rattle.str_parser.specs.Lexemes.{Lexeme, Part}
use Rattle.str_parser.specs.Items.{Item, token, part, Way, too_deep, either, Runs}
use Rattle.str_parser.specs.Readings.{NotAt, Found, Missing, Nested, IsFault, IsReading}
use Rattle.str_parser.specs.Runs.{FoundAny, IsReadingAny}
use Rattle.str_parser.specs.Parsing.{AtEnd, IsReadingAll}
use Rattle.str_parser.proofs.PartLaws.{passes, passed}
use Rattle.str_parser.proofs.WayLaws.{not_along, fault_along}

-- how trees are written, in front of items
abbrev pub Writes : Type 0 → Type 0
Writes T = T → List Item → List Item

-- which items stop a tree
abbrev pub Ending : Type 1
Ending = List Item → Type 0

module _ {T : Type 0} {write : Writes T} {Stops : Ending} {ts rest : List Lexeme} {t : T} where
  pub found_any : Found write Stops ts t rest → FoundAny write Stops ts t rest
  found_any f = record { sound = f.sound; only_one = f.only_one; no_longer = omega (arith, f.shorter) }

  pub found_some : FoundAny write Stops ts t rest → length rest < length ts → Found write Stops ts t rest
  found_some f s = record { sound = f.sound; only_one = f.only_one; shorter = s }

-- ---- faults

-- where there is no such part here, there is no whole there, and where one is too deep here, a whole is there
pub record Carries {T U : Type 0} (write : Writes T) (Ends : Ending) (ts : List Lexeme) (whole : Writes U)
    (Stops : Ending) (us : List Lexeme) : Type 0 where
  pub missing : Missing write Ends ts → Missing whole Stops us
  pub nested : Nested write ts → Nested whole us

module _ {T U : Type 0} {write : Writes T} {Ends : Ending} {ts : List Lexeme} {whole : Writes U} {Stops : Ending}
    {us : List Lexeme} (c : Carries write Ends ts whole Stops us) where
  -- a fault of the part is one of the whole
  pub carried : (e : ParseRefusal) → IsFault write Ends ts e → IsFault whole Stops us e
  carried e = fault_along e c.missing c.nested

  -- and is what is returned: by a reading of the whole, one that may be of no token, and one of all tokens
  pub refused : {X : Type 0} (tree_of : X → U) (r : Result (X × List Lexeme) ParseRefusal) (e : ParseRefusal) →
      IsErrAnd r (λ y. y ≡ e) → IsFault write Ends ts e → IsReading whole Stops tree_of us r
  refused tree_of (Ok x) e h f = absurd h
  refused tree_of (Err y) e h f = rw h (carried e f)

  pub refused_any : {X : Type 0} (tree_of : X → U) (r : Result (X × List Lexeme) ParseRefusal) (e : ParseRefusal) →
      IsErrAnd r (λ y. y ≡ e) → IsFault write Ends ts e → IsReadingAny whole Stops tree_of us r
  refused_any tree_of (Ok x) e h f = absurd h
  refused_any tree_of (Err y) e h f = rw h (carried e f)

  -- a part of a part
  pub carries_on : {V : Type 0} {all : Writes V} {Halts : Ending} {vs : List Lexeme} →
      Carries whole Stops us all Halts vs → Carries write Ends ts all Halts vs
  carries_on d = record { missing = λ m. d.missing (c.missing m); nested = λ n. d.nested (c.nested n) }

pub refused_all : {T U X : Type 0} {write : Writes T} {Ends : Ending} {ts : List Lexeme} {whole : Writes U}
    {us : List Lexeme} → Carries write Ends ts whole AtEnd us →
    (tree_of : X → U) (r : Result X ParseRefusal) (e : ParseRefusal) →
    IsErrAnd r (λ y. y ≡ e) → IsFault write Ends ts e → IsReadingAll whole tree_of us r
refused_all c tree_of (Ok x) e h f = absurd h
refused_all c tree_of (Err y) e h f = rw h (carried c e f)

-- ---- a tree that one tree makes

-- a whole that is made of a tree along which these tokens run
pub record Made {T U : Type 0} (write : Writes T) (Ends : Ending) (ts : List Lexeme) (to : T → U) (u : U)
    (is : List Item) : Type 0 where
  pub from : T
  pub are : u ≡ to from
  pub ends : Ends is
  pub runs : Runs either (write from is) ts

-- Where these tokens run along a tree, those run along the whole that it makes; and along no other whole.
pub record Makes {T U : Type 0} (write : Writes T) (Ends : Ending) (ts : List Lexeme) (whole : Writes U)
    (Stops : Ending) (us : List Lexeme) (to : T → U) : Type 0 where
  pub sound : (way : Way) (t : T) (is : List Item) → Runs way (write t is) ts → Runs way (whole (to t) is) us
  pub only : (u : U) (is : List Item) → Stops is → Runs either (whole u is) us → Made write Ends ts to u is
  pub no_longer : length ts ≤ length us

module _ {T U : Type 0} {write : Writes T} {Ends : Ending} {ts : List Lexeme} {whole : Writes U} {Stops : Ending}
    {us : List Lexeme} {to : T → U} (l : Makes write Ends ts whole Stops us to) where
  -- what the whole makes
  pub makes_on : {V : Type 0} {all : Writes V} {Halts : Ending} {vs : List Lexeme} {over : U → V} →
      Makes whole Stops us all Halts vs over → Makes write Ends ts all Halts vs (λ t. over (to t))
  makes_on {over = over} k = record {
    sound = λ way t is r. k.sound way (to t) is (l.sound way t is r);
    only = λ v is h r.
        let d = k.only v is h r in
        let e = l.only d.from is d.ends d.runs in
        record { from = e.from; are = d.are ∙ ap over e.are; ends = e.ends; runs = e.runs };
    no_longer = omega (arith, l.no_longer, k.no_longer);
  }

  -- a tree that is found there makes a whole that is found here
  pub made_any : {t : T} {rest : List Lexeme} → FoundAny write Ends ts t rest → FoundAny whole Stops us (to t) rest
  made_any {t} f = record {
    sound = λ way is r. l.sound way t is (f.sound way is r);
    only_one = λ u is h r.
        let m = l.only u is h r in
        let o = f.only_one m.from is m.ends m.runs in
        (m.are ∙ ap to o.0, o.1);
    no_longer = omega (arith, f.no_longer, l.no_longer);
  }

  pub made : {t : T} {rest : List Lexeme} → Found write Ends ts t rest → Found whole Stops us (to t) rest
  made f = found_some (made_any (found_any f)) (omega (arith, f.shorter, l.no_longer))

  -- a fault there is one here
  pub at_made : Carries write Ends ts whole Stops us
  at_made = record {
    missing = λ m. record { none = λ u is h r. let d = l.only u is h r in m.none d.from is d.ends d.runs };
    nested = λ n. record { tree = to n.tree; runs = λ is. l.sound too_deep n.tree is (n.runs is) };
  }

-- what reads the tree reads the whole that it makes
pub reads_whole : {T U X : Type 0} {write : Writes T} {Ends : Ending} {ts : List Lexeme} {whole : Writes U}
    {Stops : Ending} {us : List Lexeme} {to : T → U} → Makes write Ends ts whole Stops us to → (tree_of : X → T)
    (r : Result (X × List Lexeme) ParseRefusal) → IsReading write Ends tree_of ts r →
    IsReading whole Stops (λ x. to (tree_of x)) us r
reads_whole l tree_of (Ok (x, rest)) f = made l f
reads_whole l tree_of (Err e) f = carried (at_made l) e f

-- the same, with a token before it
pub made_behind : {T U : Type 0} {write : Writes T} {Ends : Ending} {t : Lexeme} {ts rest : List Lexeme}
    {whole : Writes U} {Stops : Ending} {to : T → U} {x : T} → Makes write Ends ts whole Stops (t ∷ ts) to →
    FoundAny write Ends ts x rest → Found whole Stops (t ∷ ts) (to x) rest
made_behind l f = found_some (made_any l f) (omega (arith, f.no_longer))

-- ---- a part at a level

abbrev pub inside : {T : Type 0} → Part → ℕ → Writes T → T → List Item → List Item
inside p k write t is = part p k ∷ write t is

module _ {T : Type 0} (p : Part) (k : ℕ) (write : Writes T) {Ends : Ending} {ts : List Lexeme} (h : k ≤ 200) where
  pub is_inside : Makes write Ends ts (inside p k write) Ends ts (λ t. t)
  is_inside = record {
    sound = λ way t is r. passes way p k (write t is) ts h r;
    only = λ u is e r. record { from = u; are = refl; ends = e; runs = passed p k (write u is) ts h r };
    no_longer = omega arith;
  }

-- ---- a token before a tree

abbrev pub behind : {T : Type 0} → Lexeme → Writes T → T → List Item → List Item
behind t write x is = token t ∷ write x is

pub is_behind : {T : Type 0} {write : Writes T} {Ends : Ending} {t : Lexeme} {ts ahead : List Lexeme} →
    ts ≡ t ∷ ahead → Makes write Ends ahead (behind t write) Ends ts (λ x. x)
is_behind e = rw e (record {
  sound = λ way x is r. (refl, r);
  only = λ u is s r. record { from = u; are = refl; ends = s; runs = r.1 };
  no_longer = omega arith;
})

pub no_token : {T : Type 0} {write : Writes T} {Stops : Ending} {t : Lexeme} {ts : List Lexeme} → NotAt t ts →
    Missing (behind t write) Stops ts
no_token {write = write} {t = t} {ts = ts} n = record { none = λ x is h r. not_along t (write x is) ts n r }

-- ---- a tree after a token, or none

abbrev pub optional : {T : Type 0} → Lexeme → Writes T → Option T → List Item → List Item
optional t write None is = is
optional t write (Some x) is = token t ∷ write x is

only_none : {T : Type 0} (t : Lexeme) (write : Writes T) (ts : List Lexeme) → NotAt t ts → (o : Option T)
    (is : List Item) → Runs either (optional t write o is) ts → (o ≡ None) × Runs either is ts
only_none t write ts n None is r = (refl, r)
only_none t write ts n (Some x) is r = absurd (not_along t (write x is) ts n r)

pub no_option : {T : Type 0} {t : Lexeme} {write : Writes T} {Stops : Ending} {ts : List Lexeme} → NotAt t ts →
    FoundAny (optional t write) Stops ts None ts
no_option {t} {write} {ts} n = record {
  sound = λ way is r. r;
  only_one = λ o is h r. only_none t write ts n o is r;
  no_longer = omega arith;
}

module _ {T : Type 0} {t : Lexeme} {write : Writes T} {Ends Stops : Ending} {ts : List Lexeme}
    (ends : (is : List Item) → Stops is → Ends is)
    (stops : (is : List Item) → Stops is → Runs either is (t ∷ ts) → ⊥) where
  only_some : (o : Option T) (is : List Item) → Stops is → Runs either (optional t write o is) (t ∷ ts) →
      Made write Ends ts Some o is
  only_some None is h r = absurd (stops is h r)
  only_some (Some x) is h r = record { from = x; are = refl; ends = ends is h; runs = r.1 }

  pub is_option : Makes write Ends ts (optional t write) Stops (t ∷ ts) Some
  is_option = record { sound = λ way x is r. (refl, r); only = only_some; no_longer = omega arith }

-- ---- a tree before a token

abbrev pub closed : {T : Type 0} → Lexeme → Writes T → T → List Item → List Item
closed t write x is = write x (token t ∷ is)

module _ {T : Type 0} (t : Lexeme) {write : Writes T} {Ends Stops : Ending} {ts : List Lexeme}
    (ends : (is : List Item) → Ends (token t ∷ is)) where
  -- where the token comes after the tree
  pub closed_any : {x : T} {rest : List Lexeme} → FoundAny write Ends ts x (t ∷ rest) →
      FoundAny (closed t write) Stops ts x rest
  closed_any f = record {
    sound = λ way is r. f.sound way (token t ∷ is) (refl, r);
    only_one = λ u is h r. let o = f.only_one u (token t ∷ is) (ends is) r in (o.0, o.1.1);
    no_longer = omega (arith, f.no_longer);
  }

  pub closed_found : {x : T} {rest : List Lexeme} → Found write Ends ts x (t ∷ rest) →
      Found (closed t write) Stops ts x rest
  closed_found f = found_some (closed_any (found_any f)) (omega (arith, f.shorter))

  pub at_closed : Carries write Ends ts (closed t write) Stops ts
  at_closed = record {
    missing = λ m. record { none = λ u is h r. m.none u (token t ∷ is) (ends is) r };
    nested = λ n. record { tree = n.tree; runs = λ is. n.runs (token t ∷ is) };
  }

  -- where another does
  pub unclosed : {x : T} {rest : List Lexeme} → FoundAny write Ends ts x rest → NotAt t rest →
      Missing (closed t write) Stops ts
  unclosed {rest = rest} f n = record {
    none = λ u is h r. not_along t is rest n (f.only_one u (token t ∷ is) (ends is) r).1;
  }

-- ---- one tree and then another

pub record Parts {A B U : Type 0} (first : Writes A) (Ends : Ending) (second : Writes B) (to : A → B → U) (u : U)
    (is : List Item) (ts : List Lexeme) : Type 0 where
  pub one : A
  pub other : B
  pub are : u ≡ to one other
  pub ends : Ends (second other is)
  pub runs : Runs either (first one (second other is)) ts

-- each whole is made of two trees, the second written after the first
pub record Pairs {A B U : Type 0} (first : Writes A) (Ends : Ending) (second : Writes B) (whole : Writes U)
    (Stops : Ending) (to : A → B → U) : Type 0 where
  pub sound : (way : Way) (a : A) (b : B) (is : List Item) (ts : List Lexeme) →
      Runs way (first a (second b is)) ts → Runs way (whole (to a b) is) ts
  pub only : (u : U) (is : List Item) (ts : List Lexeme) → Stops is → Runs either (whole u is) ts →
      Parts first Ends second to u is ts

module _ {A B U : Type 0} {first : Writes A} {Ends : Ending} {second : Writes B} {whole : Writes U} {Stops : Ending}
    {to : A → B → U} (p : Pairs first Ends second whole Stops to) {ts : List Lexeme} where
  -- the first, with any second tree after it
  pub at_first : B → Carries first Ends ts whole Stops ts
  at_first b = record {
    missing = λ m. record {
      none = λ u is h r. let s = p.only u is ts h r in m.none s.one (second s.other is) s.ends s.runs;
    };
    nested = λ n. record { tree = to n.tree b; runs = λ is. p.sound too_deep n.tree b is ts (n.runs (second b is)) };
  }

  -- the second, after the first
  pub after_any : {a : A} {rest : List Lexeme} → FoundAny first Ends ts a rest →
      Makes second Stops rest whole Stops ts (to a)
  after_any {a} f = record {
    sound = λ way b is r. p.sound way a b is ts (f.sound way (second b is) r);
    only = λ u is h r.
        let s = p.only u is ts h r in
        let o = f.only_one s.one (second s.other is) s.ends s.runs in
        record { from = s.other; are = s.are ∙ ap (λ v. to v s.other) o.0; ends = h; runs = o.1 };
    no_longer = f.no_longer;
  }

  pub after_first : {a : A} {rest : List Lexeme} → Found first Ends ts a rest →
      Makes second Stops rest whole Stops ts (to a)
  after_first f = after_any (found_any f)

  -- both
  pub pair : {a : A} {b : B} {mid rest : List Lexeme} → Found first Ends ts a mid →
      FoundAny second Stops mid b rest → Found whole Stops ts (to a b) rest
  pair f g = found_some (made_any (after_first f) g) (omega (arith, f.shorter, g.no_longer))

-- both trees as one
abbrev pub both : {A B : Type 0} → Writes A → Writes B → A × B → List Item → List Item
both first second q is = first q.0 (second q.1 is)

pub both_pairs : {A B : Type 0} {first : Writes A} {second : Writes B} {Ends Stops : Ending} →
    ((b : B) (is : List Item) → Stops is → Ends (second b is)) →
    Pairs first Ends second (both first second) Stops (λ a b. (a, b))
both_pairs ends = record {
  sound = λ way a b is ts r. r;
  only = λ u is ts h r. record { one = u.0; other = u.1; are = refl; ends = ends u.1 is h; runs = r };
}
