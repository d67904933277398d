-- Trees one after the other: what has been read of them, and what each way to go on makes of it.
use Rattle.std.proofs.Common.{◌≡◌, ℕ, ◌+◌, ◌≤◌, Bool, true, false, List, [], ◌∷◌, ◌++◌, length, sym, ◌∙◌, ap, subst, arith, append_assoc}
use Rattle.std.proofs.lemmas.List.{append-nil}
use Rattle.str_parser.specs.Lexemes.{Lexeme}
use Rattle.str_parser.specs.Items.{Item, only, Way, too_deep, either, Runs}
use Rattle.str_parser.specs.Readings.{NotAt, Found, Missing}
use Rattle.str_parser.specs.Runs.{NoneOf, FoundAny}
use Rattle.str_parser.specs.Sorts.{first_is}
use Rattle.str_parser.proofs.WayLaws.{not_along}
use Rattle.str_parser.proofs.PhraseLaws.{Writes, Ending, Carries, behind, found_some}

abbrev pub several : {T : Type 0} → Writes T → List T → List Item → List Item
several write [] is = is
several write (x ∷ xs) is = write x (several write xs is)

-- one at least, the first of them written otherwise
abbrev pub some : {T : Type 0} → Writes T → Writes T → List T → List Item → List Item
some first write [] is = only false ∷ is
some first write (x ∷ xs) is = first x (several write xs is)

-- how trees stand in a row: what comes after one ends it; here another one comes; past these there is no other
pub record Row {T : Type 0} (write : Writes T) (Ends Stops : Ending) (Here Past : List Lexeme → Type 0) : Type 0 where
  pub follows : (us : List T) (is : List Item) → Stops is → Ends (several write us is)
  pub goes_on : (rest : List Lexeme) → Here rest → (is : List Item) → Stops is → Runs either is rest → ⊥
  pub past : (rest : List Lexeme) → Past rest → (u : T) (is : List Item) → Runs either (write u is) rest → ⊥

-- what lists of the trees are, and that they are written so
pub record Lists {T U : Type 0} (row : Writes (List T)) (whole : Writes U) (to : List T → U) : Type 0 where
  pub from : U → List T
  pub back : (u : U) → u ≡ to (from u)
  pub written : (xs : List T) (is : List Item) → row xs is ≡ whole (to xs) is

-- the first of these trees are all those that have been read
pub record Left {T U : Type 0} (write : Writes T) (to : List T → U) (all : List T) (u : U) (is : List Item)
    (rest : List Lexeme) : Type 0 where
  pub more : List T
  pub are : u ≡ to (all ++ more)
  pub runs : Runs either (several write more is) rest

-- the tokens begin with all these trees, which are of at least this number of tokens, and with no others
pub record Partly {T U : Type 0} (write : Writes T) (Stops : Ending) (whole : Writes U) (to : List T → U) (least : ℕ)
    (all : List T) (ts rest : List Lexeme) : Type 0 where
  pub sound : (more : List T) (way : Way) (is : List Item) → Runs way (several write more is) rest →
      Runs way (whole (to (all ++ more)) is) ts
  pub only_one : (u : U) (is : List Item) → Stops is → Runs either (whole u is) ts → Left write to all u is rest
  pub no_longer : length rest + least ≤ length ts

-- ---- a beginning

module _ {T U : Type 0} {row : Writes (List T)} {whole : Writes U} {to : List T → U} (l : Lists row whole to) where
  as_listed : (u : U) (is : List Item) (ts : List Lexeme) → Runs either (whole u is) ts →
      Runs either (row (l.from u) is) ts
  as_listed u is ts r =
      subst (λ i. Runs either i ts) (ap (λ v. whole v is) (l.back u) ∙ sym (l.written (l.from u) is)) r

  pub as_written : (way : Way) (xs : List T) (is : List Item) (ts : List Lexeme) → Runs way (row xs is) ts →
      Runs way (whole (to xs) is) ts
  as_written way xs is ts r = subst (λ i. Runs way i ts) (l.written xs is) r

-- no tree yet
pub partly_none : {T U : Type 0} {write : Writes T} {Stops : Ending} {whole : Writes U} {to : List T → U} →
    Lists (several write) whole to → (ts : List Lexeme) → Partly write Stops whole to 0 [] ts ts
partly_none l ts = record {
  sound = λ more way is r. as_written l way more is ts r;
  only_one = λ u is h r. record { more = l.from u; are = l.back u; runs = as_listed l u is ts r };
  no_longer = omega arith;
}

module _ {T U : Type 0} {first write : Writes T} {whole : Writes U} {to : List T → U} {Ends Stops : Ending}
    {Here Past : List Lexeme → Type 0} (l : Lists (some first write) whole to) (row : Row write Ends Stops Here Past)
    {ts : List Lexeme} where
  left_first : {x : T} {rest : List Lexeme} → Found first Ends ts x rest → (u : U) (is : List Item) → Stops is →
      (us : List T) → u ≡ to us → Runs either (some first write us is) ts → Left write to (x ∷ []) u is rest
  left_first f u is h [] e r = let n = r.0 in cc
  left_first f u is h (v ∷ us) e r =
      let o = f.only_one v (several write us is) (row.follows us is h) r in
      record { more = us; are = e ∙ ap (λ w. to (w ∷ us)) o.0; runs = o.1 }

  -- the first tree
  pub partly_first : {x : T} {rest : List Lexeme} → Found first Ends ts x rest →
      Partly write Stops whole to 1 (x ∷ []) ts rest
  partly_first {x} f = record {
    sound = λ more way is r. as_written l way (x ∷ more) is ts (f.sound way (several write more is) r);
    only_one = λ u is h r. left_first f u is h (l.from u) (l.back u) (as_listed l u is ts r);
    no_longer = omega (arith, f.shorter);
  }

  none_first : Missing first Ends ts → (us : List T) (is : List Item) → Stops is →
      Runs either (some first write us is) ts → ⊥
  none_first m [] is h r = let n = r.0 in cc
  none_first m (u ∷ us) is h r = m.none u (several write us is) (row.follows us is h) r

  -- a fault at the first tree
  pub at_row_first : Carries first Ends ts whole Stops ts
  at_row_first = record {
    missing = λ m. record { none = λ u is h r. none_first m (l.from u) is h (as_listed l u is ts r) };
    nested = λ n. record {
      tree = to (n.tree ∷ []);
      runs = λ is. as_written l too_deep (n.tree ∷ []) is ts (n.runs is);
    };
  }

-- ---- one more, or no more

module _ {T U : Type 0} {write : Writes T} {Ends Stops : Ending} {Here Past : List Lexeme → Type 0} {whole : Writes U}
    {to : List T → U} {least : ℕ} {all : List T} {ts rest : List Lexeme} (row : Row write Ends Stops Here Past)
    (w : Partly write Stops whole to least all ts rest) where
  left_more : {x : T} {after : List Lexeme} → Here rest → Found write Ends rest x after → (u : U) (is : List Item) →
      Stops is → (more : List T) → u ≡ to (all ++ more) → Runs either (several write more is) rest →
      Left write to (all ++ (x ∷ [])) u is after
  left_more here f u is h [] e r = absurd (row.goes_on rest here is h r)
  left_more {x} here f u is h (v ∷ more) e r =
      let o = f.only_one v (several write more is) (row.follows more is h) r in
      record {
        more = more;
        are = e ∙ ap (λ w. to (all ++ (w ∷ more))) o.0 ∙ ap to (sym (append_assoc all (x ∷ []) more));
        runs = o.1;
      }

  pub partly_more : {x : T} {after : List Lexeme} → Here rest → Found write Ends rest x after →
      Partly write Stops whole to least (all ++ (x ∷ [])) ts after
  partly_more {x} here f = record {
    sound = λ more way is r. subst (λ us. Runs way (whole (to us) is) ts) (sym (append_assoc all (x ∷ []) more))
        (w.sound (x ∷ more) way is (f.sound way (several write more is) r));
    only_one = λ u is h r. let l = w.only_one u is h r in left_more here f u is h l.more l.are l.runs;
    no_longer = omega (arith, w.no_longer, f.shorter);
  }

  left_missing : Here rest → Missing write Ends rest → (is : List Item) → Stops is → (more : List T) →
      Runs either (several write more is) rest → ⊥
  left_missing here m is h [] r = row.goes_on rest here is h r
  left_missing here m is h (u ∷ more) r = m.none u (several write more is) (row.follows more is h) r

  -- a fault at the next tree
  pub at_next : Here rest → Carries write Ends rest whole Stops ts
  at_next here = record {
    missing = λ m. record { none = λ u is h r. let l = w.only_one u is h r in left_missing here m is h l.more l.runs };
    nested = λ n. record {
      tree = to (all ++ (n.tree ∷ []));
      runs = λ is. w.sound (n.tree ∷ []) too_deep is (n.runs is);
    };
  }

  left_none : Past rest → (u : U) (is : List Item) → (more : List T) → u ≡ to (all ++ more) →
      Runs either (several write more is) rest → (u ≡ to all) × Runs either is rest
  left_none past u is [] e r = (e ∙ ap to (append-nil all), r)
  left_none past u is (v ∷ more) e r = absurd (row.past rest past v (several write more is) r)

  -- the trees are all that the tokens begin with
  pub partly_any : Past rest → FoundAny whole Stops ts (to all) rest
  partly_any past = record {
    sound = λ way is r. subst (λ us. Runs way (whole (to us) is) ts) (append-nil all) (w.sound [] way is r);
    only_one = λ u is h r. let l = w.only_one u is h r in left_none past u is l.more l.are l.runs;
    no_longer = omega (arith, w.no_longer);
  }

pub partly_found : {T U : Type 0} {write : Writes T} {Ends Stops : Ending} {Here Past : List Lexeme → Type 0}
    {whole : Writes U} {to : List T → U} {all : List T} {ts rest : List Lexeme} → Row write Ends Stops Here Past →
    Partly write Stops whole to 1 all ts rest → Past rest → Found whole Stops ts (to all) rest
partly_found row w past = found_some (partly_any row w past) (omega (arith, w.no_longer))

-- ---- a token before each after the first

-- the tokens begin with this one
abbrev pub At : Lexeme → List Lexeme → Type 0
At t ts = (ahead : List Lexeme) × (ts ≡ t ∷ ahead)

pub token_goes_on : (these : Lexeme → Bool) (t : Lexeme) → these t ≡ true → (rest : List Lexeme) → At t rest →
    (is : List Item) → NoneOf these is → Runs either is rest → ⊥
token_goes_on these t on rest here is h r = let f = h t here.0 (rw here.1 at r) in cc

pub token_row : {T : Type 0} {write : Writes T} {Ends : Ending} {these : Lexeme → Bool} (t : Lexeme) → these t ≡ true →
    ((us : List T) (is : List Item) → NoneOf these is → Ends (several (behind t write) us is)) →
    Row (behind t write) Ends (NoneOf these) (At t) (NotAt t)
token_row {write} {these} t on follows = record {
  follows = follows;
  goes_on = token_goes_on these t on;
  past = λ rest n u is r. not_along t (write u is) rest n r;
}

-- ---- trees that begin with one of some tokens

-- a token with which one begins ends the one before it, and goes on
pub record Begins {T : Type 0} (write : Writes T) (begins ends these : Lexeme → Bool) : Type 0 where
  pub starts : (u : T) (is : List Item) (ts : List Lexeme) → Runs either (write u is) ts → first_is begins ts ≡ true
  pub here : (t : Lexeme) → begins t ≡ true → (ends t ≡ false) × (these t ≡ true)
  pub fewer : (t : Lexeme) → these t ≡ false → ends t ≡ false

module _ {T : Type 0} {write : Writes T} {begins ends these : Lexeme → Bool} (b : Begins write begins ends these) where
  begun_follows : (us : List T) (is : List Item) → NoneOf these is → NoneOf ends (several write us is)
  begun_follows [] is h = λ t rest r. b.fewer t (h t rest r)
  begun_follows (u ∷ us) is h = λ t rest r. (b.here t (b.starts u (several write us is) (t ∷ rest) r)).0

  begun_goes_on : (rest : List Lexeme) → first_is begins rest ≡ true → (is : List Item) → NoneOf these is →
      Runs either is rest → ⊥
  begun_goes_on [] f is h r = cc
  begun_goes_on (t ∷ rest) f is h r = let e = h t rest r in let g = (b.here t f).1 in cc

  pub begun_row : Row write (NoneOf ends) (NoneOf these) (λ ts. first_is begins ts ≡ true)
      (λ ts. first_is begins ts ≡ false)
  begun_row = record {
    follows = begun_follows;
    goes_on = begun_goes_on;
    past = λ rest f u is r. let e = b.starts u is rest r in cc;
  }
