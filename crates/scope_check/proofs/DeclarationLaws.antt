-- Declarations that are made one after another.
use Rattle.std.proofs.Common.{◌≡◌, ◌∙◌, ℕ, ◌+◌, ◌<◌, ◌≤◌, Bool, true, false, ◌||◌, List, [], ◌∷◌, ◌++◌, drop, length, get_or, sym, refl, ap, subst, append-nil}
use Rattle.std.proofs.lemmas.Bool.{or_parts}
use Rattle.std.proofs.lemmas.List.{append_assoc, drop_all, drop_more}
use Rattle.std.proofs.lemmas.List.Folds.{list_any-append}
use Rattle.std.proofs.Math.Bool.{or-false, or_assoc}
use Rattle.std.specs.List.{list_any}
use Rattle.signature_core.specs.Signature.{Declared, is_declared, same_declaration}
use Rattle.signature_core.specs.SameDeclaration.{same_declaration-Decides}
use Rattle.str_syntax.specs.Trees.{SignatureTree, SectionTree, sorts, constructors, signature, rules, strategies}
use Rattle.signature_core.specs.Signature.{declarations_of_signature, declarations_of_sections}
use Rattle.scope_check.specs.Complaint.{duplicate_declaration, repeats_declaration}
use Rattle.scope_check.specs.Found.{Found, found_if, joined}
use Rattle.scope_check.specs.Tables.{declares_again, Declares, declared_in, declared_by}
use Rattle.scope_check.proofs.FoundLaws.{joined-assoc, nothing_more}
use Rattle.scope_check.proofs.NameLaws.{test-sym, swapped}

same_declaration-sym : (d e : Declared) → same_declaration d e ≡ same_declaration e d
same_declaration-sym d e = test-sym same_declaration same_declaration-Decides d e

-- one after another
pub again-append : (old xs ys : List Declared) →
    declares_again old (xs ++ ys) ≡ (declares_again old xs || declares_again (old ++ xs) ys)
again-append old [] ys = ap (λ ds. declares_again ds ys) (sym (append-nil old))
again-append old (x ∷ xs) ys =
    ap (λ b. is_declared old x || b) (again-append (old ++ x ∷ []) xs ys ∙
    ap (λ ds. declares_again (old ++ x ∷ []) xs || declares_again ds ys) (append_assoc old (x ∷ []) xs)) ∙
    sym (or_assoc (is_declared old x) (declares_again (old ++ x ∷ []) xs) (declares_again (old ++ x ∷ xs) ys))

regrouped : (a b c d : Bool) → (a || ((b || c) || d)) ≡ ((a || b) || (c || d))
regrouped true b c d = refl
regrouped false true c d = refl
regrouped false false c d = refl

split_any : (old : List Declared) (x : Declared) (xs : List Declared) →
    list_any (is_declared (old ++ x ∷ [])) xs ≡ (list_any (is_declared old) xs || is_declared xs x)
split_any old x [] = refl
split_any old x (y ∷ ys) =
    let one : is_declared (old ++ x ∷ []) y ≡ (is_declared old y || same_declaration x y) =
    list_any-append (same_declaration y) old (x ∷ []) ∙
    ap (λ b. is_declared old y || b) (or-false (same_declaration y x) ∙ same_declaration-sym y x) in
    rw (one, split_any old x ys)
    (swapped (is_declared old y) (same_declaration x y) (list_any (is_declared old) ys) (is_declared ys x))

again-is : (old ds : List Declared) → declares_again old ds ≡ (list_any (is_declared old) ds || repeats_declaration ds)
again-is old [] = refl
again-is old (d ∷ ds) =
    ap (λ b. is_declared old d || b) (again-is (old ++ d ∷ []) ds ∙
    ap (λ b. b || repeats_declaration ds) (split_any old d ds)) ∙
    regrouped (is_declared old d) (list_any (is_declared old) ds) (is_declared ds d) (repeats_declaration ds)

-- after no declarations, only what stands again after itself is there before
pub again-none : (ds : List Declared) → declares_again [] ds ≡ repeats_declaration ds
again-none ds = again-is [] ds ∙ ap (λ b. b || repeats_declaration ds) (none ds)
  where
    none : (es : List Declared) → list_any (is_declared []) es ≡ false
    none [] = refl
    none (e ∷ es) = none es

-- nothing is declared
pub none_declared : (old : List Declared) (before : Found) → Declares old [] old before before
none_declared old before = record { found = nothing_more before; all = λ _. sym (append-nil old) }

again-one : (old : List Declared) (d : Declared) (b : Bool) → is_declared old d ≡ b → declares_again old (d ∷ []) ≡ b
again-one old d b is = or-false (is_declared old d) ∙ is

-- one declaration, which is new or stands again
pub one_declared : (old new : List Declared) (d : Declared) (before : Found) → is_declared old d ≡ false →
    new ≡ old ++ d ∷ [] → Declares old (d ∷ []) new before before
one_declared old new d before is_new is = record {
  found = nothing_more before ∙
      ap (λ b. joined before (found_if duplicate_declaration b)) (sym (again-one old d false is_new));
  all = λ _. is;
}

pub one_again : (old new : List Declared) (d : Declared) (before after : Found) → is_declared old d ≡ true →
    after ≡ joined before (found_if duplicate_declaration true) → Declares old (d ∷ []) new before after
one_again old new d before after is_old is = record {
  found = is ∙ ap (λ b. joined before (found_if duplicate_declaration b)) (sym (again-one old d true is_old));
  all = λ none. let e : true ≡ false = sym (again-one old d true is_old) ∙ none in absurd (cc);
}

-- what was found, with what is to be found in the rest, comes to the whole, and so do the declarations if none stands
-- again
pub record Declaring (old ds now rest : List Declared) (before at : Found) : Type 0 where
  pub found : joined at (found_if duplicate_declaration (declares_again now rest)) ≡
      joined before (found_if duplicate_declaration (declares_again old ds))
  pub all : declares_again old ds ≡ false → (now ++ rest ≡ old ++ ds) × (declares_again now rest ≡ false)

pub declaring_begins : (old ds : List Declared) (before : Found) → Declaring old ds old ds before before
declaring_begins old ds before = record { found = refl; all = λ e. (refl, e) }

declaring_goes : (old ds now xs next rest : List Declared) (before at after : Found) → Declares now xs next at after →
    Declaring old ds now (xs ++ rest) before at → Declaring old ds next rest before after
declaring_goes old ds now xs next rest before at after more done = record {
  found = ap (λ f. joined f (found_if duplicate_declaration (declares_again next rest))) more.found ∙
      joined-assoc at (found_if duplicate_declaration (declares_again now xs))
      (found_if duplicate_declaration (declares_again next rest)) ∙
      ap (λ b. joined at (found_if duplicate_declaration b)) (either (declares_again now xs) refl ∙
      sym (again-append now xs rest)) ∙
      done.found;
  all = λ e. let before_rest = done.all e in
      let parts = or_parts (declares_again now xs) (declares_again (now ++ xs) rest)
      (sym (again-append now xs rest) ∙ before_rest.1) in
      let is = more.all parts.0 in (
        ap (λ es. es ++ rest) is ∙ append_assoc now xs rest ∙ before_rest.0,
        ap (λ es. declares_again es rest) is ∙ parts.1,
      );
}
  where
    either : (b : Bool) → declares_again now xs ≡ b →
        (declares_again now xs || declares_again next rest) ≡
        (declares_again now xs || declares_again (now ++ xs) rest)
    either true e = rw e refl
    either false e = ap (λ es. declares_again now xs || declares_again es rest) (more.all e)

declaring_ends : (old ds now : List Declared) (before at : Found) → Declaring old ds now [] before at →
    Declares old ds now before at
declaring_ends old ds now before at done = record {
  found = nothing_more at ∙ done.found;
  all = λ e. sym (append-nil now) ∙ (done.all e).0;
}

-- a list of trees, each of which declares something
module _ {X : Type 0} (one : X → List Declared) (every : List X → List Declared) where
  unfolded : ((x : X) (xs : List X) → every (x ∷ xs) ≡ one x ++ every xs) → (xs : List X) (i : ℕ) (x : X) →
      i < length xs → x ≡ get_or xs i x → every (drop i xs) ≡ one x ++ every (drop (i + 1) xs)
  unfolded split xs i x within is = ap every (drop_more xs i x within ∙ ap (λ y. y ∷ drop (i + 1) xs) (sym is)) ∙
      split x (drop (i + 1) xs)

  pub next_declared : ((x : X) (xs : List X) → every (x ∷ xs) ≡ one x ++ every xs) →
      (xs : List X) (i : ℕ) (x : X) (old ds now next : List Declared) (before at after : Found)
      → i < length xs → x ≡ get_or xs i x → Declares now (one x) next at after →
      Declaring old ds now (every (drop i xs)) before at → Declaring old ds next (every (drop (i + 1) xs)) before after
  next_declared split xs i x old ds now next before at after within is more done =
      declaring_goes old ds now (one x) next (every (drop (i + 1) xs)) before at after
      more (subst (λ es. Declaring old ds now es before at) (unfolded split xs i x within is) done)

  pub all_declared : every [] ≡ [] → (xs : List X) (i : ℕ) (old ds now : List Declared) (before at : Found) →
      length xs ≤ i → Declaring old ds now (every (drop i xs)) before at → Declares old ds now before at
  all_declared empty xs i old ds now before at past done =
      declaring_ends old ds now before at
      (subst (λ es. Declaring old ds now es before at) (ap every (drop_all i xs past) ∙ empty) done)

pub more_sections : (s : SectionTree) (ss : List SectionTree) →
    declarations_of_sections (s ∷ ss) ≡ declared_in s ++ declarations_of_sections ss
more_sections (signature parts) ss = refl
more_sections (rules _) ss = refl
more_sections (strategies _) ss = refl

pub more_parts : (s : SignatureTree) (ss : List SignatureTree) →
    declarations_of_signature (s ∷ ss) ≡ declared_by s ++ declarations_of_signature ss
more_parts (sorts _) ss = refl
more_parts (constructors all) ss = refl
