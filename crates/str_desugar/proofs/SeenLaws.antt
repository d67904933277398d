-- What is seen at a place of a file can be called in the layers around it.
use Rattle.std.proofs.Common.{◌≡◌, ℕ, suc, Option, Some, None, List, [], ◌∷◌, map, refl, sym, ◌∙◌}
use Rattle.std.specs.Prelude.{Bool, true, false, ◌||◌, ◌&&◌, ◌==◌, if◌then◌else◌}
use Rattle.std.specs.Option.{option_map}
use Rattle.std.specs.Str.{bytes_eq}
use Rattle.std.proofs.lemmas.Bool.{true≢false}
use Rattle.core_lang.specs.Named.{NamedStrategy, NamedDefinitions, Name, written, position_of, parameter_position, definition_position}
use Rattle.core_lang.specs.Program.{no_definitions, more_definitions}
use Rattle.core_lang.specs.Resolution.{Scopes, names, defined}
use Rattle.str_syntax.specs.Trees.{Bytes}
use Rattle.scope_check.specs.Seen.{Key, Seen, among, inner, plain_key}
use Rattle.str_desugar.proofs.BoundLaws.{IsCallable, callable_in_names, callable_in_definitions}

-- all that is seen can be called in these layers
abbrev pub Sees : Scopes → Seen → Type 0
Sees S L = (k : Key) → L k ≡ true → IsCallable S (written k.name) k.strategies k.terms

-- further in it is still seen
pub sees_further : (S : Scopes) (fs xs : List Name) (L : Seen) → Sees S L → Sees (names fs xs S) L
sees_further S fs xs L sees = λ k e. callable_in_names S fs xs (written k.name) k.strategies k.terms (λ none. sees k e)

-- what is not among the first is among the others
among_others : (b c : Bool) → (b || c) ≡ true → b ≡ false → c ≡ true
among_others true c e none = absurd (true≢false none)
among_others false c e none = e

-- ---- strategy parameters

not_found : (b c r : Bool) (o : Option ℕ) →
    (if c then (if b then Some 0 else option_map (λ i. suc i) o) else None) ≡ None →
    ((if c then o else None) ≡ None → r ≡ false) → ((b && c) || r) ≡ false
not_found true true r o e rest = absurd (cc)
not_found true false r o e rest = rest refl
not_found false true r None e rest = rest refl
not_found false true r (Some i) e rest = absurd (cc)
not_found false false r o e rest = rest refl

no_parameter : (fs : List Bytes) (k : Key) →
    parameter_position (map written fs) (written k.name) k.strategies k.terms ≡ None →
    among (map plain_key fs) k ≡ false
no_parameter [] k e = refl
no_parameter (f ∷ fs) k e =
    not_found (bytes_eq k.name f) ((k.strategies == 0) &&
    (k.terms == 0)) (among (map plain_key fs) k) (position_of (written k.name) (map written fs)) e
    (λ h. no_parameter fs k h)

pub sees_parameters : (S : Scopes) (fs : List Bytes) (xs : List Name) (L : Seen) → Sees S L →
    Sees (names (map written fs) xs S) (inner (among (map plain_key fs)) L)
sees_parameters S fs xs L sees = λ k e.
    callable_in_names S (map written fs) xs (written k.name)
    k.strategies k.terms (λ none. sees k
    (among_others (among (map plain_key fs) k) (L k) e (no_parameter fs k none)))

-- ---- definitions

-- where none of these keys is wanted, there is no definition for it
abbrev pub Covers : NamedDefinitions → Seen → Type 0
Covers ds L = (k : Key) → definition_position ds (written k.name) k.strategies k.terms ≡ None → L k ≡ false

pub sees_definitions : (S : Scopes) (ds : NamedDefinitions) (L M : Seen) → Covers ds L → Sees S M →
    Sees (defined ds S) (inner L M)
sees_definitions S ds L M covers sees = λ k e.
    callable_in_definitions S ds (written k.name)
    k.strategies k.terms (λ none. sees k (among_others (L k) (M k) e (covers k none)))

pub sees_own : (S : Scopes) (ds : NamedDefinitions) (L : Seen) → Covers ds L → Sees (defined ds S) L
sees_own S ds L covers = λ k e.
    callable_in_definitions S ds (written k.name)
    k.strategies k.terms (λ none. absurd (true≢false (sym e ∙ covers k none)))

one_missing : (b : Bool) (o : Option ℕ) → (if b then Some 0 else option_map (λ i. suc i) o) ≡ None →
    (b || false) ≡ false
one_missing true o e = absurd (cc)
one_missing false o e = refl

-- a rec is one definition without parameters
pub covers_rec : (f : Bytes) (s : NamedStrategy) →
    Covers (more_definitions (written f) [] [] s no_definitions) (among (plain_key f ∷ []))
covers_rec f s = λ k none. one_missing (bytes_eq k.name f && ((k.strategies == 0) && (k.terms == 0))) None none
