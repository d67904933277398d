-- Definitions that are made from alternatives are resolved where each alternative is, and have each key that an
-- alternative has.
use Rattle.std.proofs.Common.{◌≡◌, suc, Some, None, List, [], ◌∷◌, map, refl, sym, ◌∙◌, ap, ap₂, subst}
use Rattle.std.specs.Prelude.{Bool, true, false, not, ◌||◌, ◌&&◌, ◌==◌, filter, if◌then◌else◌}
use Rattle.std.specs.List.{list_any}
use Rattle.std.specs.Option.{option_map}
use Rattle.std.specs.Str.{bytes_eq}
use Rattle.std.proofs.lemmas.Bool.{not_from_false}
use Rattle.std.proofs.lemmas.List.{length-map}
use Rattle.std.proofs.lemmas.Map.Views.{any-filter_same}
use Rattle.core_lang.specs.Named.{written, definition_position}
use Rattle.core_lang.specs.Resolution.{Scopes, names, ResolvesDefinitions, to_no_definitions, to_more_definitions}
use Rattle.str_syntax.specs.Key.{Key, same_key}
use Rattle.str_syntax.specs.SameKey.{same_key-true}
use Rattle.str_desugar.specs.Alternatives.{Alternative, alternative_key, of_one_definition, firsts, definitions_among, definitions_of_all}
use Rattle.str_desugar.specs.Frames.{frames_of, definitions_at}
use Rattle.str_desugar.proofs.FormLaws.{IsResolved, AllResolved, first_success_resolved}
use Rattle.str_desugar.proofs.NameLists.{not_found}

-- ---- keys

-- the key is that of the alternative
abbrev pub is_key : Key → Alternative → Bool
is_key k a = same_key k (alternative_key a)

no_first : (k : Key) (all others : List Alternative) →
    definition_position (definitions_among all others) (written k.name) k.strategies k.terms ≡ None →
    list_any (is_key k) others ≡ false
no_first k all [] e = refl
no_first k all (a ∷ others) e =
    not_found (is_key k a) (list_any (is_key k) others)
    (definition_position (definitions_among all others) (written k.name) k.strategies k.terms)
    (ap₂ (λ m n. if bytes_eq k.name a.name && ((k.strategies == m) && (k.terms == n)) then Some 0
    else option_map (λ i. suc i)
    (definition_position (definitions_among all others) (written k.name) k.strategies k.terms))
    (sym (length-map a.strategies written)) (sym (length-map a.terms written)) ∙ e)
    (λ h. no_first k all others h)

-- alternatives of one definition have the same key
key_of_same : (k : Key) (a b : Alternative) → is_key k b ≡ true → of_one_definition a b ≡ true → is_key k a ≡ true
key_of_same k a b is same = ap (same_key k) (same_key-true (alternative_key a) (alternative_key b) same) ∙ is

not_both : (b c : Bool) → (b ≡ true → c ≡ true) → c ≡ false → b ≡ false
not_both true c h e = sym (h refl) ∙ e
not_both false c h e = refl

key_kept : (k : Key) (a : Alternative) (others : List Alternative) (b : Bool) → is_key k a ≡ b →
    (b || list_any (is_key k) (filter (λ c. not (of_one_definition a c)) others)) ≡ (b || list_any (is_key k) others)
key_kept k a others true e = refl
key_kept k a others false e =
    any-filter_same (is_key k) (λ c. not (of_one_definition a c)) true
    (λ c is. not_from_false (of_one_definition a c)
    (not_both (of_one_definition a c) (is_key k a) (λ same. key_of_same k a c is same) e)) others

keys_of_firsts : (k : Key) (all : List Alternative) → list_any (is_key k) (firsts all) ≡ list_any (is_key k) all
keys_of_firsts k [] = refl
keys_of_firsts k (a ∷ others) =
    key_kept k a (firsts others) (is_key k a) refl ∙ ap (λ b. is_key k a || b) (keys_of_firsts k others)

-- each alternative's key has a definition
pub no_definition : (k : Key) (all : List Alternative) →
    definition_position (definitions_of_all all) (written k.name) k.strategies k.terms ≡ None →
    list_any (is_key k) all ≡ false
no_definition k all none = sym (keys_of_firsts k all) ∙ no_first k all (firsts all) none

-- ---- bodies

-- the body is resolved in the layer of its own parameters
abbrev pub AlternativeResolved : Scopes → Alternative → Type 0
AlternativeResolved S a = IsResolved (names (map written a.strategies) (map written a.terms) S) a.body

abbrev pub AlternativesResolved : Scopes → List Alternative → Type 0
AlternativesResolved S [] = Unit {0}
AlternativesResolved S (a ∷ others) = AlternativeResolved S a × AlternativesResolved S others

-- alternatives of one definition give their parameters the same names
abbrev pub SameParameters : Alternative → Alternative → Type 0
SameParameters a b = of_one_definition a b ≡ true → (a.strategies ≡ b.strategies) × (a.terms ≡ b.terms)

abbrev pub AgreesWith : Alternative → List Alternative → Type 0
AgreesWith a [] = Unit {0}
AgreesWith a (b ∷ others) = SameParameters a b × AgreesWith a others

abbrev pub AllAgree : List Alternative → List Alternative → Type 0
AllAgree all [] = Unit {0}
AllAgree all (a ∷ others) = AgreesWith a all × AllAgree all others

agree_cons : (all others : List Alternative) (a : Alternative) (b : Bool) → AgreesWith a all → AllAgree all others →
    AllAgree all (if b then a ∷ others else others)
agree_cons all others a true agree rest = (agree, rest)
agree_cons all others a false agree rest = rest

agree_kept : (all others : List Alternative) (keep : Alternative → Bool) → AllAgree all others →
    AllAgree all (filter keep others)
agree_kept all [] keep agree = agree
agree_kept all (a ∷ others) keep agree =
    agree_cons all (filter keep others) a (keep a) agree.0 (agree_kept all others keep agree.1)

firsts_agree : (all others : List Alternative) → AllAgree all others → AllAgree all (firsts others)
firsts_agree all [] agree = agree
firsts_agree all (a ∷ others) agree =
    (agree.0, agree_kept all (firsts others) (λ b. not (of_one_definition a b)) (firsts_agree all others agree.1))

-- a body in the layer of another alternative's parameters
moved : (S : Scopes) (a b : Alternative) → (a.strategies ≡ b.strategies) × (a.terms ≡ b.terms) →
    AlternativeResolved S b →
    IsResolved (names (map written a.strategies) (map written a.terms) S) b.body
moved S a b same r =
    subst (λ fs. IsResolved (names (map written fs) (map written a.terms) S) b.body) (sym same.0)
    (subst (λ xs. IsResolved (names (map written b.strategies) (map written xs) S) b.body) (sym same.1) r)

bodies_cons : (T : Scopes) (b : Alternative) (others : List Alternative) (c : Bool) → (c ≡ true → IsResolved T b.body) →
    AllResolved T (map (λ d. d.body) others) → AllResolved T (map (λ d. d.body) (if c then b ∷ others else others))
bodies_cons T b others true r rest = (r refl, rest)
bodies_cons T b others false r rest = rest

bodies_resolved : (S : Scopes) (a : Alternative) (all : List Alternative) → AgreesWith a all →
    AlternativesResolved S all →
    AllResolved (names (map written a.strategies) (map written a.terms) S)
    (map (λ b. b.body) (filter (of_one_definition a) all))
bodies_resolved S a [] agree r = tt
bodies_resolved S a (b ∷ others) agree r =
    bodies_cons (names (map written a.strategies) (map written a.terms) S) b (filter (of_one_definition a) others)
    (of_one_definition a b) (λ same. moved S a b (agree.0 same) r.0)
    (bodies_resolved S a others agree.1 r.1)

among_resolved : (S : Scopes) (all others : List Alternative) → AlternativesResolved S all → AllAgree all others →
    ResolvesDefinitions S (definitions_among all others) (definitions_at (frames_of S) (definitions_among all others))
among_resolved S all [] r agree = to_no_definitions
among_resolved S all (a ∷ others) r agree =
    to_more_definitions refl refl
    (first_success_resolved (names (map written a.strategies) (map written a.terms) S)
    (map (λ b. b.body) (filter (of_one_definition a) all)) (bodies_resolved S a all agree.0 r))
    (among_resolved S all others r agree.1)

pub definitions_resolved : (S : Scopes) (all : List Alternative) → AlternativesResolved S all → AllAgree all all →
    ResolvesDefinitions S (definitions_of_all all) (definitions_at (frames_of S) (definitions_of_all all))
definitions_resolved S all r agree = among_resolved S all (firsts all) r (firsts_agree all all agree)
