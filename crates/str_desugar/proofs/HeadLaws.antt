-- Alternatives and the heads that they are made from: the same keys, and the same parameters where the heads of one key
-- agree.
use Rattle.std.proofs.Common.{◌≡◌, List, [], ◌∷◌, map, length, refl, sym, ◌∙◌, ap, ap₂}
use Rattle.std.specs.Prelude.{Bool, true, false, not, ◌||◌, ◌&&◌}
use Rattle.std.specs.List.{list_any}
use Rattle.std.specs.Str.{bytes_eq}
use Rattle.std.proofs.lemmas.Bool.{or_parts, and_parts}
use Rattle.std.proofs.lemmas.Slice.Eq.{bytes_eq-Decides}
use Rattle.str_syntax.specs.Arity.{strategy_names, term_names}
use Rattle.str_syntax.specs.Key.{Key, key_of, same_key}
use Rattle.str_syntax.specs.Trees.{Bytes, ParameterTree, HeadTree, head}
use Rattle.scope_check.specs.Seen.{among}
use Rattle.scope_check.specs.Complaint.{same_names, same_parameters, differs, some_differ}
use Rattle.str_desugar.specs.Alternatives.{Alternative, alternative_key}
use Rattle.str_desugar.proofs.GroupLaws.{is_key, SameParameters, AgreesWith, AllAgree}

-- the alternative has the name and the parameters of the head
pub record IsOf (a : Alternative) (f : Bytes) (ps : ParameterTree) : Type 0 where
  pub name : a.name ≡ f
  pub strategies : a.strategies ≡ strategy_names ps
  pub terms : a.terms ≡ term_names ps

abbrev pub IsOfHead : Alternative → HeadTree → Type 0
IsOfHead a (head f ps) = IsOf a f ps

abbrev pub AreOf : List Alternative → List HeadTree → Type 0
AreOf [] [] = Unit {0}
AreOf [] (h ∷ hs) = ⊥
AreOf (a ∷ others) [] = ⊥
AreOf (a ∷ others) (h ∷ hs) = IsOfHead a h × AreOf others hs

-- ---- keys

-- its key is that of the head
its_key : (a : Alternative) (h : HeadTree) → IsOfHead a h → alternative_key a ≡ key_of h
its_key a (head f ps) is =
    λ i. record { name = is.name i; strategies = length (is.strategies i); terms = length (is.terms i) }

pub same_keys : (all : List Alternative) (hs : List HeadTree) → AreOf all hs → (k : Key) →
    list_any (is_key k) all ≡ among (map key_of hs) k
same_keys [] [] are k = refl
same_keys [] (h ∷ hs) are k = absurd are
same_keys (a ∷ others) [] are k = absurd are
same_keys (a ∷ others) (h ∷ hs) are k =
    ap₂ (λ b c. b || c) (ap (same_key k) (its_key a h are.0)) (same_keys others hs are.1 k)

-- ---- parameters

lists_equal : (xs ys : List Bytes) → same_names xs ys ≡ true → xs ≡ ys
lists_equal [] [] e = refl
lists_equal [] (y ∷ ys) e = absurd (cc)
lists_equal (x ∷ xs) [] e = absurd (cc)
lists_equal (x ∷ xs) (y ∷ ys) e =
    let parts = and_parts (bytes_eq x y) (same_names xs ys) e in
    ap₂ (λ z zs. z ∷ zs) ((bytes_eq-Decides x y).0 parts.0) (lists_equal xs ys parts.1)

-- two tests that are not so: the first holds and the second fails
both_hold : (b c : Bool) → (b && not c) ≡ false → b ≡ true → c ≡ true
both_hold true true e h = refl
both_hold true false e h = absurd (cc)
both_hold false c e h = absurd (cc)

same_parameters_of : (a b : Alternative) (h g : HeadTree) → IsOfHead a h → IsOfHead b g → differs h g ≡ false →
    SameParameters a b
same_parameters_of a b (head f ps) (head g qs) is of agree = λ same.
    let test : same_key (key_of (head f ps)) (key_of (head g qs)) ≡ true =
    sym (ap₂ same_key (its_key a (head f ps) is) (its_key b (head g qs) of)) ∙ same in
    let equal : (same_names (strategy_names ps) (strategy_names qs) && same_names (term_names ps) (term_names qs)) ≡
    true =
    both_hold (same_key (key_of (head f ps)) (key_of (head g qs))) (same_parameters (head f ps) (head g qs))
    agree test in
    let parts = and_parts (same_names (strategy_names ps) (strategy_names qs))
    (same_names (term_names ps) (term_names qs)) equal in (
      is.strategies ∙ lists_equal (strategy_names ps) (strategy_names qs) parts.0 ∙ sym of.strategies,
      is.terms ∙ lists_equal (term_names ps) (term_names qs) parts.1 ∙ sym of.terms,
    )

agrees_with : (a : Alternative) (h : HeadTree) (all : List Alternative) (hs : List HeadTree) → IsOfHead a h →
    AreOf all hs → list_any (differs h) hs ≡ false →
    AgreesWith a all
agrees_with a h [] [] is are agree = tt
agrees_with a h [] (g ∷ hs) is are agree = absurd are
agrees_with a h (b ∷ others) [] is are agree = absurd are
agrees_with a h (b ∷ others) (g ∷ hs) is are agree =
    let parts = or_parts (differs h g) (list_any (differs h) hs) agree in
    (same_parameters_of a b h g is are.0 parts.0, agrees_with a h others hs is are.1 parts.1)

all_agree : (all : List Alternative) (hs : List HeadTree) (others : List Alternative) (gs : List HeadTree) →
    AreOf all hs → AreOf others gs →
    list_any (λ h. list_any (differs h) hs) gs ≡ false → AllAgree all others
all_agree all hs [] [] are of agree = tt
all_agree all hs [] (g ∷ gs) are of agree = absurd of
all_agree all hs (a ∷ others) [] are of agree = absurd of
all_agree all hs (a ∷ others) (g ∷ gs) are of agree =
    let parts = or_parts (list_any (differs g) hs) (list_any (λ h. list_any (differs h) hs) gs) agree in
    (agrees_with a g all hs of.0 are parts.0, all_agree all hs others gs are of.1 parts.1)

pub agree_from_heads : (all : List Alternative) (hs : List HeadTree) → AreOf all hs → some_differ hs ≡ false →
    AllAgree all all
agree_from_heads all hs are agree = all_agree all hs all hs are are agree
