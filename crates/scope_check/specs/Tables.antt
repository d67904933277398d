-- The headline does not rest on this file.
-- What the tables and the layers of the walk over a file hold.
use Rattle.std.specs.Prelude.{◌≡◌, ◌||◌, ◌++◌, Bool, false, List, [], ◌∷◌, map, Result, OnOk}
use Rattle.std.specs.Borrow.{Bor}
use Rattle.str_syntax.specs.declared.strategy.DefinitionHead.{DefinitionHead}
use Rattle.str_syntax.specs.Views.{head_of}
use Rattle.str_syntax.specs.Trees.{Bytes, HeadTree, SectionTree, signature, rules, strategies, SignatureTree, sorts, constructors}
use Rattle.signature_core.specs.Signature.{Declared, is_declared, declarations_of_signature, declarations_of_parts}
use Rattle.scope_check.specs.declared.layers.Layers.{Layers}
use Rattle.scope_check.specs.declared.layers.Layers.TheOpen.{Layers-F, Outermost, Inner, Recursive}
use Rattle.scope_check.specs.declared.layers.Layers.TheFolds.{fold-Layers}
use Rattle.scope_check.specs.declared.known.Known as declared
use Rattle.scope_check.specs.Complaint.{Known, duplicate_declaration}
use Rattle.scope_check.specs.Found.{Found, found_if, joined}
use Rattle.scope_check.specs.Primitives.{holds}
use Rattle.scope_check.specs.Seen.{Key, same_key, Seen, nothing, among, inner, plain_key, in_rec}

-- what a file is judged by
abbrev pub known_of : declared.Known → Known
known_of known = record { declarations = known.signature.now; has_primitive = holds known.primitives.now }

-- the keys and others
abbrev pub AreWith : List Key → List Key → List Key → Type 0
AreWith old ks new = (k : Key) → among new k ≡ (among old k || among ks k)

-- one of the names stands again after itself, or is a plain key that is seen before
abbrev pub repeats_after : Seen → List Bytes → Bool
repeats_after L [] = false
repeats_after L (x ∷ xs) = L (plain_key x) || repeats_after (λ k. L k || same_key k (plain_key x)) xs

-- what is seen in the layers of a place
abbrev pub layers_step : Layers-F Seen → Seen
layers_step Outermost = nothing
layers_step (Inner keys up) = inner (among keys.now) up.now
layers_step (Recursive f up) = in_rec f.now up.now

abbrev pub layers_of : Layers → Seen
layers_of = fold-Layers Seen layers_step

-- this is found in the call, with what was found before it, unless it fails
abbrev pub Adds : {A E : Type 0} → Result A E → Found → Found → Found → Type 0
Adds result before found after = OnOk result (after ≡ joined before found)

-- what is found in a part, where this is known and seen
abbrev pub Finds : {A B E : Type 0} → Result B E → (Known → Seen → A → Found) → declared.Known → Layers → A → Found →
    Found → Type 0
Finds result find known layers part before after =
    Adds result before (find (known_of known) (layers_of layers) part) after

-- the heads that are pointed at
abbrev pub heads_of : List (Bor DefinitionHead) → List HeadTree
heads_of hs = map (λ h. head_of h.now) hs

-- what one section declares
abbrev pub declared_in : SectionTree → List Declared
declared_in (signature parts) = declarations_of_signature parts
declared_in (rules _) = []
declared_in (strategies _) = []

-- what one part of a signature declares
abbrev pub declared_by : SignatureTree → List Declared
declared_by (sorts _) = []
declared_by (constructors all) = declarations_of_parts all

-- one of the declarations is there before, or stands again after itself
abbrev pub declares_again : List Declared → List Declared → Bool
declares_again old [] = false
declares_again old (d ∷ ds) = is_declared old d || declares_again (old ++ d ∷ []) ds

-- these are declared after others, but for those that stand again, which are found
pub record Declares (old ds new : List Declared) (before after : Found) : Type 0 where
  pub found : after ≡ joined before (found_if duplicate_declaration (declares_again old ds))
  pub all : declares_again old ds ≡ false → new ≡ old ++ ds
