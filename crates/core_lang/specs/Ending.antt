-- How a derivation ends.
use Rattle.std.specs.Prelude.{ℕ, Bool, true, false, Option, Some, None, List, take}
use Rattle.std.specs.Option.{option_map, option_and_then}
use Rattle.term_model.specs.Term.{Tree, node, Trees, more, fits, all_fit}
use Rattle.core_lang.specs.Environment.{Bindings}
use Rattle.term_model.specs.Flat.{FlatValue, all_flat, term_of}

-- why a strategy gives no term: it fails, or a term would be too large
pub data Stop : Type 0 where
  failure : Stop
  excess : Stop

-- ok with a value and bindings, or a stop: the value is a term, or several terms in a row
pub data Ending (A : Type 0) : Type 0 where
  ok : A → Bindings → Ending A
  stop : Stop → Ending A

abbrev pub failed : {A : Type 0} → Ending A
failed = stop failure

abbrev pub oversize : {A : Type 0} → Ending A
oversize = stop excess

-- only this number of first places is kept
abbrev pub keeping : ℕ → Ending Tree → Ending Tree
keeping i (ok t e) = ok t (take i e)
keeping i (stop q) = stop q

-- one more term in front
abbrev pub in_front : Tree → Ending Trees → Ending Trees
in_front t (ok ts e) = ok (more t ts) e
in_front t (stop q) = stop q

-- ok where it fits, else oversize
abbrev pub if_fits : {A : Type 0} → Bool → A → Bindings → Ending A
if_fits true v e = ok v e
if_fits false v e = oversize

-- what a build gives: failed where there is no term, oversize where it doesn't fit
abbrev pub built : Option Tree → Bindings → Ending Tree
built None e = failed
built (Some t) e = if_fits (fits t) t e

-- the term over other parts
abbrev pub with_parts : Tree → Trees → Tree
with_parts (node h ts annos) us = node h us annos

-- the term over what its parts became, with its symbol and annotations; oversize where it doesn't fit
abbrev pub rebuilt : Tree → Ending Trees → Ending Tree
rebuilt t (ok us e) = built (Some (with_parts t us)) e
rebuilt t (stop q) = stop q

-- term arguments: failed where one has no instance, else oversize where one doesn't fit
abbrev pub arguments : Option Trees → Bindings → Ending Trees
arguments None e = failed
arguments (Some ts) e = if_fits (all_fit ts) ts e

-- a primitive's answer to its arguments, without annotations: failed where one isn't flat, or where there is no answer
abbrev pub answered : (List FlatValue → Option FlatValue) → Ending Trees → Ending Tree
answered answer (ok ts e) = built (option_map term_of (option_and_then answer (all_flat ts))) e
answered answer (stop q) = stop q
