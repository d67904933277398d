-- The names that the equations bring. No file spells them, and they are the same in each scope that the equations
-- bring: what is brought is named in the own sequence of its scope alone, and the parts of the file inside that
-- sequence have written names and scopes of their own. So a scope brings the first names there are, and within one
-- scope they are distinct.
use Rattle.std.specs.Prelude.{ℕ, zero, suc, List, [], ◌∷◌}
use Rattle.core_lang.specs.Named.{Name, brought}
use Rattle.core_lang.specs.Program.{variable, Patterns, no_patterns, more_patterns, Elements, no_elements, the_rest, more_elements}

-- k names, from the ith on
abbrev pub names_from : ℕ → ℕ → List Name
names_from i zero = []
names_from i (suc k) = brought i ∷ names_from (suc i) k

-- the names of a scope that brings k of them
abbrev pub first_names : ℕ → List Name
first_names k = names_from 0 k

-- the name of the term that a scope keeps
abbrev pub kept : Name
kept = brought 0

-- these names as patterns, as elements, and as elements with the next name for the rest
abbrev pub patterns_from : ℕ → ℕ → Patterns Name
patterns_from i zero = no_patterns
patterns_from i (suc k) = more_patterns (variable (brought i)) (patterns_from (suc i) k)

abbrev pub elements_from : ℕ → ℕ → Elements Name
elements_from i zero = no_elements
elements_from i (suc k) = more_elements (variable (brought i)) (elements_from (suc i) k)

abbrev pub elements_and_rest_from : ℕ → ℕ → Elements Name
elements_and_rest_from i zero = the_rest (variable (brought i))
elements_and_rest_from i (suc k) = more_elements (variable (brought i)) (elements_and_rest_from (suc i) k)
