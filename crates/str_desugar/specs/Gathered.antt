-- The headline does not rest on this file.
-- Names gathered one after another, where some are bound around them.
use Rattle.std.specs.Prelude.{Bool, List, [], ◌∷◌, ◌++◌, if◌then◌else◌}
use Rattle.std.specs.List.{list_any}
use Rattle.std.specs.Str.{bytes_eq}
use Rattle.str_syntax.specs.Trees.{Bytes}
use Rattle.str_desugar.specs.declared.bound.Bound.{Bound}
use Rattle.str_desugar.specs.declared.bound.Bound.TheOpen.{Bound-F, Nothing, Terms, Scope}
use Rattle.str_desugar.specs.declared.bound.Bound.TheFolds.{fold-Bound}

-- whether the name is among the names
abbrev pub has_name : List Bytes → Bytes → Bool
has_name xs x = list_any (bytes_eq x) xs

-- the names, and this one after them where it is new
abbrev pub with_new : List Bytes → Bytes → List Bytes
with_new xs x = if has_name xs x then xs else xs ++ x ∷ []

-- the names that were found, and this one after them where it is new and not bound
abbrev pub noted : List Bytes → List Bytes → Bytes → List Bytes
noted bound found x = if has_name bound x then found else with_new found x

-- the names that were found, and after them those of the others that are new and not bound
abbrev pub gathered : List Bytes → List Bytes → List Bytes → List Bytes
gathered bound found [] = found
gathered bound found (x ∷ xs) = gathered bound (noted bound found x) xs

-- the names that the layers of the code bind, innermost first
abbrev pub bound_step : Bound-F (List Bytes) → List Bytes
bound_step Nothing = []
bound_step (Terms xs) = xs.now
bound_step (Scope xs up) = xs.now ++ up.now

abbrev pub bound_names : Bound → List Bytes
bound_names = fold-Bound (List Bytes) bound_step
