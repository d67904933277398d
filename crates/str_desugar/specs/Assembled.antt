-- The headline does not rest on this file.
-- How the code puts strategies over coordinates together, where what is brought stands in the innermost layer.
use Rattle.std.specs.Prelude.{ℕ, suc, ◌+◌, List, [], ◌∷◌, ◌++◌}
use Rattle.core_lang.specs.declared.coordinate.Coordinate.{Coordinate}
use Rattle.core_lang.specs.Program.{Pattern, variable, alias, like, choice, match, build, scope, id}
use Rattle.core_lang.specs.Resolved.{ResolvedStrategy, here}
use Rattle.core_lang.specs.Views.{chain}
use Rattle.str_desugar.specs.Brought.{kept}
use Rattle.str_desugar.specs.Equations.{part_name, outcome_name, result_name}
use Rattle.str_desugar.specs.Frames.{Frames, variable_at}

-- a scope that keeps the current term and has place for k results
abbrev pub keeping_here : ℕ → List ResolvedStrategy → ResolvedStrategy
keeping_here k items = scope (suc k) (chain (match (variable (here 0))) items)

abbrev pub where_here : ResolvedStrategy → ResolvedStrategy
where_here s = keeping_here 0 (s ∷ build (variable (here 0)) ∷ [])

-- the first of these to succeed
abbrev pub first_success_here : ResolvedStrategy → List ResolvedStrategy → ResolvedStrategy
first_success_here s [] = s
first_success_here s (t ∷ ss) = choice s id (first_success_here t ss)

-- a congruence of n parts
abbrev pub congruence_here : ℕ → Pattern Coordinate → List ResolvedStrategy → Pattern Coordinate → ResolvedStrategy
congruence_here n p items q = scope (suc (n + n))
    (chain (match (alias (here 0) p)) (items ++ build (like q (here 0)) ∷ []))

-- the items that give the ith result of a build, and those of the ith part of n, in these layers
abbrev pub result_here : Frames → ℕ → List ResolvedStrategy → List ResolvedStrategy
result_here F i items = build (variable (variable_at F kept)) ∷
    (items ++ match (variable (variable_at F (result_name i))) ∷ [])

abbrev pub part_here : Frames → ℕ → ℕ → ResolvedStrategy → List ResolvedStrategy
part_here F n i s = build (variable (variable_at F (part_name i))) ∷ s ∷
    match (variable (variable_at F (outcome_name n i))) ∷ []
