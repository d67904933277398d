-- The headline does not rest on this file.
-- What the layers of the code stand for.
use Rattle.std.specs.Prelude.{ℕ, zero, suc, ◌+◌, List, [], ◌∷◌, map, Option, Some, None}
use Rattle.core_lang.specs.declared.coordinate.Coordinate.{Coordinate}
use Rattle.core_lang.specs.Program.{Pattern, variable}
use Rattle.core_lang.specs.Resolved.{ResolvedStrategy}
use Rattle.str_syntax.specs.Trees.{OptionalPattern, no_pattern, one_pattern}
use Rattle.str_desugar.specs.Equations.{built, matched}
use Rattle.core_lang.specs.Named.{NamedStrategy, brought, written}
use Rattle.str_desugar.specs.Brought.{first_names}
use Rattle.str_desugar.specs.Frames.{Frames, outermost, of_names, of_definitions, pattern_at, strategy_at, variable_at}
use Rattle.str_desugar.specs.Keys.{named_key}
use Rattle.str_desugar.specs.declared.scopes.Scopes.{Scopes}
use Rattle.str_desugar.specs.declared.scopes.Scopes.TheOpen.{Scopes-F, Outermost, Brought, Variables, Parameters, Recursive, Defined}
use Rattle.str_desugar.specs.declared.scopes.Scopes.TheFolds.{fold-Scopes}

abbrev pub scopes_step : Scopes-F Frames → Frames
scopes_step Outermost = outermost
scopes_step (Brought k up) = of_names [] (first_names k) up.now
scopes_step (Variables xs up) = of_names [] (map written xs.now) up.now
scopes_step (Parameters fs xs up) = of_names (map written fs.now) (map written xs.now) up.now
scopes_step (Recursive f up) = of_definitions (record { name = written f.now; strategies = 0; terms = 0 } ∷ []) up.now
scopes_step (Defined ds up) = of_definitions (map named_key ds.now) up.now

abbrev pub layers_of : Scopes → Frames
layers_of = fold-Scopes Frames scopes_step

-- what is matched as the rest of a list, if there is a rest
abbrev pub rest_at : Frames → OptionalPattern → Option (Pattern Coordinate)
rest_at F no_pattern = None
rest_at F (one_pattern p) = Some (pattern_at F (matched p))

-- the variables of the names that are brought from the ith on
abbrev pub brought_from : Frames → ℕ → ℕ → List (Pattern Coordinate)
brought_from F i zero = []
brought_from F i (suc k) = variable (variable_at F (brought i)) ∷ brought_from F (suc i) k

-- strategies one after another, as items of a sequence
abbrev pub items_at : Frames → List NamedStrategy → List ResolvedStrategy
items_at F items = map (strategy_at F) items

-- what is made inside a scope that brings k names
abbrev pub inside : ℕ → Frames → Frames
inside k F = of_names [] (first_names k) F

-- what is made inside the scope of a congruence of n parts
abbrev pub inside_congruence : ℕ → Frames → Frames
inside_congruence n F = inside (suc (n + n)) F

-- what is built as the rest of a list, if there is a rest
abbrev pub built_rest_at : Frames → ℕ → OptionalPattern → Option (Pattern Coordinate)
built_rest_at F i no_pattern = None
built_rest_at F i (one_pattern p) = Some (pattern_at F (built i p))
