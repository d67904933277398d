-- Lists of patterns with other coordinates.
use Rattle.std.proofs.Common.{◌≡◌, List, [], ◌∷◌, map, Option, Some, None, refl, ap}
use Rattle.core_lang.specs.declared.coordinate.Coordinate.{Coordinate}
use Rattle.core_lang.specs.Program.{Pattern, more_patterns, more_elements}
use Rattle.core_lang.specs.Views.{patterns_in, elements_in}
use Rattle.strat_code.specs.Context.{Context, by_frames}
use Rattle.strat_code.specs.Renamed.{renamed, all_renamed, elements_renamed}
use Rattle.strat_compile.specs.Layers.{renamed_rest}

module _ (C : Context) where
  pub renamed_in : (ps : List (Pattern Coordinate)) →
      patterns_in (map (renamed (by_frames C)) ps) ≡ all_renamed (by_frames C) (patterns_in ps)
  renamed_in [] = refl
  renamed_in (p ∷ ps) = ap (λ qs. more_patterns (renamed (by_frames C) p) qs) (renamed_in ps)

  pub renamed_elements : (ps : List (Pattern Coordinate)) (rest : Option (Pattern Coordinate)) →
      elements_in (map (renamed (by_frames C)) ps) (renamed_rest C rest) ≡
      elements_renamed (by_frames C) (elements_in ps rest)
  renamed_elements [] None = refl
  renamed_elements [] (Some p) = refl
  renamed_elements (p ∷ ps) rest = ap (λ qs. more_elements (renamed (by_frames C) p) qs) (renamed_elements ps rest)
