-- The headline does not rest on this file.
-- Layers and lists of arms, as the walk over a core sees them.
use Rattle.std.specs.Prelude.{List, [], ◌∷◌}
use Rattle.core_lang.specs.declared.range.Layers.{Layers}
use Rattle.core_lang.specs.declared.range.Layers.TheOpen.{Layers-F, Outermost, Layer, Definitions}
use Rattle.core_lang.specs.declared.range.Layers.TheFolds.{fold-Layers}
use Rattle.core_lang.specs.InRange.{no_layers, layer_of, layer_of_definitions, StrategyInRange}
use Rattle.core_lang.specs.InRange as spec
use Rattle.core_lang.specs.Views.{Arm, definitions_of}

abbrev pub layers_step : Layers-F spec.Layers → spec.Layers
layers_step Outermost = no_layers
layers_step (Layer m k up) = layer_of m k up.now
layers_step (Definitions ds up) = layer_of_definitions (definitions_of ds.now) up.now

abbrev pub layers_of : Layers → spec.Layers
layers_of = fold-Layers spec.Layers layers_step

abbrev pub ArmInRange : spec.Layers → Arm → Type 0
ArmInRange L a = StrategyInRange L a.guard × StrategyInRange L a.then

abbrev pub ArmsInRange : spec.Layers → List Arm → Type 0
ArmsInRange L [] = Unit {0}
ArmsInRange L (a ∷ arms) = ArmInRange L a × ArmsInRange L arms
