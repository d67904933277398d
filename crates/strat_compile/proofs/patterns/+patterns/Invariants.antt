use Rattle.std.proofs.Common.{◌≡◌, map, take}
use Rattle.core_lang.specs.Views.{pattern_of}
use Rattle.strat_code.specs.Context.{by_frames}
use Rattle.strat_code.specs.Renamed.{renamed}
use Rattle.strat_compile.specs.Layers.{context_of}
use Rattle.strat_compile.proofs.patterns.+patterns.Given as goal

abbrev pub invariant-by_frames_patterns-loop-p : goal.invariant-by_frames_patterns-loop-p
invariant-by_frames_patterns-loop-p l =
    map pattern_of l.made.items ≡
    map (renamed (by_frames (context_of l.layers))) (map pattern_of (take l.p-index l.source))
