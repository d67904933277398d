use Rattle.std.proofs.Common.{map, take}
use Rattle.term_model.specs.Space.{Keeps, MakesNone}
use Rattle.core_lang.specs.Views.{pattern_of}
use Rattle.strat_patterns.specs.Loaded.{AreLoaded}
use Rattle.strat_patterns.proofs.loaded.+load.Given as goal

abbrev pub invariant-load_patterns-loop-p : goal.invariant-load_patterns-loop-p
invariant-load_patterns-loop-p g l =
    let s = g.S.TermSpace.space in
    Keeps s l.initial.space l.space × MakesNone s l.initial.space l.space ×
    AreLoaded (s.knows l.space) (s.symbol_of l.space) l.loaded.items (map pattern_of (take l.p-index l.patterns))
