use Rattle.std.proofs.Common.{◌+◌, ◌*◌, ◌≤◌, map, drop}
use Rattle.core_lang.specs.Views.{arm_of, first_of, strategy_of}
use Rattle.strat_compile.specs.Asking.{AsksOnto}
use Rattle.strat_compile.specs.ChainOf.{roots_of}
use Rattle.strat_compile.specs.Layers.{context_of}
use Rattle.strat_compile.proofs.roots.+asking.Given as goal

abbrev pub decreases-roots_asked : goal.decreases-roots_asked
decreases-roots_asked l = 3 * l.limit.now

abbrev pub decreases-arms_asked : goal.decreases-arms_asked
decreases-arms_asked l = 3 * l.limit.now + 1

abbrev pub decreases-choice_asked : goal.decreases-choice_asked
decreases-choice_asked l = 3 * l.limit.now + 2

abbrev pub decreases-inside_asked : goal.decreases-inside_asked
decreases-inside_asked l = 3 * l.limit.now + 1

abbrev pub decreases-call_asked : goal.decreases-call_asked
decreases-call_asked l = 3 * l.limit.now + 2

abbrev pub decreases-defined_asked : goal.decreases-defined_asked
decreases-defined_asked l = 3 * l.limit.now + 1

abbrev pub invariant-arms_asked-loop-index : goal.invariant-arms_asked-loop-index
invariant-arms_asked-loop-index l = record {
  asks : AsksOnto (context_of l.layers) (first_of (map arm_of (drop l.index l.arms)) (strategy_of l.otherwise))
      (roots_of l.fn.roots.items) (roots_of l.roots.items) l.nodes;
  limit : l.limit ≤ l.fn.limit;
}
