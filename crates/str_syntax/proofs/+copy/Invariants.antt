use Rattle.std.proofs.Common.{◌≡◌, map, take}
use Rattle.str_syntax.specs.Views.{definition_of, pattern_of, strategy_of}
use Rattle.str_syntax.proofs.+copy.Given as goal

abbrev pub invariant-copy::definitions-loop-d : goal.invariant-copy::definitions-loop-d
invariant-copy::definitions-loop-d l = map definition_of l.made.items ≡ map definition_of (take l.d-index l.source)

abbrev pub invariant-copy::patterns-loop-p : goal.invariant-copy::patterns-loop-p
invariant-copy::patterns-loop-p l = map pattern_of l.made.items ≡ map pattern_of (take l.p-index l.source)

abbrev pub invariant-copy::strategies-loop-s : goal.invariant-copy::strategies-loop-s
invariant-copy::strategies-loop-s l = map strategy_of l.made.items ≡ map strategy_of (take l.s-index l.source)
