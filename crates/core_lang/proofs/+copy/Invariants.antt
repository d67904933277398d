use Rattle.std.proofs.Common.{◌≡◌, map, take}
use Rattle.core_lang.specs.Views.{pattern_of}
use Rattle.core_lang.proofs.+copy.Given as goal

abbrev pub invariant-copy::patterns-loop-p : goal.invariant-copy::patterns-loop-p
invariant-copy::patterns-loop-p l = map pattern_of l.made.items ≡ map pattern_of (take l.p-index l.source)
