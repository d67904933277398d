use Rattle.std.proofs.Common.{◌≡◌, map, take}
use Rattle.str_syntax.specs.Views.{top_of}
use Rattle.str_syntax.proofs.definition.definitions.Given as goal

abbrev pub invariant-loop-definition : goal.invariant-loop-definition
invariant-loop-definition l = map top_of l.made.items ≡ map top_of (take l.definition-index l.source)
