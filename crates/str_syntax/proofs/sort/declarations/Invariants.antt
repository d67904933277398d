use Rattle.std.proofs.Common.{◌≡◌, map, take}
use Rattle.str_syntax.specs.Views.{declaration_of}
use Rattle.str_syntax.proofs.sort.declarations.Given as goal

abbrev pub invariant-loop-declaration : goal.invariant-loop-declaration
invariant-loop-declaration l = map declaration_of l.made.items ≡ map declaration_of (take l.declaration-index l.source)
