use Rattle.std.proofs.Common.{◌≡◌, take}
use Rattle.str_syntax.proofs.text.names.Given as goal

abbrev pub invariant-loop-name : goal.invariant-loop-name
invariant-loop-name l = l.made.items ≡ take l.name-index l.source
