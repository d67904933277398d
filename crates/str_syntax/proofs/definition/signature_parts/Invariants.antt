use Rattle.std.proofs.Common.{◌≡◌, map, take}
use Rattle.str_syntax.specs.Views.{signature_of}
use Rattle.str_syntax.proofs.definition.signature_parts.Given as goal

abbrev pub invariant-loop-part : goal.invariant-loop-part
invariant-loop-part l = map signature_of l.made.items ≡ map signature_of (take l.part-index l.source)
