use Rattle.std.proofs.Common.{length, map}
use Rattle.str_syntax.specs.Views.{signature_of}
use Rattle.str_parser.proofs.DeclarationLists.{PartlySignature}
use Rattle.str_parser.proofs.sorts.signature_parts.Given as goal

abbrev pub invariant-parts : goal.invariant-parts
invariant-parts l = PartlySignature (map signature_of l.found.items) l.fn.input l.rest

abbrev pub decreases-parts : goal.decreases-parts
decreases-parts l = length l.rest
