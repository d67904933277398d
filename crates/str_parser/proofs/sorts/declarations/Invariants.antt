use Rattle.std.proofs.Common.{length, map}
use Rattle.str_syntax.specs.Views.{declaration_of}
use Rattle.str_parser.proofs.DeclarationLists.{PartlyDeclarations}
use Rattle.str_parser.proofs.sorts.declarations.Given as goal

abbrev pub invariant-declarations : goal.invariant-declarations
invariant-declarations l = PartlyDeclarations (map declaration_of l.found.items) l.fn.input l.rest

abbrev pub decreases-declarations : goal.decreases-declarations
decreases-declarations l = length l.rest
