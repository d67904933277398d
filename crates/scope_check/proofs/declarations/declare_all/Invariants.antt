use Rattle.std.proofs.Common.{drop, map}
use Rattle.str_syntax.specs.Views.{declaration_of}
use Rattle.signature_core.specs.Signature.{declarations_of_parts}
use Rattle.scope_check.proofs.DeclarationLaws.{Declaring}
use Rattle.scope_check.proofs.declarations.declare_all.Given as goal

abbrev pub invariant-loop-one : goal.invariant-loop-one
invariant-loop-one l = Declaring l.initial.signature (declarations_of_parts (map declaration_of l.all))
    l.signature (declarations_of_parts (map declaration_of (drop l.one-index l.all)))
    l.initial.findings l.findings
