use Rattle.std.proofs.Common.{drop, map}
use Rattle.str_syntax.specs.Views.{signature_of}
use Rattle.signature_core.specs.Signature.{declarations_of_signature}
use Rattle.scope_check.proofs.DeclarationLaws.{Declaring}
use Rattle.scope_check.proofs.declarations.declare_parts.Given as goal

abbrev pub invariant-loop-part : goal.invariant-loop-part
invariant-loop-part l = Declaring l.initial.signature (declarations_of_signature (map signature_of l.parts))
    l.signature (declarations_of_signature (map signature_of (drop l.part-index l.parts)))
    l.initial.findings l.findings
