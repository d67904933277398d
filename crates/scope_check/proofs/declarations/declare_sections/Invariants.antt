use Rattle.std.proofs.Common.{drop, map}
use Rattle.str_syntax.specs.Views.{section_of}
use Rattle.signature_core.specs.Signature.{declarations_of_sections}
use Rattle.scope_check.proofs.DeclarationLaws.{Declaring}
use Rattle.scope_check.proofs.declarations.declare_sections.Given as goal

abbrev pub invariant-loop-section : goal.invariant-loop-section
invariant-loop-section l = Declaring l.initial.signature (declarations_of_sections (map section_of l.sections))
    l.signature (declarations_of_sections (map section_of (drop l.section-index l.sections)))
    l.initial.findings l.findings
