use Rattle.std.proofs.Common.{map, refl}
use Rattle.str_syntax.specs.declared.definition.Section.{Section}
use Rattle.str_syntax.specs.Views.{section_of}
use Rattle.signature_core.specs.Signature.{declarations_of_sections}
use Rattle.scope_check.specs.Tables.{declared_in}
use Rattle.scope_check.proofs.DeclarationLaws.{all_declared, more_sections, next_declared}
use Rattle.scope_check.proofs.declarations.declare_sections.Goals as goal

pub loop-section-preserved : goal.loop-section-preserved
loop-section-preserved c =
    next_declared (λ (x : Section). declared_in (section_of x)) (λ xs. declarations_of_sections (map section_of xs))
    (λ x xs. more_sections (section_of x) (map section_of xs))
    c.args.sections.now c.loop-section.section-index c.section-item.result _ _ c.loop-section.signature _ _
    c.loop-section.findings _
    c.loop-section-test.true c.section-item.is c.in_ok-declare_section.ensures c.loop-section.invariant

pub returns : goal.returns
returns c =
    all_declared (λ (x : Section). declared_in (section_of x)) (λ xs. declarations_of_sections (map section_of xs)) refl
    c.args.sections.now c.loop-section.section-index _ _ c.loop-section.signature _ c.loop-section.findings
    c.loop-section-test.false c.loop-section.invariant
