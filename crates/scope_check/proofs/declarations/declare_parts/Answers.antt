use Rattle.std.proofs.Common.{map, refl}
use Rattle.str_syntax.specs.declared.sort.SignaturePart.{SignaturePart}
use Rattle.str_syntax.specs.Views.{signature_of}
use Rattle.signature_core.specs.Signature.{declarations_of_signature}
use Rattle.scope_check.specs.Tables.{declared_by}
use Rattle.scope_check.proofs.DeclarationLaws.{all_declared, more_parts, next_declared}
use Rattle.scope_check.proofs.declarations.declare_parts.Goals as goal

pub loop-part-preserved : goal.loop-part-preserved
loop-part-preserved c =
    next_declared (λ (x : SignaturePart). declared_by (signature_of x))
    (λ xs. declarations_of_signature (map signature_of xs))
    (λ x xs. more_parts (signature_of x) (map signature_of xs))
    c.args.parts.now c.loop-part.part-index c.part-item.result _ _ c.loop-part.signature _ _ c.loop-part.findings _
    c.loop-part-test.true c.part-item.is c.in_ok-declare_part.ensures c.loop-part.invariant

pub returns : goal.returns
returns c =
    all_declared (λ (x : SignaturePart). declared_by (signature_of x))
    (λ xs. declarations_of_signature (map signature_of xs)) refl
    c.args.parts.now c.loop-part.part-index _ _ c.loop-part.signature _ c.loop-part.findings
    c.loop-part-test.false c.loop-part.invariant
