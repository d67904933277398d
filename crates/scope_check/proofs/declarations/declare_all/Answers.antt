use Rattle.std.proofs.Common.{map, refl}
use Rattle.str_syntax.specs.declared.sort.Declaration.{Declaration}
use Rattle.str_syntax.specs.Views.{declaration_of}
use Rattle.signature_core.specs.Signature.{declarations_of_part, declarations_of_parts}
use Rattle.scope_check.proofs.DeclarationLaws.{all_declared, next_declared}
use Rattle.scope_check.proofs.declarations.declare_all.Goals as goal

pub loop-one-preserved : goal.loop-one-preserved
loop-one-preserved c =
    next_declared (λ (x : Declaration). declarations_of_part (declaration_of x))
    (λ xs. declarations_of_parts (map declaration_of xs)) (λ x xs. refl)
    c.args.all.now c.loop-one.one-index c.one-item.result _ _ c.loop-one.signature _ _ c.loop-one.findings _
    c.loop-one-test.true c.one-item.is c.in_ok-declare.ensures c.loop-one.invariant

pub returns : goal.returns
returns c =
    all_declared (λ (x : Declaration). declarations_of_part (declaration_of x))
    (λ xs. declarations_of_parts (map declaration_of xs)) refl
    c.args.all.now c.loop-one.one-index _ _ c.loop-one.signature _ c.loop-one.findings
    c.loop-one-test.false c.loop-one.invariant
