use Rattle.std.proofs.Common.{refl, sym}
use Rattle.signature_core.specs.Signature.{arity_known}
use Rattle.str_desugar.specs.Forms.{read_forms, tops_at}
use Rattle.str_desugar.proofs.TopLaws.{definitions_made}
use Rattle.str_desugar.proofs.program.definitions.Goals as goal

pub returns : goal.returns
returns c =
    let all = tops_at (arity_known c.args.context.now.signature.now) (read_forms c.args.forms.now) in
    definitions_made _ _ all _ (c.keys.ensures all (sym c.requires)) refl
    (c.in_ok-made.ensures _ all (sym c.requires) c.in_ok-each.ensures)
