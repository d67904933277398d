use Rattle.std.proofs.Common.{map}
use Rattle.core_lang.specs.Views as views
use Rattle.signature_core.specs.Signature.{arity_known}
use Rattle.str_desugar.specs.Layers.{layers_of}
use Rattle.str_desugar.proofs.TopLaws.{bodies_all}
use Rattle.str_desugar.proofs.program.bodies.Goals as goal

pub returns : goal.returns
returns c =
    bodies_all (arity_known c.args.context.now.signature.now) (layers_of c.args.scopes.now)
    c.args.groups.now c.args.forms.now c.loop-form.form-index (map views.strategy_of c.loop-form.made.items)
    c.loop-form-test.false c.requires c.loop-form.invariant
