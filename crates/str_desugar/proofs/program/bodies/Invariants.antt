use Rattle.std.proofs.Common.{◌≡◌, map, take}
use Rattle.core_lang.specs.Views as views
use Rattle.signature_core.specs.Signature.{arity_known}
use Rattle.str_desugar.specs.Equations.{top_core}
use Rattle.str_desugar.specs.Forms.{read_forms}
use Rattle.str_desugar.specs.Groups.{body_among}
use Rattle.str_desugar.specs.Layers.{layers_of}
use Rattle.str_desugar.proofs.program.bodies.Given as goal

abbrev pub invariant-loop-form : goal.invariant-loop-form
invariant-loop-form l =
    map views.strategy_of l.made.items ≡
    map (λ f. body_among (layers_of l.scopes) l.groups (top_core (arity_known l.context.signature.now) f))
    (read_forms (take l.form-index l.forms))
