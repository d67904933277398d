-- What is seen in layers, one more and none.
use Rattle.std.proofs.Common.{◌≡◌, ◌∙◌, sym, ap}
use Rattle.std.specs.Borrow.{Bor}
use Rattle.str_syntax.specs.declared.text.Name.{Name}
use Rattle.scope_check.specs.declared.keys.Keys.{Keys}
use Rattle.scope_check.specs.declared.layers.Layers as declared
use Rattle.scope_check.specs.declared.layers.Layers.TheVariants as code
use Rattle.scope_check.specs.declared.layers.Layers.TheOpen as forms
use Rattle.scope_check.specs.declared.layers.Layers.TheFolds.{fold-roll-Layers}
use Rattle.scope_check.specs.Seen.{Seen, among, in_rec, inner, nothing}
use Rattle.scope_check.specs.Tables.{layers_of, layers_step}

pub reads_outermost : layers_of code.Outermost ≡ nothing
reads_outermost = ap layers_of (sym code.rolls-Outermost) ∙ fold-roll-Layers Seen layers_step forms.Outermost

pub reads_inner : (keys : Bor Keys) (up : Bor declared.Layers) →
    layers_of (code.Inner keys up) ≡ inner (among keys.now) (layers_of up.now)
reads_inner keys up = ap layers_of (sym (code.rolls-Inner keys up)) ∙
    fold-roll-Layers Seen layers_step (forms.Inner keys up)

pub reads_recursive : (name : Bor Name) (up : Bor declared.Layers) →
    layers_of (code.Recursive name up) ≡ in_rec name.now (layers_of up.now)
reads_recursive name up = ap layers_of (sym (code.rolls-Recursive name up)) ∙
    fold-roll-Layers Seen layers_step (forms.Recursive name up)
