use Rattle.std.proofs.Common.{◌∙◌, sym, ap}
use Rattle.core_lang.specs.Environment.{definition_at}
use Rattle.core_lang.specs.Resolved.{callee_in}
use Rattle.core_lang.specs.Views.{definitions_of}
use Rattle.core_eval.specs.Frame.{environment_of}
use Rattle.core_eval.proofs.FrameLaws.{reads_definitions, reads_layer, closure_past, closure_there, definition_past, definition_there}
use Rattle.core_eval.proofs.callee.callee_at.Goals as goal

pub returns-in-Some : goal.returns-in-Some
returns-in-Some c =
    let home = environment_of c.layer-home.result.now in
    let read = ap environment_of c.in-Definitions.is ∙ reads_definitions _ _ in
    let slot = c.args.x.slot in
    ap (λ V. callee_in V slot) (sym c.layer-home.ensures ∙ read) ∙
    (ap (λ V. definition_at (definitions_of c.in-Definitions.defs.now) V slot) (sym read) ∙
    definition_there c.in-Definitions.defs.now home slot c.in-Some.def.now c.in-Some.ensures.lookup.3.0
    c.in-Some.ensures.lookup.1)

pub returns-in-None : goal.returns-in-None
returns-in-None c =
    let read = ap environment_of c.in-Definitions.is ∙ reads_definitions _ _ in
    let slot = c.args.x.slot in
    ap (λ V. callee_in V slot) (sym c.layer-home.ensures ∙ read) ∙
    definition_past c.in-Definitions.defs.now _ slot c.in-None.ensures.lookup.3

pub returns-in-Some-get : goal.returns-in-Some-get
returns-in-Some-get c =
    let read = ap environment_of c.in-Layer.is ∙ reads_layer _ _ _ _ _ in
    let slot = c.args.x.slot in
    ap (λ V. callee_in V slot) (sym c.layer-home.ensures ∙ read) ∙
    closure_there c.in-Layer.closures.now slot c.in-Some-get.closure.now c.in-Some-get.ensures.lookup.3.0
    c.in-Some-get.ensures.lookup.1

pub returns-in-None-get : goal.returns-in-None-get
returns-in-None-get c =
    let read = ap environment_of c.in-Layer.is ∙ reads_layer _ _ _ _ _ in
    let slot = c.args.x.slot in
    ap (λ V. callee_in V slot) (sym c.layer-home.ensures ∙ read) ∙
    closure_past c.in-Layer.closures.now slot c.in-None-get.ensures.lookup.3
