use Rattle.std.proofs.Common.{◌∙◌, Some, map, sym, ap}
use Rattle.core_lang.specs.Views as views
use Rattle.signature_core.specs.Signature.{arity_known}
use Rattle.str_syntax.specs.Views.{file_of}
use Rattle.str_desugar.specs.Forms.{read_forms, tops_at}
use Rattle.str_desugar.specs.Groups.{head_in}
use Rattle.str_desugar.proofs.TopLaws.{main_found, program_in_range, program_resolved, reduced}
use Rattle.str_desugar.proofs.program.core_among.Goals as goal

pub definitions-requires : goal.definitions-requires
definitions-requires c =
    c.requires.heads ∙ ap (λ ds. map head_in (tops_at (arity_known ds) (read_forms c.args.forms.now)))
    (sym c.signature.ensures.signature)

pub unwrap-main-requires : goal.unwrap-main-requires
unwrap-main-requires c =
    let forms = read_forms c.args.forms.now in
    let all = tops_at (arity_known c.signature.result.now) forms in
    let heads = ap (λ ds. map head_in (tops_at (arity_known ds) forms)) c.signature.ensures.signature ∙
    sym c.requires.heads in
    main_found _ _ all _
    (reduced (file_of c.args.checked.now.file) _ _ _ c.signature.result.now forms _ _ _ c.signature.ensures.checked
    c.signature.ensures.signature c.requires.forms c.main.ensures.main c.plain-key.ensures (c.keys.ensures all heads)
    c.position_of-found.ensures.called)

pub new-requires : goal.new-requires
new-requires c =
    let forms = read_forms c.args.forms.now in
    let all = tops_at (arity_known c.signature.result.now) forms in
    let heads = ap (λ ds. map head_in (tops_at (arity_known ds) forms)) c.signature.ensures.signature ∙
    sym c.requires.heads in
    program_in_range _ _ all _
    (reduced (file_of c.args.checked.now.file) _ _ _ c.signature.result.now forms _ _ _ c.signature.ensures.checked
    c.signature.ensures.signature c.requires.forms c.main.ensures.main c.plain-key.ensures (c.keys.ensures all heads)
    c.position_of-found.ensures.called)
    c.unwrap-main.result (views.definitions_of c.in_ok-defs.defs.items) c.unwrap-main.ensures c.in_ok-defs.ensures

pub returns : goal.returns
returns c =
    let forms = read_forms c.args.forms.now in
    let all = tops_at (arity_known c.signature.result.now) forms in
    let heads = ap (λ ds. map head_in (tops_at (arity_known ds) forms)) c.signature.ensures.signature ∙
    sym c.requires.heads in
    program_resolved (file_of c.args.checked.now.file) c.args.checked.now.main all _
    (reduced (file_of c.args.checked.now.file) _ _ _ c.signature.result.now forms _ _ _ c.signature.ensures.checked
    c.signature.ensures.signature c.requires.forms c.main.ensures.main c.plain-key.ensures (c.keys.ensures all heads)
    c.position_of-found.ensures.called)
    c.in_ok-core.core.main (views.definitions_of c.in_ok-core.core.defs) (c.unwrap-main.ensures ∙
    ap (λ i. Some i) (sym c.in_ok-core.ensures.main)) (ap views.definitions_of c.in_ok-core.ensures.definitions ∙
    c.in_ok-defs.ensures)
