use Rattle.std.proofs.Common.{◌∙◌, ap, sym, arith}
use Rattle.core_lang.specs.Named.{brought}
use Rattle.str_desugar.specs.Frames.{variable_slot}
use Rattle.str_desugar.specs.Layers.{layers_of}
use Rattle.str_desugar.proofs.BroughtLaws.{brought_at, brought_past, no_brought}
use Rattle.str_desugar.proofs.ScopeLaws.{reads_brought, reads_parameters, reads_variables}
use Rattle.str_desugar.proofs.scopes.Scopes.own_brought.Goals as goal

pub returns-then-index-count : goal.returns-then-index-count
returns-then-index-count c =
    sym (ap (λ s. variable_slot (layers_of s) (brought c.args.index)) c.in-Brought.is ∙
    ap (λ F. variable_slot F (brought c.args.index)) (reads_brought c.in-Brought.count c.in-Brought.outer) ∙
    brought_at c.args.index c.in-Brought.count c.if-index-count.true)

pub returns-else-index-count : goal.returns-else-index-count
returns-else-index-count c =
    let past = c.if-index-count.false in
    sym (ap (λ s. variable_slot (layers_of s) (brought c.args.index)) c.in-Brought.is ∙
    ap (λ F. variable_slot F (brought c.args.index)) (reads_brought c.in-Brought.count c.in-Brought.outer) ∙
    brought_past c.args.index c.in-Brought.count (omega arith))

pub returns-in-Variables : goal.returns-in-Variables
returns-in-Variables c =
    sym (ap (λ s. variable_slot (layers_of s) (brought c.args.index)) c.in-Variables.is ∙
    ap (λ F. variable_slot F (brought c.args.index)) (reads_variables c.in-Variables.names c.in-Variables.outer) ∙
    no_brought c.args.index c.in-Variables.names.now)

pub returns-in-Parameters : goal.returns-in-Parameters
returns-in-Parameters c =
    sym (ap (λ s. variable_slot (layers_of s) (brought c.args.index)) c.in-Parameters.is ∙
    ap (λ F. variable_slot F (brought c.args.index))
    (reads_parameters c.in-Parameters.strategies c.in-Parameters.terms c.in-Parameters.outer) ∙
    no_brought c.args.index c.in-Parameters.terms.now)
