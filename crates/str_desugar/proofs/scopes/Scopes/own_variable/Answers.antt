use Rattle.std.proofs.Common.{◌∙◌, ap, sym}
use Rattle.core_lang.specs.Named.{written}
use Rattle.str_desugar.specs.Frames.{variable_slot}
use Rattle.str_desugar.specs.Layers.{layers_of}
use Rattle.str_desugar.proofs.BroughtLaws.{no_written}
use Rattle.str_desugar.proofs.ScopeLaws.{reads_brought}
use Rattle.str_desugar.proofs.scopes.Scopes.own_variable.Goals as goal

pub returns-in-Brought : goal.returns-in-Brought
returns-in-Brought c =
    sym (ap (λ s. variable_slot (layers_of s) (written c.args.wanted.now)) c.in-Brought.is ∙
    ap (λ F. variable_slot F (written c.args.wanted.now)) (reads_brought c.in-Brought.count c.in-Brought.outer) ∙
    no_written c.args.wanted.now c.in-Brought.count)
