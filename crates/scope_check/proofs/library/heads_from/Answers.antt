use Rattle.std.proofs.Common.{map}
use Rattle.str_syntax.specs.declared.definition.Section.{Section}
use Rattle.str_syntax.specs.Views.{section_of}
use Rattle.scope_check.specs.Found.{tops_of}
use Rattle.scope_check.specs.Seen.{heads_from, tops_in}
use Rattle.scope_check.specs.Tables.{heads_of}
use Rattle.scope_check.proofs.HeadLaws.{more_heads_from, next_heads}
use Rattle.scope_check.proofs.library.heads_from.Goals as goal

pub loop-section-preserved : goal.loop-section-preserved
loop-section-preserved c =
    next_heads (λ (s : Section). heads_from c.args.origin (tops_of (section_of s)))
    (λ ss. heads_from c.args.origin (tops_in (map section_of ss)))
    (λ s ss. more_heads_from c.args.origin (section_of s) (map section_of ss))
    c.args.sections.now c.loop-section.section-index c.section-item.result
    (heads_of c.loop-section.heads.items) (heads_of c.add_section.new.heads.items)
    _ c.loop-section-test.true c.section-item.is c.in_ok-add_section.ensures c.loop-section.invariant
