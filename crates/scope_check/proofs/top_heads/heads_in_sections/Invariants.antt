use Rattle.std.proofs.Common.{◌≡◌, ◌++◌, drop, map}
use Rattle.str_syntax.specs.Views.{section_of}
use Rattle.scope_check.specs.Seen.{head_of_top, tops_in}
use Rattle.scope_check.specs.Tables.{heads_of}
use Rattle.scope_check.proofs.top_heads.heads_in_sections.Given as goal

abbrev pub invariant-loop-section : goal.invariant-loop-section
invariant-loop-section l = heads_of l.heads.items ++
    map head_of_top (tops_in (map section_of (drop l.section-index l.sections))) ≡
    map head_of_top (tops_in (map section_of l.sections))
