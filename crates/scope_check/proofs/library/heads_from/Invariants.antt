use Rattle.std.proofs.Common.{◌≡◌, ◌++◌, drop, map}
use Rattle.str_syntax.specs.Views.{section_of}
use Rattle.scope_check.specs.Seen.{heads_from, tops_in}
use Rattle.scope_check.specs.Tables.{heads_of}
use Rattle.scope_check.proofs.library.heads_from.Given as goal

abbrev pub invariant-loop-section : goal.invariant-loop-section
invariant-loop-section l = heads_of l.heads.items ++
    heads_from l.origin (tops_in (map section_of (drop l.section-index l.sections))) ≡
    heads_from l.origin (tops_in (map section_of l.sections))
