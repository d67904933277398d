use Rattle.std.proofs.Common.{◌≡◌, ◌++◌, drop, map}
use Rattle.str_syntax.specs.Views.{top_of}
use Rattle.scope_check.specs.Seen.{heads_from}
use Rattle.scope_check.specs.Tables.{heads_of}
use Rattle.scope_check.proofs.library.add_tops.Given as goal

abbrev pub invariant-loop-one : goal.invariant-loop-one
invariant-loop-one l = heads_of l.heads.items ++
    heads_from l.origin (map top_of (drop l.one-index l.all)) ≡ heads_of l.initial.heads.items ++
    heads_from l.origin (map top_of l.all)
