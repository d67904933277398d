use Rattle.std.proofs.Common.{◌≡◌, fold, drop}
use Rattle.str_syntax.specs.SortHashing.{sorts_writes}
use Rattle.str_syntax.specs.Views.{sorts_of}
use Rattle.str_syntax.proofs.same_sort.+feed.Given as goal

abbrev pub invariant-feed_all-loop-sort : goal.invariant-feed_all-loop-sort
invariant-feed_all-loop-sort g l =
    fold g.H.Hasher.write l.state (sorts_writes (sorts_of (drop l.sort-index l.sorts))) ≡
    fold g.H.Hasher.write l.initial.state (sorts_writes (sorts_of l.sorts))
