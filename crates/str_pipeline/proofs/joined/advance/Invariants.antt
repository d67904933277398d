use Rattle.std.proofs.Common.{ℕ, ◌+◌, ◌-◌, ◌*◌, length}
use Rattle.str_pipeline.specs.Search.{IsSearched}
use Rattle.str_pipeline.specs.declared.joined.Search.{Search}
use Rattle.str_pipeline.specs.declared.joined.Search.TheVariants.{AtLine, InLine}
use Rattle.str_pipeline.proofs.joined.advance.Given as goal

abbrev pub invariant-loop-search : goal.invariant-loop-search
invariant-loop-search l = IsSearched l.is_end l.known l.search

-- what is left to be searched
abbrev left : ℕ → Search → ℕ
left len (AtLine n) = 2 * (len - n) + 1
left len (InLine n) = 2 * (len - n)

abbrev pub decreases-loop-search : goal.decreases-loop-search
decreases-loop-search l = left (length l.known) l.search
