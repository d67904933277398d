use Rattle.std.proofs.Common.{◌≡◌, ◌≤◌, ◌-◌, ◌++◌, length, drop}
use Rattle.aterm_text.specs.Text.{items_text}
use Rattle.aterm_text.specs.Output.{Extends}
use Rattle.aterm_text.proofs.quoting.push_items.Given as goal

abbrev pub invariant-loop-index : goal.invariant-loop-index
invariant-loop-index l = record {
  bound : l.index ≤ length l.bytes;
  written : l.out.items ++ items_text (drop l.index l.bytes) ≡ l.fn.out.items ++ items_text l.bytes;
  kept : Extends l.fn.out.items l.out.items;
}

abbrev pub decreases-loop-index : goal.decreases-loop-index
decreases-loop-index l = length l.bytes - l.index
