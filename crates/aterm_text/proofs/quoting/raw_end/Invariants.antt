use Rattle.std.proofs.Common.{◌≡◌, ◌≤◌, ◌-◌, ◌++◌, length, drop}
use Rattle.std.specs.Prelude.{slice_range}
use Rattle.aterm_text.specs.Text.{items_text}
use Rattle.aterm_text.proofs.quoting.raw_end.Given as goal

abbrev pub invariant-loop-end : goal.invariant-loop-end
invariant-loop-end l = record {
  low : l.fn.index ≤ l.end;
  high : l.end ≤ length l.bytes;
  raw : items_text (drop l.fn.index l.bytes) ≡ slice_range l.bytes l.fn.index l.end ++ items_text (drop l.end l.bytes);
}

abbrev pub decreases-loop-end : goal.decreases-loop-end
decreases-loop-end l = length l.bytes - l.end
