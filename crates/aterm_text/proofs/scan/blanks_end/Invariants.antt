use Rattle.std.proofs.Common.{ℕ, ◌≡◌, ◌≤◌, ◌<◌, ◌-◌, length, true}
use Rattle.std.specs.Prelude.{slice_index}
use Rattle.term_model.specs.Bytes.{is_blank}
use Rattle.aterm_text.proofs.scan.blanks_end.Given as goal

abbrev pub invariant-loop-end : goal.invariant-loop-end
invariant-loop-end l = record {
  low : l.fn.index ≤ l.end;
  high : l.end ≤ length l.text;
  within : (k : ℕ) → l.fn.index ≤ k → k < l.end → is_blank (slice_index l.text k) ≡ true;
}

abbrev pub decreases-loop-end : goal.decreases-loop-end
decreases-loop-end l = length l.text - l.end
