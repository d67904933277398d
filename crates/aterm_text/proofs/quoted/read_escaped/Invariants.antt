use Rattle.std.proofs.Common.{◌≡◌, ◌≤◌, ◌-◌, List, [], length}
use Rattle.aterm_text.specs.Depth.{Open}
use Rattle.aterm_text.specs.Reading.{InText, outcome_from}
use Rattle.aterm_text.proofs.quoted.read_escaped.Given as goal

abbrev pub invariant-loop-bytes : goal.invariant-loop-bytes
invariant-loop-bytes l = record {
  low : l.fn.index ≤ l.from;
  within : l.from ≤ length l.text;
  read : (s : List Open) → outcome_from l.text (InText [] s) l.fn.index ≡
      outcome_from l.text (InText l.bytes.items s) l.from;
}

abbrev pub decreases-loop-bytes : goal.decreases-loop-bytes
decreases-loop-bytes l = length l.text - l.from
