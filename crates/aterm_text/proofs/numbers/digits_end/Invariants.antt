use Rattle.std.proofs.Common.{◌≡◌, ◌≤◌, ◌-◌, List, length}
use Rattle.term_model.specs.IntegerBounds.{max_magnitude}
use Rattle.aterm_text.specs.Depth.{Open}
use Rattle.aterm_text.specs.Reading.{InDigits, outcome_from}
use Rattle.aterm_text.proofs.numbers.digits_end.Given as goal

abbrev pub invariant-loop-end : goal.invariant-loop-end
invariant-loop-end l = record {
  low : l.fn.index ≤ l.end;
  high : l.end ≤ length l.text;
  value : l.magnitude ≤ max_magnitude l.negative;
  read : (s : List Open) → outcome_from l.text (InDigits l.negative 0 s) l.fn.index ≡
      outcome_from l.text (InDigits l.negative l.magnitude s) l.end;
}

abbrev pub decreases-loop-end : goal.decreases-loop-end
decreases-loop-end l = length l.text - l.end
