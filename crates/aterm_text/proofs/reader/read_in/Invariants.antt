use Rattle.std.proofs.Common.{◌≡◌, ◌-◌, ◌<◌, false, length}
use Rattle.std.specs.Prelude.{slice_index}
use Rattle.term_model.specs.Bytes.{is_blank}
use Rattle.term_model.specs.Space.{Keeps}
use Rattle.aterm_text.specs.Brackets.{Reached}
use Rattle.aterm_text.proofs.reader.read_in.Given as goal

abbrev pub invariant-loop-index : goal.invariant-loop-index
invariant-loop-index g l =
    let w = g.S.TermSpace.space in
    record {
      keeps : Keeps w l.fn.space l.space;
      reached : Reached w l.space l.text l.reader l.next l.index;
      mark : l.index < length l.text → is_blank (slice_index l.text l.index) ≡ false;
    }

abbrev pub decreases-loop-index : goal.decreases-loop-index
decreases-loop-index g l = length l.text - l.index
