use Rattle.std.proofs.Common.{arith}
use Rattle.aterm_text.proofs.StepLaws.{starts, blanks_after}
use Rattle.term_model.proofs.SpaceLaws.{keeps_same, keeps_then}
use Rattle.aterm_text.proofs.reader.read_in.Goals as goal

pub loop-index-init : goal.loop-index-init
loop-index-init g c =
    let w = g.S.TermSpace.space in
    let e = c.blanks_end-index.ensures in
    record {
      keeps = keeps_same _ _;
      reached = starts w c.args.space.now c.args.text.now c.new-reader.result c.blanks_end-index.result
          c.new-reader.ensures.opened c.new-reader.ensures.terms c.new-reader.ensures.fits e.high e.within;
      mark = e.stop;
    }

pub loop-index-smaller : goal.loop-index-smaller
loop-index-smaller g c = omega (
  arith,
  c.loop-index-test.true,
  c.in_ok-then.ensures.past,
  c.blanks_end-index-in-loop-index.ensures.low,
  c.blanks_end-index-in-loop-index.ensures.high,
)

pub loop-index-preserved : goal.loop-index-preserved
loop-index-preserved g c =
    let w = g.S.TermSpace.space in
    let e = c.blanks_end-index-in-loop-index.ensures in
    record {
      keeps = keeps_then c.loop-index.invariant.keeps c.step.ensures.keeps;
      reached = blanks_after w c.step.new.space c.args.text.now c.step.new.reader c.in_ok-then.then c.in_ok-then.end
          c.blanks_end-index-in-loop-index.result c.in_ok-then.ensures.reached e.low e.high e.within;
      mark = e.stop;
    }
