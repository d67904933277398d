use Rattle.std.proofs.Common.{arith}
use Rattle.strc_command.proofs.PrefixLaws.{gains_none, piece_begun, piece_written, pieces_written, writing_failed}
use Rattle.strc_command.proofs.ending.write_pieces.Goals as goal

pub loop-piece-init : goal.loop-piece-init
loop-piece-init g c = record {
  written = gains_none (g.E.Sink.writer.written c.args.diagnostics.now);
  unfailed = omega arith;
}

pub loop-piece-preserved : goal.loop-piece-preserved
loop-piece-preserved g c = record {
  written = piece_written c.args.pieces.now c.loop-piece.piece-index _ _ _ _ c.loop-piece-test.true
      c.loop-piece.invariant.written c.in_ok-write_all.ensures.whole;
  unfailed = omega (arith, c.in_ok-write_all.ensures.failed, c.loop-piece.invariant.unfailed);
}

pub returns-in_err-write_all-clause-writes : goal.returns-in_err-write_all-clause-writes
returns-in_err-write_all-clause-writes g c =
    writing_failed c.from_residual.result _ _ _ _ _ c.from_residual.ensures.0
    (piece_begun c.args.pieces.now c.loop-piece.piece-index _ _ _ _ c.loop-piece-test.true
    c.loop-piece.invariant.written c.write_all.ensures.prefix)
    (omega (arith, c.in_err-write_all.ensures.failed, c.loop-piece.invariant.unfailed))

pub returns-in_err-write_all-clause-told : goal.returns-in_err-write_all-clause-told
returns-in_err-write_all-clause-told g c = (
  _,
  piece_begun c.args.pieces.now c.loop-piece.piece-index _ _ _ _ c.loop-piece-test.true
      c.loop-piece.invariant.written c.write_all.ensures.prefix,
)

pub returns-clause-writes : goal.returns-clause-writes
returns-clause-writes g c =
    pieces_written c.args.pieces.now c.loop-piece.piece-index _ _ _ _ c.loop-piece-test.false
    c.loop-piece.invariant.written c.loop-piece.invariant.unfailed

pub returns-clause-told : goal.returns-clause-told
returns-clause-told g c = (
  _,
  (pieces_written c.args.pieces.now c.loop-piece.piece-index _ _ _ _ c.loop-piece-test.false
      c.loop-piece.invariant.written c.loop-piece.invariant.unfailed).beginning,
)
