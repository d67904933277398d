use Rattle.std.proofs.Common.{◌≡◌, map, take}
use Rattle.std.specs.List.{concat}
use Rattle.str_pipeline.specs.Device.{Gains}
use Rattle.strc_command.proofs.ending.write_pieces.Given as goal

-- so far the pieces in front of the place were written
abbrev pub invariant-loop-piece : goal.invariant-loop-piece
invariant-loop-piece g l = record {
  written : Gains (g.E.Sink.writer.written l.initial.diagnostics) (g.E.Sink.writer.written l.diagnostics)
      (concat (map (λ piece. piece.now) (take l.piece-index l.pieces)));
  unfailed : g.E.Sink.writer.failed_writes l.diagnostics ≡ g.E.Sink.writer.failed_writes l.initial.diagnostics;
}
