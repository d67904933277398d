use Rattle.std.proofs.Common.{◌≡◌, ◌+◌, ◌≤◌, ◌-◌, ◌++◌, List, ℕ, vec_len}
use Rattle.str_pipeline.specs.Transfer.{Loses}
use Rattle.str_pipeline.proofs.source.read_onto.Given as goal

abbrev pub invariant-loop-count : goal.invariant-loop-count
invariant-loop-count g l =
    let S = g.S.Source in
    record {
      fits : vec_len l.bytes ≤ l.limit;
      given : (read : List ℕ) × (l.bytes.items ≡ l.initial.bytes.items ++ read) ×
          Loses (S.reader.coming l.initial.source) (S.reader.coming l.source) read;
      bounded : S.reader.reads l.source + vec_len l.initial.bytes ≤ S.reader.reads l.initial.source + vec_len l.bytes;
      unfailed : S.reader.failed_reads l.source ≡ S.reader.failed_reads l.initial.source;
    }

abbrev pub decreases-loop-count : goal.decreases-loop-count
decreases-loop-count g l = l.limit - vec_len l.bytes
