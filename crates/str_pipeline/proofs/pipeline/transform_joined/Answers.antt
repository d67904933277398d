use Rattle.std.proofs.Common.{if◌then◌else◌}
use Rattle.str_pipeline.specs.Faults.{is_read_fault}
use Rattle.str_pipeline.proofs.AfterLaws.{none_added}
use Rattle.str_pipeline.proofs.pipeline.transform_joined.Goals as goal

pub returns-clause-reads : goal.returns-clause-reads
returns-clause-reads g c =
    let reads = c.transform_joined_with_notes.ensures.reads in
    record {
      read_failed = none_added (g.S.Source.reader.failed_reads c.transform_joined_with_notes.new.input)
          (g.S.Source.reader.failed_reads c.args.input.now)
          (if is_read_fault c.transform_joined_with_notes.result then 1 else 0) reads.read_failed;
      bounded = reads.bounded;
      defs_bounded = reads.defs_bounded;
      unread_told = reads.unread_told;
      judged_first = reads.judged_first;
    }

pub returns-clause-transforms : goal.returns-clause-transforms
returns-clause-transforms g c =
    let known = c.transform_joined_with_notes.ensures.transforms in
    record {
      written = known.written;
      begun = known.begun;
      refused = known.refused;
    }
