use Rattle.std.proofs.Common.{◌≡◌, ◌+◌, ◌≤◌, ◌-◌, vec_len, false, if◌then◌else◌, IsTrue}
use Rattle.str_pipeline.specs.Transfer.{Loses, IsDry}
use Rattle.str_pipeline.specs.Search.{IsEarly, IsSearched}
use Rattle.str_pipeline.proofs.joined.read_front.Given as goal

abbrev pub invariant-loop-definitions : goal.invariant-loop-definitions
invariant-loop-definitions g l =
    let S = g.S.Source in
    record {
      searched : IsSearched false l.bytes.items l.search;
      given : Loses (S.reader.coming l.initial.input) (S.reader.coming l.input) l.bytes.items;
      ended : IsTrue l.is_ended → IsDry (S.reader.coming l.input);
      few : S.reader.reads l.input ≤ S.reader.reads l.initial.input + vec_len l.bytes + (if l.is_ended then 1 else 0);
      early : IsEarly (S.reader.coming l.initial.input) (S.reader.reads l.initial.input) (S.reader.reads l.input);
      bounded : S.reader.reads l.input ≤ S.reader.reads l.initial.input + l.limit + 7;
      unfailed : S.reader.failed_reads l.input ≡ S.reader.failed_reads l.initial.input;
    }

abbrev pub decreases-loop-definitions : goal.decreases-loop-definitions
decreases-loop-definitions g l = l.limit + 7 - vec_len l.bytes + (if l.is_ended then 0 else 1)
