use Rattle.std.proofs.Common.{arith, sym, ◌∙◌}
use Rattle.std.proofs.lemmas.Grind.{common_steps}
use Rattle.str_pipeline.proofs.DeviceLemmas.{front_given, nothing_left}
use Rattle.str_pipeline.proofs.faulty.calls.FaultySource.read.Goals as goal

pub returns-clause-bytes : goal.returns-clause-bytes
returns-clause-bytes c =
    let device = c.begins_badly.new.self in
    let same = sym c.begins_badly.ensures.coming in (
      same ∙ front_given device.bytes.items _ _ device.taken c.min-count.result
          (rw c.deref.ensures.value at c.copy_from_slice.ensures.after) (grind (arith, common_steps)),
      λ none room. nothing_left device.bytes.items _ (grind (arith, common_steps)),
    )
