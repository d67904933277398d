use Rattle.core_lang.proofs.Worked as worked
use Rattle.core_lang.proofs.examples.small_program_resolved.Goals as goal

pub returns : goal.returns
returns c = record { resolves = worked.resolves_pair; same = worked.closure_resolved; in_range = worked.pair_in_range }
