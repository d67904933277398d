-- What a writer that held nothing holds after a run.
use Rattle.std.proofs.Common.{◌≡◌, ℕ, List, [], Some}
use Rattle.str_pipeline.specs.declared.status.Status.{Status}
use Rattle.str_pipeline.specs.Setting.{Setting}
use Rattle.str_pipeline.specs.Written.{IsWritten, HasWritten}

same_held : (xs ys : List ℕ) → Some xs ≡ Some ys → xs ≡ ys
same_held xs ys same = cc

-- the bytes that it holds are the line
pub written_whole : (d t : List ℕ) (S : Setting) (status : Status) (held : List ℕ) →
    HasWritten d t S status (Some []) (Some held)
    → IsWritten d t S status held
written_whole d t S status held written = rw (same_held held written.line written.gained) written.is_written
