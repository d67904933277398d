use Rattle.strc_command.proofs.stopping.stop_run.Goals as goal

pub returns-in-Write-clause-told : goal.returns-in-Write-clause-told
returns-in-Write-clause-told g c =
    λ writes some. rw c.in-Write.is (c.stop_writing.ensures.told writes (some c.in-Write.is))
