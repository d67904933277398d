use Rattle.std.proofs.Common.{sym}
use Rattle.space_tests.proofs.accounts.account_of_run.Goals as goal

pub stand-requires-clause-covers : goal.stand-requires-clause-covers
stand-requires-clause-covers c = rw (sym c.prims.ensures) (c.covers.ensures.0 (search (c.if-not-covers.false)))

pub account-requires-clause-covers : goal.account-requires-clause-covers
account-requires-clause-covers c = rw (sym c.prims.ensures) (c.covers.ensures.0 (search (c.if-not-covers.false)))
