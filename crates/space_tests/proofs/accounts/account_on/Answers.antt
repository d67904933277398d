use Rattle.std.proofs.Common.{sym}
use Rattle.space_tests.proofs.accounts.account_on.Goals as goal

pub account-requires-clause-covers : goal.account-requires-clause-covers
account-requires-clause-covers c = rw (sym c.prims.ensures) (c.covers.ensures.0 (search (c.if-not-covers.false)))
