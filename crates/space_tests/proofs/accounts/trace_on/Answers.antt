use Rattle.std.proofs.Common.{sym}
use Rattle.space_tests.proofs.accounts.trace_on.Goals as goal

pub trace-requires-clause-covers : goal.trace-requires-clause-covers
trace-requires-clause-covers c = rw (sym c.prims.ensures) (c.covers.ensures.0 (search (c.if-not-covers.false)))
