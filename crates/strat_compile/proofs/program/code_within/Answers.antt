use Rattle.std.proofs.Common.{arith}
use Rattle.strat_compile.proofs.program.code_within.Goals as goal

pub returns-clause-within : goal.returns-clause-within
returns-clause-within c =
    let taken = c.code_fits.ensures c.if-not-code_fits.false c.in_ok-code.code.tables in
    omega (arith, rw c.instrs.ensures.same at taken)
