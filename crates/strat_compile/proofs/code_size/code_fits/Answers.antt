use Rattle.std.proofs.Common.{◌≤◌, ◌+◌, arith}
use Rattle.strat_code.specs.CodeOf.{code_of, instr_of}
use Rattle.strat_compile.specs.Size.{code_size, instr_size}
use Rattle.strat_compile.proofs.SizeLaws.{instr_next, none_left}
use Rattle.strat_compile.proofs.code_size.code_fits.Goals as goal

pub loop-instr-preserved : goal.loop-instr-preserved
loop-instr-preserved c = λ tables.
    let next = instr_next tables c.args.code.now c.loop-instr.instr-index c.instr-item.result c.loop-instr-test.true in
    let so_far = c.loop-instr.invariant tables in
    let taken = c.instr_fits.ensures c.if-not-instr_fits.false tables in
    omega (arith, next, so_far, rw c.instr-item.is at taken)

pub returns : goal.returns
returns c = λ e tables.
    let none = none_left tables c.args.code.now c.loop-instr.instr-index c.loop-instr-test.false in
    let so_far = c.loop-instr.invariant tables in
    omega (arith, none, so_far)
