use Rattle.std.proofs.Common.{◌≤◌, ◌+◌, drop}
use Rattle.strat_code.specs.CodeOf.{code_of}
use Rattle.strat_compile.specs.Size.{code_size}
use Rattle.strat_compile.proofs.code_size.code_fits.Given as goal

abbrev pub invariant-loop-instr : goal.invariant-loop-instr
invariant-loop-instr l = (tables : _) →
    code_size (code_of tables l.code) + l.limit ≤ code_size (code_of tables (drop l.instr-index l.code)) + l.fn.limit
