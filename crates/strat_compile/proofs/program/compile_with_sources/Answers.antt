use Rattle.std.proofs.Common.{sym, subst, ◌∙◌, ap₂}
use Rattle.core_lang.specs.Core.{program_of}
use Rattle.strat_code.specs.CodeOf.{code_of, IsCode}
use Rattle.strat_code.specs.StandsFor.{StandsFor}
use Rattle.strat_compile.specs.Located.{code_in}
use Rattle.strat_compile.specs.Output.{emitted_of}
use Rattle.strat_compile.proofs.ProgramLaws.{of_core, program_code, program_stands}
use Rattle.strat_compile.proofs.program.compile_with_sources.Goals as goal

pub new-requires : goal.new-requires
new-requires c =
    let core = c.args.core.now in
    let o = emitted_of c.in_ok-output.output in
    let emitted = of_core core _ _ o c.defs.ensures.same c.main.ensures c.in_ok-output.ensures in
    subst (λ k. IsCode k c.in_ok-prims.prims) (sym c.in_ok-finished.ensures)
    (subst (λ ps. IsCode (code_in o) ps) (sym (c.in_ok-prims.ensures ∙ c.prims.ensures.same))
    (program_code (program_of core)
    core.main o core.prims emitted
    (record { in_range = c.defs.ensures.in_range; occurring = c.defs.ensures.occurring })))

pub returns-clause-stands : goal.returns-clause-stands
returns-clause-stands c =
    let core = c.args.core.now in
    let o = emitted_of c.in_ok-output.output in
    let emitted = of_core core _ _ o c.defs.ensures.same c.main.ensures c.in_ok-output.ensures in
    subst (λ k. StandsFor k (program_of core) core.main)
    (sym (ap₂ (λ ts vs. code_of ts vs) c.new.ensures.tables c.new.ensures.instrs ∙ c.in_ok-finished.ensures))
    (program_stands (program_of core) core.main o emitted c.defs.ensures.in_range)
