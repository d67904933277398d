use Rattle.std.proofs.Common.{◌≡◌, sym, subst}
use Rattle.strat_code.specs.CodeOf.{IsCode, code_of}
use Rattle.strat_code.specs.Worked.{small_code}
use Rattle.space_tests.proofs.compiled.code_of_instructions.Goals as goal

-- the instructions are those of the worked code, which selects from no table
pub new-code-requires : goal.new-code-requires
new-code-requires c =
    subst (λ ts. IsCode (code_of ts c.in_ok-small_instrs.field-0.items) c.new-2.result) (sym c.new.ensures.items)
    (subst (λ v. IsCode v c.new-2.result) (sym c.in_ok-small_instrs.ensures)
    (subst (λ ps. IsCode small_code ps) (sym c.new-2.ensures) c.small_code_stands.ensures.is_code))
