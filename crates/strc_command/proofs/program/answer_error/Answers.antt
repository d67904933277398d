use Rattle.std.proofs.Common.{◌∙◌, arith, rules, sym}
use Rattle.term_model.specs.declared.fault.Fault.TheVariants.{Write}
use Rattle.strc_command.proofs.CauseLaws.{memory_stops, writing_stopped}
use Rattle.strc_command.proofs.program.answer_error.Goals as goal

pub returns-then-eq-clause-stops : goal.returns-then-eq-clause-stops
returns-then-eq-clause-stops g c = memory_stops _ _ _ _ _ _ (λ four. c.stop.ensures.told)

pub returns-in_default-clause-stops : goal.returns-in_default-clause-stops
returns-in_default-clause-stops g c = memory_stops _ _ _ _ _ _ (λ four. c.stop-in_default.ensures.told)

pub returns-then-is_err-clause-stops : goal.returns-then-is_err-clause-stops
returns-then-is_err-clause-stops g c = record {
  stopped = λ four. (
    Write,
    (omega arith, omega arith),
    writing_stopped c.write_all-2.result _ _ _ _ _ _ (sym c.is_err.ensures.value ∙
        c.if-is_err.true) c.write_all-2.ensures.failed c.stop_writing.ensures.told,
  );
  unwritten = search rules;
  write_failed = search rules;
}
