use Rattle.std.proofs.Common.{◌∙◌, refl, sym, true≢false}
use Rattle.str_pipeline.specs.Setting.{setting_of}
use Rattle.strc_command.specs.Asked.{asked_in}
use Rattle.strc_command.proofs.CauseLaws.{memory_joined, memory_stops}
use Rattle.strc_command.proofs.program.run_request.Goals as goal

pub returns-in_default-clause-joined : goal.returns-in_default-clause-joined
returns-in_default-clause-joined g c = λ rewrites joined alone.
    memory_joined (asked_in c.args.request.now) (g.I.Source.reader.coming c.args.input.now) g.I.Source.reader
    (setting_of g.M.PrimMeaning.answer c.args.registry.now) g.W.Sink.writer g.E.Sink.writer c.args.input.now
    c.args.out.now c.args.diagnostics.now c.stop.new.diagnostics _ c.stop.ensures.status c.stop.ensures.told

pub returns-in_default-clause-stops : goal.returns-in_default-clause-stops
returns-in_default-clause-stops g c =
    memory_stops g.W.Sink.writer g.E.Sink.writer c.args.out.now c.args.diagnostics.now c.stop.new.diagnostics _
    (λ four. c.stop.ensures.told)

pub returns-then-request-clause-done : goal.returns-then-request-clause-done
returns-then-request-clause-done g c = record {
  status = c.run_check.ensures.status;
  ended = λ rewrites below. absurd (true≢false (sym c.if-request.true ∙ rewrites));
  judged = λ checks below. (c.in-Ok.options, c.in-Ok.ensures, c.run_check.ensures.judged below);
  unwritten = λ checks. refl;
}

pub returns-clause-done : goal.returns-clause-done
returns-clause-done g c = record {
  status = c.run_texts.ensures.status;
  ended = λ rewrites below. (c.in-Ok.options, c.in-Ok.ensures, c.run_texts.ensures.ended below);
  judged = λ checks below. absurd (true≢false (sym checks ∙ c.if-request.false));
  unwritten = λ checks. absurd (true≢false (sym checks ∙ c.if-request.false));
}

pub returns-clause-joined : goal.returns-clause-joined
returns-clause-joined g c = λ rewrites joined alone.
    let runs = c.run_texts.ensures.joined joined alone in record {
      ended = λ below. (c.in-Ok.options, c.in-Ok.ensures, runs.ended below);
      stopped = runs.stopped;
      begun = λ more. (c.in-Ok.options, c.in-Ok.ensures, runs.begun more);
      read_failed = runs.read_failed;
    }
