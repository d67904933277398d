use Rattle.std.proofs.Common.{rules}
use Rattle.strc_command.specs.Elements.{texts_in}
use Rattle.strc_command.specs.Runs.{change}
use Rattle.strc_command.proofs.RequestLaws.{answered_alone, no_texts}
use Rattle.strc_command.proofs.joined.run_input.Goals as goal

pub returns-then-is_empty-clause-ended : goal.returns-then-is_empty-clause-ended
returns-then-is_empty-clause-ended g c = λ below.
    answered_alone (g.P.Paths.text_at c.args.paths.now) (g.I.Source.reader.coming c.args.input.now)
    (texts_in c.args.request.now.libraries.items) c.args.request.now.output _
    (change g.W.Sink.writer c.args.out.now c.run_alone.new.out)
    (change g.E.Sink.writer c.args.diagnostics.now c.run_alone.new.diagnostics) _
    (no_texts (λ word. word.now) c.args.request.now.libraries.items (search rules))
    (c.run_alone.ensures.runs.ended below)
