use Rattle.std.proofs.Common.{◌∙◌, map}
use Rattle.strc_command.specs.Elements.{texts_in}
use Rattle.strc_command.specs.Files.{libraries_left, path_of}
use Rattle.strc_command.specs.Runs.{change}
use Rattle.strc_command.proofs.OpeningLaws.{same_texts}
use Rattle.strc_command.proofs.RequestLaws.{answered_after}
use Rattle.strc_command.proofs.joined.run_after_libraries.Goals as goal

pub returns-clause-ended : goal.returns-clause-ended
returns-clause-ended g c = λ below.
    answered_after (g.P.Paths.text_at c.args.paths.now)
    (map g.P.Reader.Source.reader.coming (libraries_left c.in-Ok-open_in_front.files))
    (g.I.Source.reader.coming c.args.input.now) (texts_in c.args.request.now.libraries.items)
    (map path_of c.in-Ok.libraries.items) c.args.request.now.output _
    (change g.W.Sink.writer c.args.out.now c.run_joined.new.out)
    (change g.E.Sink.writer c.args.diagnostics.now c.run_joined.new.diagnostics) _
    (rw c.deref.ensures.value at c.in-Ok.ensures.named)
    (rw c.deref-2.ensures.value at c.in-Ok-open_in_front.ensures.texts
    ∙ same_texts (g.P.Paths.text_at c.find_libraries.new.paths) (g.P.Paths.text_at c.args.paths.now)
    c.in-Ok.ensures.kept (map path_of c.in-Ok.libraries.items))
    (rw (
      c.new-reporting.ensures.output,
      c.in-Ok-open_in_front.ensures.opened,
      c.in-Ok.ensures.found,
    ) at c.run_joined.ensures.runs.ended below)
