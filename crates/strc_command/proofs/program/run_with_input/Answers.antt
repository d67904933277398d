use Rattle.std.proofs.Common.{map, refl}
use Rattle.strc_command.specs.Elements.{texts_in}
use Rattle.strc_command.specs.Files.{path_of}
use Rattle.strc_command.specs.Runs.{change}
use Rattle.strc_command.proofs.RequestLaws.{answered_over}
use Rattle.strc_command.proofs.program.run_with_input.Goals as goal

pub returns-clause-ended : goal.returns-clause-ended
returns-clause-ended g c = λ below.
    answered_over (g.P.Paths.text_at c.find_libraries.new.paths) (g.P.Paths.text_at c.args.paths.now)
    c.in-Ok.ensures.kept (texts_in c.args.request.now.libraries.items) (map path_of c.in-Ok.libraries.items)
    c.args.path.now _ _ c.args.request.now.output _ (change g.W.Sink.writer c.args.out.now c.run_definitions.new.out)
    (change g.E.Sink.writer c.args.diagnostics.now c.run_definitions.new.diagnostics) _
    (rw c.deref.ensures.value at c.in-Ok.ensures.named) refl
    (rw (
      c.new-reporting.ensures.libraries,
      c.new-reporting.ensures.definitions,
      c.new-reporting.ensures.output,
      c.deref-2.ensures.value,
      c.in-Ok.ensures.found,
    ) at c.run_definitions.ensures.ended below)
