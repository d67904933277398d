use Rattle.std.proofs.Common.{map}
use Rattle.strc_command.specs.Elements.{texts_in}
use Rattle.strc_command.specs.Files.{path_of}
use Rattle.strc_command.specs.Runs.{change}
use Rattle.strc_command.proofs.RequestLaws.{judged_over}
use Rattle.strc_command.proofs.checking.check_named.Goals as goal

pub returns-clause-judged : goal.returns-clause-judged
returns-clause-judged g c = λ below.
    judged_over (g.P.Paths.text_at c.find_libraries.new.paths) (g.P.Paths.text_at c.args.paths.now)
    c.in-Ok.ensures.kept (texts_in c.args.request.now.libraries.items) (map path_of c.in-Ok.libraries.items)
    c.args.path.now _ (change g.E.Sink.writer c.args.diagnostics.now c.check_files.new.diagnostics) _
    (rw c.deref.ensures.value at c.in-Ok.ensures.named)
    (rw (
      c.new-reporting.ensures.libraries,
      c.new-reporting.ensures.definitions,
      c.deref-2.ensures.value,
      c.in-Ok.ensures.found,
    ) at c.check_files.ensures.judged below)
