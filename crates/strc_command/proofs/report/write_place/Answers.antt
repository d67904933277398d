use Rattle.std.proofs.Common.{◌≡◌, ◌∙◌, codes, decimal}
use Rattle.strc_command.proofs.PrefixLaws.{begins_first, begins_second}
use Rattle.strc_command.proofs.report.write_place.Goals as goal

pub returns-in_err-write_all-clause-prefix : goal.returns-in_err-write_all-clause-prefix
returns-in_err-write_all-clause-prefix g c =
    rw c.in-Some.is (begins_first _ _ (codes " at byte ") (decimal c.in-Some.at) c.write_all.ensures.prefix)

pub returns-clause-prefix : goal.returns-clause-prefix
returns-clause-prefix g c =
    let written : c.as_bytes.result.now ≡ decimal c.in-Some.at = c.as_bytes.ensures.value ∙ c.format.ensures.text in
    rw c.in-Some.is
    (begins_second (g.E.Sink.writer.written c.args.diagnostics.now) (g.E.Sink.writer.written c.write_all.new.sink)
    (g.E.Sink.writer.written c.write_all-2.new.sink)
    (codes " at byte ") (decimal c.in-Some.at)
    c.in_ok-write_all.ensures.whole (rw written at c.write_all-2.ensures.prefix))
