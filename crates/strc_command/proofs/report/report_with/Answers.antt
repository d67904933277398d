use Rattle.std.proofs.Common.{◌∙◌, sym}
use Rattle.strc_command.proofs.CauseLaws.{alone}
use Rattle.strc_command.proofs.PrefixLaws.{tells, tells_after}
use Rattle.strc_command.proofs.report.report_with.Goals as goal

pub returns : goal.returns
returns g c =
    tells_after c.report.result c.write_all.result c.args.fault.now c.as_bytes.result.now _ _ _
    (g.E.Sink.writer.written c.args.diagnostics.now) (g.E.Sink.writer.written c.report.new.diagnostics)
    (g.E.Sink.writer.written c.write_all.new.sink)
    (sym c.is_err.ensures.value ∙ c.if-is_err.false) c.report.ensures.whole c.report.ensures.failed
    c.write_all.ensures.whole c.write_all.ensures.prefix c.write_all.ensures.failed

pub returns-in_default : goal.returns-in_default
returns-in_default g c =
    alone c.args.fault.now _ _ _ _
    (tells c.report.result c.args.fault.now _ _ _ _ c.report.ensures.whole c.report.ensures.prefix
    c.report.ensures.failed)
