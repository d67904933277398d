use Rattle.std.proofs.Common.{◌∙◌, sym}
use Rattle.strc_command.proofs.CauseLaws.{alone}
use Rattle.strc_command.proofs.PrefixLaws.{tells, text_follows}
use Rattle.strc_command.proofs.ending.report_findings.Goals as goal

pub returns : goal.returns
returns g c =
    text_follows c.report.result c.args.fault.now _ _
    (g.E.Sink.writer.written c.args.diagnostics.now) (g.E.Sink.writer.written c.report.new.diagnostics)
    (g.E.Sink.writer.written c.write_remarks.new.diagnostics)
    (sym c.is_err.ensures.value ∙ c.if-is_err.false) c.report.ensures.whole c.write_remarks.ensures

pub returns-then-is_err : goal.returns-then-is_err
returns-then-is_err g c =
    alone c.args.fault.now _ _ _ _
    (tells c.report.result c.args.fault.now _ _ _ _ c.report.ensures.whole c.report.ensures.prefix
    c.report.ensures.failed)
