use Rattle.std.proofs.Common.{◌∙◌, Some, sym}
use Rattle.scope_check.proofs.AlternativeLaws.{judging_begins, judging_ends, judging_goes, judging_refused}
use Rattle.scope_check.proofs.alternatives.find_in_group.Goals as goal

pub loop-head-init : goal.loop-head-init
loop-head-init c = judging_begins c.args.heads.now c.new-groups.result.by_key c.args.findings.now c.new-groups.ensures

pub loop-head-preserved-then-fits : goal.loop-head-preserved-then-fits
loop-head-preserved-then-fits c =
    judging_goes c.args.heads.now c.loop-head.head-index c.head-item.result c.loop-head.groups.by_key
    c.loop-head-test.true c.head-item.is c.loop-head.refused c.args.findings.now c.loop-head.findings
    c.loop-head.invariant c.add.new.self.by_key
    (sym c.in_ok-fits.ensures.fits ∙ c.if-fits.true) (c.in_ok-fits.ensures.added c.if-fits.true)

pub loop-head-preserved : goal.loop-head-preserved
loop-head-preserved c =
    judging_refused c.args.heads.now c.loop-head.head-index c.head-item.result c.loop-head.groups.by_key
    c.loop-head-test.true c.head-item.is c.loop-head.refused c.args.findings.now c.loop-head.findings
    c.loop-head.invariant c.add.new.self.by_key (Some c.head-item.result) c.note_refusal.new.findings
    (sym c.in_ok-fits.ensures.fits ∙ c.if-fits.false) c.note_refusal.ensures.first c.note_refusal.ensures.others

pub returns : goal.returns
returns c =
    judging_ends c.args.heads.now c.loop-head.head-index c.loop-head.groups.by_key c.loop-head.refused
    c.args.findings.now c.loop-head.findings c.loop-head-test.false c.loop-head.invariant
