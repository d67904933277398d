use Rattle.scope_check.proofs.NameLaws.{noting_begins, noting_goes, noting_ends}
use Rattle.scope_check.proofs.names.add_names.Goals as goal

pub loop-name-init : goal.loop-name-init
loop-name-init c = noting_begins c.args.keys.now c.args.names.now c.args.findings.now

pub loop-name-preserved : goal.loop-name-preserved
loop-name-preserved c =
    noting_goes c.args.keys.now c.args.names.now c.loop-name.name-index c.loop-name.keys c.args.findings.now
    c.loop-name.findings c.name-item.result c.add_name.new.keys c.add_name.new.findings
    c.loop-name-test.true c.name-item.is c.loop-name.invariant c.in_ok-add_name.ensures.found
    c.in_ok-add_name.ensures.added

pub returns : goal.returns
returns c =
    let ends = noting_ends c.args.keys.now c.args.names.now c.loop-name.name-index c.loop-name.keys c.args.findings.now
    c.loop-name.findings c.loop-name-test.false c.loop-name.invariant in
    record { added = ends.0; found = ends.1 }
