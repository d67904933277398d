use Rattle.std.proofs.Common.{◌≡◌, ◌+◌, ◌-◌, arith}
use Rattle.std.proofs.lemmas.Result.{on_ok_weaker}
use Rattle.term_model.proofs.SpaceLemmas.{some_pushed}
use Rattle.term_model.proofs.rc_space.RcSpaceTermSpace.push_parts_from.Goals as goal

pub returns-clause-pushed : goal.returns-clause-pushed
returns-clause-pushed c =
    let many : c.args.from + c.args.count - c.args.from ≡ c.args.count = omega arith in
    on_ok_weaker c.push_all.result
    (some_pushed c.args.self.now c.args.at.now c.args.from _ c.args.count c.children.result.now
    c.args.stack.now.items c.push_all.new.stack.items c.requires.stands c.children.ensures many)
    c.push_all.ensures.pushed
