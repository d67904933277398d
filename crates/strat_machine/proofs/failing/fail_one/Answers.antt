use Rattle.std.proofs.Common.{◌≡◌, suc, sym, arith}
use Rattle.strat_machine.proofs.OpenedLaws.{one_back}
use Rattle.strat_machine.proofs.FailLaws.{one_stands, step_to, other_is, one_ends, one_goes_on}
use Rattle.strat_machine.proofs.PortionLaws.{next_none, next_taken}
use Rattle.strat_machine.proofs.failing.fail_one.Goals as goal

pub returns-in_default-clause-step : goal.returns-in_default-clause-step
returns-in_default-clause-step g c = λ code M.
    one_ends c.args.mark c.back_to.ensures c.go_back.ensures c.cut.ensures c.args.stacks.now.records
    c.in_ok-taken.ensures.kept c.args.traversed c.args.part _
    (next_none _ (rw c.in_default.is at c.in_ok-taken.ensures.part)) c.cut-in_default.ensures

pub returns-clause-step : goal.returns-clause-step
returns-clause-step g c = λ code M.
    let v = c.args.traversed in
    let left = c.in-Some.taken.left in
    let other : c.with_left-others.result ≡ record v { done = suc v.done; left = left } =
    other_is _ _ _ left c.in_ok-one_more.ensures c.with_left-others.ensures in
    let tries = c.in_ok-try_one.ensures in
    step_to
    (one_goes_on c.args.mark c.back_to.ensures c.go_back.ensures c.cut.ensures c.args.stacks.now.records
    c.in_ok-taken.ensures.kept v c.args.part c.with_left-others.result c.in-Some.taken.part left _ other
    c.in_ok-push.ensures.pushed (next_taken _ (rw c.in-Some.is at c.in_ok-taken.ensures.part)) tries.saved tries.mark
    tries.saves tries.marks)
    (sym tries.leads)

pub try_one-requires : goal.try_one-requires
try_one-requires g c =
    one_stands c.back_to.ensures c.requires.safe (next_taken _ (rw c.in-Some.is at c.in_ok-taken.ensures.part)).next

pub take_part-requires-clause-enough : goal.take_part-requires-clause-enough
take_part-requires-clause-enough g c =
    let enough = one_back c.back_to.ensures c.requires.safe c.requires.opened.0 in omega (arith, enough)
