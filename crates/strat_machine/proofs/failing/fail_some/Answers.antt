use Rattle.std.proofs.Common.{◌≡◌, suc, sym, arith}
use Rattle.strat_machine.proofs.OpenedLaws.{some_back}
use Rattle.strat_machine.proofs.FailLaws.{some_stands, step_to, other_is, some_ends, some_last, some_goes_on}
use Rattle.strat_machine.proofs.PortionLaws.{next_none, next_taken}
use Rattle.strat_machine.proofs.failing.fail_some.Goals as goal

pub returns-then-not-found-clause-step : goal.returns-then-not-found-clause-step
returns-then-not-found-clause-step g c = λ code M.
    some_ends c.args.mark c.back_to.ensures c.go_back.ensures c.cut.ensures c.args.stacks.now.records
    c.in_ok-taken.ensures.kept c.args.traversed c.args.part _ c.args.found c.if-not-found.true
    (next_none _ (rw c.in_default.is at c.in_ok-taken.ensures.part)) c.cut-then-not-found.ensures

pub returns-in_default-clause-step : goal.returns-in_default-clause-step
returns-in_default-clause-step g c = λ code M.
    some_last c.args.mark c.back_to.ensures c.go_back.ensures c.cut.ensures c.args.stacks.now.records
    c.in_ok-taken.ensures.kept c.args.traversed c.args.part _ _ c.args.found _ _
    c.if-not-found.false (next_none _ (rw c.in_default.is at c.in_ok-taken.ensures.part)) c.cut-in_default.ensures
    c.with_left.ensures c.in_ok-push_all.ensures c.saturating_sub-position.ensures

pub returns-clause-step : goal.returns-clause-step
returns-clause-step g c = λ code M.
    let v = c.args.traversed in
    let left = c.in-Some.taken.left in
    let other : c.with_left-others.result ≡ record v { done = suc v.done; left = left } =
    other_is _ _ _ left c.in_ok-one_more.ensures c.with_left-others.ensures in
    let tries = c.in_ok-try_some.ensures in
    step_to
    (some_goes_on c.args.mark c.back_to.ensures c.go_back.ensures c.cut.ensures c.args.stacks.now.records
    c.in_ok-taken.ensures.kept v c.args.part c.with_left-others.result c.in-Some.taken.part left _ other
    c.in_ok-push.ensures.pushed (next_taken _ (rw c.in-Some.is at c.in_ok-taken.ensures.part)) tries.saved tries.mark
    tries.saves tries.marks c.args.found)
    (sym tries.leads)

pub try_some-requires : goal.try_some-requires
try_some-requires g c =
    some_stands c.back_to.ensures c.requires.safe (next_taken _ (rw c.in-Some.is at c.in_ok-taken.ensures.part)).next

pub take_part-requires-clause-enough : goal.take_part-requires-clause-enough
take_part-requires-clause-enough g c =
    let enough = some_back c.back_to.ensures c.requires.safe c.requires.opened.0 in omega (arith, enough)
