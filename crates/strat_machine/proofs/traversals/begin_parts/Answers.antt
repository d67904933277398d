use Rattle.std.proofs.Common.{ap, refl, sym}
use Rattle.strat_code.specs.CodeOf.{traversal_of}
use Rattle.strat_machine.specs.Traversing.{without_left}
use Rattle.strat_machine.proofs.OpenedLaws.{opened_at}
use Rattle.strat_machine.proofs.PartLaws.{all_first, one_first, some_first, all_first_opened, one_first_opened, some_first_opened}
use Rattle.strat_machine.proofs.traversals.begin_parts.Goals as goal

pub returns-in_ok-push_all-in-All-clause-step : goal.returns-in_ok-push_all-in-All-clause-step
returns-in_ok-push_all-in-All-clause-step g c =
    let rs = (without_left c.args.taken.left c.args.stacks.now).records in
    λ M n i at. all_first rs c.args.stacks.now.records refl c.args.position.now.address c.args.next_address
    _ _ _ _ c.in_ok-dup.ensures.same c.requires.taken at
    (ap traversal_of c.in-All.is) _ c.in_ok-push_all-in-All.ensures

pub returns-in_ok-push_all-in-All-clause-stays : goal.returns-in_ok-push_all-in-All-clause-stays
returns-in_ok-push_all-in-All-clause-stays g c =
    let rs = (without_left c.args.taken.left c.args.stacks.now).records in
    record {
      all = λ o. all_first_opened rs c.args.stacks.now.records refl c.args.position.now.address c.args.next_address
          _ _ _ _ c.in_ok-dup.ensures.same c.requires.taken o
          _ c.in_ok-push_all-in-All.ensures;
    }

pub returns-in_ok-try_one-in-One-clause-step : goal.returns-in_ok-try_one-in-One-clause-step
returns-in_ok-try_one-in-One-clause-step g c =
    let rs = (without_left c.args.taken.left c.args.stacks.now).records in
    let tries = c.in_ok-try_one-in-One.ensures in
    λ M n i at. one_first rs c.args.stacks.now.records refl c.args.position.now.address c.args.next_address
    _ _ _ _ c.in_ok-dup.ensures.same c.requires.taken at
    tries.saved tries.mark _ tries.saves tries.marks (ap traversal_of c.in-One.is) tries.leads

pub returns-in_ok-try_one-in-One-clause-stays : goal.returns-in_ok-try_one-in-One-clause-stays
returns-in_ok-try_one-in-One-clause-stays g c =
    let rs = (without_left c.args.taken.left c.args.stacks.now).records in
    let tries = c.in_ok-try_one-in-One.ensures in
    record {
      all = λ o. opened_at g.S.TermSpace.space c.args.space.now (sym tries.leads)
          (one_first_opened rs c.args.stacks.now.records refl c.args.position.now.address c.args.next_address
          _ _ _ _ c.in_ok-dup.ensures.same c.requires.taken o
          tries.saved tries.mark);
    }

pub returns-in_ok-try_some-in-Some-clause-step : goal.returns-in_ok-try_some-in-Some-clause-step
returns-in_ok-try_some-in-Some-clause-step g c =
    let rs = (without_left c.args.taken.left c.args.stacks.now).records in
    let tries = c.in_ok-try_some-in-Some.ensures in
    λ M n i at. some_first rs c.args.stacks.now.records refl c.args.position.now.address c.args.next_address
    _ _ _ _ c.in_ok-dup.ensures.same c.requires.taken at
    tries.saved tries.mark _ tries.saves tries.marks (ap traversal_of c.in-Some.is) tries.leads

pub returns-in_ok-try_some-in-Some-clause-stays : goal.returns-in_ok-try_some-in-Some-clause-stays
returns-in_ok-try_some-in-Some-clause-stays g c =
    let rs = (without_left c.args.taken.left c.args.stacks.now).records in
    let tries = c.in_ok-try_some-in-Some.ensures in
    record {
      all = λ o. opened_at g.S.TermSpace.space c.args.space.now (sym tries.leads)
          (some_first_opened rs c.args.stacks.now.records refl c.args.position.now.address c.args.next_address
          _ _ _ _ c.in_ok-dup.ensures.same c.requires.taken o
          tries.saved tries.mark);
    }
