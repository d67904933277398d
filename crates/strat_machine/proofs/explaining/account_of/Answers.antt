use Rattle.std.proofs.Common.{◌∙◌, arith}
use Rattle.strat_machine.proofs.AccountLaws.{account_made}
use Rattle.strat_machine.proofs.explaining.account_of.Goals as goal

pub ending_of-ending-requires : goal.ending_of-ending-requires
ending_of-ending-requires g c =
    let small = c.requires.budget in
    c.in_ok-progress.ensures.ended (omega arith)

pub returns-clause-account : goal.returns-clause-account
returns-clause-account g c =
    let p = c.in_ok-progress.progress in
    account_made p.next p.position c.run_part.new.stacks _ c.in_ok-progress.ensures.reached
    c.ending_of-ending.ensures (c.in_ok-progress.ensures.charged.all (c.in_ok-notes.ensures.room.rules ∙ c.len.ensures))

pub returns-clause-counts : goal.returns-clause-counts
returns-clause-counts g c =
    let room = c.in_ok-notes.ensures.room in
    let same = c.in_ok-progress.ensures.room in record {
      rules = c.in_ok-progress.ensures.charged.long ∙ room.rules ∙ c.len.ensures;
      reached = same.reached ∙ room.reached ∙ c.len.ensures;
      passed = same.passed ∙ room.passed ∙ c.len.ensures;
      unfinished = c.in_ok-unfinished.ensures;
    }
