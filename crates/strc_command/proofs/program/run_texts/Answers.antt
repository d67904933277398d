use Rattle.strc_command.proofs.program.run_texts.Goals as goal

pub returns-in-Joined-clause-ended : goal.returns-in-Joined-clause-ended
returns-in-Joined-clause-ended g c = λ below. rw c.in-Joined.is (c.run_input.ensures.ended below)

pub returns-in-Definitions-clause-ended : goal.returns-in-Definitions-clause-ended
returns-in-Definitions-clause-ended g c = λ below. rw c.in-Definitions.is (c.run_with_input.ensures.ended below)

pub returns-in-Both-clause-ended : goal.returns-in-Both-clause-ended
returns-in-Both-clause-ended g c = λ below. rw c.in-Both.is (c.run_with_term.ensures.ended below)
