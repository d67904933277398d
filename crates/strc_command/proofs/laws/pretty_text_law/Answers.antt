use Rattle.strc_command.proofs.SpacedTerms.{spelled_alike, read_alike, result_read, example}
use Rattle.strc_command.proofs.laws.pretty_text_law.Goals as goal

pub returns-clause-spells : goal.returns-clause-spells
returns-clause-spells c = spelled_alike

pub returns-clause-reads : goal.returns-clause-reads
returns-clause-reads c = read_alike

pub returns-clause-result : goal.returns-clause-result
returns-clause-result c = result_read

pub returns-clause-example : goal.returns-clause-example
returns-clause-example c = example
