use Rattle.std.proofs.Common.{◌∙◌}
use Rattle.strc_command.proofs.WordLaws.{any_text}
use Rattle.strc_command.proofs.request.is_among.Goals as goal

pub returns : goal.returns
returns c = c.contains.ensures.value ∙ any_text c.args.words.now c.args.word.now
