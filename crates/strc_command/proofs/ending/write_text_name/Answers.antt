use Rattle.strc_command.proofs.PrefixLaws.{text_after}
use Rattle.strc_command.proofs.ending.write_text_name.Goals as goal

pub returns : goal.returns
returns g c = text_after _ _ _ c.in_ok-write_pieces.ensures.told c.write_name.ensures
