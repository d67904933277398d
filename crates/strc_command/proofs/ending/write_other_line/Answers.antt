use Rattle.strc_command.proofs.PrefixLaws.{text_after}
use Rattle.strc_command.proofs.ending.write_other_line.Goals as goal

pub returns : goal.returns
returns g c =
    text_after _ _ _ (text_after _ _ _ c.in_ok-write_pieces.ensures.told c.in_ok-write_text_name.ensures)
    c.write_pieces-2.ensures.told

pub returns-in_err-write_text_name : goal.returns-in_err-write_text_name
returns-in_err-write_text_name g c = text_after _ _ _ c.in_ok-write_pieces.ensures.told c.write_text_name.ensures
