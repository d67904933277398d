use Rattle.strc_command.proofs.PrefixLaws.{text_after}
use Rattle.strc_command.proofs.tables.write_place.Goals as goal

pub returns-in_err-write_name : goal.returns-in_err-write_name
returns-in_err-write_name g c = text_after _ _ _ c.in_ok-write_pieces.ensures.told c.write_name.ensures

pub returns : goal.returns
returns g c =
    text_after _ _ _ (text_after _ _ _ c.in_ok-write_pieces.ensures.told c.in_ok-write_name.ensures)
    c.write_pieces-2.ensures.told
