use Rattle.strc_command.proofs.PrefixLaws.{text_after}
use Rattle.strc_command.proofs.tables.write_row.Goals as goal

pub returns-in_err-write_place : goal.returns-in_err-write_place
returns-in_err-write_place g c = text_after _ _ _ c.in_ok-write_pieces.ensures.told c.write_place.ensures

pub returns : goal.returns
returns g c =
    text_after _ _ _ (text_after _ _ _ c.in_ok-write_pieces.ensures.told c.in_ok-write_place.ensures)
    c.write_pieces-2.ensures.told
