use Rattle.strc_command.proofs.PrefixLaws.{text_after}
use Rattle.strc_command.proofs.ending.write_remark.Goals as goal

pub returns : goal.returns
returns g c =
    text_after _ _ _ (text_after _ _ _ c.in_ok-write_name.ensures c.in_ok-write_pieces.ensures.told)
    c.write_mention.ensures

pub returns-in_err-write_pieces : goal.returns-in_err-write_pieces
returns-in_err-write_pieces g c = text_after _ _ _ c.in_ok-write_name.ensures c.write_pieces-2.ensures.told
