use Rattle.strc_command.proofs.PrefixLaws.{text_after}
use Rattle.strc_command.proofs.ending.write_name.Goals as goal

pub returns-in_err-write_pieces : goal.returns-in_err-write_pieces
returns-in_err-write_pieces g c = text_after _ _ _ c.loop-character.invariant c.write_pieces.ensures.told

pub loop-character-preserved : goal.loop-character-preserved
loop-character-preserved g c = text_after _ _ _ c.loop-character.invariant c.write_pieces.ensures.told
