use Rattle.std.proofs.Common.{refl}
use Rattle.strc_command.proofs.PrettyLaws.{gains_before}
use Rattle.strc_command.proofs.pretty.Layout.close.Goals as goal

pub returns : goal.returns
returns c = gains_before c.copy.result c.args.self.now _ c.break_line.new.self _ c.args.bracket refl refl
    c.requires.outside c.requires.closing
    c.in_ok-break_line.ensures c.copy.ensures.text c.copy.ensures.place
