use Rattle.std.proofs.Common.{sym}
use Rattle.str_parser.proofs.TokenLaws.{none_left}
use Rattle.str_parser.proofs.input.Input.is_empty.Goals as goal

pub returns : goal.returns
returns c = rw (c.is_empty.ensures, sym c.self.view_is) (none_left _ _)
