use Rattle.std.proofs.Common.{arith, ◌∙◌}
use Rattle.str_syntax.proofs.ReadLaws.{reads_tuple_congruence}
use Rattle.str_parser.proofs.CongruenceLaws.{not_sole}
use Rattle.str_parser.proofs.congruence.parenthesize.Goals as goal

pub returns-then-len-ne1 : goal.returns-then-len-ne1
returns-then-len-ne1 c =
    reads_tuple_congruence c.args.parts ∙ not_sole c.args.parts.items (λ e. absurd (omega arith))
