use Rattle.std.proofs.Common.{arith}
use Rattle.str_parser.proofs.TypeLaws.{sole_length}
use Rattle.str_parser.proofs.sorts.sole.Goals as goal

pub returns-then-len-ne1 : goal.returns-then-len-ne1
returns-then-len-ne1 c = λ s e. let k = sole_length c.args.parts.items s e in absurd (omega arith)
