use Rattle.std.proofs.Common.{sym, arith}
use Rattle.str_syntax.proofs.ReadLaws.{reads_tuple}
use Rattle.str_parser.proofs.PatternLaws.{tuple_of}
use Rattle.str_parser.proofs.pattern.parenthesize.Goals as goal

pub returns-then-len-ne1 : goal.returns-then-len-ne1
returns-then-len-ne1 c = rw reads_tuple (sym (tuple_of c.args.parts.items (λ e. omega (arith, e))))
