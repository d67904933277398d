use Rattle.std.proofs.Common.{sym}
use Rattle.str_parser.proofs.WayLaws.{syntax_fault}
use Rattle.str_parser.proofs.PatternLaws.{brace_missing}
use Rattle.str_parser.proofs.pattern.refuse_annotations.Goals as goal

pub returns-then-is_some : goal.returns-then-is_some
returns-then-is_some c = λ m k ts f. syntax_fault _ c.refusal.ensures
    (brace_missing m k _ c.after.ensures (sym c.if-is_some.ensures) f)
