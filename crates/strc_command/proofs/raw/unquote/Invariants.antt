use Rattle.std.proofs.Common.{length}
use Rattle.str_lexer.proofs.QuotedLaws.{ReadItems}
use Rattle.strc_command.proofs.raw.unquote.Given as goal

abbrev pub invariant-loop-byte : goal.invariant-loop-byte
invariant-loop-byte l = ReadItems l.initial.rest l.bytes.items l.rest

abbrev pub decreases-loop-byte : goal.decreases-loop-byte
decreases-loop-byte l = length l.rest
