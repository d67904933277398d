use Rattle.std.proofs.Common.{length, drop}
use Rattle.str_lexer.proofs.QuotedLaws.{ReadItems}
use Rattle.str_lexer.proofs.quoted.quoted_text.Given as goal

abbrev pub invariant-loop-byte : goal.invariant-loop-byte
invariant-loop-byte l = ReadItems (drop 1 l.text) l.bytes.items l.rest

abbrev pub decreases-loop-byte : goal.decreases-loop-byte
decreases-loop-byte l = length l.rest
