use Rattle.std.proofs.Common.{sym}
use Rattle.str_lexer.proofs.QuotedLaws.{found_letter, escape_read}
use Rattle.str_lexer.proofs.quoted.escape.Goals as goal

pub returns-in_default : goal.returns-in_default
returns-in_default c = escape_read _ _ _ _ c.in_ok-first.ensures.cases.0
    (sym (rw c.in_default.is at c.unescaped.ensures)) c.octal.ensures

pub returns : goal.returns
returns c = found_letter _ _ _ _ c.in_ok-first.ensures.cases.0 (sym c.in-Some.ensures)
