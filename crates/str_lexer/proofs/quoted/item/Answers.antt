use Rattle.str_lexer.proofs.QuotedLaws.{found_raw, raw_byte}
use Rattle.str_lexer.proofs.quoted.item.Goals as goal

pub returns : goal.returns
returns c = found_raw _ _ _ c.in_ok-first.ensures.cases.0
    (raw_byte c.in_ok-first.first.now c.if-first-eq92.false c.if-first-eq34.false c.if-first-eq10.false)
