use Rattle.std.proofs.Common.{◌∷◌, ◌∙◌, ap}
use Rattle.str_lexer.proofs.QuotedLaws.{read_more}
use Rattle.strc_command.proofs.RawLaws.{found_line, missing_line, same_end, other_end}
use Rattle.strc_command.proofs.raw.unquote.Goals as goal

pub loop-byte-preserved : goal.loop-byte-preserved
loop-byte-preserved c = rw c.in_ok-push.ensures.items (read_more _ _ _ _ _ c.loop-byte.invariant c.in-Some.ensures)

pub returns-then-ne : goal.returns-then-ne
returns-then-ne c =
    let first = c.in-Some-eq34-default in
    missing_line _ _ _ _ (first.ensures.cases.0 ∙
    ap (λ b. b ∷ first.quoted.now) first.field-0-0-test)
    c.loop-byte.invariant (rw c.in_default-item.is at c.item.ensures)
    (other_end _ _ _ (rw c.as_slice.ensures at c.ne.ensures) c.if-ne.true)

pub returns : goal.returns
returns c =
    let first = c.in-Some-eq34-default in
    found_line _ _ _ _ (first.ensures.cases.0 ∙
    ap (λ b. b ∷ first.quoted.now) first.field-0-0-test) c.loop-byte.invariant
    (same_end _ _ _ (rw c.as_slice.ensures at c.ne.ensures) c.if-ne.false)
