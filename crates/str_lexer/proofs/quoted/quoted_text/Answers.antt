use Rattle.std.proofs.Common.{◌∷◌, ◌∙◌, ap}
use Rattle.str_lexer.proofs.QuotedLaws.{read_more, found_quoted, missing_quoted, after_first, not_first, not_empty}
use Rattle.str_lexer.proofs.quoted.quoted_text.Goals as goal

pub loop-byte-preserved : goal.loop-byte-preserved
loop-byte-preserved c = rw c.in_ok-push.ensures.items (read_more _ _ _ _ _ c.loop-byte.invariant c.in-Some.ensures)

pub returns-in_default-split_first : goal.returns-in_default-split_first
returns-in_default-split_first c =
    missing_quoted _ _ _ _ (after_first 34 c.args.text.now c.requires)
    c.loop-byte.invariant (rw c.in_default.is at c.item.ensures) (not_empty 34 _ c.in_default-split_first.ensures.cases)

pub returns-then-first-ne34 : goal.returns-then-first-ne34
returns-then-first-ne34 c = missing_quoted _ _ _ _ (after_first 34 c.args.text.now c.requires)
    c.loop-byte.invariant (rw c.in_default.is at c.item.ensures)
    (not_first 34 _ _ _ c.in-Some-split_first.ensures.cases.0 c.if-first-ne34.true)

pub returns : goal.returns
returns c = rw c.in_ok-text.ensures
    (found_quoted _ _ _ _ _ (after_first 34 c.args.text.now c.requires)
    c.loop-byte.invariant (c.in-Some-split_first.ensures.cases.0 ∙
    ap (λ b. b ∷ c.in-Some-split_first.others.now) c.if-first-ne34.false))
