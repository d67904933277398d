use Rattle.std.proofs.Common.{refl}
use Rattle.str_lexer.proofs.LexLaws.{lex_gap, lex_token, lex_stops, lex_ends, end_of, shorter_still, is_empty_list, not_empty_list}
use Rattle.str_lexer.proofs.TokenLaws.{token_shorter}
use Rattle.str_lexer.proofs.lexer.cut.Goals as goal

pub loop-rest-preserved-in-Some : goal.loop-rest-preserved-in-Some
loop-rest-preserved-in-Some c =
    (lex_gap _ _ _ _ _ c.loop-rest.invariant.0 c.in-Some.ensures.begins, c.loop-rest.invariant.1)

pub returns-in_default-2 : goal.returns-in_default-2
returns-in_default-2 c = lex_stops _ _ _ c.loop-rest.invariant.0
    (not_empty_list _ _ c.is_empty.ensures c.loop-rest-test.true) (rw c.in_default.is at c.gap.ensures)
    (rw c.in_default-2.is at c.in_ok-kind.ensures)

pub loop-rest-preserved : goal.loop-rest-preserved
loop-rest-preserved c =
    let b = rw c.in-Some-2.is at c.in_ok-kind.ensures in
    let w = c.loop-rest.invariant.0.within in
    let v = shorter_still (token_shorter _ _ _ b) w in
    rw c.in_ok-push.ensures.items (
      lex_token _ _ _ _ _ c.loop-rest.invariant.0
          (record { begins = b; from = end_of _ _ _ w refl; to = end_of _ _ _ v refl }),
      c.first_left_out-left_out.ensures c.loop-rest.tokens.items c.loop-rest.invariant.1,
    )

pub returns : goal.returns
returns c = (
  lex_ends _ _ _ c.loop-rest.invariant.0 (is_empty_list _ _ c.is_empty.ensures c.loop-rest-test.false),
  c.loop-rest.invariant.1,
)
