-- Each way that reading a rule or a definition can go.
use Rattle.std.proofs.Common.{inr}
use Rattle.str_syntax.specs.Trees.{plain_sequence, last, plain_step, failure}
use Rattle.str_parser.proofs.WayLaws.{syntax_fault}
use Rattle.str_parser.proofs.PhraseLaws.{refused, made, at_made, makes_on, at_first, after_first}
use Rattle.str_parser.proofs.FormLaws.{form_pairs, after_colon, after_equals, sign_missing}
use Rattle.str_parser.proofs.form.form.Goals as goal

pub returns-in_err-head : goal.returns-in_err-head
returns-in_err-head c = refused (at_first form_pairs (inr (plain_sequence (last (plain_step failure)))))
    _ _ _ c.from_residual.ensures.1 c.in_err-head.ensures

pub returns-in_err-rule : goal.returns-in_err-rule
returns-in_err-rule c =
    let f = rw c.in-Some.ensures at c.in_ok-head.ensures in
    refused (at_made (makes_on after_colon (after_first form_pairs f)))
    _ _ _ c.from_residual-in_err-rule.ensures.1 c.in_err-rule.ensures

pub returns-in-Some : goal.returns-in-Some
returns-in-Some c =
    let f = rw c.in-Some.ensures at c.in_ok-head.ensures in
    made (makes_on after_colon (after_first form_pairs f)) c.in_ok-rule.ensures

pub returns-in_default-after : goal.returns-in_default-after
returns-in_default-after c =
    let m = sign_missing c.in_default.ensures c.in_default-after.ensures in
    syntax_fault _ c.syntax.ensures ((at_made (after_first form_pairs c.in_ok-head.ensures)).missing m)

pub returns-in_err-body : goal.returns-in_err-body
returns-in_err-body c =
    let f = rw c.in-Some-after.ensures at c.in_ok-head.ensures in
    refused (at_made (makes_on after_equals (after_first form_pairs f)))
    _ _ _ c.from_residual-in_err-body.ensures.1 c.in_err-body.ensures

pub returns : goal.returns
returns c =
    let f = rw c.in-Some-after.ensures at c.in_ok-head.ensures in
    rw c.in_ok-definition.ensures (made (makes_on after_equals (after_first form_pairs f)) c.in_ok-body.ensures)
