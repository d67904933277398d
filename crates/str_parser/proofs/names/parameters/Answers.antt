use Rattle.std.proofs.Common.{None}
use Rattle.str_parser.proofs.WayLaws.{syntax_fault}
use Rattle.str_parser.proofs.PhraseLaws.{refused_any, carries_on, made_any, at_made, closed_any, at_closed, unclosed, at_first, after_any}
use Rattle.str_parser.proofs.NameLaws.{names_closed, parameter_pairs, opened, no_terms, barred, end_missing}
use Rattle.str_parser.proofs.names.parameters.Goals as goal

pub returns-in_err-strategies : goal.returns-in_err-strategies
returns-in_err-strategies c =
    rw c.in-Some.ensures (refused_any (carries_on (at_first parameter_pairs None) (at_made opened))
    _ _ _ c.from_residual.ensures.1 c.in_err-strategies.ensures)

pub returns-in-Some-after : goal.returns-in-Some-after
returns-in-Some-after c =
    let f = rw c.in-Some-after.ensures at c.in_ok-strategies.ensures in
    rw c.in-Some.ensures (made_any opened (made_any (after_any parameter_pairs f) no_terms))

pub returns-in_default-after-2 : goal.returns-in_default-after-2
returns-in_default-after-2 c =
    let m = end_missing c.in_default-after.ensures c.in_default-after-2.ensures in
    rw c.in-Some.ensures (syntax_fault _ c.syntax.ensures
    ((at_made opened).missing ((at_made (after_any parameter_pairs c.in_ok-strategies.ensures)).missing m)))

pub returns-in_err-terms : goal.returns-in_err-terms
returns-in_err-terms c =
    let f = rw c.in-Some-after-2.ensures at c.in_ok-strategies.ensures in
    rw c.in-Some.ensures (refused_any (carries_on (at_closed _ names_closed) (carries_on (at_made barred)
    (carries_on (at_made (after_any parameter_pairs f)) (at_made opened))))
    _ _ _ c.from_residual-in_err-terms.ensures.1 c.in_err-terms.ensures)

pub returns-in_default-after-3 : goal.returns-in_default-after-3
returns-in_default-after-3 c =
    let f = rw c.in-Some-after-2.ensures at c.in_ok-strategies.ensures in
    let m = (at_made barred).missing (unclosed _ names_closed c.in_ok-terms.ensures c.in_default-after-3.ensures) in
    rw c.in-Some.ensures (syntax_fault _ c.syntax-in_default-after-3.ensures
    ((at_made opened).missing ((at_made (after_any parameter_pairs f)).missing m)))

pub returns : goal.returns
returns c =
    let f = rw c.in-Some-after-2.ensures at c.in_ok-strategies.ensures in
    let g = rw c.in-Some-after-3.ensures at c.in_ok-terms.ensures in
    rw c.in-Some.ensures
    (made_any opened (made_any (after_any parameter_pairs f) (made_any barred (closed_any _ names_closed g))))
