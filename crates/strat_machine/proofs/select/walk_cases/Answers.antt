use Rattle.std.proofs.Common.{refl}
use Rattle.strat_machine.proofs.SelectingLaws.{case_known, not_has, selects_case, spent_at_case, passes_case, passed_all}
use Rattle.strat_machine.proofs.select.walk_cases.Goals as goal

pub has_root-requires-clause-known : goal.has_root-requires-clause-known
has_root-requires-clause-known g c =
    case_known (g.S.TermSpace.space.knows c.args.space.now)
    c.args.cases.now c.loop-case.case-index c.case-item.result c.requires.known c.loop-case-test.true c.case-item.is

pub returns-then-has_root-clause-selects : goal.returns-then-has_root-clause-selects
returns-then-has_root-clause-selects g c = λ M n i.
    let s = g.S.TermSpace.space in
    rw c.loop-case.invariant.0 (selects_case s (s.symbol_of c.args.space.now)
    c.args.space.now c.args.last c.args.position.now c.args.cases.now c.args.stacks.now c.loop-case.case-index
    c.loop-case.stacks
    c.loop-case.invariant.1 c.case-item.result c.loop-case-test.true c.case-item.is M n i
    (rw c.loop-case.invariant.0 at c.has_root.ensures.0 c.if-has_root.true))

pub returns-then-stacks-case-clause-selects : goal.returns-then-stacks-case-clause-selects
returns-then-stacks-case-clause-selects g c = λ M n i.
    let s = g.S.TermSpace.space in
    spent_at_case s (s.symbol_of c.args.space.now)
    c.args.space.now c.args.last c.args.position.now c.args.cases.now c.args.stacks.now c.loop-case.case-index
    c.loop-case.stacks
    c.loop-case.invariant.1 c.case-item.result c.loop-case-test.true c.case-item.is M n i
    (not_has _ _ (rw c.loop-case.invariant.0 at c.has_root.ensures) c.if-has_root.false) c.if-stacks-case.true

pub loop-case-preserved : goal.loop-case-preserved
loop-case-preserved g c =
    let s = g.S.TermSpace.space in (
      c.loop-case.invariant.0,
      passes_case s (s.symbol_of c.args.space.now)
          c.args.space.now c.args.last c.args.position.now c.args.cases.now c.args.stacks.now c.loop-case.case-index
          c.loop-case.stacks
          c.loop-case.invariant.1 c.case-item.result c.loop-case-test.true c.case-item.is _
          (not_has _ _ (rw c.loop-case.invariant.0 at c.has_root.ensures) c.if-has_root.false)
          c.if-stacks-case.false refl,
    )

pub returns-clause-selects : goal.returns-clause-selects
returns-clause-selects g c = λ M n i.
    let s = g.S.TermSpace.space in
    rw c.loop-case.invariant.0 (passed_all s (s.symbol_of c.args.space.now)
    c.args.space.now c.args.last c.args.position.now c.args.cases.now c.args.stacks.now c.loop-case.case-index
    c.loop-case.stacks
    c.loop-case.invariant.1 M n i c.loop-case-test.false)
