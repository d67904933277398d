use Rattle.std.proofs.Common.{◌≡◌, ◌∙◌, ◌≤◌, length, drop, ap, arith}
use Rattle.std.proofs.lemmas.List.{take_rest}
use Rattle.strat_machine.proofs.SelectingLaws.{known_rest, nothing_left, walks_rest}
use Rattle.strat_machine.proofs.select.select_in.Goals as goal

pub returns-then-skipped-cases-clause-selects : goal.returns-then-skipped-cases-clause-selects
returns-then-skipped-cases-clause-selects g c = λ M n i.
    let s = g.S.TermSpace.space in
    let long : length c.as_slice-cases.result.now ≡ length c.args.table.now.cases.items =
    ap length c.as_slice-cases.ensures.value in
    let past : length c.args.table.now.cases.items ≤ c.args.skipped = omega (arith, long, c.if-skipped-cases.true) in
    nothing_left s (s.symbol_of c.args.space.now)
    c.args.space.now c.args.last c.args.position.now c.args.table.now.cases.items c.args.stacks.now M n i
    c.args.skipped past

pub walk_cases-requires-clause-known : goal.walk_cases-requires-clause-known
walk_cases-requires-clause-known g c =
    known_rest (g.S.TermSpace.space.knows c.args.space.now)
    c.args.table.now.cases.items _ c.args.skipped (take_rest c.as_slice-cases.result.now c.args.skipped ∙
    ap (drop c.args.skipped) c.as_slice-cases.ensures.value) c.requires.known.cases

pub returns-in-None-clause-selects : goal.returns-in-None-clause-selects
returns-in-None-clause-selects g c = λ M n i.
    let s = g.S.TermSpace.space in
    walks_rest s (s.symbol_of c.args.space.now)
    c.args.space.now c.args.last c.args.position.now c.args.table.now.cases.items c.args.stacks.now M n i
    c.args.skipped _ c.walk_cases.result c.walk_cases.new.position c.walk_cases.new.stacks
    (take_rest c.as_slice-cases.result.now c.args.skipped ∙
    ap (drop c.args.skipped) c.as_slice-cases.ensures.value) (c.walk_cases.ensures.selects M n i)
