use Rattle.std.proofs.Common.{◌≡◌, ◌+◌, ◌-◌, ℕ, length, refl, arith}
use Rattle.std.proofs.lemmas.List.{take_rest}
use Rattle.std.proofs.lemmas.Option.{slice_get_read}
use Rattle.strat_machine.specs.Indexing.{nodes_before}
use Rattle.strat_machine.proofs.IndexLaws.{sums_within, sum_read, nodes_rise}
use Rattle.strat_machine.proofs.SelectingLaws.{known_rest, walks_rest, passes_all, comes_to_case}
use Rattle.strat_machine.proofs.select.select_by.Goals as goal

pub index-requires : goal.index-requires
index-requires g c = sums_within c.args.cases.now c.find_case-found.result c.args.index.now.sums.ok.0
    c.requires.index.sums c.find_case-found.ensures.within

pub index-requires-2 : goal.index-requires-2
index-requires-2 g c = sums_within c.args.cases.now c.args.skipped c.args.index.now.sums.ok.0 c.requires.index.sums
    c.requires.skipped

pub overflow_sub-nodes : goal.overflow_sub-nodes
overflow_sub-nodes g c =
    let cases = c.args.cases.now in
    let found = c.find_case-found.result in
    let to : c.index.result.now ≡ nodes_before cases found =
    sum_read cases found c.requires.index.sums c.find_case-found.ensures.within c.index.ensures in
    let from : c.index-2.result.now ≡ nodes_before cases c.args.skipped =
    sum_read cases c.args.skipped c.requires.index.sums c.requires.skipped c.index-2.ensures in
    let rise = nodes_rise cases c.args.skipped found c.find_case-found.ensures.from in
    omega (arith, to, from, rise)

pub walk_cases-requires-clause-known : goal.walk_cases-requires-clause-known
walk_cases-requires-clause-known g c =
    known_rest (g.S.TermSpace.space.knows c.args.space.now)
    c.args.cases.now _ c.args.skipped (take_rest c.args.cases.now c.args.skipped) c.requires.known

pub returns-then-stacks-nodes-clause-selects : goal.returns-then-stacks-nodes-clause-selects
returns-then-stacks-nodes-clause-selects g c = λ M n i.
    let s = g.S.TermSpace.space in
    walks_rest s (s.symbol_of c.args.space.now)
    c.args.space.now c.args.last c.args.position.now c.args.cases.now c.args.stacks.now M n i c.args.skipped _
    c.walk_cases.result c.walk_cases.new.position c.walk_cases.new.stacks
    (take_rest c.args.cases.now c.args.skipped) (c.walk_cases.ensures.selects M n i)

pub returns-in-None-clause-selects : goal.returns-in-None-clause-selects
returns-in-None-clause-selects g c = λ M n i.
    let s = g.S.TermSpace.space in
    let cases = c.args.cases.now in
    let found = c.find_case-found.result in
    let to : c.index.result.now ≡ nodes_before cases found =
    sum_read cases found c.requires.index.sums c.find_case-found.ensures.within c.index.ensures in
    let from : c.index-2.result.now ≡ nodes_before cases c.args.skipped =
    sum_read cases c.args.skipped c.requires.index.sums c.requires.skipped c.index-2.ensures in
    let rise = nodes_rise cases c.args.skipped found c.find_case-found.ensures.from in
    let cost : ℕ = c.index.result.now - c.index-2.result.now in
    let is : cost + nodes_before cases c.args.skipped ≡ nodes_before cases found = omega (arith, to, from, rise) in
    passes_all s (s.symbol_of c.args.space.now)
    c.args.space.now c.args.last c.args.position.now cases c.args.stacks.now c.args.skipped found cost
    c.find_case-found.ensures is c.if-stacks-nodes.false M n i c.in-None.ensures.lookup.3

pub returns-in-Some-clause-selects : goal.returns-in-Some-clause-selects
returns-in-Some-clause-selects g c = λ M n i.
    let s = g.S.TermSpace.space in
    let cases = c.args.cases.now in
    let found = c.find_case-found.result in
    let to : c.index.result.now ≡ nodes_before cases found =
    sum_read cases found c.requires.index.sums c.find_case-found.ensures.within c.index.ensures in
    let from : c.index-2.result.now ≡ nodes_before cases c.args.skipped =
    sum_read cases c.args.skipped c.requires.index.sums c.requires.skipped c.index-2.ensures in
    let rise = nodes_rise cases c.args.skipped found c.find_case-found.ensures.from in
    let cost : ℕ = c.index.result.now - c.index-2.result.now in
    let is : cost + nodes_before cases c.args.skipped ≡ nodes_before cases found = omega (arith, to, from, rise) in
    comes_to_case s (s.symbol_of c.args.space.now)
    c.args.space.now c.args.last c.args.position.now cases c.args.stacks.now c.args.skipped found cost
    c.find_case-found.ensures is c.if-stacks-nodes.false c.in-Some.case.now
    (slice_get_read cases (length cases)
    found c.in-Some.case.now refl c.in-Some.ensures.lookup.3.0 c.in-Some.ensures.lookup.1) M n i
