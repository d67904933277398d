use Rattle.std.proofs.Common.{◌<◌, ℕ, length, get_or, arith}
use Rattle.std.proofs.lemmas.Option.{slice_get-get_or}
use Rattle.strat_machine.specs.Tables.{case_has}
use Rattle.strat_machine.proofs.IndexLaws.{first_here, passes_entry}
use Rattle.strat_machine.proofs.NumberLaws.{known_read}
use Rattle.strat_machine.proofs.SelectingLaws.{not_has}
use Rattle.strat_machine.proofs.index.first_of.Goals as goal

pub has_root-requires-clause-known : goal.has_root-requires-clause-known
has_root-requires-clause-known g c =
    let entry : ℕ = get_or c.args.list.now c.loop-entry.entry-index 0 in
    let low = c.if-entry-limit.false in let limit = c.requires.limit in
    known_read (g.S.TermSpace.space.knows c.args.space.now)
    c.args.cases.now entry c.index-cases-entry.result c.requires.known (omega arith)

pub returns-then-has_root : goal.returns-then-has_root
returns-then-has_root g c =
    let s = g.S.TermSpace.space in
    let entry : ℕ = get_or c.args.list.now c.loop-entry.entry-index 0 in
    let low : entry < c.args.limit = omega (arith, c.if-entry-limit.false) in
    let below : entry < length c.args.cases.now = omega (arith, low, c.requires.limit) in
    first_here (case_has (s.symbol_of c.args.space.now) (s.term_of c.args.space.now c.args.term.now))
    c.args.cases.now c.args.list.now c.args.limit c.loop-entry.entry-index c.requires.rising c.loop-entry.invariant
    c.loop-entry-test.true
    (get_or c.args.cases.now entry c.index-cases-entry.result)
    low (slice_get-get_or c.args.cases.now entry c.index-cases-entry.result below)
    (c.has_root.ensures.0 c.if-has_root.true)

pub loop-entry-preserved : goal.loop-entry-preserved
loop-entry-preserved g c =
    let s = g.S.TermSpace.space in
    let entry : ℕ = get_or c.args.list.now c.loop-entry.entry-index 0 in
    let low : entry < c.args.limit = omega (arith, c.if-entry-limit.false) in
    let below : entry < length c.args.cases.now = omega (arith, low, c.requires.limit) in
    passes_entry (case_has (s.symbol_of c.args.space.now) (s.term_of c.args.space.now c.args.term.now))
    c.args.cases.now c.args.list.now c.args.limit c.loop-entry.entry-index c.requires.rising c.loop-entry.invariant
    c.loop-entry-test.true
    (get_or c.args.cases.now entry c.index-cases-entry.result)
    (slice_get-get_or c.args.cases.now entry c.index-cases-entry.result below)
    (not_has _ _ c.has_root.ensures c.if-has_root.false)
