use Rattle.std.proofs.Common.{length, refl}
use Rattle.std.proofs.lemmas.Option.{slice_get_read}
use Rattle.strat_machine.proofs.SelectingLaws.{known_table, selects_in, selects_no_table}
use Rattle.strat_machine.proofs.select.perform_select.Goals as goal

pub returns-in-None-clause-selects : goal.returns-in-None-clause-selects
returns-in-None-clause-selects g c = λ M n i.
    let s = g.S.TermSpace.space in
    selects_no_table s (s.symbol_of c.args.space.now)
    c.args.space.now c.args.last c.args.position.now c.args.tables.now c.args.stacks.now c.args.table c.args.skipped
    M n i c.in-None.ensures.lookup.3

pub select_in-requires-clause-known : goal.select_in-requires-clause-known
select_in-requires-clause-known g c =
    let s = g.S.TermSpace.space in
    known_table (s.knows c.args.space.now)
    s.number_of c.args.tables.now c.args.table c.in-Some.found.now c.requires.known
    (slice_get_read c.args.tables.now (length c.args.tables.now)
    c.args.table c.in-Some.found.now refl c.in-Some.ensures.lookup.3.0 c.in-Some.ensures.lookup.1)

pub returns-in-Some-clause-selects : goal.returns-in-Some-clause-selects
returns-in-Some-clause-selects g c = λ M n i.
    let s = g.S.TermSpace.space in
    selects_in s (s.symbol_of c.args.space.now)
    c.args.space.now c.args.last c.args.position.now c.args.tables.now c.args.stacks.now c.args.table c.args.skipped
    c.in-Some.found.now M n i c.select_in.result c.select_in.new.position c.select_in.new.stacks
    (slice_get_read c.args.tables.now (length c.args.tables.now)
    c.args.table c.in-Some.found.now refl c.in-Some.ensures.lookup.3.0 c.in-Some.ensures.lookup.1)
    (c.select_in.ensures.selects M n i)
