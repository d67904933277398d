use Rattle.std.proofs.Common.{◌∙◌, refl}
use Rattle.strat_machine.specs.Tables.{case_has}
use Rattle.strat_machine.proofs.IndexLaws.{group_read, open_rises, group_rises, finds_first, same_list}
use Rattle.strat_machine.proofs.NumberLaws.{known_at}
use Rattle.strat_machine.proofs.index.find_case.Goals as goal

pub first_in-limit-requires-clause-rising : goal.first_in-limit-requires-clause-rising
first_in-limit-requires-clause-rising g c =
    open_rises g.S.TermSpace.space.number_of c.requires.index.groups c.deref.ensures.value

pub first_in-requires-clause-rising : goal.first_in-requires-clause-rising
first_in-requires-clause-rising g c =
    group_rises g.S.TermSpace.space.number_of c.requires.index.groups c.number_of_term-number.result
    (group_read c.args.index.now.groups.closed.items c.requires.index.groups.some c.number_of_term-number.result
    (c.len.ensures ∙ c.args.index.now.groups.closed.ok.0) c.index-group.ensures c.deref-2.ensures.value)

pub returns : goal.returns
returns g c =
    let s = g.S.TermSpace.space in
    let groups = c.requires.index.groups in
    let number = c.number_of_term-number.result in
    finds_first (case_has (s.symbol_of c.args.space.now) (s.term_of c.args.space.now c.args.term.now))
    c.args.cases.now s.number_of c.args.index.now.groups groups number
    (λ j x m is numbered held. c.number_of_term-number.ensures x.root m
    (known_at (s.knows c.args.space.now) c.args.cases.now j x c.requires.known is) numbered held)
    c.args.skipped c.first_in-limit.result c.first_in.result c.deref-2.result.now c.requires.skipped
    (group_read c.args.index.now.groups.closed.items groups.some number (c.len.ensures ∙
    c.args.index.now.groups.closed.ok.0) c.index-group.ensures c.deref-2.ensures.value)
    (same_list c.deref.ensures.value refl c.first_in-limit.ensures) c.first_in.ensures
