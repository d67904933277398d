use Rattle.strat_machine.proofs.NumberLaws.{number_of_list}
use Rattle.strat_machine.proofs.index.number_of_term.Goals as goal

pub returns-in-Some-list_len : goal.returns-in-Some-list_len
returns-in-Some-list_len g c =
    let s = g.S.TermSpace.space in
    number_of_list (s.knows c.args.space.now) (s.symbol_of c.args.space.now)
    s.number_of (s.term_of c.args.space.now c.args.at.now) c.in-Some-list_len.count c.in-Some-list_len.ensures
