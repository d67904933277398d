use Rattle.prim_registry.specs.Entries.{entries_of}
use Rattle.term_model.proofs.SpaceLaws.{keeps_from}
use Rattle.strat_machine.proofs.AccountLaws.{account_says}
use Rattle.strat_machine.proofs.MachineLaws.{kept_then, names_kept}
use Rattle.strat_machine.proofs.machine.Machine.account.Goals as goal

pub returns-clause-account : goal.returns-clause-account
returns-clause-account g c = λ P main C i stands occurring resolved.
    let s = g.S.TermSpace.space in
    let keeps = keeps_from s c.self.view_is c.in_ok-program.ensures.keeps in
    account_says (entries_of c.args.registry.now) c.args.code.now.prims g.M.PrimMeaning.answer occurring
    c.requires.covers resolved stands c.in_ok-account.field-0 (keeps.standing c.args.term c.requires.stands)
    (keeps.terms c.args.term c.requires.stands) c.in_ok-account.ensures.account

pub returns-clause-kept : goal.returns-clause-kept
returns-clause-kept g c =
    let s = g.S.TermSpace.space in
    kept_then (keeps_from s c.self.view_is c.in_ok-program.ensures.keeps) c.in_ok-account.ensures.kept

pub returns-clause-names : goal.returns-clause-names
returns-clause-names g c =
    let s = g.S.TermSpace.space in
    names_kept (keeps_from s c.self.view_is c.in_ok-program.ensures.keeps) c.in_ok-account.ensures.names
