use Rattle.std.proofs.Common.{refl}
use Rattle.term_model.proofs.SpaceLaws.{keeps_from, none_from}
use Rattle.strat_machine.proofs.MachineLaws.{kept_then, names_kept, same_outcome, ran_loaded}
use Rattle.strat_machine.proofs.machine.Machine.run.Goals as goal

pub returns-clause-run : goal.returns-clause-run
returns-clause-run g c = λ P main C i stands occurring resolved.
    let s = g.S.TermSpace.space in
    let keeps = keeps_from s c.self.view_is c.in_ok-loaded.ensures.keeps in
    same_outcome g.M.PrimMeaning.answer P main c.args.budget _ (keeps.terms c.args.term c.requires.stands) refl
    (c.in_ok-run.ensures.run P main C i stands occurring resolved)

pub returns-clause-steps : goal.returns-clause-steps
returns-clause-steps g c =
    let s = g.S.TermSpace.space in
    let keeps = keeps_from s c.self.view_is c.in_ok-loaded.ensures.keeps in
    let none = none_from s c.self.view_is c.in_ok-loaded.ensures.none in
    ran_loaded keeps none c.in_ok-run.ensures.steps

pub returns-clause-kept : goal.returns-clause-kept
returns-clause-kept g c =
    let s = g.S.TermSpace.space in
    kept_then (keeps_from s c.self.view_is c.in_ok-loaded.ensures.keeps) c.in_ok-run.ensures.kept

pub returns-clause-names : goal.returns-clause-names
returns-clause-names g c =
    let s = g.S.TermSpace.space in
    names_kept (keeps_from s c.self.view_is c.in_ok-loaded.ensures.keeps) c.in_ok-run.ensures.names

pub returns-in_err-run-clause-kept : goal.returns-in_err-run-clause-kept
returns-in_err-run-clause-kept g c =
    let s = g.S.TermSpace.space in
    kept_then (keeps_from s c.self.view_is c.in_ok-loaded.ensures.keeps) c.in_err-run.ensures.kept

pub returns-in_err-run-clause-names : goal.returns-in_err-run-clause-names
returns-in_err-run-clause-names g c =
    let s = g.S.TermSpace.space in
    names_kept (keeps_from s c.self.view_is c.in_ok-loaded.ensures.keeps) c.in_err-run.ensures.names
