use Rattle.std.proofs.Common.{refl}
use Rattle.std.proofs.lemmas.Result.{IfOk-weaker}
use Rattle.term_model.proofs.SpaceLemmas.{made_again, own_again}
use Rattle.term_model.proofs.rc_space.RcSpaceTermSpace.rebuild.Goals as goal

pub returns-clause-unchanged : goal.returns-clause-unchanged
returns-clause-unchanged c = λ same.
    let t = c.args.at.now in
    IfOk-weaker c.rebuild.result _ _
    (λ m e. made_again t c.push_all-2.new.stack.items m c.requires.stands e
    (own_again t c.args.parts.now c.children-own.result.now _ _ c.push_all-2.new.stack.items _
    c.children-own.ensures c.in_ok-all.ensures.items c.in_ok-push_all.ensures.pushed
    c.in_ok-push_all-2.ensures.pushed refl same)) c.rebuild.ensures
