use Rattle.std.proofs.Common.{arith, ◌+◌, subst, refl}
use Rattle.term_store.specs.Space as stored
use Rattle.term_store.proofs.LawsOfSpace.{goes_nowhere}
use Rattle.term_store.proofs.space.StoreSpaceTermSpace.back_to.Goals as goal

pub overflow_add-small_integers : goal.overflow_add-small_integers
overflow_add-small_integers c =
    let few = c.held.ensures.few in
    let below = c.if-mark-held.true in
    let small = c.small_integers.ensures in
    omega (arith, few, below, small)

pub returns-else-mark-held-clause-back : goal.returns-else-mark-held-clause-back
returns-else-mark-held-clause-back c = goes_nowhere c.args.self.now c.args.mark c.held.result c.held.ensures.held
    c.held.ensures.small c.if-mark-held.false c.requires

pub returns-then-mark-held-clause-given_back : goal.returns-then-mark-held-clause-given_back
returns-then-mark-held-clause-given_back c =
    λ below. subst (λ n. stored.GoesBack c.args.self.now c.cut.new.self (n + c.args.mark)) c.small_integers.ensures
    c.cut.ensures

pub returns-else-mark-held-clause-given_back : goal.returns-else-mark-held-clause-given_back
returns-else-mark-held-clause-given_back c =
    let held = c.held.ensures.held in
    let far = c.if-mark-held.false in
    λ below. absurd (omega (arith, below, held, far))

pub returns-then-mark-held-clause-unchanged : goal.returns-then-mark-held-clause-unchanged
returns-then-mark-held-clause-unchanged c =
    let held = c.held.ensures.held in
    let below = c.if-mark-held.true in
    λ same. absurd (omega (arith, same, held, below))

pub returns-else-mark-held-clause-unchanged : goal.returns-else-mark-held-clause-unchanged
returns-else-mark-held-clause-unchanged c = λ same. refl
