use Rattle.std.proofs.Common.{◌≡◌, ◌-◌, arith, subst}
use Rattle.strat_machine.specs.PartsOf.{PutsParts}
use Rattle.strat_machine.proofs.FewParts.{none_put, one_put}
use Rattle.strat_machine.proofs.stack.push_few_parts.Goals as goal

pub loop-index-init : goal.loop-index-init
loop-index-init g c = record {
  after = c.requires.order;
  within = omega arith;
  put = none_put c.args.to c.args.stack.now;
}

pub loop-index-preserved : goal.loop-index-preserved
loop-index-preserved g c =
    let more = c.loop-index-test.true in
    let within = c.loop-index.invariant.within in
    let i = c.loop-index.index in
    let part = c.in_ok-part.ensures in
    record {
      after = omega (arith, more);
      within = omega (arith, within);
      put =
          one_put i (i - 1) c.args.to _ _ _ _ (omega (arith, more)) within part.term part.stands
          c.in_ok-push.ensures.pushed c.loop-index.invariant.put;
    }

pub returns : goal.returns
returns g c =
    let after = c.loop-index.invariant.after in
    let last = c.loop-index-test.false in
    let at : c.loop-index.index ≡ c.args.from = omega (arith, after, last) in
    subst (λ i. PutsParts g.S.TermSpace.space c.args.space.now c.args.of.now i c.args.to c.args.stack.now
    c.loop-index.stack) at c.loop-index.invariant.put
