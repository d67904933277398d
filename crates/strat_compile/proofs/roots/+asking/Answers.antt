use Rattle.std.proofs.Common.{◌≡◌, ◌+◌, ◌-◌, ◌<◌, length, refl, ap, ◌∙◌, arith}
use Rattle.core_lang.specs.Roots.{root_of}
use Rattle.core_lang.specs.Views.{pattern_of, strategy_of}
use Rattle.strat_compile.specs.ChainOf.{roots_of}
use Rattle.strat_compile.specs.Layers.{site_of}
use Rattle.strat_compile.proofs.LayerLaws.{context_hidden, site_frameless, site_in_call}
use Rattle.strat_compile.proofs.AskLaws.{defined_found, inside_found, roots_pushed, match_asks, each_found, scope_asks, let_asks, choice_asks, arms_ask, arm_found}
use Rattle.strat_compile.proofs.roots.+asking.Goals as goal

pub roots_asked-returns-in_ok-push-in-Match-clause-asks : goal.roots_asked-returns-in_ok-push-in-Match-clause-asks
roots_asked-returns-in_ok-push-in-Match-clause-asks t c =
    match_asks _ _ _ _ _ _ c.in-Match.is (c.in_ok-root-in-Match.ensures ∙
    ap (λ p. root_of (pattern_of p)) c.pattern.ensures) (ap roots_of c.in_ok-push-in-Match.ensures.items ∙
    roots_pushed c.args.roots.now.items _)

pub roots_asked-returns-in-Choice-clause-asks : goal.roots_asked-returns-in-Choice-clause-asks
roots_asked-returns-in-Choice-clause-asks t c =
    each_found c.choice_asked.result
    (λ n. choice_asks _ _ _ _ _ _ _ _ _ _ n c.in-Choice.is c.as_slice-more.ensures.value c.deref-in-Choice-2.ensures
    c.deref-in-Choice.ensures) c.choice_asked.ensures.asks

pub roots_asked-returns-in-Scope-clause-asks : goal.roots_asked-returns-in-Scope-clause-asks
roots_asked-returns-in-Scope-clause-asks t c =
    each_found c.inside_asked.result (λ n. scope_asks _ _ _ _ _ _ _ n c.in-Scope.is c.deref-in-Scope.ensures)
    c.inside_asked.ensures.asks

pub roots_asked-returns-in-LetIn-clause-asks : goal.roots_asked-returns-in-LetIn-clause-asks
roots_asked-returns-in-LetIn-clause-asks t c =
    each_found c.inside_asked-in-LetIn.result (λ n. let_asks _ _ _ _ _ _ _ n c.in-LetIn.is c.deref-in-LetIn.ensures)
    c.inside_asked-in-LetIn.ensures.asks

pub choice_asked-returns-clause-asks : goal.choice_asked-returns-clause-asks
choice_asked-returns-clause-asks t c =
    arms_ask _ c.args.first.now c.args.more.now (strategy_of c.args.otherwise.now)
    _ _ _ _ _ _ _ _ c.in-Some.is c.in_ok-others.ensures.asks c.in-Some-2.is c.in_ok-nodes.ensures.asks
    c.in_ok-nodes-2.ensures

pub arms_asked-loop-index-preserved : goal.arms_asked-loop-index-preserved
arms_asked-loop-index-preserved t c =
    let i = c.loop-index.index - 1 in
    let next : c.loop-index.index ≡ i + 1 = omega (arith, c.loop-index-test.true) in
    let below : i < length c.args.arms.now = omega (arith, c.loop-index-test.true, c.loop-index.auto.index) in
    record {
      asks = arm_found _ c.args.arms.now i _ c.index-arms-index.result _ _ _ _ _ _ _ _ next below
          c.loop-index.invariant.asks c.in-Some-2.is c.in_ok-first.ensures.asks c.in_ok-nodes-2.ensures;
      limit = omega (arith, c.roots_asked-in-loop-index.ensures.limit, c.loop-index.invariant.limit);
    }

pub inside_asked-returns-clause-asks : goal.inside_asked-returns-clause-asks
inside_asked-returns-clause-asks t c =
    inside_found _ _ _ _ _ _ _ _ (context_hidden _ _ refl)
    c.in-Some.is c.in_ok-nodes.ensures.asks c.in_ok-nodes-2.ensures

pub defined_asked-returns-clause-asks : goal.defined_asked-returns-clause-asks
defined_asked-returns-clause-asks t c =
    defined_found (site_of c.args.layers.now)
    _ c.args.at _ c.in-Some.definition _ _ _ _ _ _ _ c.in-Some.ensures c.if-definition-gt0.false c.in-Some-2.is
    (c.in_ok-arguments.ensures.frameless (site_frameless _))
    (site_in_call _ _ _ c.as_slice.ensures.value) c.in-Some-3.is c.in_ok-nodes.ensures.asks c.in_ok-nodes-2.ensures
