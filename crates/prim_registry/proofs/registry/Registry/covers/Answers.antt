use Rattle.std.proofs.Common.{rules, IsTrue, Contains, refl, sym, subst, below_more, arith}
use Rattle.std.proofs.lemmas.Grind.{common_steps}
use Rattle.prim_registry.specs.Entries.{entries_of}
use Rattle.prim_registry.proofs.registry.Registry.covers.Goals as goal

pub returns-then-not-has : goal.returns-then-not-has
returns-then-not-has g c = (
  λ h. cc,
  λ h. let there : IsTrue c.has.result =
      c.has.ensures.1 (subst (λ key. Contains (entries_of c.args.self.now) key) (sym c.at-arity.ensures)
      (h c.loop-index.index (omega arith))) in grind (arith, common_steps, there),
)

pub loop-index-preserved : goal.loop-index-preserved
loop-index-preserved g c =
    let true_here : IsTrue c.has.result = search rules in
    below_more _ _ c.loop-index.invariant
    (subst (λ key. Contains (entries_of c.args.self.now) key) c.at-arity.ensures (c.has.ensures.0 true_here))

pub returns : goal.returns
returns g c = (
  λ _ i below. c.loop-index.invariant i (omega arith),
  λ _. refl,
)
