use Rattle.std.proofs.Common.{◌∷◌, refl, ap, ◌∙◌, arith}
use Rattle.strat_code.specs.CodeOf.{root_of}
use Rattle.strat_compile.specs.ChainOf.{roots_of}
use Rattle.strat_compile.proofs.AskLaws.{roots_pushed, roots_long, begins_joins, asks_joins}
use Rattle.strat_compile.proofs.roots.joining.Goals as goal

pub returns-in-Some-clause-joins : goal.returns-in-Some-clause-joins
returns-in-Some-clause-joins c =
    begins_joins _ c.args.arm.now _ _ _ (c.if-not-does_nothing.ensures refl) c.in_ok-root.ensures c.in-Some.is
    (ap roots_of c.in_ok-push.ensures.items ∙ roots_pushed c.new-roots.result.items _ ∙
    ap (λ xs. root_of c.in-Some.field-0.root ∷ roots_of xs) c.new-roots.ensures.items)

pub returns-clause-joins : goal.returns-clause-joins
returns-clause-joins c =
    asks_joins _ c.args.arm.now _ _ _ _ (c.if-not-does_nothing.ensures refl) (ap roots_of c.new-roots.ensures.items)
    c.in_ok-found.ensures.asks c.in-Some-found.is
    (λ none. let many = roots_long c.roots_asked.new.roots.items in omega (arith, none, many))
