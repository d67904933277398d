-- A primitive that occurs in a program over coordinates occurs in the program over names that it is resolved from.
use Rattle.std.proofs.Common.{◌∙◌, ◌⊎◌, inl, inr, ℕ, List}
use Rattle.core_lang.specs.Named.{NamedStrategy, NamedStrategies, NamedDefinitions}
use Rattle.core_lang.specs.Primitives.{OccursIn, OccursInAny, OccursInDefinitions}
use Rattle.core_lang.specs.Resolution.{Scopes, Resolves, to_id, to_fail, to_seq, to_choice, to_match, to_build, to_scope, to_all, to_one, to_some, to_definitions, to_call, to_primitive, ResolvesStrategies, to_no_strategies, to_more_strategies, ResolvesDefinitions, to_no_definitions, to_more_definitions}
use Rattle.core_lang.specs.Resolved.{ResolvedStrategy, ResolvedStrategies, ResolvedDefinitions}
use Rattle.core_lang.proofs.InRangeLaws.{as_many_patterns}

-- in both parts what occurs on the one side occurs on the other
either_part : {A B C D : Type 0} → (A → C) → (B → D) → A ⊎ B → C ⊎ D
either_part first rest (inl a) = inl (first a)
either_part first rest (inr b) = inr (rest b)

module _ (name : List ℕ) (k : ℕ) where
  mutual
    strategy_named : {S : Scopes} {s : NamedStrategy} {z : ResolvedStrategy} → Resolves S s z → OccursIn name k z →
        OccursIn name k s
    strategy_named to_id there = there
    strategy_named to_fail there = there
    strategy_named (to_seq r1 r2) there = either_part (λ o. strategy_named r1 o) (λ o. strategy_named r2 o) there
    strategy_named (to_choice r1 r2 r3) there =
        either_part (λ o. strategy_named r1 o) (either_part (λ o. strategy_named r2 o) (λ o. strategy_named r3 o)) there
    strategy_named (to_match r) there = there
    strategy_named (to_build r) there = there
    strategy_named (to_scope h r) there = strategy_named r there
    strategy_named (to_all r) there = strategy_named r there
    strategy_named (to_one r) there = strategy_named r there
    strategy_named (to_some r) there = strategy_named r there
    strategy_named (to_definitions rs r) there =
        either_part (λ o. definitions_named rs o) (λ o. strategy_named r o) there
    strategy_named (to_call is rs vs) there = strategies_named rs there
    strategy_named (to_primitive rs) there = (there.0, as_many_patterns rs ∙ there.1)

    strategies_named : {S : Scopes} {ss : NamedStrategies} {zs : ResolvedStrategies} → ResolvesStrategies S ss zs →
        OccursInAny name k zs → OccursInAny name k ss
    strategies_named to_no_strategies there = there
    strategies_named (to_more_strategies r rs) there =
        either_part (λ o. strategy_named r o) (λ o. strategies_named rs o) there

    pub definitions_named : {S : Scopes} {ds : NamedDefinitions} {es : ResolvedDefinitions} →
        ResolvesDefinitions S ds es → OccursInDefinitions name k es → OccursInDefinitions name k ds
    definitions_named to_no_definitions there = there
    definitions_named (to_more_definitions hm hk r rs) there =
        either_part (λ o. strategy_named r o) (λ o. definitions_named rs o) there
