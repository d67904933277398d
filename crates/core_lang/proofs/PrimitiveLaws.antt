-- A program over coordinates has the primitives of the program over names that it is resolved from.
use Rattle.std.proofs.Common.{ℕ, List, inl, inr, sym, ◌∙◌}
use Rattle.core_lang.specs.Named.{NamedStrategy, NamedStrategies, NamedDefinitions}
use Rattle.core_lang.specs.Resolved.{ResolvedStrategy, ResolvedStrategies, ResolvedDefinitions}
use Rattle.core_lang.specs.Resolution.{Scopes, Resolves, to_id, to_fail, to_seq, to_choice, to_match, to_build, to_scope, to_all, to_one, to_some, to_definitions, to_call, to_primitive, ResolvesStrategies, to_no_strategies, to_more_strategies, ResolvesDefinitions, to_no_definitions, to_more_definitions}
use Rattle.core_lang.specs.Primitives.{OccursIn, OccursInAny, OccursInDefinitions}
use Rattle.core_lang.proofs.InRangeLaws.{as_many_patterns}

module _ (f : List ℕ) (k : ℕ) where
  mutual
    occurs_resolved : {S : Scopes} {s : NamedStrategy} {z : ResolvedStrategy} → Resolves S s z → OccursIn f k s →
        OccursIn f k z
    occurs_resolved to_id h = absurd h
    occurs_resolved to_fail h = absurd h
    occurs_resolved (to_seq r1 r2) (inl h) = inl (occurs_resolved r1 h)
    occurs_resolved (to_seq r1 r2) (inr h) = inr (occurs_resolved r2 h)
    occurs_resolved (to_choice r1 r2 r3) (inl h) = inl (occurs_resolved r1 h)
    occurs_resolved (to_choice r1 r2 r3) (inr (inl h)) = inr (inl (occurs_resolved r2 h))
    occurs_resolved (to_choice r1 r2 r3) (inr (inr h)) = inr (inr (occurs_resolved r3 h))
    occurs_resolved (to_match r) h = absurd h
    occurs_resolved (to_build r) h = absurd h
    occurs_resolved (to_scope e r) h = occurs_resolved r h
    occurs_resolved (to_all r) h = occurs_resolved r h
    occurs_resolved (to_one r) h = occurs_resolved r h
    occurs_resolved (to_some r) h = occurs_resolved r h
    occurs_resolved (to_definitions rs r) (inl h) = inl (occurs_resolved_in_definitions rs h)
    occurs_resolved (to_definitions rs r) (inr h) = inr (occurs_resolved r h)
    occurs_resolved (to_call e rs vs) h = occurs_resolved_in_any rs h
    occurs_resolved (to_primitive vs) h = (h.0, sym (as_many_patterns vs) ∙ h.1)

    occurs_resolved_in_any : {S : Scopes} {ss : NamedStrategies} {zs : ResolvedStrategies} →
        ResolvesStrategies S ss zs → OccursInAny f k ss → OccursInAny f k zs
    occurs_resolved_in_any to_no_strategies h = absurd h
    occurs_resolved_in_any (to_more_strategies r rs) (inl h) = inl (occurs_resolved r h)
    occurs_resolved_in_any (to_more_strategies r rs) (inr h) = inr (occurs_resolved_in_any rs h)

    pub occurs_resolved_in_definitions : {S : Scopes} {ds : NamedDefinitions} {es : ResolvedDefinitions} →
        ResolvesDefinitions S ds es → OccursInDefinitions f k ds → OccursInDefinitions f k es
    occurs_resolved_in_definitions to_no_definitions h = absurd h
    occurs_resolved_in_definitions (to_more_definitions hm hk r rs) (inl h) = inl (occurs_resolved r h)
    occurs_resolved_in_definitions (to_more_definitions hm hk r rs) (inr h) = inr (occurs_resolved_in_definitions rs h)

  mutual
    occurs_named : {S : Scopes} {s : NamedStrategy} {z : ResolvedStrategy} → Resolves S s z → OccursIn f k z →
        OccursIn f k s
    occurs_named to_id h = absurd h
    occurs_named to_fail h = absurd h
    occurs_named (to_seq r1 r2) (inl h) = inl (occurs_named r1 h)
    occurs_named (to_seq r1 r2) (inr h) = inr (occurs_named r2 h)
    occurs_named (to_choice r1 r2 r3) (inl h) = inl (occurs_named r1 h)
    occurs_named (to_choice r1 r2 r3) (inr (inl h)) = inr (inl (occurs_named r2 h))
    occurs_named (to_choice r1 r2 r3) (inr (inr h)) = inr (inr (occurs_named r3 h))
    occurs_named (to_match r) h = absurd h
    occurs_named (to_build r) h = absurd h
    occurs_named (to_scope e r) h = occurs_named r h
    occurs_named (to_all r) h = occurs_named r h
    occurs_named (to_one r) h = occurs_named r h
    occurs_named (to_some r) h = occurs_named r h
    occurs_named (to_definitions rs r) (inl h) = inl (occurs_named_in_definitions rs h)
    occurs_named (to_definitions rs r) (inr h) = inr (occurs_named r h)
    occurs_named (to_call e rs vs) h = occurs_named_in_any rs h
    occurs_named (to_primitive vs) h = (h.0, as_many_patterns vs ∙ h.1)

    occurs_named_in_any : {S : Scopes} {ss : NamedStrategies} {zs : ResolvedStrategies} → ResolvesStrategies S ss zs →
        OccursInAny f k zs → OccursInAny f k ss
    occurs_named_in_any to_no_strategies h = absurd h
    occurs_named_in_any (to_more_strategies r rs) (inl h) = inl (occurs_named r h)
    occurs_named_in_any (to_more_strategies r rs) (inr h) = inr (occurs_named_in_any rs h)

    pub occurs_named_in_definitions : {S : Scopes} {ds : NamedDefinitions} {es : ResolvedDefinitions} →
        ResolvesDefinitions S ds es → OccursInDefinitions f k es → OccursInDefinitions f k ds
    occurs_named_in_definitions to_no_definitions h = absurd h
    occurs_named_in_definitions (to_more_definitions hm hk r rs) (inl h) = inl (occurs_named r h)
    occurs_named_in_definitions (to_more_definitions hm hk r rs) (inr h) = inr (occurs_named_in_definitions rs h)
