-- What is settled over coordinates is settled over names, and the other way round.
use Rattle.std.proofs.Common.{◌≡◌, ℕ, Option, None, [], refl, sym, ◌∙◌}
use Rattle.core_lang.specs.Named.{NamedStrategy, NamedDefinitions, NamedEnvironment, NamedCallee, Name, by_names, callee_named, Rewrites}
use Rattle.core_lang.specs.Resolved.{ResolvedStrategy, ResolvedDefinitions, ResolvedEnvironment, ResolvedCallee, by_coordinates}
use Rattle.term_model.specs.Term.{Tree}
use Rattle.core_lang.specs.Program.{call, no_strategies, no_patterns}
use Rattle.core_lang.specs.Environment.{outermost, definitions, Bindings}
use Rattle.term_model.specs.Flat.{Meaning}
use Rattle.core_lang.specs.Ending.{Ending}
use Rattle.core_lang.specs.Derivation.{Derives, by_call, by_call_stop, by_parameter}
use Rattle.core_lang.specs.declared.coordinate.Coordinate.{Coordinate}
use Rattle.core_lang.specs.Resolution.{nowhere, defined, callee_coordinate, Resolves, to_call, to_no_strategies, to_no_patterns, ResolvesProgram, here, ResolvesDefinitions}
use Rattle.core_lang.specs.Agreement.{scopes_of, Agree, agree_outermost, agree_definitions}
use Rattle.core_lang.specs.Settled.{Verdict, Settled, settled, unsettled}
use Rattle.core_lang.proofs.LookupLaws.{Found, found_nowhere, found_at, callee_found}
use Rattle.core_lang.proofs.Transport.{carried, returned}

found_no_name : {m : ℕ} {at : Coordinate → Option ResolvedCallee} {o : Option Coordinate} {c : Option NamedCallee} →
    Found m at o c → o ≡ None → c ≡ None
found_no_name found_nowhere h = refl
found_no_name (found_at g) h = cc

module _ {M : Meaning} where
  pub settled_by_names : {V : NamedEnvironment} {W : ResolvedEnvironment} {s : NamedStrategy} {z : ResolvedStrategy}
      {t : Tree} {e : Bindings} {b c : ℕ} {q : Verdict Tree} →
      Settled by_coordinates M W z t e b q c → Resolves (scopes_of V) s z → Agree V W → Settled by_names M V s t e b q c
  settled_by_names (settled x h) r a = settled (returned x r a) h
  settled_by_names (unsettled lacks) r a = unsettled (λ o n x. lacks o n (carried x r a))

  pub settled_by_coordinates : {V : NamedEnvironment} {W : ResolvedEnvironment} {s : NamedStrategy}
      {z : ResolvedStrategy} {t : Tree} {e : Bindings} {b c : ℕ} {q : Verdict Tree} →
      Settled by_names M V s t e b q c → Resolves (scopes_of V) s z → Agree V W → Settled by_coordinates M W z t e b q c
  settled_by_coordinates (settled x h) r a = settled (carried x r a) h
  settled_by_coordinates (unsettled lacks) r a = unsettled (λ o n x. lacks o n (returned x r a))

  -- a run of a resolved program, as what the program over names does
  pub run_settled : {P : NamedDefinitions} {C : ResolvedDefinitions} {main : Name} {i : ℕ} {t : Tree} {b c : ℕ}
      {q : Verdict Tree} → ResolvesProgram P main C i →
      Settled by_coordinates M (definitions C outermost) (call (here i) no_strategies no_patterns) t [] b q c →
      Settled by_names M (definitions P outermost) (call main no_strategies no_patterns) t [] b q c
  run_settled rs x = settled_by_names x (to_call rs.called to_no_strategies to_no_patterns)
      (agree_definitions rs.each agree_outermost)

  nothing_called : {V : NamedEnvironment} {f : Name} {t : Tree} {e : Bindings} {o : Ending Tree} {n : ℕ} →
      callee_named V f 0 0 ≡ None →
      Derives by_names M V (call f no_strategies no_patterns) t e o n → ⊥
  nothing_called h (by_call is given x k c) = let q = sym h ∙ is in cc
  nothing_called h (by_call_stop is given) = let q = sym h ∙ is in cc
  nothing_called h (by_parameter is x c) = let q = sym h ∙ is in cc

  -- where no definition without parameters has the name, nothing is rewritten
  pub rewrites_nothing : {P : NamedDefinitions} {C : ResolvedDefinitions} {main : Name} {t : Tree} {o : Ending Tree}
      {n : ℕ} →
      ResolvesDefinitions (defined P nowhere) P C → callee_coordinate (defined P nowhere) main 0 0 ≡ None →
      Rewrites M P main t o n → ⊥
  rewrites_nothing {main = main} rs at x =
      nothing_called (found_no_name (callee_found (agree_definitions rs agree_outermost) main 0 0) at) x
