-- The laws of calls and of definitions, one node of the budget being taken.
use Rattle.std.proofs.Common.{◌≡◌, ℕ, ◌+◌, Some, None, length, take, ◌++◌, ◌∙◌, ap, arith}
use Rattle.std.specs.Prelude.{true, false}
use Rattle.term_model.specs.Flat.{Meaning}
use Rattle.term_model.specs.Term.{Tree, Trees, all_fit}
use Rattle.core_lang.specs.declared.coordinate.Coordinate.{Coordinate}
use Rattle.core_lang.specs.declared.run.Outcome.{Outcome}
use Rattle.core_lang.specs.declared.run.Outcome.TheVariants.{Rewritten, Failed, Oversize, Spent}
use Rattle.core_lang.specs.Derivation.{called}
use Rattle.core_lang.specs.Ending.{ok, failed, oversize, arguments, if_fits}
use Rattle.core_lang.specs.Environment.{Environment, layer, definitions, Bindings, closure, definition, closures_of, filled_places}
use Rattle.core_lang.specs.Building.{instances}
use Rattle.core_lang.specs.Program.{Strategy, Strategies, Patterns, Definitions, call, with_definitions}
use Rattle.core_lang.specs.Resolved.{by_coordinates}
use Rattle.core_lang.specs.Settled.{ends, spent}
use Rattle.core_lang.proofs.SettledLaws.{definitions_ends, definitions_spent, call_of_nothing, call_stops, call_ends, call_spent, parameter_ends, parameter_spent}
use Rattle.core_eval.specs.Evaluates.{Evaluates, verdict_of}

module _ {M : Meaning} {V : Environment Coordinate ℕ} {t : Tree} {e : Bindings} {b : ℕ} where
  pub definitions_done : {ds : Definitions Coordinate ℕ} {s : Strategy Coordinate ℕ} (f : Bindings)
      {c : ℕ} (o : Outcome Tree) →
      Evaluates M (definitions ds V) s t e b (verdict_of o f) c →
      Evaluates M V (with_definitions ds s) t e (1 + b) (verdict_of o f) c
  definitions_done f (Rewritten u) x =
      record { settled = definitions_ends x.settled; left = let less = x.left in omega arith }
  definitions_done f Failed x = record { settled = definitions_ends x.settled; left = let less = x.left in omega arith }
  definitions_done f Oversize x =
      record { settled = definitions_ends x.settled; left = let less = x.left in omega arith }
  definitions_done f Spent x = record { settled = definitions_spent x.settled; left = let less = x.left in omega arith }

  module _ {x : Coordinate} {ss : Strategies Coordinate ℕ} {ps : Patterns Coordinate} where
    pub nothing_called : called by_coordinates V x ss ps ≡ None → Evaluates M V (call x ss ps) t e (1 + b) spent b
    nothing_called is = record { settled = call_of_nothing (1 + b) b is; left = omega arith }

    pub parameter_done : {W : Environment Coordinate ℕ} {s : Strategy Coordinate ℕ} (f : Bindings)
        {c : ℕ} (o : Outcome Tree) →
        called by_coordinates V x ss ps ≡ Some (closure s W) → Evaluates M W s t e b (verdict_of o f) c →
        Evaluates M V (call x ss ps) t e (1 + b) (verdict_of o f) c
    parameter_done f (Rewritten u) is y =
        record { settled = parameter_ends is y.settled; left = let less = y.left in omega arith }
    parameter_done f Failed is y =
        record { settled = parameter_ends is y.settled; left = let less = y.left in omega arith }
    parameter_done f Oversize is y =
        record { settled = parameter_ends is y.settled; left = let less = y.left in omega arith }
    parameter_done f Spent is y =
        record { settled = parameter_spent is y.settled; left = let less = y.left in omega arith }

    module _ {W : Environment Coordinate ℕ} {m k : ℕ} {s : Strategy Coordinate ℕ}
        (is : called by_coordinates V x ss ps ≡ Some (definition m k s W)) where
      pub argument_lacks : instances (by_coordinates.place_of V) ps e ≡ None →
          Evaluates M V (call x ss ps) t e (1 + b) (ends failed) b
      argument_lacks none = record { settled = call_stops b is (ap (λ o. arguments o e) none); left = omega arith }

      pub argument_too_large : (us : Trees) → instances (by_coordinates.place_of V) ps e ≡ Some us →
          all_fit us ≡ false → Evaluates M V (call x ss ps) t e (1 + b) (ends oversize) b
      argument_too_large us some large =
          record {
            settled = call_stops b is (ap (λ o. arguments o e) some ∙ ap (λ z. if_fits z us e) large);
            left =
                omega arith;
          }

      pub definition_done : {us : Trees} (f : Bindings) {c : ℕ} (o : Outcome Tree) →
          instances (by_coordinates.place_of V) ps e ≡ Some us → all_fit us ≡ true →
          Evaluates M (layer (length e) m k (closures_of by_coordinates V ss) W) s t (e ++ filled_places us)
          b (verdict_of o f) c →
          Evaluates M V (call x ss ps) t e (1 + b) (verdict_of o (take (length e) f)) c
      definition_done {us} f o some fit y = done o y
        where
          given : arguments (instances (by_coordinates.place_of V) ps e) e ≡ ok us e
          given = ap (λ o. arguments o e) some ∙ ap (λ z. if_fits z us e) fit

          done : {c : ℕ} (o : Outcome Tree) →
              Evaluates M (layer (length e) m k (closures_of by_coordinates V ss) W) s t (e ++ filled_places us)
              b (verdict_of o f) c →
              Evaluates M V (call x ss ps) t e (1 + b) (verdict_of o (take (length e) f)) c
          done (Rewritten u) y =
              record { settled = call_ends is given y.settled; left = let less = y.left in omega arith }
          done Failed y = record { settled = call_ends is given y.settled; left = let less = y.left in omega arith }
          done Oversize y = record { settled = call_ends is given y.settled; left = let less = y.left in omega arith }
          done Spent y = record { settled = call_spent is given y.settled; left = let less = y.left in omega arith }
