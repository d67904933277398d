-- What layers and closures stand for.
use Rattle.std.proofs.Common.{◌≡◌, ℕ, zero, suc, ◌<◌, ◌≤◌, Some, None, List, [], ◌∷◌, length, map, get_or, refl, sym, ◌∙◌, ap, arith}
use Rattle.std.specs.Borrow.{Bor}
use Rattle.core_lang.specs.declared.coordinate.Coordinate.{Coordinate}
use Rattle.core_lang.specs.declared.program.CoreDef.{CoreDef}
use Rattle.core_lang.specs.Environment.{Environment, outermost, layer, definitions, closure, definition, closure_at, definition_at}
use Rattle.core_lang.specs.Views.{definitions_of, strategy_of, def_of}
use Rattle.core_eval.specs.declared.frame.Frame.{Frame}
use Rattle.core_eval.specs.declared.frame.Closure.{Closure}
use Rattle.core_eval.specs.declared.frame.Frame.TheVariants as frames
use Rattle.core_eval.specs.declared.frame.Frame.TheOpen as forms
use Rattle.core_eval.specs.declared.frame.Frame.TheFolds.{fold-roll-Frame, fold_out-Closure}
use Rattle.core_eval.specs.declared.frame.Frame.TheViews.{out-Closure}
use Rattle.core_eval.specs.Frame.{Closed, closures_in, environment_of, closure_of, frame_step, closure_step}

pub reads_outermost : environment_of frames.Outermost ≡ outermost
reads_outermost = ap environment_of (sym frames.rolls-Outermost) ∙
    fold-roll-Frame (Environment Coordinate ℕ) Closed frame_step closure_step forms.Outermost

pub reads_definitions : (ds : Bor (List CoreDef)) (up : Bor Frame) →
    environment_of (frames.Definitions ds up) ≡ definitions (definitions_of ds.now) (environment_of up.now)
reads_definitions ds up = ap environment_of (sym (frames.rolls-Definitions ds up)) ∙
    fold-roll-Frame (Environment Coordinate ℕ) Closed frame_step closure_step (forms.Definitions ds up)

pub reads_layer : (base m k : ℕ) (cs : Bor (List Closure)) (up : Bor Frame) →
    environment_of (frames.Layer base m k cs up) ≡
    layer base m k (closures_in (map closure_of cs.now)) (environment_of up.now)
reads_layer base m k cs up = ap environment_of (sym (frames.rolls-Layer base m k cs up)) ∙
    fold-roll-Frame (Environment Coordinate ℕ) Closed frame_step closure_step (forms.Layer base m k cs up)

pub reads_closure : (c : Closure) →
    closure_of c ≡ record {
      strategy = strategy_of (out-Closure c).strategy.now;
      environment =
          environment_of (out-Closure c).frame.now;
    }
reads_closure c = fold_out-Closure (Environment Coordinate ℕ) Closed frame_step closure_step c

-- the closure, and the definition, at a position
pub closure_past : (cs : List Closure) (n : ℕ) → length cs ≤ n → closure_at (closures_in (map closure_of cs)) n ≡ None
closure_past [] n h = refl
closure_past (c ∷ cs) zero h = absurd (omega arith)
closure_past (c ∷ cs) (suc n) h = closure_past cs n (omega arith)

pub closure_there : (cs : List Closure) (n : ℕ) (d : Closure) → n < length cs → d ≡ get_or cs n d →
    closure_at (closures_in (map closure_of cs)) n ≡ Some (closure (closure_of d).strategy (closure_of d).environment)
closure_there [] n d h is = absurd (omega arith)
closure_there (c ∷ cs) zero d h is =
    ap (λ z. Some (closure (closure_of z).strategy (closure_of z).environment)) (sym is)
closure_there (c ∷ cs) (suc n) d h is = closure_there cs n d (omega arith) is

pub definition_past : (ds : List CoreDef) (V : Environment Coordinate ℕ) (n : ℕ) → length ds ≤ n →
    definition_at (definitions_of ds) V n ≡ None
definition_past [] V n h = refl
definition_past (d ∷ ds) V zero h = absurd (omega arith)
definition_past (d ∷ ds) V (suc n) h = definition_past ds V n (omega arith)

pub definition_there : (ds : List CoreDef) (V : Environment Coordinate ℕ) (n : ℕ) (d : CoreDef) → n < length ds →
    d ≡ get_or ds n d →
    definition_at (definitions_of ds) V n ≡ Some (definition (def_of d).strats (def_of d).terms (def_of d).body V)
definition_there [] V n d h is = absurd (omega arith)
definition_there (c ∷ ds) V zero d h is =
    ap (λ z. Some (definition (def_of z).strats (def_of z).terms (def_of z).body V)) (sym is)
definition_there (c ∷ ds) V (suc n) d h is = definition_there ds V n d (omega arith) is
