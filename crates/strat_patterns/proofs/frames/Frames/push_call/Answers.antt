use Rattle.std.proofs.Common.{◌≡◌, ◌++◌, ◌∷◌, [], map, length, ◌∙◌, ap, refl, arith}
use Rattle.strat_steps.specs.State.{frame, closed}
use Rattle.strat_code.specs.CodeOf.{argument_of}
use Rattle.strat_patterns.proofs.ResultLaws.{on_err}
use Rattle.strat_patterns.proofs.FrameLaws.{IsGrown, grown_by_nothing, grown_by_call, same_laid, same_frames, closures_dropped, one_more_laid, one_more_frame}
use Rattle.strat_patterns.proofs.frames.Frames.push_call.Goals as goal
use Rattle.strat_patterns.proofs.frames.Frames.push_call.Goals.{then-count-gt0+in_ok-push_closures, else-count-gt0}

pub invariant_of-self : goal.invariant_of-self
invariant_of-self c = same_laid c.self.inside.frames.items _ c.self.inside.closures.items _ c.self.invariant refl
    c.in_err-push_closures.ensures.err

pub returns-in_err-push_closures-clause-err : goal.returns-in_err-push_closures-clause-err
returns-in_err-push_closures-clause-err c =
    on_err c.from_residual-in_err-push_closures.result
    (same_frames c.self.inside.frames.items _ c.self.inside.closures.items _ refl c.in_err-push_closures.ensures.err ∙
    c.self.view_is)

pub invariant_of-self-in-Err : goal.invariant_of-self-in-Err
invariant_of-self-in-Err c =
    let old = c.self.inside in
    let now = c.if-count-gt0.self-inside in
    let args = c.args.arguments.now in
    let grown : IsGrown old.frames.items now.frames.items old.closures.items now.closures.items c.args.here args =
    elim c.if-count-gt0.branch [
      | then-count-gt0+in_ok-push_closures w ↦ grown_by_call _ _ _ _ _ _ _ (ap (λ x. x.frames.items) w.self-inside-is)
          (ap (λ x. x.closures.items) w.self-inside-is)
          w.push_closures.ensures.kept w.deref.ensures.value w.in_ok-push_closures.ensures.closures
      | else-count-gt0 w ↦ grown_by_nothing _ _ _ _ _ _ (ap (λ x. x.frames.items) w.self-inside-is)
          (ap (λ x. x.closures.items) w.self-inside-is) (let none = w.if-count-gt0.false in omega arith)
    ] in
    let k = c.len-first.ensures in
    let first : c.len-first.result ≡ length old.closures.items = omega arith in
    same_laid old.frames.items _ old.closures.items _ c.self.invariant (c.in-Err.ensures.err ∙ grown.frames)
    (closures_dropped old.frames.items now.frames.items now.frames.items old.closures.items now.closures.items
    c.args.here args c.self.invariant grown c.len-first.result _ first c.truncate.ensures.items)

pub returns-in-Err-clause-err : goal.returns-in-Err-clause-err
returns-in-Err-clause-err c =
    let old = c.self.inside in
    let now = c.if-count-gt0.self-inside in
    let args = c.args.arguments.now in
    let grown : IsGrown old.frames.items now.frames.items old.closures.items now.closures.items c.args.here args =
    elim c.if-count-gt0.branch [
      | then-count-gt0+in_ok-push_closures w ↦ grown_by_call _ _ _ _ _ _ _ (ap (λ x. x.frames.items) w.self-inside-is)
          (ap (λ x. x.closures.items) w.self-inside-is)
          w.push_closures.ensures.kept w.deref.ensures.value w.in_ok-push_closures.ensures.closures
      | else-count-gt0 w ↦ grown_by_nothing _ _ _ _ _ _ (ap (λ x. x.frames.items) w.self-inside-is)
          (ap (λ x. x.closures.items) w.self-inside-is) (let none = w.if-count-gt0.false in omega arith)
    ] in
    let k = c.len-first.ensures in
    let first : c.len-first.result ≡ length old.closures.items = omega arith in
    same_frames old.frames.items _ old.closures.items _ (c.in-Err.ensures.err ∙ grown.frames)
    (closures_dropped old.frames.items now.frames.items now.frames.items old.closures.items now.closures.items
    c.args.here args c.self.invariant grown c.len-first.result _ first c.truncate.ensures.items) ∙ c.self.view_is

pub invariant_of-self-in_default : goal.invariant_of-self-in_default
invariant_of-self-in_default c =
    let old = c.self.inside in
    let now = c.if-count-gt0.self-inside in
    let args = c.args.arguments.now in
    let grown : IsGrown old.frames.items now.frames.items old.closures.items now.closures.items c.args.here args =
    elim c.if-count-gt0.branch [
      | then-count-gt0+in_ok-push_closures w ↦ grown_by_call _ _ _ _ _ _ _ (ap (λ x. x.frames.items) w.self-inside-is)
          (ap (λ x. x.closures.items) w.self-inside-is)
          w.push_closures.ensures.kept w.deref.ensures.value w.in_ok-push_closures.ensures.closures
      | else-count-gt0 w ↦ grown_by_nothing _ _ _ _ _ _ (ap (λ x. x.frames.items) w.self-inside-is)
          (ap (λ x. x.closures.items) w.self-inside-is) (let none = w.if-count-gt0.false in omega arith)
    ] in
    let k = c.len-first.ensures in
    let first : c.len-first.result ≡ length old.closures.items = omega arith in
    one_more_laid old.frames.items now.frames.items _ old.closures.items now.closures.items c.args.here args
    c.self.invariant grown _ first refl c.in_default.ensures.pushed

pub returns-clause-pushed : goal.returns-clause-pushed
returns-clause-pushed c =
    let old = c.self.inside in
    let now = c.if-count-gt0.self-inside in
    let args = c.args.arguments.now in
    let grown : IsGrown old.frames.items now.frames.items old.closures.items now.closures.items c.args.here args =
    elim c.if-count-gt0.branch [
      | then-count-gt0+in_ok-push_closures w ↦ grown_by_call _ _ _ _ _ _ _ (ap (λ x. x.frames.items) w.self-inside-is)
          (ap (λ x. x.closures.items) w.self-inside-is)
          w.push_closures.ensures.kept w.deref.ensures.value w.in_ok-push_closures.ensures.closures
      | else-count-gt0 w ↦ grown_by_nothing _ _ _ _ _ _ (ap (λ x. x.frames.items) w.self-inside-is)
          (ap (λ x. x.closures.items) w.self-inside-is) (let none = w.if-count-gt0.false in omega arith)
    ] in
    let k = c.len-first.ensures in
    let first : c.len-first.result ≡ length old.closures.items = omega arith in
    one_more_frame old.frames.items now.frames.items _ old.closures.items now.closures.items c.args.here args
    c.self.invariant grown _ first refl c.in_default.ensures.pushed
    ∙ ap (λ F. F ++ frame c.args.base c.args.up (closed F c.args.here (map argument_of args)) ∷ []) c.self.view_is
