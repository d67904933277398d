use Rattle.std.proofs.Common.{◌≡◌, ◌++◌, ◌∷◌, Some, map, ◌+◌, ap, ◌∙◌, refl, length, take, drop, sym, arith, subst, []}
use Rattle.std.specs.Option.{option_map}
use Rattle.std.specs.Prelude.{false}
use Rattle.std.proofs.lemmas.List.{drop_all}
use Rattle.term_model.specs.Term.{made_of, trees_of, more}
use Rattle.core_lang.specs.declared.run.Outcome.TheVariants.{Failed}
use Rattle.core_lang.specs.Ending.{ok, rebuilt}
use Rattle.core_lang.specs.Environment.{layer, no_closures, closures_of, filled_places}
use Rattle.core_lang.specs.Building.{instance, instances}
use Rattle.core_lang.specs.Program as core
use Rattle.core_lang.specs.Resolved.{by_coordinates}
use Rattle.core_lang.specs.Settled.{ends}
use Rattle.core_lang.specs.Views.{strategy_of, strategies_of, pattern_of, patterns_of}
use Rattle.core_lang.specs.declared.program.CoreStrategy.TheViews.{out-CoreDef}
use Rattle.core_lang.proofs.ReadLaws.{reads_id, reads_fail, reads_match, reads_build, reads_primitive, reads_arm, reads_def}
use Rattle.core_lang.proofs.SettledLaws.{all_at_end, all_goes_on, one_at_end, one_finds, one_goes_on, some_goes_on, some_leaves}
use Rattle.core_eval.specs.Callee.{callee_of}
use Rattle.core_eval.specs.Evaluates.{made_ending}
use Rattle.core_eval.specs.Frame.{environment_of, closure_of, closures_in}
use Rattle.core_eval.proofs.EvalLaws.{no_term, moved_to, taken, at_zero, at_id, at_fail, at_build, at_primitive, sequence_goes_on, sequence_stops, choice_goes_on, choice_tries_other, choice_stops, scope_done, made_built, rewritten_to, failed_to, chain_next, chain_ends, arms_next, no_arms}
use Rattle.core_eval.proofs.CallLaws.{definitions_done, nothing_called, parameter_done, argument_lacks, argument_too_large, definition_done}
use Rattle.core_eval.proofs.FrameLaws.{reads_layer, reads_definitions, reads_closure}
use Rattle.core_eval.proofs.InstanceLaws.{lacks_made, all_made, one_too_large}
use Rattle.core_eval.proofs.TraversalLaws.{Decides, OfOne, decides_on, decides_stop, decides_found, decides_end, decides_none, left_at, one_changed, taken_at, one_more, remade_ending, all_done, one_done, some_done, all_stopped, one_stopped, some_stopped, all_ended, one_ended, some_ended, joined, walk_moved, none_found, some_found}
use Rattle.core_eval.proofs.evaluation.+eval.Goals as goal
use Rattle.core_eval.proofs.evaluation.+eval.Goals.{evaluate_some-in-Rewritten+in_ok-push-in-Rewritten, evaluate_some-in-Failed+in_ok-clone-in-Failed+in_ok-push-in-Failed}

pub evaluate-returns-then-state-eq0 : goal.evaluate-returns-then-state-eq0
evaluate-returns-then-state-eq0 g t c =
    at_zero _ c.if-state-eq0.true

pub evaluate-returns-in_ok-clone-in-Id : goal.evaluate-returns-in_ok-clone-in-Id
evaluate-returns-in_ok-clone-in-Id g t c =
    rw c.in_ok-clone-in-Id.ensures.cases (at_id (ap strategy_of c.in-Id.is ∙ reads_id) c.if-state-eq0.false)

pub evaluate-returns-in-Fail : goal.evaluate-returns-in-Fail
evaluate-returns-in-Fail g t c =
    at_fail (ap strategy_of c.in-Fail.is ∙ reads_fail) c.if-state-eq0.false

pub evaluate-returns-in_ok-ending-in-Match : goal.evaluate-returns-in_ok-ending-in-Match
evaluate-returns-in_ok-ending-in-Match g t c =
    taken (ap strategy_of c.in-Match.is ∙
    (reads_match _ ∙ ap (λ p. core.match (pattern_of p)) (sym c.pattern.ensures)))
    c.if-state-eq0.false (c.in_ok-ending-in-Match.ensures _)

pub evaluate-returns-in_ok-made-in-Build : goal.evaluate-returns-in_ok-made-in-Build
evaluate-returns-in_ok-made-in-Build g t c =
    let place = by_coordinates.place_of (environment_of c.args.frame.now) in
    let e = c.args.state.now.places.items in
    let p = c.pattern-p.result.now in
    at_build (ap strategy_of c.in-Build.is ∙
    (reads_build _ ∙ ap (λ p. core.build (pattern_of p)) (sym c.pattern-p.ensures))) c.if-state-eq0.false
    (c.build_outcome.ensures e ∙
    (ap (λ m. ends (made_ending m e)) (c.in_ok-made-in-Build.ensures ∙
    ap (λ x. option_map made_of (instance place (pattern_of p) x)) c.as_slice-in-Build.ensures.value) ∙
    ap (λ o. ends o) (made_built (instance place (pattern_of p) e) e)))

pub evaluate-returns-in_ok-ending-in-Primitive : goal.evaluate-returns-in_ok-ending-in-Primitive
evaluate-returns-in_ok-ending-in-Primitive g t c =
    at_primitive (ap strategy_of c.in-Primitive.is ∙ reads_primitive _ _) c.if-state-eq0.false
    (rw (c.as_slice-in-Primitive.ensures.value, c.as_slice-in-Primitive-2.ensures.value)
    at c.in_ok-ending-in-Primitive.ensures)

pub evaluate_let-returns : goal.evaluate_let-returns
evaluate_let-returns g t c =
    definitions_done _ c.in_ok-ending.ending (moved_to (reads_definitions _ _) refl refl c.in_ok-ending.ensures)

pub evaluate_arms-returns-in_ok-ending-in-Rewritten : goal.evaluate_arms-returns-in_ok-ending-in-Rewritten
evaluate_arms-returns-in_ok-ending-in-Rewritten g t c =
    let read = reads_arm c.args.arm.now in
    choice_goes_on
    (rewritten_to _ c.in-Rewritten.is (moved_to refl (ap (λ z. z.guard) (sym read)) refl c.in_ok-other.ensures))
    (moved_to refl (ap (λ z. z.then) (sym read)) refl c.in_ok-ending-in-Rewritten.ensures)

pub evaluate_arms-returns-in_ok-ending-in-None : goal.evaluate_arms-returns-in_ok-ending-in-None
evaluate_arms-returns-in_ok-ending-in-None g t c =
    let read = reads_arm c.args.arm.now in
    let saved : c.in_ok-before.before.items ≡ c.args.state.now.places.items =
    c.in_ok-before.ensures ∙ c.as_slice.ensures.value in
    choice_tries_other
    (failed_to _ c.in-Failed.is (moved_to refl (ap (λ z. z.guard) (sym read)) refl c.in_ok-other.ensures))
    (moved_to refl (sym (no_arms _ (strategy_of c.args.otherwise.now) c.in-None.ensures.cases))
    saved c.in_ok-ending-in-None.ensures)

pub evaluate_arms-returns-in_ok-ending-in-Some : goal.evaluate_arms-returns-in_ok-ending-in-Some
evaluate_arms-returns-in_ok-ending-in-Some g t c =
    let read = reads_arm c.args.arm.now in
    let saved : c.in_ok-before.before.items ≡ c.args.state.now.places.items =
    c.in_ok-before.ensures ∙ c.as_slice.ensures.value in
    choice_tries_other
    (failed_to _ c.in-Failed.is (moved_to refl (ap (λ z. z.guard) (sym read)) refl c.in_ok-other.ensures))
    (taken (arms_next _ _ _ (strategy_of c.args.otherwise.now) c.in-Some.ensures.cases)
    c.if-state-eq0.false (moved_to refl refl saved c.in_ok-ending-in-Some.ensures))

pub evaluate_arms-returns-then-state-eq0 : goal.evaluate_arms-returns-then-state-eq0
evaluate_arms-returns-then-state-eq0 g t c =
    let read = reads_arm c.args.arm.now in
    choice_tries_other
    (failed_to _ c.in-Failed.is (moved_to refl (ap (λ z. z.guard) (sym read)) refl c.in_ok-other.ensures))
    (at_zero _ c.if-state-eq0.true)

pub evaluate_arms-returns-in_default : goal.evaluate_arms-returns-in_default
evaluate_arms-returns-in_default g t c =
    let read = reads_arm c.args.arm.now in
    choice_stops _ c.in_ok-other.other (no_term _ c.in_default.not-Rewritten) c.in_default.not-Failed
    (moved_to refl (ap (λ z. z.guard) (sym read)) refl c.in_ok-other.ensures)

pub evaluate_scope-returns : goal.evaluate_scope-returns
evaluate_scope-returns g t c =
    let e = c.args.state.now.places.items in
    let up = environment_of c.args.frame.now in
    let base : c.len-base.result ≡ length e = c.len-base.ensures ∙ c.args.state.now.places.ok.0 in
    let cut : c.truncate.new.self.items ≡ take c.len-base.result c.evaluate.new.state.places.items =
    c.truncate.ensures.items in
    rw (cut, base) (scope_done _ c.in_ok-ending.ending
    (moved_to (reads_layer _ _ _ _ _ ∙
    ap (λ m. layer m 0 c.args.count no_closures up) base) refl c.in_ok-push_empty.ensures c.in_ok-ending.ensures))

pub evaluate_sequence-returns-in-None : goal.evaluate_sequence-returns-in-None
evaluate_sequence-returns-in-None g t c =
    sequence_goes_on (rewritten_to _ c.in-Rewritten.is c.in_ok-other.ensures)
    (moved_to refl (sym (chain_ends (strategy_of c.args.second.now) _ c.in-None.ensures.cases))
    refl c.in_ok-ending-in-None.ensures)

pub evaluate_sequence-returns-then-state-eq0 : goal.evaluate_sequence-returns-then-state-eq0
evaluate_sequence-returns-then-state-eq0 g t c =
    sequence_goes_on (rewritten_to _ c.in-Rewritten.is c.in_ok-other.ensures) (at_zero _ c.if-state-eq0.true)

pub evaluate_sequence-returns-in-Rewritten : goal.evaluate_sequence-returns-in-Rewritten
evaluate_sequence-returns-in-Rewritten g t c =
    sequence_goes_on (rewritten_to _ c.in-Rewritten.is c.in_ok-other.ensures)
    (taken (chain_next (strategy_of c.args.second.now) _ _ _ c.in-Some.ensures.cases)
    c.if-state-eq0.false c.in_ok-ending-in-Some.ensures)

pub evaluate_sequence-returns : goal.evaluate_sequence-returns
evaluate_sequence-returns g t c =
    sequence_stops _ c.in_ok-other.other (no_term _ c.in_default.not-Rewritten) c.in_ok-other.ensures

pub evaluate_all-loop-part-preserved : goal.evaluate_all-loop-part-preserved
evaluate_all-loop-part-preserved g t c =
    let left = left_at c.children-parts.result.now c.loop-part.part-index c.part-item.result c.loop-part-test.true
    c.part-item.is in
    let so_far = c.loop-part.invariant in
    let pushed = c.in_ok-push-in-Rewritten.ensures.items in
    record {
      decides = let ran = rewritten_to _ c.in-Rewritten.is c.in_ok-other.ensures in
          decides_on left (so_far.decides) c.in-Rewritten.u pushed ran.left (λ v d y. all_goes_on ran.settled y);
      count = one_more _ _ _ _ pushed so_far.count;
    }

pub evaluate_all-returns-in_default : goal.evaluate_all-returns-in_default
evaluate_all-returns-in_default g t c =
    let left = left_at c.children-parts.result.now c.loop-part.part-index c.part-item.result c.loop-part-test.true
    c.part-item.is in
    let ran = c.in_ok-other.ensures in
    let so_far = c.loop-part.invariant.decides in
    let ended = no_term c.in_ok-other.other c.in_default.not-Rewritten in
    let less = ran.left in
    let before = so_far.less in
    all_stopped c.args.t.now c.children-parts.ensures (omega arith)
    _ c.in_ok-other.other ended
    (decides_stop left so_far c.in_ok-other.other (all_ended _ c.in_ok-other.other ended ran))

pub evaluate_all-returns : goal.evaluate_all-returns
evaluate_all-returns g t c =
    let V = environment_of c.args.frame.now in
    let s = strategy_of c.args.s.now in
    let e = c.loop-part.state.places.items in
    let us = c.loop-part.done.items in
    let none_left = drop_all c.loop-part.part-index c.children-parts.result.now c.loop-part-test.false in
    let so_far = c.loop-part.invariant.decides in
    all_done c.args.t.now c.children-parts.ensures so_far.less (trees_of us) e _ (c.build_outcome.ensures e ∙
    remade_ending c.args.t.now us c.in_ok-made.made e c.in_ok-made.ensures)
    (decides_end none_left so_far (all_at_end V s e c.loop-part.state.budget))

pub evaluate_one-returns-in-Rewritten : goal.evaluate_one-returns-in-Rewritten
evaluate_one-returns-in-Rewritten g t c =
    let xs = c.children-parts.result.now in
    let i = c.loop-i.i in
    let left = left_at xs i c.index-parts-i.result c.loop-i-test.true c.index-parts-i.is in
    let so_far = c.loop-i.invariant in
    let ran = rewritten_to _ c.in-Rewritten.is c.in_ok-other.ensures in
    let f = c.evaluate.new.state.places.items in
    let changed = more c.in-Rewritten.u (trees_of (drop (i + 1) xs)) in
    let less = ran.left in
    let before = so_far.less in
    one_done c.args.t.now c.children-parts.ensures (omega arith) (joined (take i xs) changed) f _
    (c.build_outcome.ensures f ∙ (remade_ending c.args.t.now c.in_ok-changed-in-Rewritten.changed.items
    c.in_ok-made-in-Rewritten.made f c.in_ok-made-in-Rewritten.ensures ∙
    ap (λ ts. ends (rebuilt c.args.t.now (ok ts f))) (ap trees_of c.in_ok-changed-in-Rewritten.ensures ∙
    sym (one_changed xs i c.in-Rewritten.u c.loop-i-test.true))))
    (decides_found left so_far changed (one_finds ran.settled))

pub evaluate_one-returns-in_default : goal.evaluate_one-returns-in_default
evaluate_one-returns-in_default g t c =
    let xs = c.children-parts.result.now in
    let i = c.loop-i.i in
    let left = left_at xs i c.index-parts-i.result c.loop-i-test.true c.index-parts-i.is in
    let so_far = c.loop-i.invariant in
    let ran = c.in_ok-other.ensures in
    let ended = no_term c.in_ok-other.other c.in_default.not-Rewritten in
    let less = ran.left in
    let before = so_far.less in
    one_stopped c.args.t.now c.children-parts.ensures (omega arith) _ c.in_ok-other.other ended
    (decides_stop left so_far c.in_ok-other.other (one_ended _ c.in_ok-other.other ended c.in_default.not-Failed ran))

pub evaluate_one-loop-i-preserved : goal.evaluate_one-loop-i-preserved
evaluate_one-loop-i-preserved g t c =
    let xs = c.children-parts.result.now in
    let i = c.loop-i.i in
    let left = left_at xs i c.index-parts-i.result c.loop-i-test.true c.index-parts-i.is in
    let K = OfOne (g.P.Primitives.meaning c.args.primitives.now) (environment_of c.args.frame.now)
    (strategy_of c.args.s.now) in
    let saved : c.in_ok-saved.saved.items ≡ c.loop-i.state.places.items =
    c.in_ok-saved.ensures ∙ c.as_slice.ensures.value in
    let next = taken_at xs i c.index-parts-i.result c.loop-i-test.true c.index-parts-i.is in
    subst (λ z. Decides K xs c.args.state.now.places.items c.args.state.now.budget false (drop (i + 1) xs)
    z c.evaluate.new.state.budget (take (i + 1) xs)) (sym saved)
    (let ran = failed_to _ c.in-Failed.is c.in_ok-other.ensures in
    decides_on left (c.loop-i.invariant) c.index-parts-i.result next ran.left (λ v d y. one_goes_on ran.settled y))

pub evaluate_one-returns : goal.evaluate_one-returns
evaluate_one-returns g t c =
    let V = environment_of c.args.frame.now in
    let s = strategy_of c.args.s.now in
    let e = c.loop-i.state.places.items in
    let so_far = c.loop-i.invariant in
    one_stopped c.args.t.now c.children-parts.ensures so_far.less e Failed tt
    (decides_none (drop_all c.loop-i.i c.children-parts.result.now c.loop-i-test.false)
    so_far (one_at_end V s e c.loop-i.state.budget))

pub evaluate_some-returns-in_default : goal.evaluate_some-returns-in_default
evaluate_some-returns-in_default g t c =
    let xs = c.children-parts.result.now in
    let i = c.loop-part.part-index in
    let left = left_at xs i c.part-item.result c.loop-part-test.true c.part-item.is in
    let so_far = c.loop-part.invariant in
    let ran = c.in_ok-other.ensures in
    let ended = no_term c.in_ok-other.other c.in_default.not-Rewritten in
    let less = ran.left in
    let before = so_far.decides.less in
    some_stopped c.args.t.now c.children-parts.ensures (omega arith) _ c.in_ok-other.other ended
    (decides_stop left (so_far.decides)
    c.in_ok-other.other (some_ended _ c.loop-part.found c.in_ok-other.other ended c.in_default.not-Failed ran))

pub evaluate_some-loop-part-preserved : goal.evaluate_some-loop-part-preserved
evaluate_some-loop-part-preserved g t c =
    let xs = c.children-parts.result.now in
    let i = c.loop-part.part-index in
    let left = left_at xs i c.part-item.result c.loop-part-test.true c.part-item.is in
    let so_far = c.loop-part.invariant in
    let saved : c.in_ok-kept.kept.items ≡ c.loop-part.state.places.items =
    c.in_ok-kept.ensures ∙ c.as_slice.ensures.value in
    elim c.match-branch-3.branch [
      | evaluate_some-in-Rewritten+in_ok-push-in-Rewritten w ↦
          let pushed = w.in_ok-push-in-Rewritten.ensures.items in
          walk_moved w.found-is (ap (λ z. z.places.items) w.state-is) (ap (λ z. z.budget) w.state-is)
          (ap (λ v. v.items) w.results-is)
          (record {
            decides = let ran = rewritten_to _ w.in-Rewritten.is c.in_ok-other.ensures in
                decides_on left (so_far.decides) w.in-Rewritten.u pushed ran.left (λ v d y. some_goes_on ran.settled y);
            count = one_more _ _ _ _ pushed so_far.count;
          })
      | evaluate_some-in-Failed+in_ok-clone-in-Failed+in_ok-push-in-Failed w ↦
          let pushed = w.in_ok-push-in-Failed.ensures.items ∙
          ap (λ u. c.loop-part.results.items ++ u ∷ []) w.in_ok-clone-in-Failed.ensures.cases in
          walk_moved w.found-is (ap (λ z. z.places.items) w.state-is ∙
          saved) (ap (λ z. z.budget) w.state-is) (ap (λ v. v.items) w.results-is)
          (record {
            decides = let ran = failed_to _ w.in-Failed.is c.in_ok-other.ensures in
                decides_on left (so_far.decides)
                c.part-item.result pushed ran.left (λ v d y. some_leaves ran.settled y);
            count = one_more _ _ _ _ pushed so_far.count;
          })
    ]

pub evaluate_some-returns-then-not-found : goal.evaluate_some-returns-then-not-found
evaluate_some-returns-then-not-found g t c =
    let V = environment_of c.args.frame.now in
    let s = strategy_of c.args.s.now in
    let e = c.loop-part.state.places.items in
    let so_far = c.loop-part.invariant.decides in
    some_stopped c.args.t.now c.children-parts.ensures so_far.less e Failed tt
    (decides_none (drop_all c.loop-part.part-index c.children-parts.result.now c.loop-part-test.false)
    so_far (none_found (g.P.Primitives.meaning c.args.primitives.now)
    V s e c.loop-part.state.budget c.loop-part.found c.if-not-found.true))

pub evaluate_some-returns : goal.evaluate_some-returns
evaluate_some-returns g t c =
    let V = environment_of c.args.frame.now in
    let s = strategy_of c.args.s.now in
    let e = c.loop-part.state.places.items in
    let us = c.loop-part.results.items in
    let none_left = drop_all c.loop-part.part-index c.children-parts.result.now c.loop-part-test.false in
    let so_far = c.loop-part.invariant.decides in
    some_done c.args.t.now c.children-parts.ensures so_far.less (trees_of us) e _ (c.build_outcome.ensures e ∙
    remade_ending c.args.t.now us c.in_ok-made.made e c.in_ok-made.ensures)
    (decides_end none_left so_far
    (some_found (g.P.Primitives.meaning c.args.primitives.now)
    V s e c.loop-part.state.budget c.loop-part.found c.if-not-found.false))

pub evaluate_call-returns-in-None : goal.evaluate_call-returns-in-None
evaluate_call-returns-in-None g t c =
    nothing_called c.in-None.ensures

pub evaluate_call-returns-in_ok-ending-in-Some-Parameter : goal.evaluate_call-returns-in_ok-ending-in-Some-Parameter
evaluate_call-returns-in_ok-ending-in-Some-Parameter g t c =
    let read = reads_closure c.in-Some-Parameter.closure in
    parameter_done _ c.in_ok-ending-in-Some-Parameter.ending (c.in-Some-Parameter.ensures ∙
    ap (λ z. Some (callee_of z)) c.in-Some-Parameter.field-0-is)
    (moved_to (ap (λ z. z.environment) (sym read)) (ap (λ z. z.strategy) (sym read))
    refl c.in_ok-ending-in-Some-Parameter.ensures)

pub evaluate_definition-returns-in-None : goal.evaluate_definition-returns-in-None
evaluate_definition-returns-in-None g t c =
    let place = by_coordinates.place_of (environment_of c.args.frame.now) in
    let terms = patterns_of c.args.terms.now in
    let same = ap (λ e. instances place terms e) (sym c.as_slice.ensures.value) in
    λ x is. argument_lacks is (same ∙ lacks_made c.in_ok-instances.ensures c.in-None.is)

pub evaluate_definition-returns-in-Some-Oversize : goal.evaluate_definition-returns-in-Some-Oversize
evaluate_definition-returns-in-Some-Oversize g t c =
    let place = by_coordinates.place_of (environment_of c.args.frame.now) in
    let terms = patterns_of c.args.terms.now in
    let same = ap (λ e. instances place terms e) (sym c.as_slice.ensures.value) in
    let large = one_too_large c.in_ok-instances.ensures c.in-Some-Oversize.is c.in-Some-Oversize.field-0-is in
    λ x is. argument_too_large is large.0 (same ∙ large.1) large.2

pub evaluate_definition-returns : goal.evaluate_definition-returns
evaluate_definition-returns g t c =
    let place = by_coordinates.place_of (environment_of c.args.frame.now) in
    let terms = patterns_of c.args.terms.now in
    let same = ap (λ e. instances place terms e) (sym c.as_slice.ensures.value) in
    let made = all_made c.in_ok-instances.ensures c.in-Some-Fits.is c.in-Some-Fits.field-0-is in
    let e = c.args.state.now.places.items in
    let up = environment_of c.args.home.now in
    let def = reads_def c.args.def.now in
    let m = (out-CoreDef c.args.def.now).strats in
    let k = (out-CoreDef c.args.def.now).terms in
    let base : c.len-first.result ≡ length e = c.len-first.ensures ∙ c.args.state.now.places.ok.0 in
    let cut : c.truncate.new.self.items ≡ take c.len-first.result c.evaluate.new.state.places.items =
    c.truncate.ensures.items in
    let closures : closures_in (map closure_of c.as_slice-closures.result.now) ≡
    closures_of by_coordinates (environment_of c.args.frame.now) (strategies_of c.args.strategies.now) =
    ap (λ cs. closures_in (map closure_of cs)) c.as_slice-closures.ensures.value ∙ sym c.in_ok-closures.ensures in
    let inner = reads_layer _ _ _ _ _ ∙
    (ap (λ n. layer n m k (closures_in (map closure_of c.as_slice-closures.result.now)) up) base ∙
    (ap (λ cs. layer (length e) m k cs up) closures ∙
    ap (λ d. layer (length e)
    d.strats d.terms (closures_of by_coordinates (environment_of c.args.frame.now)
    (strategies_of c.args.strategies.now)) up) (sym def))) in
    let pushed = c.in_ok-push_terms-in-Some-Fits.ensures ∙
    ap (λ us. e ++ filled_places (trees_of us)) c.as_slice-in-Some-Fits.ensures.value in
    λ x is. rw (cut, base) (definition_done is _ c.in_ok-ending-in-Some-Fits.ending (same ∙
    made.0) made.1 (moved_to inner (ap (λ d. d.body) (sym def)) pushed c.in_ok-ending-in-Some-Fits.ensures))
