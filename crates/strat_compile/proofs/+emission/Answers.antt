use Rattle.std.proofs.Common.{ap, ◌∙◌, refl}
use Rattle.std.proofs.lemmas.Result.{on_ok_weaker}
use Rattle.core_lang.specs.Views.{strategy_of}
use Rattle.core_lang.proofs.ReadLaws.{reads_id}
use Rattle.strat_compile.specs.Layers.{site_of}
use Rattle.strat_compile.proofs.OpenLaws.{argument_emits, open_row, conditional_row, part_follows, success_follows}
use Rattle.strat_compile.proofs.ChoiceLaws.{choice_row, joined_row, of_guard}
use Rattle.strat_compile.proofs.FormLaws.{sequence_row, let_row, called_row, of_arm, of_framed, bodies_next, no_rest_yet, scope_body}
use Rattle.strat_compile.proofs.LayerLaws.{site_framed, site_within, site_defining, site_frameless, site_specialized}
use Rattle.strat_compile.proofs.ScopeLaws.{no_scope}
use Rattle.strat_compile.proofs.RowLaws.{apart_row, inline_row, own_row, plain_body, arm_row, bodies_done, id_then, inner_row, scope_row}
use Rattle.strat_compile.proofs.+emission.Goals as goal

pub emit::emit-returns-in_ok-nodes-in-Sequence : goal.emit::emit-returns-in_ok-nodes-in-Sequence
emit::emit-returns-in_ok-nodes-in-Sequence t c =
    on_ok_weaker c.emit-in-Sequence.result
    (λ first. sequence_row c.args.s.now _ _ _ _ _ _ _ _ _ _ _ _ _ _ _ c.in-Sequence.is c.as_slice.ensures.value
    c.deref.ensures c.deref-in-Sequence.ensures c.in_ok-nodes-in-Sequence.ensures
    c.in_ok-following-in-Sequence.ensures c.in_ok-emit-in-Sequence.ensures first) c.emit-in-Sequence.ensures

pub emit::emit-returns-in_ok-emit_arms-in-Choice : goal.emit::emit-returns-in_ok-emit_arms-in-Choice
emit::emit-returns-in_ok-emit_arms-in-Choice t c =
    on_ok_weaker c.emit_first.result
    (λ first. choice_row c.args.s.now _ _ _ _ _ _ _ _ _ _ _ _ _ _ _ _ _ _ _ c.in-Choice.is c.as_slice-more.ensures.value
    c.deref-in-Choice.ensures c.deref-in-Choice-2.ensures c.place-end.ensures
    c.place-last.ensures c.new-chain.ensures.bodies c.new-chain.ensures.last c.in_ok-emit-in-Choice.ensures
    c.in_ok-emit_arms-in-Choice.ensures first) c.emit_first.ensures

pub choices::emit_joined-returns : goal.choices::emit_joined-returns
choices::emit_joined-returns t c =
    on_ok_weaker c.push.result
    (λ more. joined_row _ _ _ _ _ _ _ _ _ _ _ _ _ _ _ c.requires c.in_ok-emit_commit.ensures
    (of_guard c.args.arm.now _ _ _ _ c.in_ok-emit.ensures) c.place-start.ensures refl more c.push.ensures.last)
    c.push.ensures.bodies

pub emit::emit-returns-in_ok-nodes-in-LetIn : goal.emit::emit-returns-in_ok-nodes-in-LetIn
emit::emit-returns-in_ok-nodes-in-LetIn t c =
    on_ok_weaker c.emit-in-LetIn.result
    (λ h. let_row c.args.s.now _ _ _ _ _ _ _ _ _ _ _ _ _ _ _ c.in-LetIn.is c.as_slice-in-LetIn-2.ensures.value
    c.as_slice-in-LetIn.ensures.value (site_defining _ _ _) c.deref-in-LetIn.ensures
    c.labels-first_label.ensures c.place-end-in-LetIn.ensures c.in_ok-nodes-in-LetIn.ensures
    c.in_ok-emit_definitions-in-LetIn.ensures h) c.emit-in-LetIn.ensures

pub emit::emit-returns-in_ok-emit_call-in-Call : goal.emit::emit-returns-in_ok-emit_call-in-Call
emit::emit-returns-in_ok-emit_call-in-Call t c =
    on_ok_weaker c.mark-in-Call.result
    (λ marked. called_row c.args.s.now _ _ _ _ _ _ c.args.places _ _ _ _ _ c.in-Call.is c.coordinate-at.ensures
    c.as_slice-strategies.ensures.value c.as_slice-terms.ensures.value
    c.in_ok-emit_call-in-Call.ensures marked) c.mark-in-Call.ensures

pub choices::emit_arm-returns : goal.choices::emit_arm-returns
choices::emit_arm-returns t c =
    on_ok_weaker c.emit-2.result
    (λ last. of_arm c.args.arm.now _ _ _ _ _ _
    (arm_row _ _ _ _ _ _ _ _ _ _ _ _ c.in_ok-nodes.ensures c.place-otherwise.ensures c.in_ok-emit_then.ensures
    c.in_ok-emit.ensures last)) c.emit-2.ensures

pub emit::emit_bodies-returns : goal.emit::emit_bodies-returns
emit::emit_bodies-returns t c = bodies_done _ _ _ _ c.loop-def.def-index _ _ c.loop-def-test.false c.loop-def.invariant

pub emit::emit_inner_scope-returns : goal.emit::emit_inner_scope-returns
emit::emit_inner_scope-returns t c =
    on_ok_weaker c.emit-3.result
    (λ last. inner_row _ _ _ _ _ _ _ _ _ _ _ _ (site_within _ _ _)
    c.in_ok-places.ensures c.in_ok-nodes.ensures c.in_ok-emit.ensures c.in_ok-emit-2.ensures last) c.emit-3.ensures

pub emit::emit_rest-loop-index-init : goal.emit::emit_rest-loop-index-init
emit::emit_rest-loop-index-init t c = no_rest_yet c.args.rest.now _ _ _

pub emit::emit_scope-returns : goal.emit::emit_scope-returns
emit::emit_scope-returns t c =
    on_ok_weaker c.emit-3.result
    (λ last. scope_row _ _ _ _ _ _ _ _ _ _ (site_framed _ _ _)
    c.in_ok-nodes.ensures c.in_ok-emit.ensures c.in_ok-emit-2.ensures last) c.emit-3.ensures

pub choices::emit_then-returns-in-Id : goal.choices::emit_then-returns-in-Id
choices::emit_then-returns-in-Id t c =
    on_ok_weaker c.emit_commit.result (λ last. id_then _ _ _ _ _ _ (ap strategy_of c.in-Id.is ∙ reads_id) last)
    c.emit_commit.ensures

pub emit::emit_bodies-loop-def-preserved : goal.emit::emit_bodies-loop-def-preserved
emit::emit_bodies-loop-def-preserved t c =
    bodies_next _ _ _ _ _ _ _ _ c.args.defs.now c.loop-def.def-index c.def-item.result c.loop-def-test.true
    c.in_ok-label.ensures (c.in_ok-mark_start.ensures ∙ c.start.ensures) c.loop-def.invariant
    c.def-item.is c.in_ok-emit_definition.ensures

pub emit::emit_body-returns-in_default : goal.emit::emit_body-returns-in_default
emit::emit_body-returns-in_default t c =
    let none = no_scope c.args.body.now c.in_default.not-Scope in
    on_ok_weaker c.emit_ended-in_default.result (λ h. plain_body _ _ _ _ _ none h) c.emit_ended-in_default.ensures

pub emit::emit_definition-returns : goal.emit::emit_definition-returns
emit::emit_definition-returns t c =
    on_ok_weaker c.emit_body.result (λ h. of_framed c.args.def.now _ _ _ _ (site_framed _ _ _) h) c.emit_body.ensures

pub emit::emit_body-returns-in_ok-places-in-Scope : goal.emit::emit_body-returns-in_ok-places-in-Scope
emit::emit_body-returns-in_ok-places-in-Scope t c =
    on_ok_weaker c.emit_ended.result
    (λ h. scope_body c.args.body.now _ _ _ _ _ _ _ _ _ c.in-Scope.is c.deref.ensures (site_within _ _ _)
    c.in_ok-places-in-Scope.ensures h) c.emit_ended.ensures

pub calls::emit_definition_call-returns-in-Some-own_specialization :
    goal.calls::emit_definition_call-returns-in-Some-own_specialization
calls::emit_definition_call-returns-in-Some-own_specialization t c =
    on_ok_weaker c.emit_code_call.result
    (λ last. own_row _ c.args.at _ _ _ _ c.in-Some-own_specialization.own _ _ c.in-Some-own_specialization.ensures
    c.place-end.ensures last c.args.places) c.emit_code_call.ensures

pub calls::emit_definition_call-returns-in-InPlace : goal.calls::emit_definition_call-returns-in-InPlace
calls::emit_definition_call-returns-in-InPlace t c =
    on_ok_weaker c.emit_in_place.result
    (λ h. inline_row (site_of c.args.layers.now)
    c.args.at _ c.args.terms.now c.in-Some.definition _ _ _ _ _ _ _ _ c.args.places c.in_ok-way.ensures.view
    c.in-Some.ensures c.in-InPlace.is c.in_ok-way.ensures.way c.in-Some-found.is
    (c.in_ok-found.ensures.frameless (site_frameless _)) c.as_slice-arguments.ensures.value h) c.emit_in_place.ensures

pub calls::emit_specialization-returns : goal.calls::emit_specialization-returns
calls::emit_specialization-returns t c =
    on_ok_weaker c.emit_code_call.result
    (λ last. apart_row _ _ c.args.at _ c.args.definition _ _ _ _ _ _ _ _ _ _ _ _ c.requires
    (site_specialized _ _ _ _ _ _) c.labels-label.ensures c.room_of-room.ensures c.place-end.ensures
    c.in_ok-add_labels.ensures c.begin_expansion-began.ensures c.in_ok-emit_body.ensures c.end_expansion.ensures
    c.start.ensures last) c.emit_code_call.ensures

pub open_calls::emit_part-returns-in_ok-nodes-in-Argument : goal.open_calls::emit_part-returns-in_ok-nodes-in-Argument
open_calls::emit_part-returns-in_ok-nodes-in-Argument t c =
    on_ok_weaker c.emit.result (λ h. argument_emits c.args.part c.in-Argument.slot c.in-Argument.known _ _ _ _
    c.args.places c.in-Argument.is c.in_ok-nodes-in-Argument.ensures h) c.emit.ensures

pub open_calls::emit_then_part-returns-in-Success : goal.open_calls::emit_then_part-returns-in-Success
open_calls::emit_then_part-returns-in-Success t c =
    on_ok_weaker c.emit_commit.result (λ last. success_follows c.args.then _ _ _ c.args.places c.in-Success.is last)
    c.emit_commit.ensures

pub open_calls::emit_then_part-returns-in_ok-emit_part-in_default :
    goal.open_calls::emit_then_part-returns-in_ok-emit_part-in_default
open_calls::emit_then_part-returns-in_ok-emit_part-in_default t c =
    on_ok_weaker c.emit-in_default.result
    (λ last. part_follows c.args.then _ _ _ _ _ _ c.args.places c.in_ok-emit-in_default.ensures
    c.in_ok-emit_part-in_default.ensures c.place-next_address.ensures last) c.emit-in_default.ensures

pub open_calls::emit_conditional-returns : goal.open_calls::emit_conditional-returns
open_calls::emit_conditional-returns t c =
    on_ok_weaker c.emit.result
    (λ last ks D parts. conditional_row c.args.conditional ks D _ _ _ _ _ _ _ _ _ c.args.places parts
    c.in_ok-nodes.ensures c.place-end.ensures c.place-otherwise.ensures
    c.in_ok-emit_part.ensures c.in_ok-emit_then_part.ensures c.in_ok-emit_part-2.ensures last) c.emit.ensures

pub open_calls::emit_open_call-returns : goal.open_calls::emit_open_call-returns
open_calls::emit_open_call-returns t c =
    on_ok_weaker c.emit_conditional.result
    (λ h. open_row _ c.args.at _ c.args.terms.now c.args.definition c.in_ok-found.found c.in-Some.conditional _ _ _ _
    c.args.places c.requires.defined c.in-Some.is c.in_ok-found.ensures
    c.in_ok-nodes.ensures h) c.emit_conditional.ensures
