use Rattle.std.proofs.Common.{◌∙◌, ◌-◌, ap, sym, subst, length, add-one}
use Rattle.std.specs.Prelude.{IsTrue}
use Rattle.std.proofs.lemmas.Result.{IfOk-weaker}
use Rattle.prim_registry.specs.Entries.{entries_of}
use Rattle.prim_registry.specs.Registered.{meaning_of}
use Rattle.strat_steps.specs.ReferenceSteps.{counts, gives_up_so, jumps, finishes}
use Rattle.strat_machine.proofs.OpenedLaws.{both_ok}
use Rattle.strat_machine.proofs.StepLaws.{does_to, tries_so}
use Rattle.strat_machine.proofs.ActionLaws.{cannot_step, steps_by, steps_on, is_action, as_instr, as_meant, next_run, match_is, build_is, select_is, call_is, primitive_is, takes_as_many, position_as, known_as, tables_known}
use Rattle.strat_machine.proofs.SelectingLaws.{selects_as, case_tried}
use Rattle.strat_machine.proofs.instructions.perform.Goals.{in-Try-action, in-Select+in-Case}
use Rattle.strat_machine.proofs.instructions.perform.Goals as goal

pub returns-then-stacks-instr-clause-step : goal.returns-then-stacks-instr-clause-step
returns-then-stacks-instr-clause-step g c =
    cannot_step g.S.TermSpace.space (meaning_of g.M.PrimMeaning.answer c.args.registry.now)
    c.requires.loaded c.args.position.now c.args.stacks.now _ c.requires.instrs c.index-instrs-position.result
    c.requires.in_range c.index-instrs-position.is c.if-stacks-instr.true

pub perform_match-requires-clause-known : goal.perform_match-requires-clause-known
perform_match-requires-clause-known g c =
    (is_action g.S.TermSpace.space (meaning_of g.M.PrimMeaning.answer c.args.registry.now)
    c.requires.loaded c.args.position.now c.args.stacks.now _ c.requires.instrs c.index-instrs-position.result
    c.requires.in_range c.index-instrs-position.is _ c.in-Match.is).3.known

pub perform_build-requires-clause-known : goal.perform_build-requires-clause-known
perform_build-requires-clause-known g c =
    (is_action g.S.TermSpace.space (meaning_of g.M.PrimMeaning.answer c.args.registry.now)
    c.requires.loaded c.args.position.now c.args.stacks.now _ c.requires.instrs c.index-instrs-position.result
    c.requires.in_range c.index-instrs-position.is _ c.in-Build.is).3.known

pub perform_select-requires-clause-known : goal.perform_select-requires-clause-known
perform_select-requires-clause-known g c =
    let s = g.S.TermSpace.space in
    tables_known (s.knows c.args.space.now) (s.symbol_of c.args.space.now)
    s.number_of c.args.program.now.tables.items _ c.args.code.now.tables c.as_slice-tables.ensures.value
    c.requires.loaded.tables

pub perform_call-requires-clause-known : goal.perform_call-requires-clause-known
perform_call-requires-clause-known g c =
    known_as (g.S.TermSpace.space.knows c.args.space.now)
    c.deref-in-CallDefinition.ensures.value
    (is_action g.S.TermSpace.space (meaning_of g.M.PrimMeaning.answer c.args.registry.now)
    c.requires.loaded c.args.position.now c.args.stacks.now _ c.requires.instrs c.index-instrs-position.result
    c.requires.in_range c.index-instrs-position.is _ c.in-CallDefinition.is).5.known

pub perform_primitive-requires-clause-index : goal.perform_primitive-requires-clause-index
perform_primitive-requires-clause-index g c =
    let h = is_action g.S.TermSpace.space (meaning_of g.M.PrimMeaning.answer c.args.registry.now)
    c.requires.loaded c.args.position.now c.args.stacks.now _ c.requires.instrs c.index-instrs-position.result
    c.requires.in_range c.index-instrs-position.is _ c.in-ApplyPrimitive.is in
    takes_as_many (entries_of c.args.registry.now)
    c.in-ApplyPrimitive.index h.1.items _
    (position_as (entries_of c.args.registry.now)
    c.in-ApplyPrimitive.index h.1.items (ap length (sym c.deref-in-ApplyPrimitive.ensures.value)) h.4)

pub perform_primitive-requires-clause-known : goal.perform_primitive-requires-clause-known
perform_primitive-requires-clause-known g c =
    known_as (g.S.TermSpace.space.knows c.args.space.now)
    c.deref-in-ApplyPrimitive.ensures.value
    (is_action g.S.TermSpace.space (meaning_of g.M.PrimMeaning.answer c.args.registry.now)
    c.requires.loaded c.args.position.now c.args.stacks.now _ c.requires.instrs c.index-instrs-position.result
    c.requires.in_range c.index-instrs-position.is _ c.in-ApplyPrimitive.is).5.known

pub returns-in-Count-clause-step : goal.returns-in-Count-clause-step
returns-in-Count-clause-step g c =
    steps_by g.S.TermSpace.space (meaning_of g.M.PrimMeaning.answer c.args.registry.now)
    c.requires.loaded c.args.position.now c.args.stacks.now _ c.requires.instrs c.index-instrs-position.result
    c.requires.in_range c.index-instrs-position.is _ c.in-Count.is c.if-stacks-instr.false
    (λ v is. as_instr c.args.code.now.tables _ is.1 (does_to counts (next_run c.args.position.now.address))) tt

pub returns-in-GiveUp-clause-step : goal.returns-in-GiveUp-clause-step
returns-in-GiveUp-clause-step g c =
    steps_by g.S.TermSpace.space (meaning_of g.M.PrimMeaning.answer c.args.registry.now)
    c.requires.loaded c.args.position.now c.args.stacks.now _ c.requires.instrs c.index-instrs-position.result
    c.requires.in_range c.index-instrs-position.is _ c.in-GiveUp.is c.if-stacks-instr.false
    (λ v is. as_instr c.args.code.now.tables _ is.1 gives_up_so) tt

pub returns-in-Match-clause-step : goal.returns-in-Match-clause-step
returns-in-Match-clause-step g c =
    IfOk-weaker c.perform_match.result _ _
    (λ next h. steps_by g.S.TermSpace.space (meaning_of g.M.PrimMeaning.answer c.args.registry.now)
    c.requires.loaded c.args.position.now c.args.stacks.now _ c.requires.instrs c.index-instrs-position.result
    c.requires.in_range c.index-instrs-position.is _ c.in-Match.is c.if-stacks-instr.false
    (λ v is. as_meant (match_is c.args.code.now.tables is.2 is.3)
    (h _ is.0 c.args.position.now.address (add-one c.args.position.now.address))) tt) c.perform_match.ensures.step

pub returns-in-Build-clause-step : goal.returns-in-Build-clause-step
returns-in-Build-clause-step g c =
    IfOk-weaker c.perform_build.result _ _
    (λ next h. steps_by g.S.TermSpace.space (meaning_of g.M.PrimMeaning.answer c.args.registry.now)
    c.requires.loaded c.args.position.now c.args.stacks.now _ c.requires.instrs c.index-instrs-position.result
    c.requires.in_range c.index-instrs-position.is _ c.in-Build.is c.if-stacks-instr.false
    (λ v is. as_meant (build_is c.args.code.now.tables is.2 is.3)
    (h _ is.0 c.args.position.now.address (add-one c.args.position.now.address))) tt) c.perform_build.ensures.step

pub returns-in_ok-enter_scope-in-Enter-clause-step : goal.returns-in_ok-enter_scope-in-Enter-clause-step
returns-in_ok-enter_scope-in-Enter-clause-step g c =
    steps_by g.S.TermSpace.space (meaning_of g.M.PrimMeaning.answer c.args.registry.now)
    c.requires.loaded c.args.position.now c.args.stacks.now _ c.requires.instrs c.index-instrs-position.result
    c.requires.in_range c.index-instrs-position.is _ c.in-Enter.is c.if-stacks-instr.false
    (λ v is. as_instr c.args.code.now.tables _ is.1
    (c.in_ok-enter_scope-in-Enter.ensures _ c.args.space.now is.0 c.args.position.now.address
    (add-one c.args.position.now.address))) tt

pub returns-in-Leave-clause-step : goal.returns-in-Leave-clause-step
returns-in-Leave-clause-step g c =
    steps_by g.S.TermSpace.space (meaning_of g.M.PrimMeaning.answer c.args.registry.now)
    c.requires.loaded c.args.position.now c.args.stacks.now _ c.requires.instrs c.index-instrs-position.result
    c.requires.in_range c.index-instrs-position.is _ c.in-Leave.is c.if-stacks-instr.false
    (λ v is. as_instr c.args.code.now.tables _ is
    (c.leave_scope.ensures _ c.args.space.now c.args.position.now.address (add-one c.args.position.now.address))) tt

pub returns-in_ok-extend_scope-in-Extend-clause-step : goal.returns-in_ok-extend_scope-in-Extend-clause-step
returns-in_ok-extend_scope-in-Extend-clause-step g c =
    steps_by g.S.TermSpace.space (meaning_of g.M.PrimMeaning.answer c.args.registry.now)
    c.requires.loaded c.args.position.now c.args.stacks.now _ c.requires.instrs c.index-instrs-position.result
    c.requires.in_range c.index-instrs-position.is _ c.in-Extend.is c.if-stacks-instr.false
    (λ v is. as_instr c.args.code.now.tables _ is.1
    (c.in_ok-extend_scope-in-Extend.ensures _ c.args.space.now is.0 c.args.position.now.address
    (add-one c.args.position.now.address))) tt

pub returns-in-Shrink-clause-step : goal.returns-in-Shrink-clause-step
returns-in-Shrink-clause-step g c =
    steps_by g.S.TermSpace.space (meaning_of g.M.PrimMeaning.answer c.args.registry.now)
    c.requires.loaded c.args.position.now c.args.stacks.now _ c.requires.instrs c.index-instrs-position.result
    c.requires.in_range c.index-instrs-position.is _ c.in-Shrink.is c.if-stacks-instr.false
    (λ v is. as_instr c.args.code.now.tables _ is
    (c.shrink_scope.ensures _ c.args.space.now c.args.position.now.address (add-one c.args.position.now.address))) tt

pub returns-in-Commit-clause-step : goal.returns-in-Commit-clause-step
returns-in-Commit-clause-step g c =
    steps_by g.S.TermSpace.space (meaning_of g.M.PrimMeaning.answer c.args.registry.now)
    c.requires.loaded c.args.position.now c.args.stacks.now _ c.requires.instrs c.index-instrs-position.result
    c.requires.in_range c.index-instrs-position.is _ c.in-Commit.is c.if-stacks-instr.false
    (λ v is. as_instr c.args.code.now.tables _ is.1
    (c.commit_choice.ensures _ c.args.space.now is.0 c.args.position.now.address)) tt

pub returns-in-Jump-clause-step : goal.returns-in-Jump-clause-step
returns-in-Jump-clause-step g c =
    steps_by g.S.TermSpace.space (meaning_of g.M.PrimMeaning.answer c.args.registry.now)
    c.requires.loaded c.args.position.now c.args.stacks.now _ c.requires.instrs c.index-instrs-position.result
    c.requires.in_range c.index-instrs-position.is _ c.in-Jump.is c.if-stacks-instr.false
    (λ v is. as_instr c.args.code.now.tables _ is jumps) tt

pub returns-in-Traverse-clause-step : goal.returns-in-Traverse-clause-step
returns-in-Traverse-clause-step g c =
    IfOk-weaker c.traverse_parts.result _ _
    (λ next h. steps_on g.S.TermSpace.space (meaning_of g.M.PrimMeaning.answer c.args.registry.now)
    c.requires.loaded c.args.position.now c.args.stacks.now _ c.requires.instrs c.index-instrs-position.result
    c.requires.in_range c.index-instrs-position.is _ c.in-Traverse.is c.if-stacks-instr.false
    (λ v is. as_instr c.args.code.now.tables _ is.1
    (h.0 _ is.0 c.args.position.now.address (add-one c.args.position.now.address)))
    c.traverse_parts.ensures.keeps h.1.all)
    (both_ok c.traverse_parts.result _ _ c.traverse_parts.ensures.step c.traverse_parts.ensures.stays)

pub returns-in-PartDone-clause-step : goal.returns-in-PartDone-clause-step
returns-in-PartDone-clause-step g c =
    IfOk-weaker c.end_part.result _ _
    (λ next h. steps_on g.S.TermSpace.space (meaning_of g.M.PrimMeaning.answer c.args.registry.now)
    c.requires.loaded c.args.position.now c.args.stacks.now _ c.requires.instrs c.index-instrs-position.result
    c.requires.in_range c.index-instrs-position.is _ c.in-PartDone.is c.if-stacks-instr.false
    (λ v is. as_instr c.args.code.now.tables _ is (h.0 _ c.args.position.now.address))
    c.end_part.ensures.keeps h.1.all)
    (both_ok c.end_part.result _ _ c.end_part.ensures.step c.end_part.ensures.stays)

pub returns-in-CallDefinition-clause-step : goal.returns-in-CallDefinition-clause-step
returns-in-CallDefinition-clause-step g c =
    IfOk-weaker c.perform_call.result _ _
    (λ next h. steps_by g.S.TermSpace.space (meaning_of g.M.PrimMeaning.answer c.args.registry.now)
    c.requires.loaded c.args.position.now c.args.stacks.now _ c.requires.instrs c.index-instrs-position.result
    c.requires.in_range c.index-instrs-position.is _ c.in-CallDefinition.is c.if-stacks-instr.false
    (λ v is. as_meant (call_is c.args.code.now.tables is.3 (c.deref.ensures.value ∙
    is.4) c.deref-in-CallDefinition.ensures.value is.5) (h _ is.0 c.args.position.now.address)) tt)
    c.perform_call.ensures.step

pub returns-in_ok-call_parameter-in-CallClosure-clause-step :
    goal.returns-in_ok-call_parameter-in-CallClosure-clause-step
returns-in_ok-call_parameter-in-CallClosure-clause-step g c =
    steps_by g.S.TermSpace.space (meaning_of g.M.PrimMeaning.answer c.args.registry.now)
    c.requires.loaded c.args.position.now c.args.stacks.now _ c.requires.instrs c.index-instrs-position.result
    c.requires.in_range c.index-instrs-position.is _ c.in-CallClosure.is c.if-stacks-instr.false
    (λ v is. as_instr c.args.code.now.tables _ is.1
    (c.in_ok-call_parameter-in-CallClosure.ensures _ c.args.space.now is.0 c.args.position.now.address
    (add-one c.args.position.now.address))) tt

pub returns-in-EndDefinition-clause-step : goal.returns-in-EndDefinition-clause-step
returns-in-EndDefinition-clause-step g c =
    steps_by g.S.TermSpace.space (meaning_of g.M.PrimMeaning.answer c.args.registry.now)
    c.requires.loaded c.args.position.now c.args.stacks.now _ c.requires.instrs c.index-instrs-position.result
    c.requires.in_range c.index-instrs-position.is _ c.in-EndDefinition.is c.if-stacks-instr.false
    (λ v is. as_instr c.args.code.now.tables _ is
    (c.leave_definition.ensures _ c.args.space.now c.args.position.now.address)) tt

pub returns-in-EndArgument-clause-step : goal.returns-in-EndArgument-clause-step
returns-in-EndArgument-clause-step g c =
    steps_by g.S.TermSpace.space (meaning_of g.M.PrimMeaning.answer c.args.registry.now)
    c.requires.loaded c.args.position.now c.args.stacks.now _ c.requires.instrs c.index-instrs-position.result
    c.requires.in_range c.index-instrs-position.is _ c.in-EndArgument.is c.if-stacks-instr.false
    (λ v is. as_instr c.args.code.now.tables _ is
    (c.leave_argument.ensures _ c.args.space.now c.args.position.now.address)) tt

pub returns-in-ApplyPrimitive-clause-step : goal.returns-in-ApplyPrimitive-clause-step
returns-in-ApplyPrimitive-clause-step g c =
    IfOk-weaker c.perform_primitive.result _ _
    (λ next h. steps_by g.S.TermSpace.space (meaning_of g.M.PrimMeaning.answer c.args.registry.now)
    c.requires.loaded c.args.position.now c.args.stacks.now _ c.requires.instrs c.index-instrs-position.result
    c.requires.in_range c.index-instrs-position.is _ c.in-ApplyPrimitive.is c.if-stacks-instr.false
    (λ v is. as_meant (primitive_is c.args.code.now.tables is.3 c.deref-in-ApplyPrimitive.ensures.value is.5)
    (h is.1.items is.0 c.args.position.now.address
    (position_as (entries_of c.args.registry.now)
    c.in-ApplyPrimitive.index is.1.items (ap length (sym c.deref-in-ApplyPrimitive.ensures.value)) is.4)
    (add-one c.args.position.now.address))) tt) c.perform_primitive.ensures.step

pub returns-in-Finish-clause-step : goal.returns-in-Finish-clause-step
returns-in-Finish-clause-step g c =
    steps_by g.S.TermSpace.space (meaning_of g.M.PrimMeaning.answer c.args.registry.now)
    c.requires.loaded c.args.position.now c.args.stacks.now _ c.requires.instrs c.index-instrs-position.result
    c.requires.in_range c.index-instrs-position.is _ c.in-Finish.is c.if-stacks-instr.false
    (λ v is. as_instr c.args.code.now.tables _ is finishes) tt

pub returns-in-NoCase-clause-step : goal.returns-in-NoCase-clause-step
returns-in-NoCase-clause-step g c =
    steps_by g.S.TermSpace.space (meaning_of g.M.PrimMeaning.answer c.args.registry.now)
    c.requires.loaded c.args.position.now c.args.stacks.now _ c.requires.instrs c.index-instrs-position.result
    c.requires.in_range c.index-instrs-position.is _ c.in-Select.is c.if-stacks-instr.false
    (λ v is. as_meant (select_is (g.S.TermSpace.space.knows c.args.space.now)
    (g.S.TermSpace.space.symbol_of c.args.space.now)
    g.S.TermSpace.space.number_of c.args.program.now.tables.items _ c.args.code.now.tables is.1 c.requires.loaded.tables
    c.as_slice-tables.ensures.value)
    (selects_as g.S.TermSpace.space _ c.args.space.now _ c.args.position.now.address c.args.position.now
    (record c.args.stacks.now { left = c.args.stacks.now.left - c.index-instrs-position.result.nodes })
    c.perform_select.new.position c.perform_select.new.stacks c.in-NoCase.is
    (c.perform_select.ensures.selects _ is.0 c.args.position.now.address))) tt

pub returns-in-Spent-clause-step : goal.returns-in-Spent-clause-step
returns-in-Spent-clause-step g c =
    steps_by g.S.TermSpace.space (meaning_of g.M.PrimMeaning.answer c.args.registry.now)
    c.requires.loaded c.args.position.now c.args.stacks.now _ c.requires.instrs c.index-instrs-position.result
    c.requires.in_range c.index-instrs-position.is _ c.in-Select.is c.if-stacks-instr.false
    (λ v is. as_meant (select_is (g.S.TermSpace.space.knows c.args.space.now)
    (g.S.TermSpace.space.symbol_of c.args.space.now)
    g.S.TermSpace.space.number_of c.args.program.now.tables.items _ c.args.code.now.tables is.1 c.requires.loaded.tables
    c.as_slice-tables.ensures.value)
    (selects_as g.S.TermSpace.space _ c.args.space.now _ c.args.position.now.address c.args.position.now
    (record c.args.stacks.now { left = c.args.stacks.now.left - c.index-instrs-position.result.nodes })
    c.perform_select.new.position c.perform_select.new.stacks c.in-Spent.is
    (c.perform_select.ensures.selects _ is.0 c.args.position.now.address))) tt

pub put_choice-requires : goal.put_choice-requires
put_choice-requires g c =
    let stands : g.row.S-Ref.Denot → Type 0 = λ t. IsTrue (g.S.TermSpace.space.stands c.args.space.now t) in
    elim c.match-instr-2.branch [
      | in-Try-action b ↦ subst stands (sym (ap (λ p. p.term) b.position-is)) c.requires.holds.0
      | in-Select+in-Case b ↦ subst stands (sym (ap (λ p. p.term) b.position-is ∙ b.perform_select.ensures.term))
          c.requires.holds.0
    ]

pub returns-in_ok-put_choice-in-Try-clause-step : goal.returns-in_ok-put_choice-in-Try-clause-step
returns-in_ok-put_choice-in-Try-clause-step g c =
    elim c.match-instr-2.branch [
      | in-Try-action b ↦ steps_by g.S.TermSpace.space (meaning_of g.M.PrimMeaning.answer c.args.registry.now)
          c.requires.loaded c.args.position.now c.args.stacks.now _ c.requires.instrs c.index-instrs-position.result
          c.requires.in_range c.index-instrs-position.is _ b.in-Try-action.is c.if-stacks-instr.false
          (λ v is. as_instr c.args.code.now.tables _ is.1
          (case_tried g.S.TermSpace.space _ c.args.space.now _ c.args.position.now.address c.args.position.now
          (record c.args.stacks.now { left = c.args.stacks.now.left - c.index-instrs-position.result.nodes })
          c.put_choice.new.stacks b.position-is b.stacks-is b.otherwise-is
          (λ m x. tries_so _ is.0 c.args.position.now.address (add-one c.args.position.now.address) x)
          c.in_ok-put_choice-in-Try.ensures)) tt
      | in-Select+in-Case b ↦ steps_by g.S.TermSpace.space (meaning_of g.M.PrimMeaning.answer c.args.registry.now)
          c.requires.loaded c.args.position.now c.args.stacks.now _ c.requires.instrs c.index-instrs-position.result
          c.requires.in_range c.index-instrs-position.is _ b.in-Select.is c.if-stacks-instr.false
          (λ v is. as_meant (select_is (g.S.TermSpace.space.knows c.args.space.now)
          (g.S.TermSpace.space.symbol_of c.args.space.now)
          g.S.TermSpace.space.number_of c.args.program.now.tables.items _ c.args.code.now.tables is.1
          c.requires.loaded.tables b.as_slice-tables.ensures.value)
          (case_tried g.S.TermSpace.space _ c.args.space.now _ c.args.position.now.address c.args.position.now
          (record c.args.stacks.now { left = c.args.stacks.now.left - c.index-instrs-position.result.nodes })
          c.put_choice.new.stacks b.position-is b.stacks-is b.otherwise-is
          (selects_as g.S.TermSpace.space _ c.args.space.now _ c.args.position.now.address c.args.position.now
          (record c.args.stacks.now { left = c.args.stacks.now.left - c.index-instrs-position.result.nodes })
          b.perform_select.new.position b.perform_select.new.stacks b.in-Case.is
          (b.perform_select.ensures.selects _ is.0 c.args.position.now.address)) c.in_ok-put_choice-in-Try.ensures)) tt
    ]
