-- Each way that reading can go is a law.
use Rattle.std.proofs.Common.{arith, sym, ◌∙◌, ◌≡◌, None, refl, false, rules, w64, ◌+◌}
use Rattle.std.proofs.lemmas.List.{map-append}
use Rattle.std.proofs.lemmas.Result.{err_from_is_err_and}
use Rattle.str_parser.proofs.CallLaws.{read_any, made_call, no_arguments_found, opened_arguments, argument_pairs, no_terms, barred_terms, arguments_end_missing, none_found, made_some, primitive_alone, primitive_terms, primitive_end_missing, primitive_ends, primitive_pairs, made_primitive}
use Rattle.str_parser.proofs.ChoiceLaws.{strategy_nested, strategy_beyond, missing_sequence, nested_sequence, found_plain, missing_right, nested_right, found_choice, missing_first, nested_first, missing_plus, missing_second, nested_second, found_guarded}
use Rattle.str_parser.proofs.CongruenceLaws.{empty_tuple, made_tuple, tuple_ends, empty_list, list_closed, list_barred, list_end_missing, list_pairs, made_list}
use Rattle.str_parser.proofs.DescentFaults.{beyond_fault}
use Rattle.str_parser.proofs.FormLaws.{rule_pairs, after_left, side_pairs, after_where, no_where}
use Rattle.str_parser.proofs.LetLaws.{definition_pairs, after_head, definitions_row, definition_lists, definitions_end, let_pairs, made_let}
use Rattle.str_parser.proofs.PatternLaws.{pattern_nested, pattern_beyond, alias_part, at_applied, found_applied, after_applied, at_plain, found_bare, after_bare, found_wildcard, found_integer, found_quoted, found_variable, token_missing, mark_missing, application_part, parenthesized_part, found_empty_list, pattern_list_pairs, list_part, missing_plain}
use Rattle.str_parser.proofs.PatternLists.{patterns_row, pattern_lists, closing_ends, found_none, closed_some, found_bracket, list_tail, pattern_end_missing}
use Rattle.str_parser.proofs.PhraseLaws.{reads_whole, carried, carries_on, made, at_made, no_option, at_first, after_first, pair, refused, is_behind, closed_found, at_closed, unclosed, found_any, refused_any, made_any, no_token, made_behind, after_any}
use Rattle.str_parser.proofs.PrimaryLaws.{no_primary, primary_missing, identity_found, failure_found, is_match, is_build, application_pairs, is_apply, scope_pairs, is_scope, in_operand, no_operand, recursive_pairs, is_operator, is_recursive, conditional_pairs, consequence_pairs, is_conditional, at_conditional_end, after_else, conditional_end_missing, backslash_ends, is_lambda}
use Rattle.str_parser.proofs.PrimaryLeads.{keywords_left, marks_left, tokens_left}
use Rattle.str_parser.proofs.RunLaws.{partly_first, at_row_first, partly_more, at_next, partly_found}
use Rattle.str_parser.proofs.SequenceLaws.{sequence_nested, sequence_beyond, sequence_pairs, in_sequence, after_semicolon, step_pairs, after_double_arrow}
use Rattle.str_parser.proofs.StrategyLists.{mark_ends, keyword_ends, strategies_row, strategy_lists}
use Rattle.str_parser.proofs.WayLaws.{fault_along, syntax_fault}
use Rattle.str_parser.specs.Parts.{inner_strategy, inner_sequence, inner_pattern, strategies_from}
use Rattle.str_parser.specs.Readings.{AtMost}
use Rattle.str_syntax.proofs.ReadLaws.{reads_plain_sequence, reads_left_choice, reads_last, reads_then, reads_plain_step, reads_matching, reads_variable, reads_wildcard, reads_alias, reads_integer, reads_quoted, reads_application, reads_list, reads_annotated, reads_applied, reads_applied_to, reads_identity, reads_failure, reads_match, reads_build, reads_apply, reads_scope, reads_operator, reads_recursive, reads_conditional, reads_lambda, reads_made_rule, reads_let, reads_primitive, reads_call, reads_tuple_congruence, reads_list_congruence, reads_no_arguments, reads_strategy_arguments, reads_all_arguments}
use Rattle.str_syntax.specs.Trees.{no_pattern, wildcard, no_strategy, plain_sequence, last, plain_step, failure, no_patterns}
use Rattle.str_syntax.specs.Views.{arguments_of}
use mir.Val.{to_z, of_z}
use Rattle.str_parser.proofs.+phrase.Goals as goal

-- ---- sequences

pub descent::sequence-returns-then-level-gt-MAX_LEVEL : goal.descent::sequence-returns-then-level-gt-MAX_LEVEL
descent::sequence-returns-then-level-gt-MAX_LEVEL t c =
    beyond_fault (inner_sequence c.args.level) (AtMost 1) c.args.input c.begins_strategy.result c.beyond.result
    (λ b. sequence_nested _ _ (omega arith) (sym c.begins_strategy.ensures ∙ b))
    (λ b. sequence_beyond _ _ (sym c.begins_strategy.ensures ∙ b)) c.beyond.ensures

pub descent::sequence-returns-in_err-first : goal.descent::sequence-returns-in_err-first
descent::sequence-returns-in_err-first t c =
    let p = err_from_is_err_and c.from_residual.result c.from_residual.ensures.1 in
    rw (p.1, p.2) (carried (carries_on (at_first (sequence_pairs c.args.level) None)
    (at_made (in_sequence c.args.level (omega arith)))) _ c.in_err-first.ensures)

pub descent::sequence-returns-in_default : goal.descent::sequence-returns-in_default
descent::sequence-returns-in_default t c = rw reads_last (made (in_sequence c.args.level (omega arith))
    (pair (sequence_pairs c.args.level) c.in_ok-first.ensures (no_option c.in_default.ensures)))

pub descent::sequence-returns : goal.descent::sequence-returns
descent::sequence-returns t c = c.then.ensures _ (rw c.in-Some.ensures at c.in_ok-first.ensures)

pub descent::then-returns-in_err-others : goal.descent::then-returns-in_err-others
descent::then-returns-in_err-others t c =
    let p = err_from_is_err_and c.from_residual.result c.from_residual.ensures.1 in
    rw (p.1, p.2) (λ ts f. carried (at_made (after_semicolon c.args.level (omega arith) f)) _ c.in_err-others.ensures)

pub descent::then-returns : goal.descent::then-returns
descent::then-returns t c = λ ts f. rw (reads_then, c.in_ok-new.ensures.ok)
    (made (after_semicolon c.args.level (omega arith) f) c.in_ok-others.ensures)

-- ---- steps

pub descent::step-returns-in_err-first : goal.descent::step-returns-in_err-first
descent::step-returns-in_err-first t c =
    let p = err_from_is_err_and c.from_residual.result c.from_residual.ensures.1 in
    rw (p.1, p.2) (carried (at_first (step_pairs c.args.level) None) _ c.in_err-first.ensures)

pub descent::step-returns-in_default : goal.descent::step-returns-in_default
descent::step-returns-in_default t c = rw reads_plain_step
    (pair (step_pairs c.args.level) c.in_ok-first.ensures (no_option c.in_default.ensures))

pub descent::step-returns : goal.descent::step-returns
descent::step-returns t c = c.matching.ensures _ (rw c.in-Some.ensures at c.in_ok-first.ensures)

pub descent::matching-returns-in_err-matched : goal.descent::matching-returns-in_err-matched
descent::matching-returns-in_err-matched t c =
    let p = err_from_is_err_and c.from_residual.result c.from_residual.ensures.1 in
    rw (p.1, p.2) (λ ts f. carried (at_made (after_double_arrow c.args.level f)) _ c.in_err-matched.ensures)

pub descent::matching-returns : goal.descent::matching-returns
descent::matching-returns t c = λ ts f. rw (reads_matching, c.in_ok-new.ensures.ok)
    (made (after_double_arrow c.args.level f) c.in_ok-matched.ensures)

-- ---- strategies

pub descent::strategy-returns-then-level-gt-MAX_LEVEL : goal.descent::strategy-returns-then-level-gt-MAX_LEVEL
descent::strategy-returns-then-level-gt-MAX_LEVEL t c =
    beyond_fault (inner_strategy c.args.level) (AtMost 0) c.args.input c.begins_strategy.result c.beyond.result
    (λ b. strategy_nested _ _ (omega arith) (sym c.begins_strategy.ensures ∙ b))
    (λ b. strategy_beyond _ _ (sym c.begins_strategy.ensures ∙ b)) c.beyond.ensures

pub descent::strategy-returns-in_err-first : goal.descent::strategy-returns-in_err-first
descent::strategy-returns-in_err-first t c =
    let p = err_from_is_err_and c.from_residual.result c.from_residual.ensures.1 in
    rw (p.1, p.2) (fault_along _ (missing_sequence _ _) (nested_sequence _ _) c.in_err-first.ensures)

pub descent::strategy-returns-in-Some : goal.descent::strategy-returns-in-Some
descent::strategy-returns-in-Some t c = c.left_choice.ensures _ (rw c.in-Some.ensures at c.in_ok-first.ensures)

pub descent::strategy-returns-in_default-after : goal.descent::strategy-returns-in_default-after
descent::strategy-returns-in_default-after t c =
    rw reads_plain_sequence (found_plain _ _ _ _ c.in_ok-first.ensures c.in_default.ensures c.in_default-after.ensures)

pub descent::strategy-returns : goal.descent::strategy-returns
descent::strategy-returns t c = c.guarded_choice.ensures _ (rw c.in-Some-after.ensures at c.in_ok-first.ensures)

-- ---- left choices

pub descent::left_choice-returns-in_err-other : goal.descent::left_choice-returns-in_err-other
descent::left_choice-returns-in_err-other t c =
    let p = err_from_is_err_and c.from_residual.result c.from_residual.ensures.1 in
    rw (p.1, p.2) (λ ts f. fault_along _ (missing_right _ _ _ _ f) (nested_right _ _ _ _ f)
    c.in_err-other.ensures)

pub descent::left_choice-returns : goal.descent::left_choice-returns
descent::left_choice-returns t c =
    λ ts f. rw (reads_left_choice, c.in_ok-new.ensures.ok) (found_choice _ _ _ _ f _ _ c.in_ok-other.ensures)

-- ---- guarded choices

pub descent::guarded_choice-returns-in_err-then : goal.descent::guarded_choice-returns-in_err-then
descent::guarded_choice-returns-in_err-then t c =
    let p = err_from_is_err_and c.from_residual.result c.from_residual.ensures.1 in
    rw (p.1, p.2) (λ ts f. fault_along _ (missing_first _ _ _ _ f) (nested_first _ _ _ _ f)
    c.in_err-then.ensures)

pub descent::guarded_choice-returns-in_default : goal.descent::guarded_choice-returns-in_default
descent::guarded_choice-returns-in_default t c =
    λ ts f. syntax_fault _ c.syntax.ensures
    (missing_plus _ _ _ _ f _ _ c.in_ok-then.ensures c.in_default.ensures)

pub descent::guarded_choice-returns-in_err-other : goal.descent::guarded_choice-returns-in_err-other
descent::guarded_choice-returns-in_err-other t c =
    let p = err_from_is_err_and c.from_residual-in_err-other.result c.from_residual-in_err-other.ensures.1 in
    let g = rw c.in-Some.ensures at c.in_ok-then.ensures in
    rw (p.1, p.2) (λ ts f. fault_along _ (missing_second _ _ _ _ f _ _ g)
    (nested_second _ _ _ _ f _ _ g) c.in_err-other.ensures)

pub descent::guarded_choice-returns : goal.descent::guarded_choice-returns
descent::guarded_choice-returns t c =
    let g = rw c.in-Some.ensures at c.in_ok-then.ensures in
    λ ts f. rw (c.in_ok-made.ensures) (found_guarded _ _ _ _ f _ _ g _ _ c.in_ok-other.ensures)

-- ---- patterns

pub pattern::pattern-returns-then-level-gt-MAX_LEVEL : goal.pattern::pattern-returns-then-level-gt-MAX_LEVEL
pattern::pattern-returns-then-level-gt-MAX_LEVEL t c =
    beyond_fault (inner_pattern c.args.in_match c.args.level) (AtMost 3)
    c.args.input c.begins_pattern.result c.beyond.result
    (λ b. pattern_nested _ _ _ (omega arith) (sym c.begins_pattern.ensures ∙ b))
    (λ b. pattern_beyond _ _ _ (sym c.begins_pattern.ensures ∙ b))
    c.beyond.ensures

pub pattern::pattern-returns-in-Alias : goal.pattern::pattern-returns-in-Alias
pattern::pattern-returns-in-Alias t c =
    let f = rw c.in-Alias.is at c.leading_of.ensures in
    rw f c.alias.ensures

pub pattern::pattern-returns-in-Applied : goal.pattern::pattern-returns-in-Applied
pattern::pattern-returns-in-Applied t c =
    let f = rw c.in-Applied.is at c.leading_of.ensures in
    rw (f.0, f.1) c.applied_strategy.ensures

pub pattern::pattern-with_annotations-requires : goal.pattern::pattern-with_annotations-requires
pattern::pattern-with_annotations-requires t c =
    (omega arith, (omega arith, c.in-Other.ensures))

pub pattern::alias-returns-in_err-part : goal.pattern::alias-returns-in_err-part
pattern::alias-returns-in_err-part t c =
    refused (at_made (alias_part c.args.in_match c.args.level (omega arith)))
    _ _ _ c.from_residual-in_err-part.ensures.1 c.in_err-part.ensures

pub pattern::alias-returns : goal.pattern::alias-returns
pattern::alias-returns t c = rw (reads_alias, c.in_ok-name.ensures, c.in_ok-part-2.ensures.ok)
    (made (alias_part c.args.in_match c.args.level (omega arith)) c.in_ok-part.ensures)

pub pattern::applied_strategy-returns-in_err-strategy : goal.pattern::applied_strategy-returns-in_err-strategy
pattern::applied_strategy-returns-in_err-strategy t c = refused (at_applied c.args.level (omega arith))
    _ _ _ c.from_residual.ensures.1 c.in_err-strategy.ensures

pub pattern::applied_strategy-returns-then-not-begins_pattern :
    goal.pattern::applied_strategy-returns-then-not-begins_pattern
pattern::applied_strategy-returns-then-not-begins_pattern t c = c.refuse_annotations.ensures false c.args.level _
    (rw reads_applied (found_applied c.args.level (omega arith) c.in_ok-strategy.ensures
    (sym c.if-not-begins_pattern.ensures)))

pub pattern::applied_strategy-returns-in_err-part : goal.pattern::applied_strategy-returns-in_err-part
pattern::applied_strategy-returns-in_err-part t c =
    refused (at_made (after_applied c.args.level (omega arith) c.in_ok-strategy.ensures
    (sym c.if-not-begins_pattern.ensures)))
    _ _ _ c.from_residual-in_err-part.ensures.1 c.in_err-part.ensures

pub pattern::applied_strategy-returns : goal.pattern::applied_strategy-returns
pattern::applied_strategy-returns t c = rw (reads_applied_to, c.in_ok-new.ensures.ok)
    (made (after_applied c.args.level (omega arith) c.in_ok-strategy.ensures (sym c.if-not-begins_pattern.ensures))
    c.in_ok-part.ensures)

pub pattern::with_annotations-returns-in_err-bare : goal.pattern::with_annotations-returns-in_err-bare
pattern::with_annotations-returns-in_err-bare t c =
    refused (at_plain c.args.in_match c.args.level c.requires.other (omega arith))
    _ _ _ c.from_residual.ensures.1 c.in_err-bare.ensures

pub pattern::with_annotations-returns-in_default : goal.pattern::with_annotations-returns-in_default
pattern::with_annotations-returns-in_default t c =
    found_bare c.args.in_match c.args.level c.requires.other c.in_ok-bare.ensures (omega arith) c.in_default.ensures

pub pattern::with_annotations-returns-in_err-annotations : goal.pattern::with_annotations-returns-in_err-annotations
pattern::with_annotations-returns-in_err-annotations t c =
    let f = rw c.in-Some.ensures at c.in_ok-bare.ensures in
    refused (at_made (after_bare c.args.in_match c.args.level c.requires.other f (omega arith)))
    _ _ _ c.from_residual-in_err-annotations.ensures.1 c.in_err-annotations.ensures

pub pattern::with_annotations-returns : goal.pattern::with_annotations-returns
pattern::with_annotations-returns t c =
    let f = rw c.in-Some.ensures at c.in_ok-bare.ensures in
    c.refuse_annotations.ensures c.args.in_match c.args.level _
    (rw (reads_annotated, c.in_ok-bare-2.ensures.ok)
    (made (after_bare c.args.in_match c.args.level c.requires.other f (omega arith)) c.in_ok-annotations.ensures))

pub pattern::plain_pattern-returns-in_default : goal.pattern::plain_pattern-returns-in_default
pattern::plain_pattern-returns-in_default t c =
    syntax_fault _ c.syntax.ensures (missing_plain _ _ _ (rw c.in_default.ensures refl))

pub pattern::plain_pattern-returns-in-Name : goal.pattern::plain_pattern-returns-in-Name
pattern::plain_pattern-returns-in-Name t c = rw (c.in-Some.ensures, c.in-Name.is) c.variable_or_application.ensures

pub pattern::plain_pattern-returns-in-Wildcard : goal.pattern::plain_pattern-returns-in-Wildcard
pattern::plain_pattern-returns-in-Wildcard t c =
    rw (reads_wildcard, c.in-Some.ensures, c.in-Wildcard.is) (found_wildcard c.args.in_match c.args.level)

pub pattern::plain_pattern-returns-in-Integer : goal.pattern::plain_pattern-returns-in-Integer
pattern::plain_pattern-returns-in-Integer t c =
    let v : to_z w64 (of_z w64 c.in-Integer.value) ≡ c.in-Integer.value = search rules in
    rw (reads_integer, c.in-Some.ensures, c.in-Integer.is, v) (found_integer c.args.in_match c.args.level)

pub pattern::plain_pattern-returns-in_ok-new-in-Quoted : goal.pattern::plain_pattern-returns-in_ok-new-in-Quoted
pattern::plain_pattern-returns-in_ok-new-in-Quoted t c =
    rw (reads_quoted, c.in_ok-new-in-Quoted.ensures, c.in-Some.ensures, c.in-Quoted.is)
    (found_quoted c.args.in_match c.args.level)

pub pattern::plain_pattern-returns-in-Mark : goal.pattern::plain_pattern-returns-in-Mark
pattern::plain_pattern-returns-in-Mark t c = rw (c.in-Some.ensures, c.in-Mark.is) c.pattern_after_mark.ensures

pub pattern::plain_pattern-returns-in_default-first : goal.pattern::plain_pattern-returns-in_default-first
pattern::plain_pattern-returns-in_default-first t c = rw c.in-Some.ensures
    (syntax_fault _ c.syntax-in_default-first.ensures (token_missing _ _ _ _
    (λ x f. c.in_default-first.not-Name x f) (λ f. c.in_default-first.not-Wildcard f)
    (λ x f. c.in_default-first.not-Integer x f) (λ x f. c.in_default-first.not-Quoted x f)
    (λ x f. c.in_default-first.not-Mark x f)))

pub pattern::pattern_after_mark-returns-in-OpenParenthesis : goal.pattern::pattern_after_mark-returns-in-OpenParenthesis
pattern::pattern_after_mark-returns-in-OpenParenthesis t c = rw c.in-OpenParenthesis.is c.pattern_in_parentheses.ensures

pub pattern::pattern_after_mark-returns-in-OpenBracket : goal.pattern::pattern_after_mark-returns-in-OpenBracket
pattern::pattern_after_mark-returns-in-OpenBracket t c = rw c.in-OpenBracket.is c.list.ensures

pub pattern::pattern_after_mark-returns-in_default : goal.pattern::pattern_after_mark-returns-in_default
pattern::pattern_after_mark-returns-in_default t c = mark_missing _ _ _ _ (λ f. c.in_default.not-OpenParenthesis f)
    (λ f. c.in_default.not-OpenBracket f)

pub pattern::variable_or_application-returns-in_default : goal.pattern::variable_or_application-returns-in_default
pattern::variable_or_application-returns-in_default t c = rw (reads_variable, c.in_ok-name.ensures)
    (found_variable c.args.in_match c.args.level (λ e. c.in_default.ensures))

pub pattern::variable_or_application-returns-then-not-is_constructor :
    goal.pattern::variable_or_application-returns-then-not-is_constructor
pattern::variable_or_application-returns-then-not-is_constructor t c = rw (reads_variable, c.in_ok-name.ensures)
    (found_variable c.args.in_match c.args.level (λ e. let g = c.if-not-is_constructor.ensures in cc))

pub pattern::variable_or_application-returns-in_err-parts : goal.pattern::variable_or_application-returns-in_err-parts
pattern::variable_or_application-returns-in_err-parts t c = rw c.in-Some.ensures
    (refused (at_made (application_part c.args.in_match c.args.level _ (sym c.if-not-is_constructor.ensures)))
    _ _ _ c.from_residual-in_err-parts.ensures.1 c.in_err-parts.ensures)

pub pattern::variable_or_application-returns : goal.pattern::variable_or_application-returns
pattern::variable_or_application-returns t c = rw (reads_application, c.in_ok-name.ensures, c.in-Some.ensures)
    (made (application_part c.args.in_match c.args.level _ (sym c.if-not-is_constructor.ensures)) c.in_ok-parts.ensures)

pub pattern::pattern_in_parentheses-returns-in_err-parts : goal.pattern::pattern_in_parentheses-returns-in_err-parts
pattern::pattern_in_parentheses-returns-in_err-parts t c =
    refused (at_made (parenthesized_part c.args.in_match c.args.level _))
    _ _ _ c.from_residual.ensures.1 c.in_err-parts.ensures

pub pattern::pattern_in_parentheses-returns : goal.pattern::pattern_in_parentheses-returns
pattern::pattern_in_parentheses-returns t c = rw c.in_ok-parenthesize.ensures
    (made (parenthesized_part c.args.in_match c.args.level _) c.in_ok-parts.ensures)

pub pattern::list-returns-in-Some : goal.pattern::list-returns-in-Some
pattern::list-returns-in-Some t c = rw (reads_list, c.new.ensures.items, c.in-Some.ensures)
    (found_empty_list c.args.in_match c.args.level)

pub pattern::list-returns-in_err-parts : goal.pattern::list-returns-in_err-parts
pattern::list-returns-in_err-parts t c =
    refused (carries_on (at_first (pattern_list_pairs c.args.in_match c.args.level) no_pattern)
    (at_made (list_part c.args.in_match c.args.level c.in_default.ensures)))
    _ _ _ c.from_residual.ensures.1 c.in_err-parts.ensures

pub pattern::list-returns-in_err-tail : goal.pattern::list-returns-in_err-tail
pattern::list-returns-in_err-tail t c =
    refused (carries_on (at_made (after_first (pattern_list_pairs c.args.in_match c.args.level) c.in_ok-parts.ensures))
    (at_made (list_part c.args.in_match c.args.level c.in_default.ensures)))
    _ _ _ c.from_residual-in_err-tail.ensures.1 c.in_err-tail.ensures

pub pattern::list-returns : goal.pattern::list-returns
pattern::list-returns t c = rw reads_list
    (made (list_part c.args.in_match c.args.level c.in_default.ensures)
    (pair (pattern_list_pairs c.args.in_match c.args.level) c.in_ok-parts.ensures (found_any c.in_ok-tail.ensures)))

pub pattern::list_end-returns-in-Some : goal.pattern::list_end-returns-in-Some
pattern::list_end-returns-in-Some t c = rw c.in-Some.ensures (found_bracket c.args.in_match c.args.level)

pub pattern::list_end-returns-in_default-after : goal.pattern::list_end-returns-in_default-after
pattern::list_end-returns-in_default-after t c = syntax_fault _ c.syntax.ensures
    (pattern_end_missing c.args.in_match c.args.level c.in_default.ensures c.in_default-after.ensures)

pub pattern::list_end-returns-in_err-tail : goal.pattern::list_end-returns-in_err-tail
pattern::list_end-returns-in_err-tail t c = rw c.in-Some-after.ensures
    (refused (carries_on (at_closed _ (λ is. omega arith)) (at_made (list_tail c.args.in_match c.args.level)))
    _ _ _ c.from_residual.ensures.1 c.in_err-tail.ensures)

pub pattern::list_end-returns-in_default-after-2 : goal.pattern::list_end-returns-in_default-after-2
pattern::list_end-returns-in_default-after-2 t c =
    let n = unclosed _ (λ is. omega arith) (found_any c.in_ok-tail.ensures) c.in_default-after-2.ensures in
    rw c.in-Some-after.ensures (syntax_fault _ c.syntax-in_default-after-2.ensures
    ((at_made (list_tail c.args.in_match c.args.level)).missing n))

pub pattern::list_end-returns : goal.pattern::list_end-returns
pattern::list_end-returns t c =
    let f = rw c.in-Some-after-2.ensures at c.in_ok-tail.ensures in
    rw (c.in-Some-after.ensures, c.in_ok-new.ensures.ok)
    (made (list_tail c.args.in_match c.args.level) (closed_found _ (λ is. omega arith) f))

pub pattern::patterns_before-returns-in-Some : goal.pattern::patterns_before-returns-in-Some
pattern::patterns_before-returns-in-Some t c =
    rw (c.new.ensures.items, c.in-Some.ensures, c.mark.ensures)
    (found_none c.args.in_match c.args.level c.args.closing)

pub pattern::patterns_before-returns-in_err-parts : goal.pattern::patterns_before-returns-in_err-parts
pattern::patterns_before-returns-in_err-parts t c =
    let n = rw c.mark.ensures at c.in_default.ensures in
    refused (carries_on (at_closed _ (closing_ends c.args.closing))
    (at_made (closed_some c.args.in_match c.args.level c.args.closing n)))
    _ _ _ c.from_residual.ensures.1 c.in_err-parts.ensures

pub pattern::patterns_before-returns-in_default-after : goal.pattern::patterns_before-returns-in_default-after
pattern::patterns_before-returns-in_default-after t c =
    let n = rw c.mark.ensures at c.in_default.ensures in
    let o = rw c.mark-2.ensures at c.in_default-after.ensures in
    syntax_fault _ c.syntax.ensures ((at_made (closed_some c.args.in_match c.args.level c.args.closing n)).missing
    (unclosed _ (closing_ends c.args.closing) (found_any c.in_ok-parts.ensures) o))

pub pattern::patterns_before-returns : goal.pattern::patterns_before-returns
pattern::patterns_before-returns t c =
    let n = rw c.mark.ensures at c.in_default.ensures in
    let f = rw (c.in-Some-after.ensures, c.mark-2.ensures) at c.in_ok-parts.ensures in
    made (closed_some c.args.in_match c.args.level c.args.closing n) (closed_found _ (closing_ends c.args.closing) f)

pub pattern::patterns-returns-in_err-first : goal.pattern::patterns-returns-in_err-first
pattern::patterns-returns-in_err-first t c =
    refused (at_row_first (pattern_lists _ _) (patterns_row _ _)) _ _ _ c.from_residual.ensures.1 c.in_err-first.ensures

pub pattern::patterns-loop-following-init : goal.pattern::patterns-loop-following-init
pattern::patterns-loop-following-init t c = rw (c.in_ok-push.ensures.items, c.in_ok-parts.ensures.items)
    (partly_first (pattern_lists _ _) (patterns_row _ _) c.in_ok-first.ensures)

pub pattern::patterns-returns-in_err-other : goal.pattern::patterns-returns-in_err-other
pattern::patterns-returns-in_err-other t c =
    refused (carries_on (at_made (is_behind c.in-Some.ensures))
    (at_next (patterns_row _ _) c.loop-following.invariant (_, c.in-Some.ensures)))
    _ _ _ c.from_residual-in_err-other.ensures.1 c.in_err-other.ensures

pub pattern::patterns-loop-following-preserved : goal.pattern::patterns-loop-following-preserved
pattern::patterns-loop-following-preserved t c = rw (c.in_ok-push-2.ensures.items, map-append)
    (partly_more (patterns_row _ _) c.loop-following.invariant (_, c.in-Some.ensures)
    (made (is_behind c.in-Some.ensures) c.in_ok-other.ensures))

pub pattern::patterns-returns : goal.pattern::patterns-returns
pattern::patterns-returns t c = partly_found (patterns_row _ _) c.loop-following.invariant c.in_default.ensures

-- ---- primary strategies

pub primary::primary-returns-in_default : goal.primary::primary-returns-in_default
primary::primary-returns-in_default t c = syntax_fault _ c.syntax.ensures (no_primary _ _ c.in_default.ensures)

pub primary::primary-returns-in-Name : goal.primary::primary-returns-in-Name
primary::primary-returns-in-Name t c = rw (c.in-Some.ensures, c.in-Name.is) c.call.ensures

pub primary::primary-returns-in-Mark : goal.primary::primary-returns-in-Mark
primary::primary-returns-in-Mark t c = rw (c.in-Some.ensures, c.in-Mark.is) c.primary_after_mark.ensures

pub primary::primary-returns-in-Keyword : goal.primary::primary-returns-in-Keyword
primary::primary-returns-in-Keyword t c = rw (c.in-Some.ensures, c.in-Keyword.is) c.primary_after_keyword.ensures

pub primary::primary-returns-in_default-first : goal.primary::primary-returns-in_default-first
primary::primary-returns-in_default-first t c = rw c.in-Some.ensures
    (syntax_fault _ c.syntax-in_default-first.ensures (primary_missing _ _ _
    (tokens_left _ (λ x f. c.in_default-first.not-Name x f) (λ x f. c.in_default-first.not-Mark x f)
    (λ x f. c.in_default-first.not-Keyword x f))))

pub primary::primary_after_mark-returns-in-Question : goal.primary::primary_after_mark-returns-in-Question
primary::primary_after_mark-returns-in-Question t c = rw c.in-Question.is c.pattern_match.ensures

pub primary::primary_after_mark-returns-in-Exclamation : goal.primary::primary_after_mark-returns-in-Exclamation
primary::primary_after_mark-returns-in-Exclamation t c = rw c.in-Exclamation.is c.pattern_build.ensures

pub primary::primary_after_mark-returns-in-Backslash : goal.primary::primary_after_mark-returns-in-Backslash
primary::primary_after_mark-returns-in-Backslash t c = rw c.in-Backslash.is c.lambda.ensures

pub primary::primary_after_mark-returns-in-Less : goal.primary::primary_after_mark-returns-in-Less
primary::primary_after_mark-returns-in-Less t c = rw c.in-Less.is c.strategy_application.ensures

pub primary::primary_after_mark-returns-in-OpenParenthesis : goal.primary::primary_after_mark-returns-in-OpenParenthesis
primary::primary_after_mark-returns-in-OpenParenthesis t c =
    rw c.in-OpenParenthesis.is c.strategies_in_parentheses.ensures

pub primary::primary_after_mark-returns-in-OpenBracket : goal.primary::primary_after_mark-returns-in-OpenBracket
primary::primary_after_mark-returns-in-OpenBracket t c = rw c.in-OpenBracket.is c.list_congruence.ensures

pub primary::primary_after_mark-returns-in-OpenBrace : goal.primary::primary_after_mark-returns-in-OpenBrace
primary::primary_after_mark-returns-in-OpenBrace t c = rw c.in-OpenBrace.is c.scope.ensures

pub primary::primary_after_mark-returns-in_default : goal.primary::primary_after_mark-returns-in_default
primary::primary_after_mark-returns-in_default t c =
    primary_missing _ _ _
    (marks_left _ (λ f. c.in_default.not-Question f) (λ f. c.in_default.not-Exclamation f)
    (λ f. c.in_default.not-Backslash f) (λ f. c.in_default.not-Less f)
    (λ f. c.in_default.not-OpenParenthesis f) (λ f. c.in_default.not-OpenBracket f)
    (λ f. c.in_default.not-OpenBrace f))

pub primary::primary_after_keyword-returns-in_ok-new-in-Id : goal.primary::primary_after_keyword-returns-in_ok-new-in-Id
primary::primary_after_keyword-returns-in_ok-new-in-Id t c =
    rw (c.in-Id.is, c.in_ok-new-in-Id.ensures.ok, reads_identity) (identity_found c.args.level _)

pub primary::primary_after_keyword-returns-in_ok-new-in-Fail :
    goal.primary::primary_after_keyword-returns-in_ok-new-in-Fail
primary::primary_after_keyword-returns-in_ok-new-in-Fail t c =
    rw (c.in-Fail.is, c.in_ok-new-in-Fail.ensures.ok, reads_failure) (failure_found c.args.level _)

pub primary::primary_after_keyword-returns-in-Where : goal.primary::primary_after_keyword-returns-in-Where
primary::primary_after_keyword-returns-in-Where t c = rw c.in-Where.is c.operator_call.ensures

pub primary::primary_after_keyword-returns-in-Not : goal.primary::primary_after_keyword-returns-in-Not
primary::primary_after_keyword-returns-in-Not t c = rw c.in-Not.is c.operator_call-in-Not.ensures

pub primary::primary_after_keyword-returns-in-All : goal.primary::primary_after_keyword-returns-in-All
primary::primary_after_keyword-returns-in-All t c = rw c.in-All.is c.operator_call-in-All.ensures

pub primary::primary_after_keyword-returns-in-One : goal.primary::primary_after_keyword-returns-in-One
primary::primary_after_keyword-returns-in-One t c = rw c.in-One.is c.operator_call-in-One.ensures

pub primary::primary_after_keyword-returns-in-Some : goal.primary::primary_after_keyword-returns-in-Some
primary::primary_after_keyword-returns-in-Some t c = rw c.in-Some.is c.operator_call-in-Some.ensures

pub primary::primary_after_keyword-returns-in-If : goal.primary::primary_after_keyword-returns-in-If
primary::primary_after_keyword-returns-in-If t c = rw c.in-If.is c.conditional.ensures

pub primary::primary_after_keyword-returns-in-Rec : goal.primary::primary_after_keyword-returns-in-Rec
primary::primary_after_keyword-returns-in-Rec t c = rw c.in-Rec.is c.recursion.ensures

pub primary::primary_after_keyword-returns-in-Let : goal.primary::primary_after_keyword-returns-in-Let
primary::primary_after_keyword-returns-in-Let t c = rw c.in-Let.is c.let_in.ensures

pub primary::primary_after_keyword-returns-in-Prim : goal.primary::primary_after_keyword-returns-in-Prim
primary::primary_after_keyword-returns-in-Prim t c = rw c.in-Prim.is c.primitive.ensures

pub primary::primary_after_keyword-returns-in_default : goal.primary::primary_after_keyword-returns-in_default
primary::primary_after_keyword-returns-in_default t c =
    primary_missing _ _ _
    (keywords_left _ (λ f. c.in_default.not-Id f) (λ f. c.in_default.not-Fail f) (λ f. c.in_default.not-Where f)
    (λ f. c.in_default.not-Not f)
    (λ f. c.in_default.not-All f) (λ f. c.in_default.not-One f) (λ f. c.in_default.not-Some f)
    (λ f. c.in_default.not-If f)
    (λ f. c.in_default.not-Rec f) (λ f. c.in_default.not-Let f) (λ f. c.in_default.not-Prim f))

-- ---- ? and ! with a pattern

pub primary::pattern_match-returns-in_err-part : goal.primary::pattern_match-returns-in_err-part
primary::pattern_match-returns-in_err-part t c =
    refused (at_made (is_match c.args.level)) _ _ _ c.from_residual.ensures.1 c.in_err-part.ensures

pub primary::pattern_match-returns : goal.primary::pattern_match-returns
primary::pattern_match-returns t c =
    rw (c.in_ok-new.ensures.ok, reads_match) (made (is_match c.args.level) c.in_ok-part.ensures)

pub primary::pattern_build-returns-in_err-part : goal.primary::pattern_build-returns-in_err-part
primary::pattern_build-returns-in_err-part t c =
    refused (at_made (is_build c.args.level)) _ _ _ c.from_residual.ensures.1 c.in_err-part.ensures

pub primary::pattern_build-returns : goal.primary::pattern_build-returns
primary::pattern_build-returns t c =
    rw (c.in_ok-new.ensures.ok, reads_build) (made (is_build c.args.level) c.in_ok-part.ensures)

-- ---- strategies that are applied

pub primary::strategy_application-returns-in_err-applied : goal.primary::strategy_application-returns-in_err-applied
primary::strategy_application-returns-in_err-applied t c =
    refused (carries_on (at_first (application_pairs (c.args.level + 1)) wildcard) (at_made (is_apply c.args.level)))
    _ _ _ c.from_residual.ensures.1 c.in_err-applied.ensures

pub primary::strategy_application-returns-in_err-part : goal.primary::strategy_application-returns-in_err-part
primary::strategy_application-returns-in_err-part t c =
    refused (carries_on (at_made (after_first (application_pairs (c.args.level + 1)) c.in_ok-applied.ensures))
    (at_made (is_apply c.args.level)))
    _ _ _ c.from_residual-in_err-part.ensures.1 c.in_err-part.ensures

pub primary::strategy_application-returns : goal.primary::strategy_application-returns
primary::strategy_application-returns t c =
    rw (c.in_ok-new-2.ensures.ok, reads_apply, c.in_ok-new.ensures.ok)
    (made (is_apply c.args.level)
    (pair (application_pairs (c.args.level + 1)) c.in_ok-applied.ensures (found_any c.in_ok-part.ensures)))

-- ---- scopes

pub primary::scope-returns-in_err-variables : goal.primary::scope-returns-in_err-variables
primary::scope-returns-in_err-variables t c =
    refused (carries_on (at_first (scope_pairs (c.args.level + 1)) (plain_sequence (last (plain_step failure))))
    (at_made (is_scope c.args.level)))
    _ _ _ c.from_residual.ensures.1 c.in_err-variables.ensures

pub primary::scope-returns-in_default : goal.primary::scope-returns-in_default
primary::scope-returns-in_default t c =
    let n = (at_made (after_first (scope_pairs (c.args.level + 1)) c.in_ok-variables.ensures)).missing
    (no_token c.in_default.ensures) in
    syntax_fault _ c.syntax.ensures ((at_made (is_scope c.args.level)).missing n)

pub primary::scope-returns-in_err-part : goal.primary::scope-returns-in_err-part
primary::scope-returns-in_err-part t c =
    refused (carries_on (at_made (is_behind c.in-Some.ensures))
    (carries_on (at_made (after_first (scope_pairs (c.args.level + 1)) c.in_ok-variables.ensures))
    (at_made (is_scope c.args.level))))
    _ _ _ c.from_residual-in_err-part.ensures.1 c.in_err-part.ensures

pub primary::scope-returns : goal.primary::scope-returns
primary::scope-returns t c =
    rw (c.in_ok-new.ensures.ok, reads_scope)
    (made (is_scope c.args.level)
    (pair (scope_pairs (c.args.level + 1)) c.in_ok-variables.ensures
    (found_any (made (is_behind c.in-Some.ensures) c.in_ok-part.ensures))))

-- ---- operators and rec

pub primary::operand-returns-in_default : goal.primary::operand-returns-in_default
primary::operand-returns-in_default t c =
    syntax_fault _ c.syntax.ensures (no_operand c.args.level c.in_default.ensures)

pub primary::operand-returns : goal.primary::operand-returns
primary::operand-returns t c =
    reads_whole (in_operand c.args.level c.in-Some.ensures) _ _ c.strategy_before.ensures

pub primary::operator_call-returns-in_err-part : goal.primary::operator_call-returns-in_err-part
primary::operator_call-returns-in_err-part t c =
    refused (at_made (is_operator c.args.level c.args.operator))
    _ _ _ c.from_residual.ensures.1 c.in_err-part.ensures

pub primary::operator_call-returns : goal.primary::operator_call-returns
primary::operator_call-returns t c =
    rw (c.in_ok-new.ensures.ok, reads_operator)
    (made (is_operator c.args.level c.args.operator) c.in_ok-part.ensures)

pub primary::recursion-returns-in_err-name : goal.primary::recursion-returns-in_err-name
primary::recursion-returns-in_err-name t c =
    refused (carries_on (at_first (recursive_pairs (c.args.level + 1)) (plain_sequence (last (plain_step failure))))
    (at_made (is_recursive c.args.level)))
    _ _ _ c.from_residual.ensures.1 c.in_err-name.ensures

pub primary::recursion-returns-in_err-part : goal.primary::recursion-returns-in_err-part
primary::recursion-returns-in_err-part t c =
    refused (carries_on (at_made (after_first (recursive_pairs (c.args.level + 1)) c.in_ok-name.ensures))
    (at_made (is_recursive c.args.level)))
    _ _ _ c.from_residual-in_err-part.ensures.1 c.in_err-part.ensures

pub primary::recursion-returns : goal.primary::recursion-returns
primary::recursion-returns t c =
    rw (c.in_ok-new.ensures.ok, reads_recursive)
    (made (is_recursive c.args.level)
    (pair (recursive_pairs (c.args.level + 1)) c.in_ok-name.ensures (found_any c.in_ok-part.ensures)))

-- ---- conditionals

pub primary::conditional-returns-in_err-condition : goal.primary::conditional-returns-in_err-condition
primary::conditional-returns-in_err-condition t c =
    let s = plain_sequence (last (plain_step failure)) in
    refused (carries_on (at_first (conditional_pairs (c.args.level + 1)) (s, no_strategy))
    (at_made (is_conditional c.args.level)))
    _ _ _ c.from_residual.ensures.1 c.in_err-condition.ensures

pub primary::conditional-returns-in_err-then : goal.primary::conditional-returns-in_err-then
primary::conditional-returns-in_err-then t c =
    let k = c.args.level + 1 in
    refused (carries_on (at_first (consequence_pairs k) no_strategy)
    (carries_on (at_made (after_first (conditional_pairs k) c.in_ok-condition.ensures))
    (at_made (is_conditional c.args.level))))
    _ _ _ c.from_residual-in_err-then.ensures.1 c.in_err-then.ensures

pub primary::conditional-returns-in_err-other : goal.primary::conditional-returns-in_err-other
primary::conditional-returns-in_err-other t c =
    let k = c.args.level + 1 in
    refused (carries_on (at_made (after_first (consequence_pairs k) c.in_ok-then.ensures))
    (carries_on (at_made (after_first (conditional_pairs k) c.in_ok-condition.ensures))
    (at_made (is_conditional c.args.level))))
    _ _ _ c.from_residual-in_err-other.ensures.1 c.in_err-other.ensures

pub primary::conditional-returns : goal.primary::conditional-returns
primary::conditional-returns t c =
    let k = c.args.level + 1 in
    rw (c.in_ok-new.ensures.ok, reads_conditional, c.in_ok-then-2.ensures.ok)
    (made (is_conditional c.args.level) (pair (conditional_pairs k) c.in_ok-condition.ensures
    (found_any (pair (consequence_pairs k) c.in_ok-then.ensures (found_any c.in_ok-other.ensures)))))

pub primary::conditional_end-returns-in-Some : goal.primary::conditional_end-returns-in-Some
primary::conditional_end-returns-in-Some t c = rw c.in-Some.ensures (at_conditional_end c.args.level _)

pub primary::conditional_end-returns-in_default-after_keyword :
    goal.primary::conditional_end-returns-in_default-after_keyword
primary::conditional_end-returns-in_default-after_keyword t c =
    syntax_fault _ c.syntax.ensures
    (conditional_end_missing c.args.level c.in_default.ensures c.in_default-after_keyword.ensures)

pub primary::conditional_end-returns-in_err-part : goal.primary::conditional_end-returns-in_err-part
primary::conditional_end-returns-in_err-part t c =
    rw c.in-Some-after_keyword.ensures (refused (at_made (after_else c.args.level))
    _ _ _ c.from_residual.ensures.1 c.in_err-part.ensures)

pub primary::conditional_end-returns : goal.primary::conditional_end-returns
primary::conditional_end-returns t c =
    rw c.in-Some-after_keyword.ensures (made (after_else c.args.level) c.in_ok-part.ensures)

-- ---- rules

pub rule::lambda-returns-in_err-rule : goal.rule::lambda-returns-in_err-rule
rule::lambda-returns-in_err-rule t c =
    refused (carries_on (at_closed _ backslash_ends) (at_made (is_lambda c.args.level)))
    _ _ _ c.from_residual.ensures.1 c.in_err-rule.ensures

pub rule::lambda-returns-in_default : goal.rule::lambda-returns-in_default
rule::lambda-returns-in_default t c =
    let n = unclosed _ backslash_ends (found_any c.in_ok-rule.ensures) c.in_default.ensures in
    syntax_fault _ c.syntax.ensures ((at_made (is_lambda c.args.level)).missing n)

pub rule::lambda-returns : goal.rule::lambda-returns
rule::lambda-returns t c =
    let f = rw c.in-Some.ensures at c.in_ok-rule.ensures in
    rw (c.in_ok-new.ensures.ok, reads_lambda, c.in_ok-rule-2.ensures.ok)
    (made (is_lambda c.args.level) (closed_found _ backslash_ends f))

pub rule::rule-returns-in_err-left : goal.rule::rule-returns-in_err-left
rule::rule-returns-in_err-left t c =
    refused (at_first (rule_pairs c.args.level) (wildcard, no_strategy))
    _ _ _ c.from_residual.ensures.1 c.in_err-left.ensures

pub rule::rule-returns-in_default : goal.rule::rule-returns-in_default
rule::rule-returns-in_default t c =
    syntax_fault _ c.syntax.ensures
    ((at_made (after_first (rule_pairs c.args.level) c.in_ok-left.ensures)).missing (no_token c.in_default.ensures))

pub rule::rule-returns-in_err-right : goal.rule::rule-returns-in_err-right
rule::rule-returns-in_err-right t c =
    let f = rw c.in-Some.ensures at c.in_ok-left.ensures in
    refused (carries_on (at_first (side_pairs c.args.level) no_strategy) (at_made (after_left c.args.level f)))
    _ _ _ c.from_residual-in_err-right.ensures.1 c.in_err-right.ensures

pub rule::rule-returns-in_err-condition : goal.rule::rule-returns-in_err-condition
rule::rule-returns-in_err-condition t c =
    let f = rw c.in-Some.ensures at c.in_ok-left.ensures in
    refused (carries_on (at_made (after_first (side_pairs c.args.level) c.in_ok-right.ensures))
    (at_made (after_left c.args.level f)))
    _ _ _ c.from_residual-in_err-condition.ensures.1 c.in_err-condition.ensures

pub rule::rule-returns : goal.rule::rule-returns
rule::rule-returns t c =
    let f = rw c.in-Some.ensures at c.in_ok-left.ensures in
    rw (reads_made_rule, c.in_ok-left-2.ensures.ok, c.in_ok-right-2.ensures.ok)
    (made (after_left c.args.level f) (pair (side_pairs c.args.level) c.in_ok-right.ensures c.in_ok-condition.ensures))

pub rule::condition-returns-in_default : goal.rule::condition-returns-in_default
rule::condition-returns-in_default t c = no_where c.args.level c.in_default.ensures

pub rule::condition-returns-in_err-part : goal.rule::condition-returns-in_err-part
rule::condition-returns-in_err-part t c =
    rw c.in-Some.ensures (refused_any (at_made (after_where c.args.level))
    _ _ _ c.from_residual.ensures.1 c.in_err-part.ensures)

pub rule::condition-returns : goal.rule::condition-returns
rule::condition-returns t c =
    rw (c.in-Some.ensures, c.in_ok-new.ensures.ok)
    (made_any (after_where c.args.level) (found_any c.in_ok-part.ensures))

-- ---- strategies before a token

pub descent::strategy_before-returns-in_err-part : goal.descent::strategy_before-returns-in_err-part
descent::strategy_before-returns-in_err-part t c =
    refused (at_closed _ (mark_ends _ c.requires.weak)) _ _ _ c.from_residual.ensures.1 c.in_err-part.ensures

pub descent::strategy_before-returns-in_default : goal.descent::strategy_before-returns-in_default
descent::strategy_before-returns-in_default t c =
    syntax_fault _ c.syntax.ensures
    (unclosed _ (mark_ends _ c.requires.weak) (found_any c.in_ok-part.ensures) c.in_default.ensures)

pub descent::strategy_before-returns : goal.descent::strategy_before-returns
descent::strategy_before-returns t c =
    let f = rw c.in-Some.ensures at c.in_ok-part.ensures in
    rw c.in_ok-new.ensures.ok (closed_found _ (mark_ends _ c.requires.weak) f)

pub descent::strategy_before_keyword-returns-in_err-part : goal.descent::strategy_before_keyword-returns-in_err-part
descent::strategy_before_keyword-returns-in_err-part t c =
    refused (at_closed _ (keyword_ends c.args.closing)) _ _ _ c.from_residual.ensures.1 c.in_err-part.ensures

pub descent::strategy_before_keyword-returns-in_default : goal.descent::strategy_before_keyword-returns-in_default
descent::strategy_before_keyword-returns-in_default t c =
    syntax_fault _ c.syntax.ensures
    (unclosed _ (keyword_ends c.args.closing) (found_any c.in_ok-part.ensures) c.in_default.ensures)

pub descent::strategy_before_keyword-returns : goal.descent::strategy_before_keyword-returns
descent::strategy_before_keyword-returns t c =
    let f = rw c.in-Some.ensures at c.in_ok-part.ensures in
    rw c.in_ok-new.ensures.ok (closed_found _ (keyword_ends c.args.closing) f)

-- ---- strategies with commas between

pub descent::strategies-returns-in_err-first : goal.descent::strategies-returns-in_err-first
descent::strategies-returns-in_err-first t c =
    refused (at_row_first (strategy_lists _) (strategies_row _)) _ _ _ c.from_residual.ensures.1 c.in_err-first.ensures

pub descent::strategies-loop-following-init : goal.descent::strategies-loop-following-init
descent::strategies-loop-following-init t c =
    rw (c.in_ok-push.ensures.items, c.in_ok-parts.ensures.items)
    (partly_first (strategy_lists _) (strategies_row _) c.in_ok-first.ensures)

pub descent::strategies-returns-in_err-other : goal.descent::strategies-returns-in_err-other
descent::strategies-returns-in_err-other t c =
    refused (carries_on (at_made (is_behind c.in-Some.ensures))
    (at_next (strategies_row _) c.loop-following.invariant (_, c.in-Some.ensures)))
    _ _ _ c.from_residual-in_err-other.ensures.1 c.in_err-other.ensures

pub descent::strategies-loop-following-preserved : goal.descent::strategies-loop-following-preserved
descent::strategies-loop-following-preserved t c =
    rw (c.in_ok-push-2.ensures.items, map-append)
    (partly_more (strategies_row _) c.loop-following.invariant (_, c.in-Some.ensures)
    (made (is_behind c.in-Some.ensures) c.in_ok-other.ensures))

pub descent::strategies-returns : goal.descent::strategies-returns
descent::strategies-returns t c = partly_found (strategies_row _) c.loop-following.invariant c.in_default.ensures

-- ---- strategies in parentheses

pub congruence::strategies_in_parentheses-returns-in-Some : goal.congruence::strategies_in_parentheses-returns-in-Some
congruence::strategies_in_parentheses-returns-in-Some t c =
    rw (c.in-Some.ensures, c.in_ok-new.ensures.ok, reads_tuple_congruence, c.new.ensures.items) (empty_tuple _ _)

pub congruence::strategies_in_parentheses-returns-in_err-parts :
    goal.congruence::strategies_in_parentheses-returns-in_err-parts
congruence::strategies_in_parentheses-returns-in_err-parts t c =
    refused (carries_on (at_closed _ tuple_ends) (at_made (made_tuple _ _ c.in_default.ensures)))
    _ _ _ c.from_residual-in_err-parts.ensures.1 c.in_err-parts.ensures

pub congruence::strategies_in_parentheses-returns-in_default-after :
    goal.congruence::strategies_in_parentheses-returns-in_default-after
congruence::strategies_in_parentheses-returns-in_default-after t c =
    let m = unclosed _ tuple_ends (found_any c.in_ok-parts.ensures) c.in_default-after.ensures in
    syntax_fault _ c.syntax.ensures ((at_made (made_tuple _ _ c.in_default.ensures)).missing m)

pub congruence::strategies_in_parentheses-returns : goal.congruence::strategies_in_parentheses-returns
congruence::strategies_in_parentheses-returns t c =
    let f = rw c.in-Some-after.ensures at c.in_ok-parts.ensures in
    rw (c.in_ok-new-2.ensures.ok, c.in_ok-made.ensures)
    (made (made_tuple _ _ c.in_default.ensures) (closed_found _ tuple_ends f))

-- ---- strategies in brackets

pub congruence::list_congruence-returns-in-Some : goal.congruence::list_congruence-returns-in-Some
congruence::list_congruence-returns-in-Some t c =
    rw (c.in-Some.ensures, c.in_ok-new.ensures.ok, reads_list_congruence, c.new.ensures.items) (empty_list _ _)

pub congruence::list_congruence-returns-in_err-parts : goal.congruence::list_congruence-returns-in_err-parts
congruence::list_congruence-returns-in_err-parts t c =
    refused (carries_on (at_first (list_pairs _) no_strategy) (at_made (made_list _ _ c.in_default.ensures)))
    _ _ _ c.from_residual-in_err-parts.ensures.1 c.in_err-parts.ensures

pub congruence::list_congruence-returns-in_err-tail : goal.congruence::list_congruence-returns-in_err-tail
congruence::list_congruence-returns-in_err-tail t c =
    refused (carries_on (at_made (after_first (list_pairs _) c.in_ok-parts.ensures))
    (at_made (made_list _ _ c.in_default.ensures)))
    _ _ _ c.from_residual-in_err-tail.ensures.1 c.in_err-tail.ensures

pub congruence::list_congruence-returns : goal.congruence::list_congruence-returns
congruence::list_congruence-returns t c =
    rw (c.in_ok-new-2.ensures.ok, reads_list_congruence) (made (made_list _ _ c.in_default.ensures)
    (pair (list_pairs _) c.in_ok-parts.ensures (found_any c.in_ok-tail.ensures)))

pub congruence::list_end-returns-in-Some : goal.congruence::list_end-returns-in-Some
congruence::list_end-returns-in-Some t c = rw c.in-Some.ensures (list_closed _ _)

pub congruence::list_end-returns-in_default-after : goal.congruence::list_end-returns-in_default-after
congruence::list_end-returns-in_default-after t c =
    syntax_fault _ c.syntax.ensures (list_end_missing _ _ c.in_default.ensures c.in_default-after.ensures)

pub congruence::list_end-returns-in_err-tail : goal.congruence::list_end-returns-in_err-tail
congruence::list_end-returns-in_err-tail t c =
    rw c.in-Some-after.ensures
    (refused (at_made (list_barred _ _)) _ _ _ c.from_residual.ensures.1 c.in_err-tail.ensures)

pub congruence::list_end-returns : goal.congruence::list_end-returns
congruence::list_end-returns t c = rw c.in-Some-after.ensures (made (list_barred _ _) c.in_ok-tail.ensures)

-- ---- calls

pub call::call-returns-in_err-arguments : goal.call::call-returns-in_err-arguments
call::call-returns-in_err-arguments t c =
    refused (at_made (made_call _ _ _)) _ _ _ c.from_residual-in_err-arguments.ensures.1 c.in_err-arguments.ensures

pub call::call-returns : goal.call::call-returns
call::call-returns t c =
    rw (c.in_ok-new.ensures.ok, reads_call, c.in_ok-called.ensures)
    (made_behind (made_call _ _ _) c.in_ok-arguments.ensures)

pub call::arguments-returns-in_default : goal.call::arguments-returns-in_default
call::arguments-returns-in_default t c = rw reads_no_arguments (no_arguments_found _ _ c.in_default.ensures)

pub call::arguments-returns : goal.call::arguments-returns
call::arguments-returns t c =
    rw c.in-Some.ensures (read_any (opened_arguments _ _) arguments_of _ c.arguments_inside.ensures)

pub call::arguments_inside-returns-in_err-strategies : goal.call::arguments_inside-returns-in_err-strategies
call::arguments_inside-returns-in_err-strategies t c =
    refused (at_first (argument_pairs _) None) _ _ _ c.from_residual.ensures.1 c.in_err-strategies.ensures

pub call::arguments_inside-returns-in-Some : goal.call::arguments_inside-returns-in-Some
call::arguments_inside-returns-in-Some t c =
    let f = rw c.in-Some.ensures at c.in_ok-strategies.ensures in
    rw reads_strategy_arguments (made (after_any (argument_pairs _) f) (no_terms _ _))

pub call::arguments_inside-returns-in_default-after : goal.call::arguments_inside-returns-in_default-after
call::arguments_inside-returns-in_default-after t c =
    let m = arguments_end_missing _ _ c.in_default.ensures c.in_default-after.ensures in
    syntax_fault _ c.syntax.ensures ((at_made (after_any (argument_pairs _) c.in_ok-strategies.ensures)).missing m)

pub call::arguments_inside-returns-in_err-terms : goal.call::arguments_inside-returns-in_err-terms
call::arguments_inside-returns-in_err-terms t c =
    let f = rw c.in-Some-after.ensures at c.in_ok-strategies.ensures in
    refused (carries_on (at_made (barred_terms _ _)) (at_made (after_any (argument_pairs _) f)))
    _ _ _ c.from_residual-in_err-terms.ensures.1 c.in_err-terms.ensures

pub call::arguments_inside-returns : goal.call::arguments_inside-returns
call::arguments_inside-returns t c =
    let f = rw c.in-Some-after.ensures at c.in_ok-strategies.ensures in
    rw (reads_all_arguments, c.in_ok-new.ensures.ok)
    (made (after_any (argument_pairs _) f) (made (barred_terms _ _) c.in_ok-terms.ensures))

pub call::any_strategies-returns-then-ends_here : goal.call::any_strategies-returns-then-ends_here
call::any_strategies-returns-then-ends_here t c =
    rw c.new.ensures.items (none_found _ _ (sym c.ends_here.ensures ∙ c.if-ends_here.true))

pub call::any_strategies-returns : goal.call::any_strategies-returns
call::any_strategies-returns t c =
    read_any (made_some _ _ (sym c.ends_here.ensures ∙ c.if-ends_here.false)) strategies_from _ c.strategies.ensures

-- ---- primitives

pub call::primitive-returns-in_err-text : goal.call::primitive-returns-in_err-text
call::primitive-returns-in_err-text t c =
    refused (carries_on (at_first (primitive_pairs _) no_patterns) (at_made (made_primitive _ _)))
    _ _ _ c.from_residual.ensures.1 c.in_err-text.ensures

pub call::primitive-returns-in_err-terms : goal.call::primitive-returns-in_err-terms
call::primitive-returns-in_err-terms t c =
    refused (carries_on (at_made (after_first (primitive_pairs _) c.in_ok-text.ensures)) (at_made (made_primitive _ _)))
    _ _ _ c.from_residual-in_err-terms.ensures.1 c.in_err-terms.ensures

pub call::primitive-returns : goal.call::primitive-returns
call::primitive-returns t c =
    rw (c.in_ok-new.ensures.ok, reads_primitive)
    (made (made_primitive _ _) (pair (primitive_pairs _) c.in_ok-text.ensures (found_any c.in_ok-terms.ensures)))

pub call::primitive_patterns-returns-in-Some : goal.call::primitive_patterns-returns-in-Some
call::primitive_patterns-returns-in-Some t c = rw (c.in-Some.ensures, c.new.ensures.items) (primitive_alone _ _)

pub call::primitive_patterns-returns-in_default-after : goal.call::primitive_patterns-returns-in_default-after
call::primitive_patterns-returns-in_default-after t c =
    syntax_fault _ c.syntax.ensures (primitive_end_missing _ _ c.in_default.ensures c.in_default-after.ensures)

pub call::primitive_patterns-returns-in_err-terms : goal.call::primitive_patterns-returns-in_err-terms
call::primitive_patterns-returns-in_err-terms t c =
    rw c.in-Some-after.ensures (refused (carries_on (at_closed _ primitive_ends) (at_made (primitive_terms _ _)))
    _ _ _ c.from_residual.ensures.1 c.in_err-terms.ensures)

pub call::primitive_patterns-returns-in_default-after-2 : goal.call::primitive_patterns-returns-in_default-after-2
call::primitive_patterns-returns-in_default-after-2 t c =
    let m = unclosed _ primitive_ends (found_any c.in_ok-terms.ensures) c.in_default-after-2.ensures in
    rw c.in-Some-after.ensures
    (syntax_fault _ c.syntax-in_default-after-2.ensures ((at_made (primitive_terms _ _)).missing m))

pub call::primitive_patterns-returns : goal.call::primitive_patterns-returns
call::primitive_patterns-returns t c =
    let f = rw c.in-Some-after-2.ensures at c.in_ok-terms.ensures in
    rw c.in-Some-after.ensures (made (primitive_terms _ _) (closed_found _ primitive_ends f))

-- ---- local definitions

pub let_in::let_in-returns-in_err-definitions : goal.let_in::let_in-returns-in_err-definitions
let_in::let_in-returns-in_err-definitions t c =
    refused (carries_on (at_closed _ definitions_end)
    (carries_on (at_first (let_pairs _) (plain_sequence (last (plain_step failure)))) (at_made (made_let _ _))))
    _ _ _ c.from_residual.ensures.1 c.in_err-definitions.ensures

pub let_in::let_in-returns-in_default : goal.let_in::let_in-returns-in_default
let_in::let_in-returns-in_default t c =
    let m = unclosed _ definitions_end (found_any c.in_ok-definitions.ensures) c.in_default.ensures in
    syntax_fault _ c.syntax.ensures ((at_made (made_let _ _)).missing
    ((at_first (let_pairs _) (plain_sequence (last (plain_step failure)))).missing m))

pub let_in::let_in-returns-in_err-body : goal.let_in::let_in-returns-in_err-body
let_in::let_in-returns-in_err-body t c =
    let f = closed_found _ definitions_end (rw c.in-Some.ensures at c.in_ok-definitions.ensures) in
    refused (carries_on (at_made (after_first (let_pairs _) f)) (at_made (made_let _ _)))
    _ _ _ c.from_residual-in_err-body.ensures.1 c.in_err-body.ensures

pub let_in::let_in-returns : goal.let_in::let_in-returns
let_in::let_in-returns t c =
    let f = closed_found _ definitions_end (rw c.in-Some.ensures at c.in_ok-definitions.ensures) in
    rw (c.in_ok-new.ensures.ok, reads_let)
    (made (made_let _ _) (pair (let_pairs _) f (found_any c.in_ok-body.ensures)))

pub let_in::definitions-returns-in_err-first : goal.let_in::definitions-returns-in_err-first
let_in::definitions-returns-in_err-first t c =
    refused (at_row_first (definition_lists _) (definitions_row _))
    _ _ _ c.from_residual.ensures.1 c.in_err-first.ensures

pub let_in::definitions-definitions-init : goal.let_in::definitions-definitions-init
let_in::definitions-definitions-init t c =
    rw (c.in_ok-push.ensures.items, c.new-found.ensures.items)
    (partly_first (definition_lists _) (definitions_row _) c.in_ok-first.ensures)

pub let_in::definitions-returns-in_err-other : goal.let_in::definitions-returns-in_err-other
let_in::definitions-returns-in_err-other t c =
    refused (at_next (definitions_row _) c.definitions.invariant (sym c.begins_name.ensures ∙ c.definitions-test.true))
    _ _ _ c.from_residual-in_err-other.ensures.1 c.in_err-other.ensures

pub let_in::definitions-definitions-preserved : goal.let_in::definitions-definitions-preserved
let_in::definitions-definitions-preserved t c =
    rw (c.in_ok-push-2.ensures.items, map-append) (partly_more (definitions_row _) c.definitions.invariant
    (sym c.begins_name.ensures ∙ c.definitions-test.true) c.in_ok-other.ensures)

pub let_in::definitions-returns : goal.let_in::definitions-returns
let_in::definitions-returns t c =
    partly_found (definitions_row _) c.definitions.invariant (sym c.begins_name.ensures ∙ c.definitions-test.false)

pub let_in::definition-returns-in_err-head : goal.let_in::definition-returns-in_err-head
let_in::definition-returns-in_err-head t c =
    refused (at_first (definition_pairs _) (plain_sequence (last (plain_step failure))))
    _ _ _ c.from_residual.ensures.1 c.in_err-head.ensures

pub let_in::definition-returns-in_err-body : goal.let_in::definition-returns-in_err-body
let_in::definition-returns-in_err-body t c =
    let f = rw c.in-Some.ensures at c.in_ok-head.ensures in
    refused (at_made (after_head _ f)) _ _ _ c.from_residual-in_err-body.ensures.1 c.in_err-body.ensures

pub let_in::definition-returns : goal.let_in::definition-returns
let_in::definition-returns t c =
    let f = rw c.in-Some.ensures at c.in_ok-head.ensures in
    rw c.in_ok-definition.ensures (made (after_head _ f) c.in_ok-body.ensures)
