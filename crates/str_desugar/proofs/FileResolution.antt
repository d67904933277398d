-- The program of a file that has no fault is resolved.
use Rattle.std.proofs.Common.{◌≡◌, ℕ, Option, Some, None, List, [], ◌∷◌, ◌++◌, map, refl, sym, ◌∙◌, ap, subst}
use Rattle.std.specs.Prelude.{Bool, true, false, ◌||◌, if◌then◌else◌}
use Rattle.std.specs.List.{list_any}
use Rattle.std.specs.Option.{option_or, option_map}
use Rattle.std.proofs.lemmas.Bool.{not-false, or_parts, true≢false}
use Rattle.std.proofs.lemmas.List.{map-append}
use Rattle.term_model.specs.declared.fault.Fault.{Fault}
use Rattle.core_lang.specs.Named.{Name, written, definition_position}
use Rattle.core_lang.specs.Resolution.{Scopes, nowhere, names, defined, here, one_layer_up, ResolvesProgram}
use Rattle.signature_core.specs.Signature.{Declared, arity_known, declarations_of}
use Rattle.scope_check.specs.Complaint.{Complaint, duplicate_declaration, undeclared, bad_parameters, clash, unknown_strategy, not_buildable, unknown_primitive, no_main, occurs, first_fault, is_unknown, has_bad_parameters, some_differ, too_many}
use Rattle.scope_check.specs.Seen.{Seen, plain_key, in_body, tops_in, head_of_form, head_of_top, top_heads, at_top}
use Rattle.scope_check.specs.Somewhere.{heading, in_rule, in_strategy, in_form, in_top}
use Rattle.str_syntax.specs.declared.definition.Origin.{Origin}
use Rattle.str_syntax.specs.Trees.{Bytes, ParameterTree, head, RuleTree, StrategyTree, definition, FormTree, rule_form, strategy_form, TopTree, SectionTree, signature, rules, strategies, FileTree}
use Rattle.str_desugar.specs.FileProgram.{program_of_file}
use Rattle.str_desugar.specs.Alternatives.{Alternative}
use Rattle.str_desugar.specs.Equations.{rule_core, strategy_core, top_core, forms_among}
use Rattle.str_desugar.specs.Frames.{outermost, of_definitions, keys_of, key_position, definitions_at}
use Rattle.str_desugar.specs.Variables.{each_once, without, free_in, free_in_rule}
use Rattle.str_syntax.specs.Arity.{strategy_names, term_names}
use Rattle.str_desugar.proofs.BoundLaws.{bound_in_names, same_position}
use Rattle.str_desugar.proofs.FormLaws.{within, scoped_resolved, bound_in_scope, sees_in_scope}
use Rattle.str_desugar.proofs.GroupLaws.{AlternativeResolved, AlternativesResolved, definitions_resolved, no_definition}
use Rattle.str_desugar.proofs.HeadLaws.{AreOf, IsOfHead, same_keys, agree_from_heads}
use Rattle.str_desugar.proofs.NameLists.{AreBound, in_without, in_once, not_in}
use Rattle.str_desugar.proofs.PartLaws.{Neither, neither_first, neither_rest, sees_body}
use Rattle.str_desugar.proofs.SeenLaws.{Sees, sees_own, Covers}
use Rattle.str_desugar.proofs.StrategyResolution.{strategy_resolved, rule_resolved, FineRule, FineStrategy}

-- ---- what a file without a fault has none of

passed : (b : Bool) (x : Fault) (o : Option Fault) → (if b then Some x else o) ≡ None → (b ≡ false) × (o ≡ None)
passed true x o e = absurd (cc)
passed false x o e = (refl, e)

-- the complaints that resolution and its primitives rest on do not occur
pub record Passes (has : Bytes → ℕ → Bool) (f : FileTree) (main : Bytes) : Type 0 where
  pub parameters : occurs has f main bad_parameters ≡ false
  pub calls : occurs has f main unknown_strategy ≡ false
  pub primitives : occurs has f main unknown_primitive ≡ false
  pub has_main : occurs has f main no_main ≡ false

pub none_holds : (has : Bytes → ℕ → Bool) (f : FileTree) (main : Bytes) → first_fault has f main ≡ None →
    Passes has f main
none_holds has f main e =
    let holds : Complaint → Bool = occurs has f main in
    let p1 = passed (holds duplicate_declaration) _ _ e in
    let p2 = passed (holds undeclared) _ _ p1.1 in
    let p3 = passed (holds bad_parameters) _ _ p2.1 in
    let p4 = passed (holds clash) _ _ p3.1 in
    let p5 = passed (holds unknown_strategy) _ _ p4.1 in
    let p6 = passed (holds not_buildable) _ _ p5.1 in
    let p7 = passed (holds unknown_primitive) _ _ p6.1 in
    let p8 = passed (holds no_main) _ _ p7.1 in
    record { parameters = p3.0; calls = p5.0; primitives = p7.0; has_main = p8.0 }

-- ---- the rules and definitions of a file, as the check and as the equations list them

abbrev pub forms_in : List TopTree → List FormTree
forms_in tops = map (λ top. top.form) tops

pub same_forms : (sections : List SectionTree) → forms_in (tops_in sections) ≡ forms_among sections
same_forms [] = refl
same_forms (signature parts ∷ sections) = same_forms sections
same_forms (rules tops ∷ sections) =
    map-append (λ top. top.form) tops (tops_in sections) ∙ ap (λ forms. forms_in tops ++ forms) (same_forms sections)
same_forms (strategies tops ∷ sections) =
    map-append (λ top. top.form) tops (tops_in sections) ∙ ap (λ forms. forms_in tops ++ forms) (same_forms sections)

same_heads : (tops : List TopTree) → map head_of_top tops ≡ map head_of_form (forms_in tops)
same_heads [] = refl
same_heads (top ∷ tops) = ap (λ hs. head_of_form top.form ∷ hs) (same_heads tops)

-- ---- rules and definitions at top level

-- the parameters and a scope of all other names bind all names
bound_at_top : (S : Scopes) (fs : List Name) (terms free : List Bytes) →
    AreBound (within (names fs (map written terms) S) (each_once (without terms free))) free
bound_at_top S fs terms free = λ y e.
    bound_in_scope (names fs (map written terms) S) (each_once (without terms free)) y
    (λ none. bound_in_names S fs (map written terms) (written y)
    (λ no_term. absurd (true≢false (sym (in_without y terms free e (not_in y terms no_term)) ∙
    (sym (in_once y (without terms free)) ∙ none)))))

module _ (ds : List Declared) where
  abbrev declared : Bytes → ℕ → Bool
  declared = arity_known ds

  abbrev FineForm : Origin → Seen → FormTree → Type 0
  FineForm o L form = Neither (in_form (is_unknown ds) o L form) (in_form has_bad_parameters o L form)

  abbrev FineTops : Seen → List TopTree → Type 0
  FineTops L tops = Neither (list_any (in_top (is_unknown ds) L) tops) (list_any (in_top has_bad_parameters L) tops)

  fine_rule : (o : Origin) (L : Seen) (f : Bytes) (ps : ParameterTree) (r : RuleTree) →
      FineForm o L (rule_form (head f ps) r) → FineRule ds (in_body (head f ps) L) r
  fine_rule o L f ps r fine = (
    fine.0,
    (or_parts (has_bad_parameters L (heading o (head f ps)))
        (in_rule has_bad_parameters (in_body (head f ps) L) r) fine.1).1,
  )

  fine_strategy : (o : Origin) (L : Seen) (f : Bytes) (ps : ParameterTree) (s : StrategyTree) →
      FineForm o L (strategy_form (definition (head f ps) s)) →
      FineStrategy ds (in_body (head f ps) L) s
  fine_strategy o L f ps s fine = (
    fine.0,
    (or_parts (has_bad_parameters L (heading o (head f ps)))
        (in_strategy has_bad_parameters (in_body (head f ps) L) s) fine.1).1,
  )

  form_resolved : (S : Scopes) (o : Origin) (L : Seen) (form : FormTree) → FineForm o L form → Sees S L →
      AlternativeResolved S (top_core declared form)
  form_resolved S o L (rule_form (head f ps) r) fine sees =
      let T : Scopes = names (map written (strategy_names ps)) (map written (term_names ps)) S in
      let own : List Bytes = each_once (without (term_names ps) (free_in_rule r)) in
      scoped_resolved T own (rule_core declared r)
      (rule_resolved ds (within T own) (in_body (head f ps) L) r (fine_rule o L f ps r fine)
      (bound_at_top S (map written (strategy_names ps)) (term_names ps) (free_in_rule r))
      (sees_in_scope T own (in_body (head f ps) L) (sees_body S f ps (map written (term_names ps)) L sees)))
  form_resolved S o L (strategy_form (definition (head f ps) s)) fine sees =
      let T : Scopes = names (map written (strategy_names ps)) (map written (term_names ps)) S in
      let own : List Bytes = each_once (without (term_names ps) (free_in s)) in
      scoped_resolved T own (strategy_core declared s)
      (strategy_resolved ds (within T own) (in_body (head f ps) L) s (fine_strategy o L f ps s fine)
      (bound_at_top S (map written (strategy_names ps)) (term_names ps) (free_in s))
      (sees_in_scope T own (in_body (head f ps) L) (sees_body S f ps (map written (term_names ps)) L sees)))

  tops_resolved : (S : Scopes) (L : Seen) (tops : List TopTree) → FineTops L tops → Sees S L →
      AlternativesResolved S (map (top_core declared) (forms_in tops))
  tops_resolved S L [] fine sees = tt
  tops_resolved S L (top ∷ tops) fine sees = (
    form_resolved S top.origin L top.form (neither_first _ _ _ _ fine) sees,
    tops_resolved S L tops (neither_rest _ _ _ _ fine) sees,
  )

  form_of_head : (form : FormTree) → IsOfHead (top_core declared form) (head_of_form form)
  form_of_head (rule_form (head f ps) r) =
      record { name = refl; strategies = refl; terms = refl }
  form_of_head (strategy_form (definition (head f ps) s)) =
      record { name = refl; strategies = refl; terms = refl }

  forms_of_heads : (forms : List FormTree) → AreOf (map (top_core declared) forms) (map head_of_form forms)
  forms_of_heads [] = tt
  forms_of_heads (form ∷ forms) = (form_of_head form, forms_of_heads forms)

-- ---- files

heads_of : (f : FileTree) → AreOf (map (top_core (arity_known (declarations_of f))) (forms_among f.sections))
    (top_heads f)
heads_of f =
    subst (λ hs. AreOf (map (top_core (arity_known (declarations_of f))) (forms_among f.sections)) hs)
    (ap (λ forms. map head_of_form forms) (sym (same_forms f.sections)) ∙ sym (same_heads (tops_in f.sections)))
    (forms_of_heads (declarations_of f) (forms_among f.sections))

covers_top : (f : FileTree) → Covers (program_of_file f) (at_top f)
covers_top f = λ k none.
    sym (same_keys (map (top_core (arity_known (declarations_of f))) (forms_among f.sections)) (top_heads f)
    (heads_of f) k)
    ∙ no_definition k (map (top_core (arity_known (declarations_of f))) (forms_among f.sections)) none

-- what a complaint says of the rules and definitions, and of their heads
parameters_fine : (has : Bytes → ℕ → Bool) (f : FileTree) (main : Bytes) → occurs has f main bad_parameters ≡ false →
    (some_differ (top_heads f) ≡ false) × (list_any (in_top has_bad_parameters (at_top f)) (tops_in f.sections) ≡ false)
parameters_fine has f main e =
    let parts = or_parts (some_differ (top_heads f) ||
    too_many (top_heads f)) (list_any (in_top has_bad_parameters (at_top f)) (tops_in f.sections)) e in
    ((or_parts (some_differ (top_heads f)) (too_many (top_heads f)) parts.0).0, parts.1)

-- where no definition has main's name and takes nothing, main is not seen
main_found : (has : Bytes → ℕ → Bool) (f : FileTree) (main : Bytes) → occurs has f main no_main ≡ false →
    (o : Option ℕ) → definition_position (program_of_file f) (written main) 0 0 ≡ o → (i : ℕ) × o ≡ Some i
main_found has f main e (Some i) is = (i, refl)
main_found has f main e None is =
    absurd (true≢false (sym (not-false (at_top f (plain_key main)) e) ∙ covers_top f (plain_key main) is))

-- a file that has no fault has a main
pub checked_main : (has : Bytes → ℕ → Bool) (f : FileTree) (main : Bytes) → first_fault has f main ≡ None → (i : ℕ) ×
    key_position (keys_of (program_of_file f)) (written main) 0 0 ≡ Some i
checked_main has f main e =
    let found = main_found has f main (none_holds has f main e).has_main
    (definition_position (program_of_file f) (written main) 0 0) refl in
    (found.0, same_position (program_of_file f) (written main) 0 0 ∙ found.1)

-- the program of a file that has no fault is resolved, each identifier by the layers around it
pub checked_resolved : (has : Bytes → ℕ → Bool) (f : FileTree) (main : Bytes) (i : ℕ) → first_fault has f main ≡ None →
    key_position (keys_of (program_of_file f)) (written main) 0 0 ≡ Some i →
    ResolvesProgram (program_of_file f) (written main)
    (definitions_at (of_definitions (keys_of (program_of_file f)) outermost) (program_of_file f)) i
checked_resolved has f main i e is =
    let ds : List Declared = declarations_of f in
    let all : List Alternative = map (top_core (arity_known ds)) (forms_among f.sections) in
    let S : Scopes = defined (program_of_file f) nowhere in
    let passes : Passes has f main = none_holds has f main e in
    let fine = parameters_fine has f main passes.parameters in
    record {
      each = definitions_resolved S all
          (subst (λ forms. AlternativesResolved S (map (top_core (arity_known ds)) forms)) (same_forms f.sections)
          (tops_resolved ds S (at_top f) (tops_in f.sections) (passes.calls, fine.1)
          (sees_own nowhere (program_of_file f) (at_top f) (covers_top f))))
          (agree_from_heads all (top_heads f) (heads_of f) fine.0);
      called = ap (λ o. option_or (option_map here o) (option_map one_layer_up None))
          (sym (same_position (program_of_file f) (written main) 0 0) ∙ is);
    }

-- a file that has no fault has a main, and its program is resolved with it
pub checked_program : (has : Bytes → ℕ → Bool) (f : FileTree) (main : Bytes) → first_fault has f main ≡ None →
    (i : ℕ) × (key_position (keys_of (program_of_file f)) (written main) 0 0 ≡ Some i)
    × ResolvesProgram (program_of_file f) (written main)
    (definitions_at (of_definitions (keys_of (program_of_file f)) outermost) (program_of_file f)) i
checked_program has f main e = let found = checked_main has f main e in
    (found.0, found.1, checked_resolved has f main found.0 e found.1)
