-- The headline does not rest on this file.
-- What the walk over a file finds: for each complaint whether it occurs.
use Rattle.std.specs.Prelude.{◌≡◌, Bool, true, false, not, ◌||◌, List, [], Option, None, Some, is_none}
use Rattle.std.specs.List.{list_any}
use Rattle.term_model.specs.declared.fault.Fault.{Fault}
use Rattle.term_model.specs.declared.fault.Fault.TheVariants.{Memory}
use Rattle.signature_core.specs.Signature.{declarations_of}
use Rattle.str_syntax.specs.Trees.{Bytes, HeadTree, PatternTree, PatternTrees, OptionalPattern, StrategyTree, StrategyTrees, OptionalStrategy, SequenceTree, StepTree, PrimaryTree, ArgumentTree, RuleTree, DefinitionTree, DefinitionTrees, TopTree, SectionTree, signature, rules, strategies, FileTree}
use Rattle.scope_check.specs.declared.side.Side.{Side}
use Rattle.scope_check.specs.declared.detail.Detail.{Detail}
use Rattle.scope_check.specs.declared.detail.Detail.TheVariants as details
use Rattle.scope_check.specs.declared.note.Note.{Note}
use Rattle.scope_check.specs.Seen.{Seen, nothing, at_top, plain_key}
use Rattle.scope_check.specs.Somewhere.{Node, in_pattern, in_patterns, in_optional_pattern, in_strategy, in_strategies, in_optional_strategy, in_sequence, in_step, in_primary, in_arguments, in_rule, in_definition, in_definitions, in_top, in_file}
use Rattle.str_syntax.specs.declared.definition.Origin.{Origin}
use Rattle.scope_check.specs.Complaint.{Known, is_bad, some_differ, too_many, redefines_library, repeats_declaration, Complaint, duplicate_declaration, undeclared, bad_parameters, clash, unknown_strategy, not_buildable, unknown_primitive, no_main, complaints, fault_of, first_of}

-- which complaints were found
pub record Found : Type 0 where
  pub duplicate_declaration : Bool
  pub undeclared : Bool
  pub bad_parameters : Bool
  pub clash : Bool
  pub unknown_strategy : Bool
  pub not_buildable : Bool
  pub unknown_primitive : Bool
  pub no_main : Bool

-- each complaint that holds
abbrev pub noted : (Complaint → Bool) → Found
noted holds = record {
  duplicate_declaration = holds duplicate_declaration;
  undeclared = holds undeclared;
  bad_parameters = holds bad_parameters;
  clash = holds clash;
  unknown_strategy = holds unknown_strategy;
  not_buildable = holds not_buildable;
  unknown_primitive = holds unknown_primitive;
  no_main = holds no_main;
}

-- whether a complaint was found
abbrev pub has_found : Found → Complaint → Bool
has_found found duplicate_declaration = found.duplicate_declaration
has_found found undeclared = found.undeclared
has_found found bad_parameters = found.bad_parameters
has_found found clash = found.clash
has_found found unknown_strategy = found.unknown_strategy
has_found found not_buildable = found.not_buildable
has_found found unknown_primitive = found.unknown_primitive
has_found found no_main = found.no_main

abbrev pub none : Found
none = noted (λ k. false)

-- no complaint was found
abbrev pub finds_nothing : Found → Bool
finds_nothing found = is_none (first_of (has_found found) complaints)

-- what is found in either
abbrev pub joined : Found → Found → Found
joined a b = record {
  duplicate_declaration = a.duplicate_declaration || b.duplicate_declaration;
  undeclared = a.undeclared || b.undeclared;
  bad_parameters = a.bad_parameters || b.bad_parameters;
  clash = a.clash || b.clash;
  unknown_strategy = a.unknown_strategy || b.unknown_strategy;
  not_buildable = a.not_buildable || b.not_buildable;
  unknown_primitive = a.unknown_primitive || b.unknown_primitive;
  no_main = a.no_main || b.no_main;
}

-- this complaint, where the test holds
abbrev pub found_if : Complaint → Bool → Found
found_if duplicate_declaration b = record none { duplicate_declaration = b }
found_if undeclared b = record none { undeclared = b }
found_if bad_parameters b = record none { bad_parameters = b }
found_if clash b = record none { clash = b }
found_if unknown_strategy b = record none { unknown_strategy = b }
found_if not_buildable b = record none { not_buildable = b }
found_if unknown_primitive b = record none { unknown_primitive = b }
found_if no_main b = record none { no_main = b }

-- the complaint that a note is about
abbrev pub complaint_of : Detail → Complaint
complaint_of details.DeclaredAgain = duplicate_declaration
complaint_of (details.Undeclared _ _) = undeclared
complaint_of details.Repeated = bad_parameters
complaint_of details.OtherParameters = bad_parameters
complaint_of details.ManyAlternatives = bad_parameters
complaint_of details.Clash = clash
complaint_of details.OfLibrary = clash
complaint_of (details.UnknownStrategy _ _ _) = unknown_strategy
complaint_of details.BuiltWildcard = not_buildable
complaint_of details.BuiltAlias = not_buildable
complaint_of (details.UnknownPrimitive _) = unknown_primitive
complaint_of details.NoMain = no_main

-- a note that is kept is about this complaint
abbrev pub IsAbout : Complaint → Option Note → Type 0
IsAbout k None = true ≡ true
IsAbout k (Some note) = complaint_of note.detail ≡ k

-- the fault of what was noted, if anything was
abbrev pub fault_noted : Option Note → Option Fault
fault_noted None = None
fault_noted (Some note) = Some (fault_of (complaint_of note.detail))

-- the same, or out of memory
abbrev pub fault_or_memory : Option Note → Fault
fault_or_memory None = Memory
fault_or_memory (Some note) = fault_of (complaint_of note.detail)

-- of these complaints those that are about nodes
abbrev pub about_nodes : (Complaint → Bool) → Found
about_nodes holds = record (noted holds) { duplicate_declaration = false; no_main = false }

-- what is found about one node, whatever is seen there
abbrev pub found_at : Known → Node → Found
found_at known n = about_nodes (λ k. is_bad known k nothing n)

-- what is found about the nodes of a tree, with what is seen where it stands
abbrev pub found_in_pattern : Known → Side → Seen → PatternTree → Found
found_in_pattern known m L t = about_nodes (λ k. in_pattern (is_bad known k) m L t)

abbrev pub found_in_patterns : Known → Side → Seen → PatternTrees → Found
found_in_patterns known m L t = about_nodes (λ k. in_patterns (is_bad known k) m L t)

abbrev pub found_in_optional_pattern : Known → Side → Seen → OptionalPattern → Found
found_in_optional_pattern known m L t = about_nodes (λ k. in_optional_pattern (is_bad known k) m L t)

abbrev pub found_in_strategy : Known → Seen → StrategyTree → Found
found_in_strategy known L t = about_nodes (λ k. in_strategy (is_bad known k) L t)

abbrev pub found_in_strategies : Known → Seen → StrategyTrees → Found
found_in_strategies known L t = about_nodes (λ k. in_strategies (is_bad known k) L t)

abbrev pub found_in_optional_strategy : Known → Seen → OptionalStrategy → Found
found_in_optional_strategy known L t = about_nodes (λ k. in_optional_strategy (is_bad known k) L t)

abbrev pub found_in_sequence : Known → Seen → SequenceTree → Found
found_in_sequence known L t = about_nodes (λ k. in_sequence (is_bad known k) L t)

abbrev pub found_in_step : Known → Seen → StepTree → Found
found_in_step known L t = about_nodes (λ k. in_step (is_bad known k) L t)

abbrev pub found_in_primary : Known → Seen → PrimaryTree → Found
found_in_primary known L t = about_nodes (λ k. in_primary (is_bad known k) L t)

abbrev pub found_in_arguments : Known → Seen → ArgumentTree → Found
found_in_arguments known L t = about_nodes (λ k. in_arguments (is_bad known k) L t)

abbrev pub found_in_rule : Known → Seen → RuleTree → Found
found_in_rule known L t = about_nodes (λ k. in_rule (is_bad known k) L t)

abbrev pub found_in_definition : Known → Origin → Seen → DefinitionTree → Found
found_in_definition known o L t = about_nodes (λ k. in_definition (is_bad known k) o L t)

abbrev pub found_in_definitions : Known → Seen → DefinitionTrees → Found
found_in_definitions known L t = about_nodes (λ k. in_definitions (is_bad known k) L t)

-- what is found about a group of heads
abbrev pub found_group : List HeadTree → Found
found_group hs = found_if bad_parameters (some_differ hs || too_many hs)

-- what is found in rules and definitions at top level
abbrev pub found_in_top : Known → Seen → TopTree → Found
found_in_top known L t = about_nodes (λ k. in_top (is_bad known k) L t)

abbrev pub found_in_tops : Known → Seen → List TopTree → Found
found_in_tops known L ts = about_nodes (λ k. list_any (in_top (is_bad known k) L) ts)

-- the rules and definitions of one section
abbrev pub tops_of : SectionTree → List TopTree
tops_of (signature _) = []
tops_of (rules tops) = tops
tops_of (strategies tops) = tops

-- a complaint occurs in a file that is judged by this
abbrev pub occurring : Known → FileTree → Bytes → Complaint → Bool
occurring known file main duplicate_declaration = repeats_declaration (declarations_of file)
occurring known file main no_main = not (at_top file (plain_key main))
occurring known file main clash = redefines_library file || in_file (is_bad known clash) file
occurring known file main k = in_file (is_bad known k) file

-- what is found in a file that is judged by this
abbrev pub found_in_file : Known → FileTree → Bytes → Found
found_in_file known file main = noted (occurring known file main)

-- the same, but for its declarations
abbrev pub found_beside_declarations : Known → FileTree → Bytes → Found
found_beside_declarations known file main = record (found_in_file known file main) { duplicate_declaration = false }
