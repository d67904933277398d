-- What can be wrong with a definition file, and which fault it has.
use Rattle.std.specs.Prelude.{ℕ, Bool, true, false, not, ◌||◌, ◌&&◌, nat_lt, List, [], ◌∷◌, ◌++◌, Option, Some, None, if◌then◌else◌, count_by}
use Rattle.std.specs.Cmp.Lexicographic.{pointwise}
use Rattle.std.specs.List.{list_any}
use Rattle.term_model.specs.declared.fault.Fault.{Fault}
use Rattle.term_model.specs.declared.fault.Fault.TheVariants.{DuplicateDeclaration, Undeclared, Parameters, Clash, UnknownStrategy, NotBuildable, UnknownPrimitive, NoMain}
use Rattle.str_syntax.specs.Arity.{number_of_patterns, number_of_strategies, given_strategies, given_terms}
use Rattle.str_syntax.specs.SameName.{same_name}
use Rattle.str_syntax.specs.Trees.{Bytes, HeadTree, head, wildcard, alias, application, scope, recursive, primitive, call, ArgumentTree, no_arguments, strategy_arguments, all_arguments, FileTree}
use Rattle.signature_core.specs.Signature.{Declared, arity_known, is_declared, is_declared_name, declarations_of}
use Rattle.scope_check.specs.declared.side.Side.{Side}
use Rattle.scope_check.specs.declared.side.Side.TheVariants.{Match, Build}
use Rattle.scope_check.specs.Seen.{Key, same_key, among, plain_key, strategy_names, term_names, key_of, is_own, library_keys, own_heads, at_top}
use Rattle.scope_check.specs.Somewhere.{Test, pattern, strategy, heading, group, in_file}

-- what a file is judged by: the constructors that it declares, and which primitives there are
pub record Known : Type 0 where
  pub declarations : List Declared
  pub has_primitive : Bytes → ℕ → Bool

pub data Complaint : Type 0 where
  duplicate_declaration : Complaint
  undeclared : Complaint
  bad_parameters : Complaint
  clash : Complaint
  unknown_strategy : Complaint
  not_buildable : Complaint
  unknown_primitive : Complaint
  no_main : Complaint

-- a declaration stands again after itself
abbrev pub repeats_declaration : List Declared → Bool
repeats_declaration [] = false
repeats_declaration (d ∷ ds) = is_declared ds d || repeats_declaration ds

-- a constructor in a pattern is not declared with this number of sorts
abbrev pub is_undeclared : List Declared → Test
is_undeclared ds L (pattern m (application f ps)) = not (arity_known ds f (number_of_patterns ps))
is_undeclared ds L _ = false

-- a name stands again after itself
abbrev pub repeats : List Bytes → Bool
repeats [] = false
repeats (x ∷ xs) = list_any (same_name x) xs || repeats xs

abbrev pub same_names : List Bytes → List Bytes → Bool
same_names xs ys = pointwise same_name xs ys

-- the parameters have the same names in the same order
abbrev pub same_parameters : HeadTree → HeadTree → Bool
same_parameters (head f ps) (head g qs) =
    same_names (strategy_names ps) (strategy_names qs) && same_names (term_names ps) (term_names qs)

-- two heads are alternatives of one key, and their parameters differ
abbrev pub differs : HeadTree → HeadTree → Bool
differs h g = same_key (key_of h) (key_of g) && not (same_parameters h g)

abbrev pub some_differ : List HeadTree → Bool
some_differ hs = list_any (λ h. list_any (differs h) hs) hs

-- how many alternatives a key has among heads
abbrev pub alternatives : List HeadTree → Key → ℕ
alternatives hs k = count_by (λ h. same_key k (key_of h)) hs

-- a key has over 1,000 alternatives
abbrev pub too_many : List HeadTree → Bool
too_many hs = list_any (λ h. nat_lt 1000 (alternatives hs (key_of h))) hs

abbrev pub has_bad_parameters : Test
has_bad_parameters L (heading o (head f ps)) = repeats (strategy_names ps ++ term_names ps)
has_bad_parameters L (strategy (scope xs s)) = repeats xs
has_bad_parameters L (group hs) = some_differ hs || too_many hs
has_bad_parameters L _ = false

-- a definition, a strategy parameter or a rec has the name of a declared constructor; the names of the library's
-- parameters do not matter
abbrev pub clashes : List Declared → Test
clashes ds L (heading o (head f ps)) =
    is_declared_name ds f || (is_own o && list_any (is_declared_name ds) (strategy_names ps))
clashes ds L (strategy (recursive f s)) = is_declared_name ds f
clashes ds L _ = false

-- a call form in parentheses without | is a congruence where its name is declared with this number of sorts
abbrev pub is_congruence : List Declared → Bytes → ArgumentTree → Bool
is_congruence ds f no_arguments = false
is_congruence ds f (strategy_arguments ss) = arity_known ds f (number_of_strategies ss)
is_congruence ds f (all_arguments ss ps) = false

-- a definition of the file has the key of a definition of the library
abbrev pub redefines_library : FileTree → Bool
redefines_library file = list_any (λ h. among (library_keys file) (key_of h)) (own_heads file)

-- the key that a call asks for
abbrev pub called : Bytes → ArgumentTree → Key
called f arguments = record { name = f; strategies = given_strategies arguments; terms = given_terms arguments }

-- a call is no congruence, and what it calls is not seen
abbrev pub is_unknown : List Declared → Test
is_unknown ds L (strategy (call f arguments)) = not (is_congruence ds f arguments || L (called f arguments))
is_unknown ds L _ = false

abbrev pub is_built : Side → Bool
is_built Match = false
is_built Build = true

-- a build has _ or x@p
abbrev pub is_not_buildable : Test
is_not_buildable L (pattern m wildcard) = is_built m
is_not_buildable L (pattern m (alias x p)) = is_built m
is_not_buildable L _ = false

-- there is no primitive of this name with this number of terms
abbrev pub is_unknown_primitive : (Bytes → ℕ → Bool) → Test
is_unknown_primitive has L (strategy (primitive f ps)) = not (has f (number_of_patterns ps))
is_unknown_primitive has L _ = false

-- the nodes that a complaint is about
abbrev pub is_bad : Known → Complaint → Test
is_bad known duplicate_declaration = λ L n. false
is_bad known undeclared = is_undeclared known.declarations
is_bad known bad_parameters = has_bad_parameters
is_bad known clash = clashes known.declarations
is_bad known unknown_strategy = is_unknown known.declarations
is_bad known not_buildable = is_not_buildable
is_bad known unknown_primitive = is_unknown_primitive known.has_primitive
is_bad known no_main = λ L n. false

-- what the file is judged by where there are these primitives
abbrev pub known_in : (Bytes → ℕ → Bool) → FileTree → Known
known_in has file = record { declarations = declarations_of file; has_primitive = has }

-- a complaint occurs in a file that is asked for this main, where there are these primitives
abbrev pub occurs : (Bytes → ℕ → Bool) → FileTree → Bytes → Complaint → Bool
occurs has file main duplicate_declaration = repeats_declaration (declarations_of file)
occurs has file main no_main = not (at_top file (plain_key main))
occurs has file main clash = redefines_library file || in_file (is_bad (known_in has file) clash) file
occurs has file main k = in_file (is_bad (known_in has file) k) file

abbrev pub fault_of : Complaint → Fault
fault_of duplicate_declaration = DuplicateDeclaration
fault_of undeclared = Undeclared
fault_of bad_parameters = Parameters
fault_of clash = Clash
fault_of unknown_strategy = UnknownStrategy
fault_of not_buildable = NotBuildable
fault_of unknown_primitive = UnknownPrimitive
fault_of no_main = NoMain

-- all complaints, the least number first
abbrev pub complaints : List Complaint
complaints = duplicate_declaration ∷ undeclared ∷ bad_parameters ∷ clash ∷ unknown_strategy ∷ not_buildable ∷
    unknown_primitive ∷ no_main ∷ []

-- the fault of the first of these that holds
abbrev pub first_of : (Complaint → Bool) → List Complaint → Option Fault
first_of holds [] = None
first_of holds (k ∷ ks) = if holds k then Some (fault_of k) else first_of holds ks

-- the fault of a file where there are these primitives, if it has one: that of the least number among those that occur
-- anywhere in it
abbrev pub first_fault : (Bytes → ℕ → Bool) → FileTree → Bytes → Option Fault
first_fault has file main = first_of (occurs has file main) complaints
