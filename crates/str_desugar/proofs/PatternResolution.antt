-- Patterns of a file whose names are bound are resolved.
use Rattle.std.proofs.Common.{ℕ, ◌+◌, ◌≤◌, [], arith}
use Rattle.core_lang.specs.Named.{Name}
use Rattle.core_lang.specs.Program.{Pattern, Patterns, Elements}
use Rattle.core_lang.specs.Program as core
use Rattle.core_lang.specs.Resolution.{Scopes, ResolvesPattern, to_anything, to_variable, to_alias, to_integer, to_applied, to_list, to_annotated, ResolvesPatterns, to_no_patterns, to_more_patterns, ResolvesElements, to_no_elements, to_the_rest, to_more_elements}
use Rattle.str_syntax.specs.Trees.{PatternTree, variable, wildcard, alias, integer, quoted, application, grouped, tuple, list, annotated, applied, applied_to, PatternTrees, no_patterns, more_patterns, OptionalPattern, no_pattern, one_pattern}
use Rattle.str_desugar.specs.Equations.{matched, matched_parts, matched_rest, built, built_parts, built_rest, elements_of, applications, applications_among, applications_of_rest}
use Rattle.str_desugar.specs.Frames.{frames_of, pattern_at, patterns_at, elements_at}
use Rattle.str_desugar.specs.Variables.{names_of, names_among, names_of_rest}
use Rattle.str_desugar.proofs.BroughtNames.{BringsResults}
use Rattle.str_desugar.proofs.NameLists.{AreBound, bound_left, bound_right, bound_first, bound_rest}

abbrev pub PatternResolved : Scopes → Pattern Name → Type 0
PatternResolved S p = ResolvesPattern S p (pattern_at (frames_of S) p)

abbrev pub PatternsResolved : Scopes → Patterns Name → Type 0
PatternsResolved S ps = ResolvesPatterns S ps (patterns_at (frames_of S) ps)

abbrev pub ElementsResolved : Scopes → Elements Name → Type 0
ElementsResolved S ps = ResolvesElements S ps (elements_at (frames_of S) ps)

-- each of these is resolved
abbrev pub EachResolved : Scopes → Patterns Name → Type 0
EachResolved S core.no_patterns = Unit {0}
EachResolved S (core.more_patterns p ps) = PatternResolved S p × EachResolved S ps

pub patterns_resolved : (S : Scopes) (ps : Patterns Name) → EachResolved S ps → PatternsResolved S ps
patterns_resolved S core.no_patterns each = to_no_patterns
patterns_resolved S (core.more_patterns p ps) each = to_more_patterns each.0 (patterns_resolved S ps each.1)

elements_resolved : (S : Scopes) (ps : Patterns Name) (rest : Elements Name) → EachResolved S ps →
    ElementsResolved S rest → ElementsResolved S (elements_of ps rest)
elements_resolved S core.no_patterns rest each r = r
elements_resolved S (core.more_patterns p ps) rest each r =
    to_more_elements each.0 (elements_resolved S ps rest each.1 r)

-- ---- what is matched

mutual
  pub matched_resolved : (S : Scopes) (p : PatternTree) → AreBound S (names_of p) → PatternResolved S (matched p)
  matched_resolved S (variable x) bound = to_variable (bound_first S x [] bound)
  matched_resolved S wildcard bound = to_anything
  matched_resolved S (alias x p) bound =
      to_alias (bound_first S x (names_of p) bound) (matched_resolved S p (bound_rest S x (names_of p) bound))
  matched_resolved S (integer z) bound = to_integer
  matched_resolved S (quoted text) bound = to_applied to_no_patterns
  matched_resolved S (application f ps) bound =
      to_applied (patterns_resolved S (matched_parts ps) (matched_parts_resolved S ps bound))
  matched_resolved S (grouped p) bound = matched_resolved S p bound
  matched_resolved S (tuple ps) bound =
      to_applied (patterns_resolved S (matched_parts ps) (matched_parts_resolved S ps bound))
  matched_resolved S (list ps p) bound =
      to_list (elements_resolved S (matched_parts ps) (matched_rest p)
      (matched_parts_resolved S ps (bound_left S (names_among ps) (names_of_rest p) bound))
      (matched_rest_resolved S p (bound_right S (names_among ps) (names_of_rest p) bound)))
  matched_resolved S (annotated p qs) bound =
      to_annotated (matched_resolved S p (bound_left S (names_of p) (names_among qs) bound))
      (patterns_resolved S (matched_parts qs)
      (matched_parts_resolved S qs (bound_right S (names_of p) (names_among qs) bound)))
  matched_resolved S (applied s) bound = to_anything
  matched_resolved S (applied_to s p) bound = to_anything

  matched_parts_resolved : (S : Scopes) (ps : PatternTrees) → AreBound S (names_among ps) →
      EachResolved S (matched_parts ps)
  matched_parts_resolved S no_patterns bound = tt
  matched_parts_resolved S (more_patterns p ps) bound = (
    matched_resolved S p (bound_left S (names_of p) (names_among ps) bound),
    matched_parts_resolved S ps (bound_right S (names_of p) (names_among ps) bound),
  )

  matched_rest_resolved : (S : Scopes) (p : OptionalPattern) → AreBound S (names_of_rest p) →
      ElementsResolved S (matched_rest p)
  matched_rest_resolved S no_pattern bound = to_no_elements
  matched_rest_resolved S (one_pattern p) bound = to_the_rest (matched_resolved S p bound)

-- ---- what is built, where the first n results have names

mutual
  pub built_resolved : (S : Scopes) (n i : ℕ) (p : PatternTree) → AreBound S (names_of p) → BringsResults S n →
      i + applications p ≤ n →
      PatternResolved S (built i p)
  built_resolved S n i (variable x) bound brings h = to_variable (bound_first S x [] bound)
  built_resolved S n i wildcard bound brings h = to_anything
  built_resolved S n i (alias x p) bound brings h =
      to_alias (bound_first S x (names_of p) bound)
      (built_resolved S n i p (bound_rest S x (names_of p) bound) brings h)
  built_resolved S n i (integer z) bound brings h = to_integer
  built_resolved S n i (quoted text) bound brings h = to_applied to_no_patterns
  built_resolved S n i (application f ps) bound brings h =
      to_applied (patterns_resolved S (built_parts i ps) (built_parts_resolved S n i ps bound brings h))
  built_resolved S n i (grouped p) bound brings h = built_resolved S n i p bound brings h
  built_resolved S n i (tuple ps) bound brings h =
      to_applied (patterns_resolved S (built_parts i ps) (built_parts_resolved S n i ps bound brings h))
  built_resolved S n i (list ps p) bound brings h =
      to_list (elements_resolved S (built_parts i ps) (built_rest (i + applications_among ps) p)
      (built_parts_resolved S n i ps (bound_left S (names_among ps) (names_of_rest p) bound) brings (omega arith))
      (built_rest_resolved S n (i + applications_among ps) p (bound_right S (names_among ps) (names_of_rest p) bound)
      brings (omega arith)))
  built_resolved S n i (annotated p qs) bound brings h =
      to_annotated (built_resolved S n i p (bound_left S (names_of p) (names_among qs) bound) brings (omega arith))
      (patterns_resolved S (built_parts (i + applications p) qs)
      (built_parts_resolved S n (i + applications p) qs (bound_right S (names_of p) (names_among qs) bound)
      brings (omega arith)))
  built_resolved S n i (applied s) bound brings h = to_variable (brings i (omega arith))
  built_resolved S n i (applied_to s p) bound brings h = to_variable (brings i (omega arith))

  pub built_parts_resolved : (S : Scopes) (n i : ℕ) (ps : PatternTrees) → AreBound S (names_among ps) →
      BringsResults S n → i + applications_among ps ≤ n →
      EachResolved S (built_parts i ps)
  built_parts_resolved S n i no_patterns bound brings h = tt
  built_parts_resolved S n i (more_patterns p ps) bound brings h = (
    built_resolved S n i p (bound_left S (names_of p) (names_among ps) bound) brings (omega arith),
    built_parts_resolved S n (i + applications p) ps (bound_right S (names_of p) (names_among ps) bound)
        brings (omega arith),
  )

  built_rest_resolved : (S : Scopes) (n i : ℕ) (p : OptionalPattern) → AreBound S (names_of_rest p) →
      BringsResults S n → i + applications_of_rest p ≤ n →
      ElementsResolved S (built_rest i p)
  built_rest_resolved S n i no_pattern bound brings h = to_no_elements
  built_rest_resolved S n i (one_pattern p) bound brings h = to_the_rest (built_resolved S n i p bound brings h)
