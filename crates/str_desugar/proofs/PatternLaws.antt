-- Patterns that were made one by one.
use Rattle.std.proofs.Common.{◌≡◌, ℕ, ◌+◌, ◌<◌, List, [], ◌∷◌, ◌++◌, refl, sym, ◌∙◌, ap, ap₂, arith, Option, length, get_or, drop}
use Rattle.core_lang.specs.declared.coordinate.Coordinate.{Coordinate}
use Rattle.core_lang.specs.Named.{Name}
use Rattle.core_lang.specs.Program.{Pattern, Patterns, Elements, no_patterns as no_core, more_patterns as more_core, more_elements}
use Rattle.core_lang.specs.Views as views
use Rattle.str_syntax.specs.declared.strategy.Pattern.{Pattern as Source}
use Rattle.str_syntax.specs.Trees.{PatternTree, PatternTrees, no_patterns, more_patterns, OptionalPattern, no_pattern, one_pattern}
use Rattle.str_syntax.specs.Views.{pattern_of, patterns_of}
use Rattle.str_desugar.specs.Equations.{matched, matched_parts, matched_rest, elements_of, built, built_parts, built_rest, applications, applications_among}
use Rattle.str_desugar.specs.Frames.{Frames, pattern_at, patterns_at, elements_at}
use Rattle.str_desugar.specs.Layers.{rest_at, built_rest_at}
use Rattle.str_desugar.proofs.GatheredSteps.{next_is}

first_same : {p q : Pattern Coordinate} {ps qs : Patterns Coordinate} → more_core p ps ≡ more_core q qs → p ≡ q
first_same e = cc

others_same : {p q : Pattern Coordinate} {ps qs : Patterns Coordinate} → more_core p ps ≡ more_core q qs → ps ≡ qs
others_same e = cc

-- elements and a rest
pub elements_made : (F : Frames) (xs : List (Pattern Coordinate)) (rest : Option (Pattern Coordinate))
    (ps : Patterns Name) (es : Elements Name) →
    views.patterns_in xs ≡ patterns_at F ps → views.elements_in [] rest ≡ elements_at F es →
    views.elements_in xs rest ≡ elements_at F (elements_of ps es)
elements_made F [] rest no_core es e h = h
elements_made F [] rest (more_core p ps) es e h = absurd (cc)
elements_made F (x ∷ xs) rest no_core es e h = absurd (cc)
elements_made F (x ∷ xs) rest (more_core p ps) es e h =
    ap₂ (λ q qs. more_elements q qs) (first_same e) (elements_made F xs rest ps es (others_same e) h)

pub rest_matched : (F : Frames) (p : OptionalPattern) →
    views.elements_in [] (rest_at F p) ≡ elements_at F (matched_rest p)
rest_matched F no_pattern = refl
rest_matched F (one_pattern p) = refl

pub rest_built : (F : Frames) (i : ℕ) (p : OptionalPattern) →
    views.elements_in [] (built_rest_at F i p) ≡ elements_at F (built_rest i p)
rest_built F i no_pattern = refl
rest_built F i (one_pattern p) = refl

-- patterns, and others after them
abbrev pub patterns_then : List (Pattern Coordinate) → Patterns Coordinate → Patterns Coordinate
patterns_then [] qs = qs
patterns_then (p ∷ ps) qs = more_core p (patterns_then ps qs)

then_one : (ps : List (Pattern Coordinate)) (p : Pattern Coordinate) (qs : Patterns Coordinate) →
    patterns_then (ps ++ p ∷ []) qs ≡ patterns_then ps (more_core p qs)
then_one [] p qs = refl
then_one (r ∷ ps) p qs = ap (λ rs. more_core r rs) (then_one ps p qs)

then_none : (ps : List (Pattern Coordinate)) → patterns_then ps no_core ≡ views.patterns_in ps
then_none [] = refl
then_none (p ∷ ps) = ap (λ rs. more_core p rs) (then_none ps)

pub next_pattern : (sources : List Source) (i : ℕ) (s : Source) → i < length sources → s ≡ get_or sources i s →
    patterns_of (drop i sources) ≡ more_patterns (pattern_of s) (patterns_of (drop (i + 1) sources))
next_pattern sources i s h is = ap (λ us. patterns_of us) (next_is sources i s h is)

-- the whole is what was made, and then what the rest comes to
pub record Matches (F : Frames) (all : PatternTrees) (made : List (Pattern Coordinate))
    (rest : PatternTrees) : Type 0 where
  pub parts : patterns_at F (matched_parts all) ≡ patterns_then made (patterns_at F (matched_parts rest))

module _ (F : Frames) (all : PatternTrees) (made : List (Pattern Coordinate)) where
  pub one_more_match : (p : PatternTree) (ps : PatternTrees) (q : Pattern Coordinate) →
      Matches F all made (more_patterns p ps) →
      q ≡ pattern_at F (matched p) → Matches F all (made ++ q ∷ []) ps
  one_more_match p ps q so_far is = record {
    parts = so_far.parts ∙ ap (λ r. patterns_then made (more_core r (patterns_at F (matched_parts ps)))) (sym is) ∙
        sym (then_one made q (patterns_at F (matched_parts ps)));
  }

  pub no_more_match : Matches F all made no_patterns → views.patterns_in made ≡ patterns_at F (matched_parts all)
  no_more_match so_far = sym (then_none made) ∙ sym so_far.parts

-- and so what is built, with the number of results so far
pub record Builds (F : Frames) (i : ℕ) (all : PatternTrees) (now : ℕ) (made : List (Pattern Coordinate))
    (rest : PatternTrees) : Type 0 where
  pub parts : patterns_at F (built_parts i all) ≡ patterns_then made (patterns_at F (built_parts now rest))
  pub next : i + applications_among all ≡ now + applications_among rest

module _ (F : Frames) (i : ℕ) (all : PatternTrees) (now : ℕ) (made : List (Pattern Coordinate)) where
  pub one_more_build : (p : PatternTree) (ps : PatternTrees) (next : ℕ) (q : Pattern Coordinate) →
      Builds F i all now made (more_patterns p ps) →
      q ≡ pattern_at F (built now p) → next ≡ now + applications p → Builds F i all next (made ++ q ∷ []) ps
  one_more_build p ps next q so_far is after = record {
    parts = so_far.parts ∙ ap (λ r. patterns_then made
        (more_core r (patterns_at F (built_parts (now + applications p) ps)))) (sym is) ∙
        ap (λ n. patterns_then made (more_core q (patterns_at F (built_parts n ps)))) (sym after) ∙
        sym (then_one made q (patterns_at F (built_parts next ps)));
    next = let before = so_far.next in omega arith;
  }

  pub no_more_build : Builds F i all now made no_patterns → views.patterns_in made ≡ patterns_at F (built_parts i all)
  no_more_build so_far = sym (then_none made) ∙ sym so_far.parts
