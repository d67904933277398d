-- What the walk over closed strategies finds, of the layers of the program.
use Rattle.std.proofs.Common.{◌≡◌, ◌<◌, ℕ, zero, suc, Bool, true, false, List, [], ◌∷◌, length, map, Option, Some, None, refl, ap, sym, ◌∙◌, subst, arith, Vec, Box, Global}
use Rattle.std.specs.Borrow.{Bor}
use Rattle.core_lang.specs.declared.coordinate.Coordinate.{Coordinate}
use Rattle.core_lang.specs.declared.program.CoreArm.{CoreArm}
use Rattle.core_lang.specs.declared.program.CorePattern.{CorePattern}
use Rattle.core_lang.specs.declared.program.CorePattern.TheVariants as patterns
use Rattle.core_lang.specs.declared.program.CoreStrategy.{CoreStrategy}
use Rattle.core_lang.specs.declared.program.CoreStrategy.TheVariants as strategies
use Rattle.core_lang.specs.InRange.{IsCallee, IsVariable, Layers, PatternInRange, PatternsInRange, StrategiesInRange, StrategyInRange, outside}
use Rattle.core_lang.specs.Program.{call}
use Rattle.core_lang.specs.RangeOfCode.{ArmInRange, ArmsInRange}
use Rattle.core_lang.specs.Views.{arm_of, pattern_of, patterns_of, rest_of, strategies_of, strategy_of}
use Rattle.core_lang.proofs.RangeLaws.{RestInRange, call_range, choices_range, list_range, sequence_range}
use Rattle.strat_code.specs.Context.{Context, open_call, defining, framed, hidden, known, outer, top, within}
use Rattle.strat_compile.specs.declared.layers.Known.{Known}
use Rattle.strat_compile.specs.declared.layers.Layers as declared
use Rattle.strat_compile.specs.declared.layers.Layers.TheVariants as code
use Rattle.strat_compile.specs.declared.layers.Reached.{Reached}
use Rattle.strat_compile.specs.Layers.{arguments_of, context_of, seen, seen_context, site_of}
use Rattle.strat_compile.specs.Sites.{Site, context, knowns, number_of_knowns, program_layers}
use Rattle.strat_compile.proofs.LayerLaws.{site_called, site_specialized}

outside_none : (n : ℕ) → program_layers top ≡ outside (program_layers top) n
outside_none zero = refl
outside_none (suc n) = refl

-- the layers of the program around those of a context
pub outside_program : (C : Context) (n : ℕ) → program_layers (outer C n) ≡ outside (program_layers C) n
outside_program C zero = refl
outside_program top (suc n) = refl
outside_program (framed m k C) (suc n) = outside_program C n
outside_program (within k offset C) (suc n) = outside_program C n
outside_program (defining ds es C) (suc n) = outside_program C n
outside_program (known k ks C) (suc n) = outside_program C n
outside_program (hidden ks C) (suc n) = outside_program C n
outside_program (open_call ks C) (suc n) = outside_program C n

-- as many are known as there are arguments
pub arguments_counted : (ks : List Known) → number_of_knowns (knowns (arguments_of ks)) ≡ length ks
arguments_counted [] = refl
arguments_counted (k ∷ ks) = ap suc (arguments_counted ks) ∙ omega arith

-- a layer that was reached, which is of a site
seen_at : (r : Reached) (b : Bool) (L : declared.Layers) (S : Site) → r.is_frameless ≡ b → r.layers.now ≡ L →
    site_of L ≡ S → seen b (context S) ≡ seen_context r
seen_at r b L S frameless is site = ap (λ T. seen b (context T)) (sym site) ∙ ap (λ M. seen b (context_of M)) (sym is) ∙
    ap (λ x. seen x (context_of r.layers.now)) (sym frameless)

module _ (r : Reached) (i n t : ℕ) where
  -- a parameter is known, with frames or without
  known_callee : (b : Bool) (k : ℕ) (ks : List Known) (S : Site) → (i < length ks) × (n ≡ 0) × (t ≡ 0) →
      IsCallee (program_layers (seen b (known k (knowns (arguments_of ks)) (context S)))) i n t
  known_callee false k ks S h = subst (λ m. (i < m) × (n ≡ 0) × (t ≡ 0)) (sym (arguments_counted ks)) h
  known_callee true k ks S h = subst (λ m. (i < m) × (n ≡ 0) × (t ≡ 0)) (sym (arguments_counted ks)) h

  pub specialized_callee : (slot label room k : ℕ) (ks : Bor (List Known)) (up : Bor declared.Layers) →
      r.layers.now ≡ code.Specialized slot label room k ks up →
      (i < length ks.now) × (n ≡ 0) × (t ≡ 0) → IsCallee (program_layers (seen_context r)) i n t
  specialized_callee slot label room k ks up is h =
      subst (λ C. IsCallee (program_layers C) i n t)
      (seen_at r _ _ _ refl is (site_specialized slot label room k ks up))
      (known_callee r.is_frameless k ks.now (site_of up.now) h)

  hidden_callee : (b : Bool) (ks : List Known) (S : Site) → (i < length ks) × (n ≡ 0) × (t ≡ 0) →
      IsCallee (program_layers (seen b (hidden (knowns (arguments_of ks)) (context S)))) i n t
  hidden_callee false ks S h = subst (λ m. (i < m) × (n ≡ 0) × (t ≡ 0)) (sym (arguments_counted ks)) h
  hidden_callee true ks S h = subst (λ m. (i < m) × (n ≡ 0) × (t ≡ 0)) (sym (arguments_counted ks)) h

  pub called_callee : (ks : Bor (List Known)) (up : Bor declared.Layers) → r.layers.now ≡ code.Called ks up →
      (i < length ks.now) × (n ≡ 0) × (t ≡ 0) → IsCallee (program_layers (seen_context r)) i n t
  called_callee ks up is h =
      subst (λ C. IsCallee (program_layers C) i n t) (seen_at r _ _ _ refl is (site_called ks up))
      (hidden_callee r.is_frameless ks.now (site_of up.now) h)

-- a sequence, a choice and a call, by their parts
pub sequence_closed : (L : Layers) (s : CoreStrategy) (a b : Box CoreStrategy Global) (rest : Vec CoreStrategy Global) →
    s ≡ strategies.Sequence a b rest →
    StrategyInRange L (strategy_of a.value) → StrategyInRange L (strategy_of b.value) →
    StrategiesInRange L (strategies_of rest.items) → StrategyInRange L (strategy_of s)
sequence_closed L s a b rest is first second others = (sequence_range L s a b rest is).1 (first, (second, others))

pub choice_closed : (L : Layers) (s : CoreStrategy) (a : Box CoreArm Global) (arms : Vec CoreArm Global)
    (otherwise : Box CoreStrategy Global) → s ≡ strategies.Choice a arms otherwise →
    ArmInRange L (arm_of a.value) → ArmsInRange L (map arm_of arms.items) →
    StrategyInRange L (strategy_of otherwise.value) → StrategyInRange L (strategy_of s)
choice_closed L s a arms otherwise is first others last =
    (choices_range L s a arms otherwise is).1 (first, (others, last))

pub call_closed : (L : Layers) (x : Coordinate) (ss : List CoreStrategy) (ps : List CorePattern) →
    IsCallee (outside L x.layers_up) x.slot (length ss) (length ps) →
    StrategiesInRange L (strategies_of ss) → PatternsInRange L (patterns_of ps) →
    StrategyInRange L (call x (strategies_of ss) (patterns_of ps))
call_closed L x ss ps callee arguments terms = (call_range L x ss ps _ _ refl refl).1 (callee, (arguments, terms))

-- a list, of which the rest is looked at or which has none
pub list_closed : (L : Layers) (p : CorePattern) (ps : Vec CorePattern Global) (o : Option (Box CorePattern Global))
    (r : Box CorePattern Global) → p ≡ patterns.List ps o → o ≡ Some r →
    PatternsInRange L (patterns_of ps.items) → PatternInRange L (pattern_of r.value) → PatternInRange L (pattern_of p)
list_closed L p ps o r is rest elements last =
    (list_range L p ps o is).1 (elements, subst (λ z. RestInRange L (rest_of z)) (sym rest) last)

pub whole_list_closed : (L : Layers) (p : CorePattern) (ps : Vec CorePattern Global)
    (o : Option (Box CorePattern Global)) → p ≡ patterns.List ps o → o ≡ None →
    PatternsInRange L (patterns_of ps.items) → PatternInRange L (pattern_of p)
whole_list_closed L p ps o is rest elements =
    (list_range L p ps o is).1 (elements, subst (λ z. RestInRange L (rest_of z)) (sym rest) tt)

-- what a layer that was reached has, from the innermost layer
pub variable_reached : (C D : Context) (n i : ℕ) → D ≡ outer C n → IsVariable (program_layers D) i →
    IsVariable (outside (program_layers C) n) i
variable_reached C D n i is h = subst (λ L. IsVariable L i) (ap program_layers is ∙ outside_program C n) h

pub callee_reached : (C D : Context) (n i m k : ℕ) → D ≡ outer C n → IsCallee (program_layers D) i m k →
    IsCallee (outside (program_layers C) n) i m k
callee_reached C D n i m k is h = subst (λ L. IsCallee L i m k) (ap program_layers is ∙ outside_program C n) h
