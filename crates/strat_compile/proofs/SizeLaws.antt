-- The sizes of lists of patterns, of chains, and of code from an instruction on.
use Rattle.std.proofs.Common.{◌≡◌, ◌≤◌, ◌<◌, ◌+◌, ℕ, List, [], ◌∷◌, map, length, drop, get_or, Option, Some, None, refl, ap, ◌∙◌, arith, Vec, Box, Global}
use Rattle.std.proofs.lemmas.List.{drop_all, drop_more}
use Rattle.core_lang.specs.declared.coordinate.Coordinate.{Coordinate}
use Rattle.core_lang.specs.declared.program.CoreArm.{CoreArm}
use Rattle.core_lang.specs.declared.program.CorePattern.{CorePattern}
use Rattle.core_lang.specs.declared.program.CorePattern.TheVariants as patterns
use Rattle.core_lang.specs.declared.program.CoreStrategy.{CoreStrategy}
use Rattle.core_lang.specs.declared.program.CoreStrategy.TheVariants as strategies
use Rattle.core_lang.specs.Program.{Pattern}
use Rattle.core_lang.specs.Resolved.{ResolvedStrategy}
use Rattle.core_lang.specs.Views.{Arm, arm_of, chain, elements_in, first_of, pattern_of, patterns_in, patterns_of, strategies_in, strategies_of, strategy_of}
use Rattle.core_lang.proofs.ReadLaws.{reads_list, reads_sequence, reads_choice}
use Rattle.strat_code.specs.CodeOf.{code_of, instr_of}
use Rattle.strat_code.specs.declared.instr.Case.{Case}
use Rattle.strat_code.specs.declared.instr.Instr.{Instr}
use Rattle.strat_compile.specs.Size.{arms_size, code_size, elements_size, instr_size, pattern_size, patterns_size, strategies_size, strategy_size}

-- a list, which has a pattern of the rest or none
whole_elements : (ps : List (Pattern Coordinate)) → elements_size (elements_in ps None) ≡ patterns_size (patterns_in ps)
whole_elements [] = refl
whole_elements (p ∷ ps) = let h = whole_elements ps in omega (arith, h)

open_elements : (ps : List (Pattern Coordinate)) (q : Pattern Coordinate) →
    elements_size (elements_in ps (Some q)) ≡ patterns_size (patterns_in ps) + pattern_size q
open_elements [] q = omega arith
open_elements (p ∷ ps) q = let h = open_elements ps q in omega (arith, h)

pub whole_list_size : (p : CorePattern) (ps : Vec CorePattern Global) (o : Option (Box CorePattern Global)) →
    p ≡ patterns.List ps o → o ≡ None → pattern_size (pattern_of p) ≡ 1 + patterns_size (patterns_of ps.items)
whole_list_size p ps o is none =
    ap (λ z. pattern_size (pattern_of z)) is ∙ ap (λ r. pattern_size (pattern_of (patterns.List ps r))) none ∙
    ap (λ z. pattern_size z) (reads_list ps None) ∙ ap (λ n. 1 + n) (whole_elements (map pattern_of ps.items))

pub open_list_size : (p : CorePattern) (ps : Vec CorePattern Global) (o : Option (Box CorePattern Global))
    (r : Box CorePattern Global) → p ≡ patterns.List ps o → o ≡ Some r →
    pattern_size (pattern_of p) ≡ 1 + (patterns_size (patterns_of ps.items) + pattern_size (pattern_of r.value))
open_list_size p ps o r is rest =
    ap (λ z. pattern_size (pattern_of z)) is ∙ ap (λ z. pattern_size (pattern_of (patterns.List ps z))) rest ∙
    ap (λ z. pattern_size z) (reads_list ps (Some r)) ∙
    ap (λ n. 1 + n) (open_elements (map pattern_of ps.items) (pattern_of r.value))

-- a sequence and a choice: each further strategy and alternative of a chain has a node of its own
chain_long : (s : ResolvedStrategy) (ss : List ResolvedStrategy) →
    strategy_size s + strategies_size (strategies_in ss) ≤ strategy_size (chain s ss)
chain_long s [] = omega arith
chain_long s (r ∷ rs) = let h = chain_long r rs in omega (arith, h)

first_long : (arms : List Arm) (s : ResolvedStrategy) →
    arms_size arms + strategy_size s ≤ strategy_size (first_of arms s)
first_long [] s = omega arith
first_long (a ∷ arms) s = let h = first_long arms s in omega (arith, h)

pub sequence_size : (s : CoreStrategy) (a b : Box CoreStrategy Global) (rest : Vec CoreStrategy Global) →
    s ≡ strategies.Sequence a b rest →
    1 + strategy_size (strategy_of a.value) + strategy_size (strategy_of b.value) +
    strategies_size (strategies_of rest.items) ≤ strategy_size (strategy_of s)
sequence_size s a b rest is =
    let whole = ap (λ k. strategy_size (strategy_of k)) is ∙ ap (λ k. strategy_size k) (reads_sequence a b rest) in
    let others = chain_long (strategy_of b.value) (map strategy_of rest.items) in
    omega (arith, whole, others)

pub choice_size : (s : CoreStrategy) (a : Box CoreArm Global) (arms : Vec CoreArm Global)
    (otherwise : Box CoreStrategy Global) → s ≡ strategies.Choice a arms otherwise →
    1 + strategy_size (arm_of a.value).guard + strategy_size (arm_of a.value).then +
    arms_size (map arm_of arms.items) + strategy_size (strategy_of otherwise.value) ≤ strategy_size (strategy_of s)
choice_size s a arms otherwise is =
    let whole = ap (λ k. strategy_size (strategy_of k)) is ∙
    ap (λ k. strategy_size k) (reads_choice a arms otherwise) in
    let others = first_long (map arm_of arms.items) (strategy_of otherwise.value) in
    omega (arith, whole, others)

-- code from an instruction on
pub instr_next : (tables : List (Vec Case Global)) (vs : List Instr) (i : ℕ) (d : Instr) → i < length vs →
    code_size (code_of tables (drop i vs)) ≡
    instr_size (instr_of tables (get_or vs i d)) + code_size (code_of tables (drop (i + 1) vs))
instr_next tables vs i d h = ap (λ ws. code_size (code_of tables ws)) (drop_more vs i d h)

pub none_left : (tables : List (Vec Case Global)) (vs : List Instr) (i : ℕ) → length vs ≤ i →
    code_size (code_of tables (drop i vs)) ≡ 0
none_left tables vs i h = ap (λ ws. code_size (code_of tables ws)) (drop_all i vs h)
