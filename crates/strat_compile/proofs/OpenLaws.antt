-- What is emitted for conditionals in place of calls.
use Rattle.std.proofs.Common.{◌≡◌, ℕ, suc, Option, Some, List, [], ◌∷◌, length, map, refl, ap, ap₂, sym, ◌∙◌, subst, arith, Box, Vec, Global}
use Rattle.std.specs.Prelude.{IfSome}
use Rattle.core_lang.specs.declared.coordinate.Coordinate.{Coordinate}
use Rattle.core_lang.specs.declared.program.CoreArm.{CoreArm}
use Rattle.core_lang.specs.declared.program.CorePattern.{CorePattern}
use Rattle.core_lang.specs.declared.program.CoreStrategy.{CoreStrategy}
use Rattle.core_lang.specs.declared.program.CoreStrategy.TheVariants as strategies
use Rattle.core_lang.specs.Program.{call, choice, no_patterns, no_strategies}
use Rattle.core_lang.specs.Resolved.{ResolvedStrategies, here}
use Rattle.core_lang.specs.Views.{arm_of, def_of, definitions_of, first_of, patterns_of, strategies_of, strategy_of}
use Rattle.core_lang.proofs.ReadLaws.{reads_call, reads_choice, reads_def}
use Rattle.strat_code.specs.Code.{commit, jump, try}
use Rattle.strat_code.specs.Context.{outer}
use Rattle.strat_code.specs.Ranges.{IsBody}
use Rattle.strat_compile.specs.declared.conditional.Conditional.{Conditional}
use Rattle.strat_compile.specs.declared.conditional.Part.{Part}
use Rattle.strat_compile.specs.declared.conditional.Part.TheVariants.{Argument, Success}
use Rattle.strat_compile.specs.declared.layers.Known.{Known}
use Rattle.strat_compile.specs.declared.layers.Layers.TheViews.{out-Known}
use Rattle.strat_compile.specs.declared.layers.ProgramDefinition.{ProgramDefinition}
use Rattle.strat_compile.specs.Conditionals.{ArePartsOf, IsConditionalCall, IsPart, conditional_strategy, part_strategy}
use Rattle.strat_compile.specs.Emission.{Emits, EmitsThen, emits_argument, emits_open, emits_choice}
use Rattle.strat_compile.specs.Layers.{IsDefined, known_of, site_of}
use Rattle.strat_compile.specs.Output.{Emitted, onto, place}
use Rattle.strat_compile.specs.Sites.{IsArgument, KnownArguments, Site, context, in_open_call, in_definitions, outermost}
use Rattle.strat_compile.proofs.AskLaws.{no_terms}
use Rattle.strat_compile.proofs.LayerLaws.{known_reads}
use Rattle.strat_compile.proofs.RowLaws.{arm_row, code_then, id_then}

no_arguments : (ss : List CoreStrategy) → length ss ≡ 0 → strategies_of ss ≡ no_strategies
no_arguments [] h = refl
no_arguments (s ∷ ss) h = absurd (omega (arith, h))

-- a call of a strategy parameter of the innermost layer
pub parameter_part : (s : CoreStrategy) (y : Coordinate) (ss : Vec CoreStrategy Global) (ps : Vec CorePattern Global) →
    s ≡ strategies.Call y ss ps → y.layers_up ≡ 0 → length ss.items ≡ 0 → length ps.items ≡ 0 →
    strategy_of s ≡ call (here y.slot) no_strategies no_patterns
parameter_part s y ss ps is innermost no_strategy no_term =
    ap strategy_of is ∙ reads_call y ss ps ∙
    ap₂ (λ us qs. call y us qs) (no_arguments ss.items no_strategy) (no_terms ps.items no_term) ∙
    ap (λ h. call (record { layers_up = h; slot = y.slot }) no_strategies no_patterns) innermost

-- a call of an argument, in the frame of the call
argument_row : (ks : KnownArguments) (D : Site) (slot : ℕ) (k : Known) (n x : ℕ) (o o1 : Emitted) (w : Option ℕ) →
    IsArgument ks slot (known_of k).strategy (known_of k).site → n ≡ suc x →
    Emits w (site_of (out-Known k).layers.now) n (strategy_of (out-Known k).strategy.now) o o1 →
    Emits w (in_open_call ks D) x (call (here slot) no_strategies no_patterns) o o1
argument_row ks D slot k n x o o1 w given nodes h =
    emits_argument refl given
    (subst (λ a. Emits w a.site (suc x) a.strategy o o1) (sym (known_reads k))
    (subst (λ m. Emits w (site_of (out-Known k).layers.now) m (strategy_of (out-Known k).strategy.now) o o1)
    nodes h))

pub argument_emits : (part : Part) (slot : ℕ) (k : Known) (n x : ℕ) (o o1 : Emitted) (w : Option ℕ) →
    part ≡ Argument slot k → n ≡ suc x →
    Emits w (site_of (out-Known k).layers.now) n (strategy_of (out-Known k).strategy.now) o o1 →
    (ks : KnownArguments) (D : Site) → IsPart ks part → Emits w (in_open_call ks D) x (part_strategy part) o o1
argument_emits part slot k n x o o1 w is nodes h ks D given =
    subst (λ p. Emits w (in_open_call ks D) x (part_strategy p) o o1) (sym is)
    (argument_row ks D slot k n x o o1 w (subst (λ p. IsPart ks p) is given) nodes h)

-- what follows the guard of a conditional
pub success_follows : (part : Part) (to : ℕ) (o o1 : Emitted) (w : Option ℕ) → part ≡ Success →
    o1 ≡ onto (commit 1 to) o → (ks : KnownArguments) (D : Site) → IsPart ks part →
    EmitsThen w (in_open_call ks D) (part_strategy part) to o o1
success_follows part to o o1 w is last ks D given =
    id_then (part_strategy part) to o o1 w (in_open_call ks D) (ap part_strategy is) last

pub part_follows : (part : Part) (to p : ℕ) (o o1 o2 o3 : Emitted) (w : Option ℕ) → o1 ≡ onto (jump to) o →
    ((vs : KnownArguments) (E : Site) → IsPart vs part → Emits w (in_open_call vs E) 0 (part_strategy part) o1 o2) →
    p ≡ place o2 → o3 ≡ onto (commit 0 p) o2 → (ks : KnownArguments) (D : Site) → IsPart ks part →
    EmitsThen w (in_open_call ks D) (part_strategy part) to o o3
part_follows part to p o o1 o2 o3 w first h here last ks D given =
    code_then (part_strategy part) to p o o1 o2 o3 w (in_open_call ks D) first (h ks D given) here last

-- a conditional, by its parts
pub conditional_row : (c : Conditional) (ks : KnownArguments) (D : Site) (n x p q : ℕ) (o o1 o2 o3 o4 : Emitted)
    (w : Option ℕ) → ArePartsOf ks c → n ≡ suc x → q ≡ place o → p ≡ place o1 →
    ((vs : KnownArguments) (E : Site) → IsPart vs c.otherwise →
    Emits w (in_open_call vs E) 0 (part_strategy c.otherwise) o o1) →
    ((vs : KnownArguments) (E : Site) → IsPart vs c.then →
    EmitsThen w (in_open_call vs E) (part_strategy c.then) q o1 o2) →
    ((vs : KnownArguments) (E : Site) → IsPart vs c.guard →
    Emits w (in_open_call vs E) 0 (part_strategy c.guard) o2 o3) → o4 ≡ onto (try n p) o3 →
    Emits w (in_open_call ks D) x (conditional_strategy c) o o4
conditional_row c ks D n x p q o o1 o2 o3 o4 w parts nodes end here otherwise then guard last =
    emits_choice (otherwise ks D parts.2)
    (arm_row (part_strategy c.guard) (part_strategy c.then) n x p (place o) o1 o2 o3 o4 w (in_open_call ks D) nodes here
    (subst (λ z. EmitsThen w (in_open_call ks D) (part_strategy c.then) z o1 o2) end (then ks D parts.1))
    (guard ks D parts.0) last)

-- a call that is that of a conditional
pub open_row : (S : Site) (y : Coordinate) (ss : ResolvedStrategies) (ts : List CorePattern) (p : ProgramDefinition)
    (found : Option Conditional) (c : Conditional) (n x : ℕ) (o o1 : Emitted) (w : Option ℕ) →
    IsDefined (outer (context S) y.layers_up) y.slot p → found ≡ Some c →
    IfSome found (λ f. IsConditionalCall S ss ts p f) → n ≡ suc x →
    ((ks : KnownArguments) (D : Site) → ArePartsOf ks c →
    Emits w (in_open_call ks D) n (conditional_strategy c) o o1) → Emits w S x (call y ss (patterns_of ts)) o o1
open_row S y ss ts p found c n x o o1 w defined was told nodes h =
    let is : IsConditionalCall S ss ts p c = subst (λ f. IfSome f (λ g. IsConditionalCall S ss ts p g)) was told in
    let reads = reads_def p.def.now in
    let D = in_definitions (definitions_of p.defs.now) p.first_label outermost in
    let same : (def_of p.def.now).body ≡ conditional_strategy c = ap (λ d. d.body) reads ∙ is.body in
    let body : IsBody (definitions_of p.defs.now) y.slot (def_of p.def.now).strats 0 (conditional_strategy c) =
    subst (λ k. IsBody (definitions_of p.defs.now) y.slot (def_of p.def.now).strats k (conditional_strategy c))
    (ap (λ d. d.terms) reads ∙ is.no_parameters)
    (subst (λ s. IsBody (definitions_of p.defs.now) y.slot (def_of p.def.now).strats (def_of p.def.now).terms s)
    same defined.body) in
    subst (λ qs. Emits w S x (call y ss qs) o o1) (sym (no_terms ts is.no_terms))
    (emits_open defined.is body is.given
    (subst (λ m. Emits w (in_open_call is.arguments D) m (conditional_strategy c) o o1)
    nodes (h is.arguments D is.parts)))

-- the parts of a choice with one arm
pub choice_parts : (s : CoreStrategy) (a : Box CoreArm Global) (more : Vec CoreArm Global)
    (otherwise : Box CoreStrategy Global) (c : Conditional) → s ≡ strategies.Choice a more otherwise →
    length more.items ≡ 0 →
    (arm_of a.value).guard ≡ part_strategy c.guard → (arm_of a.value).then ≡ part_strategy c.then →
    strategy_of otherwise.value ≡ part_strategy c.otherwise → strategy_of s ≡ conditional_strategy c
choice_parts s a more otherwise c is none guard then last =
    ap strategy_of is ∙ reads_choice a more otherwise ∙
    ap (λ arms. choice (arm_of a.value).guard (arm_of a.value).then (first_of arms (strategy_of otherwise.value)))
    (no_arms more.items none) ∙
    ap₂ (λ g t. choice g t (strategy_of otherwise.value)) guard then ∙
    ap (λ z. choice (part_strategy c.guard) (part_strategy c.then) z) last
  where
    no_arms : (arms : List CoreArm) → length arms ≡ 0 → map arm_of arms ≡ []
    no_arms [] h = refl
    no_arms (b ∷ arms) h = absurd (omega (arith, h))
