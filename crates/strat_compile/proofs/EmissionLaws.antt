-- Loops over chains, arms, definitions and arguments, as the rows of what is emitted.
use Rattle.std.proofs.Common.{◌≡◌, ◌+◌, ◌<◌, ◌++◌, ℕ, suc, Option, List, [], ◌∷◌, map, length, get_or, drop, refl, ap, sym, ◌∙◌, subst, arith}
use Rattle.std.proofs.Math.Seq.{drop-length}
use Rattle.std.proofs.lemmas.List.{append_assoc, drop_more}
use Rattle.core_lang.specs.declared.coordinate.Coordinate.{Coordinate}
use Rattle.core_lang.specs.declared.program.CoreArm.{CoreArm}
use Rattle.core_lang.specs.declared.program.CoreDef.{CoreDef}
use Rattle.core_lang.specs.declared.program.CoreStrategy.{CoreStrategy}
use Rattle.core_lang.specs.Program.{id, fail, seq, choice, match, build, scope, all, one, some, with_definitions, call, primitive, more_strategies}
use Rattle.core_lang.specs.Resolved.{ResolvedStrategy}
use Rattle.core_lang.specs.Views.{chain, first_of, strategy_of, strategies_of, arm_of, def_of, definitions_of}
use Rattle.strat_code.specs.Code.{Argument, parameter_at}
use Rattle.strat_compile.specs.Emission.{Emits, emits_seq, EmitsRest, no_rest, some_rest, EmitsBody, EmitsBodies, emits_more_bodies, EmitsArguments, emits_parameter_argument, PutsArgument, PutsArm, PutsArms}
use Rattle.strat_compile.specs.Chains.{Body}
use Rattle.strat_compile.specs.Layers.{HandsOn}
use Rattle.strat_compile.specs.Output.{Emitted, starting, count_of}
use Rattle.strat_compile.specs.Sites.{Site, in_frame, context}

pub rest_more : {w : Option ℕ} {S : Site} {x : ℕ} {s : ResolvedStrategy} {ss : List ResolvedStrategy}
    {o o1 o2 : Emitted} →
    EmitsRest w S x ss o o1 → Emits w S x s o1 o2 → Emits w S 0 (chain s ss) o o2
rest_more no_rest emitted = emitted
rest_more (some_rest others) emitted = emits_seq others emitted

pub first_in_front : {w : Option ℕ} {S : Site} {x y : ℕ} {s1 s : ResolvedStrategy} {ss : List ResolvedStrategy}
    {o o1 o2 o3 : Emitted} →
    EmitsRest w S y ss o o1 → Emits w S y s o1 o2 → Emits w S (suc x) s1 o2 o3 → Emits w S x (seq s1 (chain s ss)) o o3
first_in_front rest second first = emits_seq (rest_more rest second) first

pub rest_next : {w : Option ℕ} {S : Site} {x : ℕ} {o o1 o2 : Emitted} (ss : List CoreStrategy) (i : ℕ)
    (d : CoreStrategy) → i < length ss →
    EmitsRest w S x (map strategy_of (drop (i + 1) ss)) o o1 → Emits w S x (strategy_of (get_or ss i d)) o1 o2 →
    EmitsRest w S 1 (map strategy_of (drop i ss)) o o2
rest_next {w} {S} {x} {o} {o1} {o2} ss i d h rest emitted =
    subst (λ xs. EmitsRest w S 1 (map strategy_of xs) o o2) (sym (drop_more ss i d h))
    (some_rest (rest_more rest emitted))

pub no_arm : (w : Option ℕ) (S : Site) (to last : ℕ) (bs : List Body) (o : Emitted) (arms : List CoreArm) →
    PutsArms w S (map arm_of (drop (length arms) arms)) to bs last o bs last o
no_arm w S to last bs o arms = subst (λ xs. PutsArms w S (map arm_of xs) to bs last o bs last o)
    (sym (drop-length arms)) (record { put = λ s p is chain. chain })

pub arm_next : {w : Option ℕ} {S : Site} {to last last1 last2 : ℕ} {bs bs1 bs2 : List Body} {o1 o2 o3 : Emitted}
    (arms : List CoreArm) (i : ℕ) (d : CoreArm) → i < length arms →
    PutsArms w S (map arm_of (drop (i + 1) arms)) to bs last o1 bs1 last1 o2 →
    PutsArm w S (arm_of (get_or arms i d)) to bs1 last1 o2 bs2 last2 o3 →
    PutsArms w S (map arm_of (drop i arms)) to bs last o1 bs2 last2 o3
arm_next {w} {S} {to} {last} {last1} {last2} {bs} {bs1} {bs2} {o1} {o2} {o3} arms i d h so_far puts =
    subst (λ xs. PutsArms w S (map arm_of xs) to bs last o1 bs2 last2 o3) (sym (drop_more arms i d h))
    (record {
      put = λ s o is chain. puts.put (first_of (map arm_of (drop (i + 1) arms)) s)
          o is (so_far.put s o is chain);
    })

-- with whatever is emitted for the bodies that are left, it is what is emitted for all
abbrev pub BodiesLeft : Site → (first label : ℕ) → (whole left : List CoreDef) → Emitted → Emitted → Type 0
BodiesLeft S first label whole left o o1 = (o2 : Emitted) → EmitsBodies S label (definitions_of left) o1 o2 →
    EmitsBodies S first (definitions_of whole) o o2

pub body_next : {S : Site} {first label : ℕ} {o o1 o2 : Emitted} (ds : List CoreDef) (i : ℕ) (d : CoreDef) →
    i < length ds →
    BodiesLeft S first label ds (drop i ds) o o1 →
    EmitsBody (in_frame (def_of (get_or ds i d)).strats (def_of (get_or ds i d)).terms S)
    (def_of (get_or ds i d)).terms (def_of (get_or ds i d)).body o1 o2 →
    BodiesLeft S first (suc label) ds (drop (i + 1) ds) o (starting label o2)
body_next {S} {first} {label} {o} {o1} ds i d h so_far emitted o3 others =
    so_far o3 (subst (λ xs. EmitsBodies S label (definitions_of xs) o1 o3) (sym (drop_more ds i d h))
    (emits_more_bodies emitted others))

-- with whatever is emitted for the arguments that are left, it is what is emitted for all
abbrev pub ArgumentsLeft : Site → (whole left : List CoreStrategy) → (made : List Argument) → Emitted → Emitted → Type 0
ArgumentsLeft S whole left made o o1 = (us : List Argument) (o2 : Emitted) →
    EmitsArguments S (strategies_of left) o1 o2 us → EmitsArguments S (strategies_of whole) o o2 (made ++ us)

pub argument_next : {S : Site} {o o1 o2 : Emitted} (made : List Argument) (u : Argument) (ss : List CoreStrategy)
    (i : ℕ) (d : CoreStrategy) → i < length ss →
    ArgumentsLeft S ss (drop i ss) made o o1 → PutsArgument S (strategy_of (get_or ss i d)) o1 o2 u →
    ArgumentsLeft S ss (drop (i + 1) ss) (made ++ u ∷ []) o o2
argument_next {S} {o} {o1} made u ss i d h so_far emitted us o3 others =
    subst (λ vs. EmitsArguments S (strategies_of ss) o o3 vs) (sym (append_assoc made (u ∷ []) us))
    (so_far (u ∷ us) o3 (subst (λ xs. EmitsArguments S (strategies_of xs) o1 o3 (u ∷ us)) (sym (drop_more ss i d h))
    (emitted _ us o3 others)))

pub handed_on : (S : Site) (s : ResolvedStrategy) (o : Emitted) (y : Coordinate) → HandsOn (context S) s y →
    PutsArgument S s o o (parameter_at y)
handed_on S id o y h = elim h [ ]
handed_on S fail o y h = elim h [ ]
handed_on S (seq s1 s2) o y h = elim h [ ]
handed_on S (choice s1 s2 s3) o y h = elim h [ ]
handed_on S (match p) o y h = elim h [ ]
handed_on S (build p) o y h = elim h [ ]
handed_on S (scope k s) o y h = elim h [ ]
handed_on S (all s) o y h = elim h [ ]
handed_on S (one s) o y h = elim h [ ]
handed_on S (some s) o y h = elim h [ ]
handed_on S (with_definitions ds s) o y h = elim h [ ]
handed_on S (call z ss ps) o y h =
    λ vs us o2 others. subst (λ x. EmitsArguments S (more_strategies (call z ss ps) vs) o o2 (parameter_at x ∷ us))
    (sym h.1) (emits_parameter_argument h.0 others)
handed_on S (primitive f ps) o y h = elim h [ ]

pub counted : (ds : List CoreDef) → count_of (definitions_of ds) ≡ length ds
counted [] = refl
counted (d ∷ ds) = ap suc (counted ds) ∙ omega arith
