-- What is emitted for forms with several parts, by what their parts are.
use Rattle.std.proofs.Common.{◌≡◌, ℕ, suc, Option, Some, List, map, length, drop, subst, sym, ap, ap₂, ◌∙◌, Box, Vec, Global}
use Rattle.std.proofs.Math.Seq.{drop-length}
use Rattle.std.specs.Prelude.{get_or, ◌<◌, ◌+◌}
use Rattle.core_lang.specs.declared.coordinate.Coordinate.{Coordinate}
use Rattle.core_lang.specs.declared.program.CorePattern.{CorePattern}
use Rattle.core_lang.specs.declared.program.CoreArm.{CoreArm}
use Rattle.core_lang.specs.declared.program.CoreDef.{CoreDef}
use Rattle.core_lang.specs.declared.program.CoreStrategy.{CoreStrategy}
use Rattle.core_lang.specs.declared.program.CoreStrategy.TheVariants as strategies
use Rattle.core_lang.specs.declared.program.CoreStrategy.TheViews.{out-CoreArm, out-CoreDef}
use Rattle.core_lang.specs.Program.{call}
use Rattle.core_lang.specs.Views.{strategy_of, strategies_of, arm_of, def_of, definitions_of, patterns_of}
use Rattle.core_lang.proofs.ReadLaws.{reads_sequence, reads_scope, reads_let, reads_call, reads_arm, reads_def}
use Rattle.strat_code.specs.Code.{end_definition}
use Rattle.strat_compile.specs.Emission.{Emits, emits_let, EmitsArm, EmitsDefinitions, EmitsBody, emits_scope_body, EmitsRest, no_rest}
use Rattle.strat_compile.specs.Output.{Emitted, onto, place, starting}
use Rattle.strat_compile.specs.Sites.{Site, in_frame, in_places, in_definitions}
use Rattle.strat_compile.proofs.EmissionLaws.{first_in_front, BodiesLeft, body_next}

pub sequence_row : (s a' b' : CoreStrategy) (a b : Box CoreStrategy Global) (rest : Vec CoreStrategy Global)
    (ss : List CoreStrategy) (w : Option ℕ) (S : Site) (y n x : ℕ) (o o1 o2 o3 : Emitted) →
    s ≡ strategies.Sequence a b rest → ss ≡ rest.items → b' ≡ b.value → a' ≡ a.value → n ≡ suc x →
    EmitsRest w S y (map strategy_of ss) o o1 → Emits w S y (strategy_of b') o1 o2 →
    Emits w S n (strategy_of a') o2 o3 → Emits w S x (strategy_of s) o o3
sequence_row s a' b' a b rest ss w S y n x o o1 o2 o3 is items second first nodes others two one =
    subst (λ r. Emits w S x r o o3) (sym (ap strategy_of is ∙ reads_sequence a b rest))
    (first_in_front (subst (λ xs. EmitsRest w S y (map strategy_of xs) o o1) items others)
    (subst (λ r. Emits w S y (strategy_of r) o1 o2) second two)
    (subst (λ m. Emits w S m (strategy_of a.value) o2 o3)
    nodes (subst (λ r. Emits w S n (strategy_of r) o2 o3) first one)))

pub let_row : (s b' : CoreStrategy) (ds : Vec CoreDef Global) (b : Box CoreStrategy Global) (defs defs' : List CoreDef)
    (w : Option ℕ) (S T : Site) (l n p x : ℕ) (o o1 o2 : Emitted) →
    s ≡ strategies.LetIn ds b → defs ≡ ds.items → defs' ≡ ds.items → T ≡ in_definitions (definitions_of defs') l S →
    b' ≡ b.value → l ≡ length o.starts → p ≡ place o → n ≡ suc x →
    EmitsDefinitions T l (definitions_of defs) p o o1 → Emits w T n (strategy_of b') o1 o2 →
    Emits w S x (strategy_of s) o o2
let_row s b' ds b defs defs' w S T l n p x o o1 o2 is items items' layer body labels here nodes bodies h =
    let R = in_definitions (definitions_of ds.items) (length o.starts) S in
    let same : T ≡ R = layer ∙ ap₂ (λ xs m. in_definitions (definitions_of xs) m S) items' labels in
    subst (λ r. Emits w S x r o o2) (sym (ap strategy_of is ∙ reads_let ds b))
    (emits_let
    (subst (λ U. EmitsDefinitions U (length o.starts) (definitions_of ds.items) (place o) o o1) same
    (subst (λ m. EmitsDefinitions T m (definitions_of ds.items) (place o) o o1) labels
    (subst (λ q. EmitsDefinitions T l (definitions_of ds.items) q o o1) here
    (subst (λ xs. EmitsDefinitions T l (definitions_of xs) p o o1) items bodies))))
    (subst (λ U. Emits w U (suc x) (strategy_of b.value) o1 o2) same
    (subst (λ m. Emits w T m (strategy_of b.value) o1 o2) nodes
    (subst (λ r. Emits w T n (strategy_of r) o1 o2) body h))))

pub called_row : (s : CoreStrategy) (y y' : Coordinate) (ss : Vec CoreStrategy Global) (ps : Vec CorePattern Global)
    (ss' : List CoreStrategy) (ps' : List CorePattern) (w : Option ℕ) (S : Site) (x : ℕ) (o o1 o2 : Emitted) →
    s ≡ strategies.Call y ss ps → y' ≡ y → ss' ≡ ss.items → ps' ≡ ps.items →
    Emits w S x (call y' (strategies_of ss') (patterns_of ps')) o o1 → o2 ≡ o1 → Emits w S x (strategy_of s) o o2
called_row s y y' ss ps ss' ps' w S x o o1 o2 is target items terms h marked =
    subst (λ q. Emits w S x (strategy_of s) o q) (sym marked)
    (subst (λ r. Emits w S x r o o1) (sym (ap strategy_of is ∙ reads_call y ss ps))
    (subst (λ z. Emits w S x (call z (strategies_of ss.items) (patterns_of ps.items)) o o1) target
    (subst (λ ts. Emits w S x (call y' (strategies_of ss.items) (patterns_of ts)) o o1)
    terms (subst (λ xs. Emits w S x (call y' (strategies_of xs) (patterns_of ps')) o o1) items h))))

pub of_arm : (a : CoreArm) (w : Option ℕ) (S : Site) (x to : ℕ) (o o1 : Emitted) →
    EmitsArm w S x (strategy_of (out-CoreArm a).guard) (strategy_of (out-CoreArm a).then) to o o1 →
    EmitsArm w S x (arm_of a).guard (arm_of a).then to o o1
of_arm a w S x to o o1 h = subst (λ r. EmitsArm w S x r.guard r.then to o o1) (sym (reads_arm a)) h

pub of_def : (d : CoreDef) (S : Site) (o o1 : Emitted) →
    EmitsBody (in_frame (out-CoreDef d).strats (out-CoreDef d).terms S)
    (out-CoreDef d).terms (strategy_of (out-CoreDef d).body) o o1 →
    EmitsBody (in_frame (def_of d).strats (def_of d).terms S) (def_of d).terms (def_of d).body o o1
of_def d S o o1 h = subst (λ r. EmitsBody (in_frame r.strats r.terms S) r.terms r.body o o1) (sym (reads_def d)) h

pub of_framed : (d : CoreDef) (S T : Site) (o o1 : Emitted) →
    T ≡ in_frame (out-CoreDef d).strats (out-CoreDef d).terms S →
    EmitsBody T (out-CoreDef d).terms (strategy_of (out-CoreDef d).body) o o1 →
    EmitsBody (in_frame (def_of d).strats (def_of d).terms S) (def_of d).terms (def_of d).body o o1
of_framed d S T o o1 frame h = of_def d S o o1
    (subst (λ U. EmitsBody U (out-CoreDef d).terms (strategy_of (out-CoreDef d).body) o o1) frame h)

pub bodies_next : (S : Site) (first label next : ℕ) (o o1 o2 o3 : Emitted) (ds : List CoreDef) (i : ℕ) (d : CoreDef) →
    i < length ds → next ≡ suc label → o3 ≡ starting label o2 →
    BodiesLeft S first label ds (drop i ds) o o1 → d ≡ get_or ds i d →
    EmitsBody (in_frame (def_of d).strats (def_of d).terms S) (def_of d).terms (def_of d).body o1 o2 →
    BodiesLeft S first next ds (drop (i + 1) ds) o o3
bodies_next S first label next o o1 o2 o3 ds i d h labels started so_far is emitted =
    subst (λ l. BodiesLeft S first l ds (drop (i + 1) ds) o o3) (sym labels)
    (subst (λ z. BodiesLeft S first (suc label) ds (drop (i + 1) ds) o z) (sym started)
    (body_next ds i d h so_far (subst
    (λ e. EmitsBody (in_frame (def_of e).strats (def_of e).terms S) (def_of e).terms (def_of e).body o1 o2)
    is emitted)))

pub no_rest_yet : (ss : List CoreStrategy) (w : Option ℕ) (S : Site) (o : Emitted) →
    EmitsRest w S 0 (map strategy_of (drop (length ss) ss)) o o
no_rest_yet ss w S o = subst (λ xs. EmitsRest w S 0 (map strategy_of xs) o o) (sym (drop-length ss)) no_rest

pub scope_body : (d b' : CoreStrategy) (b : Box CoreStrategy Global) (S T : Site) (k n m : ℕ) (o o1 : Emitted) →
    d ≡ strategies.Scope n b → b' ≡ b.value → T ≡ in_places n k S → m ≡ k + n →
    Emits (Some m) T 1 (strategy_of b') (onto end_definition o) o1 → EmitsBody S k (strategy_of d) o o1
scope_body d b' b S T k n m o o1 is body layer places h =
    subst (λ r. EmitsBody S k r o o1) (sym (ap strategy_of is ∙ reads_scope n b))
    (emits_scope_body (subst (λ r. Emits (Some (k + n)) (in_places n k S) 1 (strategy_of r) (onto end_definition o) o1)
    body
    (subst (λ U. Emits (Some (k + n)) U 1 (strategy_of b') (onto end_definition o) o1)
    layer (subst (λ q. Emits (Some q) T 1 (strategy_of b') (onto end_definition o) o1) places h))))
