-- The rows of what is emitted, by equations of what they are about.
use Rattle.std.proofs.Common.{◌≡◌, ◌≤◌, ◌+◌, ℕ, suc, Option, Some, None, List, [], ◌∷◌, length, drop, refl, subst, sym, ap, ap₂, ◌∙◌, Vec, Global}
use Rattle.std.specs.Prelude.{IfSome}
use Rattle.std.proofs.Math.ListN.{drop_of_length-le}
use Rattle.std.proofs.lemmas.List.{append-nil}
use Rattle.core_lang.specs.declared.coordinate.Coordinate.{Coordinate}
use Rattle.core_lang.specs.declared.program.CoreDef.{CoreDef}
use Rattle.core_lang.specs.declared.program.CorePattern.{CorePattern}
use Rattle.core_lang.specs.declared.program.CoreStrategy.{CoreStrategy}
use Rattle.core_lang.specs.declared.program.CoreStrategy.TheViews.{out-CoreDef}
use Rattle.core_lang.proofs.ReadLaws.{reads_def}
use Rattle.core_lang.specs.Program.{Pattern, Patterns, id, fail, seq, choice, match, build, scope, all, one, some, with_definitions, call, primitive, more_strategies}
use Rattle.core_lang.specs.Resolved.{ResolvedStrategy, ResolvedStrategies}
use Rattle.core_lang.specs.Views.{def_of, definitions_of, patterns_of, strategies_of, strategy_of}
use Rattle.strat_code.specs.Code.{Argument, code_at, entry_at, Traversal, all_parts, one_part, some_parts, count, give_up, match_term, build_term, enter, leave, extend, shrink, try, commit, jump, traverse, part_done, call_definition, call_closure, end_definition, end_argument, apply_primitive}
use Rattle.strat_code.specs.Context.{outer, frames_in, by_frames, HasDefinitions, HasOwnCode}
use Rattle.strat_code.specs.Ranges.{IsBody}
use Rattle.strat_code.specs.Renamed.{renamed, all_renamed}
use Rattle.strat_compile.specs.Emission.{IsNoScope, Emits, emits_id, emits_fail, emits_match, emits_build, emits_scope, emits_inner, emits_all, emits_one, emits_some, emits_call, emits_parameter, emits_primitive, emits_inline, emits_known, emits_specialization, emits_same, EmitsCall, calls, EmitsArm, emits_arm, EmitsThen, then_id, then_code, EmitsDefinitions, emits_definitions, EmitsBodies, emits_no_bodies, EmitsBody, emits_body, EmitsArguments, emits_no_arguments, emits_code_argument, emits_known_argument, PutsArgument, traversed}
use Rattle.strat_compile.specs.declared.known.Own.{Own}
use Rattle.strat_compile.specs.declared.layers.Known.{Known}
use Rattle.strat_compile.specs.declared.layers.Layers.TheViews.{out-Known}
use Rattle.strat_compile.specs.declared.layers.ProgramDefinition.{ProgramDefinition}
use Rattle.strat_compile.specs.declared.ways.Way.{Way}
use Rattle.strat_compile.specs.declared.ways.Way.TheVariants.{InPlace}
use Rattle.strat_compile.specs.Known.{IsOwn}
use Rattle.strat_compile.specs.Ways.{AllowsWay}
use Rattle.strat_compile.proofs.AskLaws.{no_terms}
use Rattle.strat_compile.specs.Layers.{HandsKnown, IsDefined, arguments_of, entries_of, entry_in, known_of, site_of}
use Rattle.strat_compile.specs.Output.{Emitted, onto, place, starting, with_labels}
use Rattle.strat_compile.specs.Sites.{Site, KnownArguments, AreGiven, IsGiven, IsUnknown, context, in_call, in_definitions, in_frame, in_places, in_specialization, outermost, outside_of, room_for}
use Rattle.strat_compile.proofs.EmissionLaws.{ArgumentsLeft, BodiesLeft, counted}
use Rattle.strat_compile.proofs.LayerLaws.{known_reads}

pub id_row : (n x : ℕ) (o o1 : Emitted) → n ≡ suc x → o1 ≡ onto (count n) o → (w : Option ℕ) (S : Site) →
    Emits w S x id o o1
id_row n x o o1 nodes is w S = subst (λ z. Emits w S x id o z) (sym (is ∙ ap (λ k. onto (count k) o) nodes)) emits_id

pub fail_row : (n x : ℕ) (o o1 : Emitted) → n ≡ suc x → o1 ≡ onto (give_up n) o → (w : Option ℕ) (S : Site) →
    Emits w S x fail o o1
fail_row n x o o1 nodes is w S =
    subst (λ z. Emits w S x fail o z) (sym (is ∙ ap (λ k. onto (give_up k) o) nodes)) emits_fail

pub match_row : (S : Site) (p q : Pattern Coordinate) (n x : ℕ) (o o1 : Emitted) → n ≡ suc x →
    q ≡ renamed (by_frames (context S)) p → o1 ≡ onto (match_term n q) o →
    (w : Option ℕ) → Emits w S x (match p) o o1
match_row S p q n x o o1 nodes pattern is w =
    subst (λ z. Emits w S x (match p) o z) (sym (is ∙ ap₂ (λ k r. onto (match_term k r) o) nodes pattern)) emits_match

pub build_row : (S : Site) (p q : Pattern Coordinate) (n x : ℕ) (o o1 : Emitted) → n ≡ suc x →
    q ≡ renamed (by_frames (context S)) p → o1 ≡ onto (build_term n q) o →
    (w : Option ℕ) → Emits w S x (build p) o o1
build_row S p q n x o o1 nodes pattern is w =
    subst (λ z. Emits w S x (build p) o z) (sym (is ∙ ap₂ (λ k r. onto (build_term k r) o) nodes pattern)) emits_build

pub primitive_row : (S : Site) (f g : List ℕ) (ps qs : Patterns Coordinate) (n x : ℕ) (o o1 : Emitted) → n ≡ suc x →
    g ≡ f → qs ≡ all_renamed (by_frames (context S)) ps →
    o1 ≡ onto (apply_primitive n g qs) o → (w : Option ℕ) → Emits w S x (primitive f ps) o o1
primitive_row S f g ps qs n x o o1 nodes name patterns is w =
    subst (λ z. Emits w S x (primitive f ps) o z)
    (sym (is ∙ ap₂ (λ k r. onto (apply_primitive k g r) o) nodes patterns ∙
    ap (λ h. onto (apply_primitive (suc x) h (all_renamed (by_frames (context S)) ps)) o) name))
    emits_primitive

pub parameter_row : (S : Site) (y z : Coordinate) (n x : ℕ) (o o1 : Emitted) →
    IsUnknown (outer (context S) y.layers_up) y.slot → n ≡ suc x → z ≡ by_frames (context S) y →
    o1 ≡ onto (call_closure n z) o → (w : Option ℕ) (ss : ResolvedStrategies) (ps : Patterns Coordinate) →
    Emits w S x (call y ss ps) o o1
parameter_row S y z n x o o1 none nodes closure is w ss ps =
    subst (λ v. Emits w S x (call y ss ps) o v) (sym (is ∙ ap₂ (λ k r. onto (call_closure k r) o) nodes closure))
    (emits_parameter none)

-- the same, from an equal beginning, or in an equal context
from : {w : Option ℕ} {S : Site} {x : ℕ} {s : ResolvedStrategy} {o o1 o2 : Emitted} → o1 ≡ o → Emits w S x s o1 o2 →
    Emits w S x s o o2
from {w} {S} {x} {s} {o} {o1} {o2} is h = subst (λ a. Emits w S x s a o2) is h

inside : {w : Option ℕ} {S T : Site} {x : ℕ} {s : ResolvedStrategy} {o o1 : Emitted} → T ≡ S → Emits w T x s o o1 →
    Emits w S x s o o1
inside {w} {S} {T} {x} {s} {o} {o1} is h = subst (λ a. Emits w a x s o o1) is h

pub scope_row : (S T : Site) (s : ResolvedStrategy) (n x k : ℕ) (o o1 o2 o3 : Emitted) → T ≡ in_frame 0 k S →
    n ≡ suc x → o1 ≡ onto leave o → Emits (Some k) T 0 s o1 o2 →
    o3 ≡ onto (enter n k) o2 → (w : Option ℕ) → Emits w S x (scope k s) o o3
scope_row S T s n x k o o1 o2 o3 layer nodes first h last w =
    subst (λ z. Emits w S x (scope k s) o z) (sym (last ∙ ap (λ m. onto (enter m k) o2) nodes))
    (emits_scope (from first (inside layer h)))

pub inner_row : (S T : Site) (s : ResolvedStrategy) (n x k z m : ℕ) (o o1 o2 o3 : Emitted) → T ≡ in_places k z S →
    m ≡ z + k → n ≡ suc x → o1 ≡ onto (shrink k) o → Emits (Some m) T 0 s o1 o2 →
    o3 ≡ onto (extend n k) o2 → Emits (Some z) S x (scope k s) o o3
inner_row S T s n x k z m o o1 o2 o3 layer places nodes first h last =
    subst (λ q. Emits (Some z) S x (scope k s) o q) (sym (last ∙ ap (λ q. onto (extend q k) o2) nodes))
    (emits_inner (from first (inside layer (subst (λ q. Emits (Some q) T 0 s o1 o2) places h))))

each_traversal : {w : Option ℕ} {S : Site} {x : ℕ} {s : ResolvedStrategy} {o o2 : Emitted} (kind : Traversal) →
    Emits w S 0 s (onto part_done o) o2 →
    Emits w S x (traversed kind s) o (onto (traverse (suc x) kind (place o)) o2)
each_traversal all_parts h = emits_all h
each_traversal one_part h = emits_one h
each_traversal some_parts h = emits_some h

pub traversal_row : (kind : Traversal) (w : Option ℕ) (S : Site) (s : ResolvedStrategy) (n x p : ℕ)
    (o o1 o2 o3 : Emitted) → n ≡ suc x → p ≡ place o → o1 ≡ onto part_done o → Emits w S 0 s o1 o2 →
    o3 ≡ onto (traverse n kind p) o2 → Emits w S x (traversed kind s) o o3
traversal_row kind w S s n x p o o1 o2 o3 nodes here first h last =
    subst (λ z. Emits w S x (traversed kind s) o z) (sym (last ∙ ap₂ (λ m q. onto (traverse m kind q) o2) nodes here))
    (each_traversal kind (from first h))

pub id_then : (s : ResolvedStrategy) (to : ℕ) (o o1 : Emitted) (w : Option ℕ) (S : Site) → s ≡ id →
    o1 ≡ onto (commit 1 to) o → EmitsThen w S s to o o1
id_then s to o o1 w S is last =
    subst (λ z. EmitsThen w S s to o z) (sym last)
    (subst (λ r. EmitsThen w S r to o (onto (commit 1 to) o)) (sym is) then_id)

pub code_then : (s : ResolvedStrategy) (to p : ℕ) (o o1 o2 o3 : Emitted) (w : Option ℕ) (S : Site) →
    o1 ≡ onto (jump to) o → Emits w S 0 s o1 o2 → p ≡ place o2 → o3 ≡ onto (commit 0 p) o2 →
    EmitsThen w S s to o o3
code_then s to p o o1 o2 o3 w S first h here last =
    subst (λ z. EmitsThen w S s to o z) (sym (last ∙ ap (λ q. onto (commit 0 q) o2) here)) (then_code (from first h))

pub arm_row : (s1 s2 : ResolvedStrategy) (n x p to : ℕ) (o o1 o2 o3 : Emitted) (w : Option ℕ) (S : Site) → n ≡ suc x →
    p ≡ place o → EmitsThen w S s2 to o o1 → Emits w S 0 s1 o1 o2 →
    o3 ≡ onto (try n p) o2 → EmitsArm w S x s1 s2 to o o3
arm_row s1 s2 n x p to o o1 o2 o3 w S nodes here then guard last =
    subst (λ z. EmitsArm w S x s1 s2 to o z) (sym (last ∙ ap₂ (λ m q. onto (try m q) o2) nodes here)) (emits_arm then
    guard)

pub definitions_row : (ds : List CoreDef) (S : Site) (m label to : ℕ) (o o1 o2 o3 : Emitted) → m ≡ length ds →
    o1 ≡ with_labels m o → EmitsBodies S label (definitions_of ds) o1 o2 →
    o3 ≡ onto (jump to) o2 → EmitsDefinitions S label (definitions_of ds) to o o3
definitions_row ds S m label to o o1 o2 o3 many first h last =
    subst (λ z. EmitsDefinitions S label (definitions_of ds) to o z) (sym last)
    (emits_definitions (subst (λ a. EmitsBodies S label (definitions_of ds) a o2) (first ∙
    ap (λ q. with_labels q o) (many ∙ sym (counted ds))) h))

pub ended_row : (w : Option ℕ) (S : Site) (s : ResolvedStrategy) (x : ℕ) (o o1 o2 : Emitted) →
    o1 ≡ onto end_definition o → Emits w S x s o1 o2 → Emits w S x s (onto end_definition o) o2
ended_row w S s x o o1 o2 first h = from first h

pub plain_body : (S : Site) (s : ResolvedStrategy) (k : ℕ) (o o2 : Emitted) → IsNoScope s →
    Emits (Some k) S 0 s (onto end_definition o) o2 → EmitsBody S k s o o2
plain_body S s k o o2 none h = emits_body none h

-- the call of code with this label
pub called_at : (S : Site) (y : Coordinate) (ps qs : Patterns Coordinate) (us : List Argument) (n x h label room p : ℕ)
    (o o1 : Emitted) → n ≡ suc x → h ≡ frames_in (context S) y.layers_up → p ≡ place o →
    qs ≡ all_renamed (by_frames (context S)) ps →
    onto (call_definition n h label room p us qs) o1 ≡
    onto (call_definition (suc x) (frames_in (context S) y.layers_up) label room (place o)
    us (all_renamed (by_frames (context S)) ps)) o1
called_at S y ps qs us n x h label room p o o1 nodes frames here terms =
    ap₂ (λ m g. onto (call_definition m g label room p us qs) o1) nodes frames ∙
    ap₂ (λ q rs. onto (call_definition (suc x) (frames_in (context S) y.layers_up) label room q us rs) o1) here terms

pub call_row : (S : Site) (y : Coordinate) (ss : ResolvedStrategies) (ps qs : Patterns Coordinate) (us : List Argument)
    (n x h label room p : ℕ) (o o1 o2 : Emitted) →
    HasDefinitions (outer (context S) y.layers_up) →
    entry_in (entries_of (outer (context S) y.layers_up)) y.slot ≡ entry_at label room → n ≡ suc x →
    h ≡ frames_in (context S) y.layers_up → p ≡ place o →
    EmitsArguments S ss o o1 us → qs ≡ all_renamed (by_frames (context S)) ps →
    o2 ≡ onto (call_definition n h label room p us qs) o1 → EmitsCall S x y ss ps o o2
call_row S y ss ps qs us n x h label room p o o1 o2 has entry nodes frames here arguments terms last =
    subst (λ z. EmitsCall S x y ss ps o z)
    (sym (last ∙ called_at S y ps qs us n x h label room p o o1 nodes frames here terms))
    (calls has entry arguments)

-- a call of a specialization that the code is in
pub own_row : (S : Site) (y : Coordinate) (ss : ResolvedStrategies) (ps : Patterns Coordinate) (x p : ℕ) (own : Own)
    (o o2 : Emitted) → IsOwn S y ss own → p ≡ place o →
    o2 ≡ onto (call_definition (suc x) (frames_in (context S) y.layers_up)
    own.label own.room p [] (all_renamed (by_frames (context S)) ps)) o → (w : Option ℕ) →
    Emits w S x (call y ss ps) o o2
own_row S y ss ps x p own o o2 is here last w =
    subst (λ z. Emits w S x (call y ss ps) o z)
    (sym (last ∙ ap (λ q. onto (call_definition (suc x) (frames_in (context S) y.layers_up)
    own.label own.room q [] (all_renamed (by_frames (context S)) ps)) o) here))
    (emits_same is.layers_up is.first_label is.called is.given is.is)

pub own_code : (S : Site) (s : ResolvedStrategy) (p : ℕ) (o o1 o2 : Emitted) → HasOwnCode (context S) s →
    o1 ≡ onto end_argument o → Emits None S 0 s o1 o2 → p ≡ place o2 → PutsArgument S s o o2 (code_at p)
own_code S s p o o1 o2 own first h here ss us o3 others =
    subst (λ q. EmitsArguments S (more_strategies s ss) o o3 (code_at q ∷ us)) (sym here)
    (emits_code_argument own (from first h) others)

-- where all is done
pub arguments_done : (S : Site) (ss : List CoreStrategy) (n : ℕ) (made : List Argument) (o o1 : Emitted) →
    length ss ≤ n → ArgumentsLeft S ss (drop n ss) made o o1 →
    EmitsArguments S (strategies_of ss) o o1 made
arguments_done S ss n made o o1 whole h =
    subst (λ us. EmitsArguments S (strategies_of ss) o o1 us) (append-nil made)
    (h [] o1 (subst (λ xs. EmitsArguments S (strategies_of xs) o1 o1 []) (sym (drop_of_length-le ss whole))
    emits_no_arguments))

pub bodies_done : (S : Site) (ds : List CoreDef) (first label n : ℕ) (o o1 : Emitted) → length ds ≤ n →
    BodiesLeft S first label ds (drop n ds) o o1 →
    EmitsBodies S first (definitions_of ds) o o1
bodies_done S ds first label n o o1 whole h =
    h o1 (subst (λ xs. EmitsBodies S label (definitions_of xs) o1 o1) (sym (drop_of_length-le ds whole))
    emits_no_bodies)

-- a call of a strategy parameter that is known
pub known_row : (S : Site) (y : Coordinate) (k : Known) (n x : ℕ) (o o1 : Emitted) (w : Option ℕ) →
    IsGiven (outside_of S y.layers_up) y.slot (known_of k).strategy (known_of k).site → n ≡ suc x →
    Emits w (site_of (out-Known k).layers.now) n (strategy_of (out-Known k).strategy.now) o o1 →
    (ss : ResolvedStrategies) (ps : Patterns Coordinate) → Emits w S x (call y ss ps) o o1
known_row S y k n x o o1 w given nodes h ss ps =
    emits_known given
    (subst (λ a. Emits w a.site (suc x) a.strategy o o1) (sym (known_reads k))
    (subst (λ m. Emits w (site_of (out-Known k).layers.now) m (strategy_of (out-Known k).strategy.now) o o1)
    nodes h))

-- a call in place
pub inline_row : (S : Site) (y : Coordinate) (ss : ResolvedStrategies) (ts : List CorePattern) (p : ProgramDefinition)
    (found : Option (Vec Known Global)) (ks : Vec Known Global) (vs : List Known) (way : Way) (x : ℕ)
    (o o1 o2 : Emitted) (w : Option ℕ) → o1 ≡ o → IsDefined (outer (context S) y.layers_up) y.slot p → way ≡ InPlace →
    AllowsWay way p ts → found ≡ Some ks → IfSome found (λ made. AreGiven S ss (arguments_of made.items)) →
    vs ≡ ks.items →
    ((n : ℕ) → n ≡ suc x → Emits w (in_call (arguments_of vs) (site_of p.layer.now)) n (def_of p.def.now).body o1 o2) →
    Emits w S x (call y ss (patterns_of ts)) o o2
inline_row S y ss ts p found ks vs way x o o1 o2 w same defined in_place allows was given items h =
    let allowed = subst (λ v. AllowsWay v p ts) in_place allows in
    let are = subst (λ us. AreGiven S ss (arguments_of us)) (sym items)
    (subst (λ f. IfSome f (λ made. AreGiven S ss (arguments_of made.items))) was given) in
    let body = subst (λ k. IsBody (definitions_of p.defs.now)
    y.slot (def_of p.def.now).strats k (def_of p.def.now).body) (ap (λ d. d.terms) (reads_def p.def.now) ∙
    allowed.1) defined.body in
    subst (λ qs. Emits w S x (call y ss qs) o o2) (sym (no_terms ts allowed.0))
    (emits_inline defined.is body are
    (from same (inside (ap (λ U. in_call (arguments_of vs) U) defined.layer) (h (suc x) refl))))

-- a call of a specialization, in front of its body
pub specialization_row : (S T : Site) (y : Coordinate) (ss : ResolvedStrategies) (ps qs : Patterns Coordinate)
    (p : ProgramDefinition) (ks : KnownArguments) (label room k q n x h : ℕ) (o o1 o2 o3 o4 : Emitted) →
    IsDefined (outer (context S) y.layers_up) y.slot p → AreGiven S ss ks →
    T ≡ in_specialization y.slot label room k ks (site_of p.layer.now) → label ≡ length o.starts →
    room ≡ room_for (strategy_of (out-CoreDef p.def.now).body) → k ≡ (out-CoreDef p.def.now).terms → q ≡ place o →
    o1 ≡ with_labels 1 o → EmitsBody T k (strategy_of (out-CoreDef p.def.now).body) o1 o2 → o3 ≡ starting label o2 →
    n ≡ suc x → h ≡ frames_in (context S) y.layers_up → qs ≡ all_renamed (by_frames (context S)) ps →
    o4 ≡ onto (call_definition n h label room q [] qs) o3 → (w : Option ℕ) → Emits w S x (call y ss ps) o o4
specialization_row S T y ss ps qs p ks label room k q n x h o o1 o2 o3 o4 defined given layer labels rooms variables
    here first body started nodes frames terms last w =
    let reads = reads_def p.def.now in
    let D = in_definitions (definitions_of p.defs.now) p.first_label outermost in
    let s = (def_of p.def.now).body in
    let is : strategy_of (out-CoreDef p.def.now).body ≡ s = sym (ap (λ d. d.body) reads) in
    let many : k ≡ (def_of p.def.now).terms = variables ∙ sym (ap (λ d. d.terms) reads) in
    let roomy : room ≡ room_for s = rooms ∙ ap room_for is in
    let site : T ≡ in_specialization y.slot (length o.starts) (room_for s) k ks D =
    layer ∙ ap₂ (λ l r. in_specialization y.slot l r k ks (site_of p.layer.now)) labels roomy ∙
    ap (λ U. in_specialization y.slot (length o.starts) (room_for s) k ks U) defined.layer in
    let made : EmitsBody (in_specialization y.slot (length o.starts) (room_for s) k ks D) k s (with_labels 1 o) o2 =
    subst (λ a. EmitsBody (in_specialization y.slot (length o.starts) (room_for s) k ks D) k s a o2) first
    (subst (λ r. EmitsBody (in_specialization y.slot (length o.starts) (room_for s) k ks D) k r o1 o2) is
    (subst (λ U. EmitsBody U k (strategy_of (out-CoreDef p.def.now).body) o1 o2) site body)) in
    let defined_body = subst (λ m. IsBody (definitions_of p.defs.now) y.slot (def_of p.def.now).strats m s) (sym many)
    defined.body in
    subst (λ z. Emits w S x (call y ss ps) o z)
    (sym (last ∙ called_at S y ps qs [] n x h label room q o o3 nodes frames here terms ∙
    ap₂ (λ l r. onto (call_definition (suc x) (frames_in (context S) y.layers_up) l r (place o)
    [] (all_renamed (by_frames (context S)) ps)) o3) labels roomy ∙
    ap (λ a. onto (call_definition (suc x) (frames_in (context S) y.layers_up) (length o.starts) (room_for s) (place o)
    [] (all_renamed (by_frames (context S)) ps)) a) (started ∙ ap (λ l. starting l o2) labels)))
    (emits_specialization defined.is defined_body given made)

-- an ordinary call is a call
pub called : (S : Site) (x : ℕ) (y : Coordinate) (ss : ResolvedStrategies) (ps : Patterns Coordinate) (o o1 : Emitted) →
    EmitsCall S x y ss ps o o1 → (w : Option ℕ) → Emits w S x (call y ss ps) o o1
called S x y ss ps o o1 h w = emits_call h

-- an argument that is a strategy parameter which is known
pub known_code : (S : Site) (y : Coordinate) (vs : ResolvedStrategies) (ps : Patterns Coordinate) (k : Known) (p : ℕ)
    (o o1 o2 : Emitted) →
    IsGiven (outside_of S y.layers_up) y.slot (known_of k).strategy (known_of k).site → o1 ≡ onto end_argument o →
    Emits None (site_of (out-Known k).layers.now) 0 (strategy_of (out-Known k).strategy.now) o1 o2 → p ≡ place o2 →
    PutsArgument S (call y vs ps) o o2 (code_at p)
known_code S y vs ps k p o o1 o2 given first h here ss us o3 others =
    subst (λ q. EmitsArguments S (more_strategies (call y vs ps) ss) o o3 (code_at q ∷ us)) (sym here)
    (emits_known_argument given
    (subst (λ a. Emits None a.site 0 a.strategy (onto end_argument o) o2) (sym (known_reads k)) (from first h))
    others)

pub handed_known : (S : Site) (s : ResolvedStrategy) (k : Known) (p : ℕ) (o o1 o2 : Emitted) →
    HandsKnown S s (known_of k).strategy (known_of k).site → o1 ≡ onto end_argument o →
    Emits None (site_of (out-Known k).layers.now) 0 (strategy_of (out-Known k).strategy.now) o1 o2 → p ≡ place o2 →
    PutsArgument S s o o2 (code_at p)
handed_known S id k p o o1 o2 hands first h here = elim hands [ ]
handed_known S fail k p o o1 o2 hands first h here = elim hands [ ]
handed_known S (seq s1 s2) k p o o1 o2 hands first h here = elim hands [ ]
handed_known S (choice s1 s2 s3) k p o o1 o2 hands first h here = elim hands [ ]
handed_known S (match q) k p o o1 o2 hands first h here = elim hands [ ]
handed_known S (build q) k p o o1 o2 hands first h here = elim hands [ ]
handed_known S (scope m s1) k p o o1 o2 hands first h here = elim hands [ ]
handed_known S (all s1) k p o o1 o2 hands first h here = elim hands [ ]
handed_known S (one s1) k p o o1 o2 hands first h here = elim hands [ ]
handed_known S (some s1) k p o o1 o2 hands first h here = elim hands [ ]
handed_known S (with_definitions ds s1) k p o o1 o2 hands first h here = elim hands [ ]
handed_known S (call y vs ps) k p o o1 o2 hands first h here = known_code S y vs ps k p o o1 o2 hands first h here
handed_known S (primitive f ps) k p o o1 o2 hands first h here = elim hands [ ]

-- the same, one step after another
pub apart_row : (S T : Site) (y : Coordinate) (ps : Patterns Coordinate) (p : ProgramDefinition) (ks : KnownArguments)
    (label room q x : ℕ) (o o1 o2 o3 o4 o5 o6 : Emitted) →
    IsDefined (outer (context S) y.layers_up) y.slot p →
    T ≡ in_specialization y.slot label room (out-CoreDef p.def.now).terms ks (site_of p.layer.now) →
    label ≡ length o.starts →
    room ≡ room_for (strategy_of (out-CoreDef p.def.now).body) → q ≡ place o → o1 ≡ with_labels 1 o → o2 ≡ o1 →
    EmitsBody T (out-CoreDef p.def.now).terms (strategy_of (out-CoreDef p.def.now).body) o2 o3 → o4 ≡ o3 →
    o5 ≡ starting label o4 → o6 ≡
    onto (call_definition (suc x) (frames_in (context S) y.layers_up)
    label room q [] (all_renamed (by_frames (context S)) ps)) o5 → (w : Option ℕ) (ss : ResolvedStrategies) →
    AreGiven S ss ks →
    Emits w S x (call y ss ps) o o6
apart_row S T y ps p ks label room q x o o1 o2 o3 o4 o5 o6 defined layer labels rooms here first begun body ended
    started last w ss given =
    specialization_row S T y ss ps (all_renamed (by_frames (context S)) ps)
    p ks label room (out-CoreDef p.def.now).terms q (suc x) x (frames_in (context S) y.layers_up)
    o o1 o3 o5 o6 defined given layer labels rooms refl here first
    (subst (λ a. EmitsBody T (out-CoreDef p.def.now).terms (strategy_of (out-CoreDef p.def.now).body) a o3) begun body)
    (started ∙ ap (λ a. starting label a) ended) refl refl refl last w
