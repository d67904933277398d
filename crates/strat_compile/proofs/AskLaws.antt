-- What each form of the code asks of a term's root.
use Rattle.std.proofs.Common.{◌≡◌, ◌+◌, ◌<◌, ◌≤◌, ◌++◌, ℕ, zero, suc, List, [], ◌∷◌, map, length, reverse, Option, Some, None, Result, Ok, Err, get_or, drop, refl, ap, ap₂, sym, ◌∙◌, subst, arith, Box, Vec, Global}
use Rattle.std.specs.Prelude.{IfSome, IfOk, MatchOption}
use Rattle.std.proofs.Math.Seq.{drop-length}
use Rattle.std.proofs.lemmas.List.{append_assoc, append-nil, drop_more, map-append, reverse-append, length-map, length-reverse}
use Rattle.core_lang.specs.declared.coordinate.Coordinate.{Coordinate}
use Rattle.core_lang.specs.declared.program.CoreArm.{CoreArm}
use Rattle.core_lang.specs.declared.program.CoreDef.{CoreDef}
use Rattle.core_lang.specs.declared.program.CorePattern.{CorePattern}
use Rattle.core_lang.specs.declared.program.CoreStrategy.{CoreStrategy}
use Rattle.core_lang.specs.declared.program.CoreStrategy.TheVariants as strategies
use Rattle.core_lang.specs.declared.program.CoreStrategy.TheViews.{out-CoreArm, out-CoreDef}
use Rattle.core_lang.specs.Program.{id, choice, call, no_patterns}
use Rattle.core_lang.specs.Resolved.{ResolvedStrategy, ResolvedStrategies}
use Rattle.core_lang.specs.Roots.{Root, root_of, Begins, begins_match, begins_seq, begins_scope}
use Rattle.core_lang.specs.Views.{first_of, strategy_of, strategies_of, pattern_of, patterns_of, arm_of, def_of, definitions_of}
use Rattle.core_lang.proofs.ReadLaws.{reads_fail, reads_sequence, reads_choice, reads_arm, reads_match, reads_scope, reads_let, reads_call, reads_def}
use Rattle.strat_code.specs.Context.{Context, hidden, no_knowns, outer, Hides, hides_top, keeps_definitions}
use Rattle.strat_code.specs.Ranges.{AsksFor, asks_fail, asks_match, asks_seq, asks_choice, asks_scope, asks_let, asks_known, asks_inline, IsBody}
use Rattle.strat_code.specs.CodeOf as code_of
use Rattle.strat_code.specs.declared.instr.Root as declared
use Rattle.strat_compile.specs.Asking.{AsksOnto, AsksInside}
use Rattle.strat_compile.specs.ChainOf.{roots_of}
use Rattle.strat_compile.specs.Emission.{BeginsNot, Joins}
use Rattle.strat_compile.specs.declared.roots.Beginning.{Beginning}
use Rattle.strat_compile.specs.declared.layers.Known.{Known}
use Rattle.strat_compile.specs.declared.layers.Layers.TheViews.{out-Known}
use Rattle.strat_compile.specs.declared.layers.ProgramDefinition.{ProgramDefinition}
use Rattle.strat_compile.specs.Layers.{IsDefined, arguments_of, known_of, site_of}
use Rattle.strat_compile.specs.Sites.{Site, KnownArguments, AreGiven, IsGiven, context, in_call, in_definitions, outermost, outside_of}
use Rattle.strat_compile.proofs.LayerLaws.{known_reads}
use Rattle.strat_compile.proofs.SiteLaws.{are_known, given_outside}

asks_as : {C : Context} {s t : ResolvedStrategy} {qs rs : List Root} {n m : ℕ} → t ≡ s → m ≡ n → AsksOnto C s qs rs n →
    AsksOnto C t qs rs m
asks_as {C} {s} {t} {qs} {rs} {n} {m} is nodes h =
    subst (λ u. AsksOnto C u qs rs m) (sym is) (subst (λ k. AsksOnto C s qs rs k) (sym nodes) h)

pub fail_asks : (C : Context) (s : CoreStrategy) (rs : List Root) → s ≡ strategies.Fail →
    AsksOnto C (strategy_of s) rs rs 1
fail_asks C s rs is = asks_as (ap strategy_of is ∙
    reads_fail) refl (record { roots = []; are = refl; asks = asks_fail })

pub match_asks : (C : Context) (s : CoreStrategy) (p : CorePattern) (r : Root) (qs rs : List Root) →
    s ≡ strategies.Match p → r ≡ root_of (pattern_of p) → rs ≡ r ∷ qs → AsksOnto C (strategy_of s) qs rs 1
match_asks C s p r qs rs is asked more =
    asks_as (ap strategy_of is ∙
    reads_match p) refl (record {
      roots = root_of (pattern_of p) ∷ [];
      are = more ∙ ap (λ q. q ∷ qs) asked;
      asks =
          asks_match;
    })

pub roots_pushed : (rs : List declared.Root) (r : declared.Root) →
    roots_of (rs ++ r ∷ []) ≡ code_of.root_of r ∷ roots_of rs
roots_pushed rs r = ap reverse (map-append code_of.root_of rs (r ∷ [])) ∙
    reverse-append (map code_of.root_of rs) (code_of.root_of r ∷ [])

pub roots_long : (rs : List declared.Root) → length (roots_of rs) ≡ length rs
roots_long rs = length-reverse (map code_of.root_of rs) ∙ length-map rs code_of.root_of

pub sequence_asks : (C : Context) (s a' : CoreStrategy) (a b : Box CoreStrategy Global) (more : Vec CoreStrategy Global)
    (qs rs : List Root) (n m : ℕ) → s ≡ strategies.Sequence a b more → a' ≡ a.value →
    AsksOnto C (strategy_of a') qs rs n → m ≡ suc n → AsksOnto C (strategy_of s) qs rs m
sequence_asks C s a' a b more qs rs n m is first h nodes =
    let inner : AsksOnto C (strategy_of a.value) qs rs n = asks_as (ap strategy_of (sym first)) refl h in
    asks_as (ap strategy_of is ∙
    reads_sequence a b more) nodes (record { roots = inner.roots; are = inner.are; asks = asks_seq inner.asks })

pub inside_asks : (C D : Context) (s : ResolvedStrategy) (qs rs : List Root) (n m : ℕ) → D ≡ hidden no_knowns C →
    AsksOnto D s qs rs n → m ≡ suc n → AsksInside C s qs rs m
inside_asks C D s qs rs n m layer h nodes =
    record { inner = n; asks = subst (λ E. AsksOnto E s qs rs n) layer h; around = nodes }

pub inside_found : (C D : Context) (s : ResolvedStrategy) (qs rs : List Root) (found : Option ℕ) (n m : ℕ) →
    D ≡ hidden no_knowns C → found ≡ Some n → IfSome found (λ k. AsksOnto D s qs rs k) → m ≡ suc n →
    AsksInside C s qs rs m
inside_found C D s qs rs found n m layer is h nodes =
    inside_asks C D s qs rs n m layer (subst (λ f. IfSome f (λ k. AsksOnto D s qs rs k)) is h) nodes

pub scope_asks : (C : Context) (s a' : CoreStrategy) (k : ℕ) (a : Box CoreStrategy Global) (qs rs : List Root) (m : ℕ) →
    s ≡ strategies.Scope k a → a' ≡ a.value →
    AsksInside C (strategy_of a') qs rs m → AsksOnto C (strategy_of s) qs rs m
scope_asks C s a' k a qs rs m is body h =
    let inner : AsksOnto (hidden no_knowns C) (strategy_of a.value) qs rs h.inner =
    asks_as (ap strategy_of (sym body)) refl h.asks in
    asks_as (ap strategy_of is ∙
    reads_scope k a) h.around (record { roots = inner.roots; are = inner.are; asks = asks_scope inner.asks })

pub let_asks : (C : Context) (s a' : CoreStrategy) (ds : Vec CoreDef Global) (a : Box CoreStrategy Global)
    (qs rs : List Root) (m : ℕ) → s ≡ strategies.LetIn ds a → a' ≡ a.value →
    AsksInside C (strategy_of a') qs rs m → AsksOnto C (strategy_of s) qs rs m
let_asks C s a' ds a qs rs m is body h =
    let inner : AsksOnto (hidden no_knowns C) (strategy_of a.value) qs rs h.inner =
    asks_as (ap strategy_of (sym body)) refl h.asks in
    asks_as (ap strategy_of is ∙
    reads_let ds a) h.around (record { roots = inner.roots; are = inner.are; asks = asks_let inner.asks })

-- what holds of nodes that are found
pub each_found : {E : Type 0} {P Q : ℕ → Type 0} (r : Result (Option ℕ) E) → ((n : ℕ) → P n → Q n) →
    IfOk r (λ f. IfSome f P) → IfOk r (λ f. IfSome f Q)
each_found (Ok None) f h = tt
each_found (Ok (Some n)) f h = f n h
each_found (Err e) f h = tt

-- a guard in front of the rest of a choice
chosen : {C : Context} {s1 s2 s3 : ResolvedStrategy} {qs ps rs : List Root} {n k m : ℕ} → AsksOnto C s3 qs ps k →
    AsksOnto C s1 ps rs n → m ≡ suc (n + k) → AsksOnto C (choice s1 s2 s3) qs rs m
chosen {C} {s1} {s2} {s3} {qs} {ps} {rs} {n} {k} {m} others first nodes =
    asks_as refl nodes (record {
      roots = first.roots ++ others.roots;
      are = first.are ∙ ap (λ xs. first.roots ++ xs) others.are ∙ sym (append_assoc first.roots others.roots qs);
      asks = asks_choice first.asks others.asks;
    })

pub guard_asks : (C : Context) (a : CoreArm) (qs rs : List Root) (n : ℕ) →
    AsksOnto C (strategy_of (out-CoreArm a).guard) qs rs n → AsksOnto C (arm_of a).guard qs rs n
guard_asks C a qs rs n h = subst (λ r. AsksOnto C r.guard qs rs n) (sym (reads_arm a)) h

pub choice_asks : (C : Context) (s z' : CoreStrategy) (a' : CoreArm) (a : Box CoreArm Global)
    (more : Vec CoreArm Global) (z : Box CoreStrategy Global) (arms : List CoreArm) (qs rs : List Root) (n : ℕ) →
    s ≡ strategies.Choice a more z → arms ≡ more.items → z' ≡ z.value → a' ≡ a.value →
    AsksOnto C (first_of (arm_of a' ∷ map arm_of arms) (strategy_of z')) qs rs n →
    AsksOnto C (strategy_of s) qs rs n
choice_asks C s z' a' a more z arms qs rs n is items last first h =
    asks_as (ap strategy_of is ∙ reads_choice a more z) refl
    (subst (λ d. AsksOnto C (first_of (arm_of d ∷ map arm_of more.items) (strategy_of z.value)) qs rs n) first
    (subst (λ d. AsksOnto C (first_of (arm_of a' ∷ map arm_of more.items) (strategy_of d)) qs rs n) last
    (subst (λ ds. AsksOnto C (first_of (arm_of a' ∷ map arm_of ds) (strategy_of z')) qs rs n) items h)))

pub arms_ask : (C : Context) (a : CoreArm) (arms : List CoreArm) (z : ResolvedStrategy) (qs ps rs : List Root)
    (found guarded : Option ℕ) (n k m : ℕ) → found ≡ Some k →
    IfSome found (λ j. AsksOnto C (first_of (map arm_of arms) z) qs ps j) → guarded ≡ Some n →
    IfSome guarded (λ j. AsksOnto C (strategy_of (out-CoreArm a).guard) ps rs j) → m ≡ suc (n + k) →
    AsksOnto C (first_of (arm_of a ∷ map arm_of arms) z) qs rs m
arms_ask C a arms z qs ps rs found guarded n k m others_are others guard_is guard nodes =
    chosen (subst (λ f. IfSome f (λ j. AsksOnto C (first_of (map arm_of arms) z) qs ps j)) others_are others)
    (guard_asks C a ps rs n (subst (λ f. IfSome f (λ j. AsksOnto C (strategy_of (out-CoreArm a).guard) ps rs j))
    guard_is guard)) nodes

-- the further arms of a choice, from the last one on
pub no_arm_asks : (C : Context) (arms : List CoreArm) (z : ResolvedStrategy) (qs rs : List Root) (n : ℕ) →
    AsksOnto C z qs rs n → AsksOnto C (first_of (map arm_of (drop (length arms) arms)) z) qs rs n
no_arm_asks C arms z qs rs n h =
    subst (λ xs. AsksOnto C (first_of (map arm_of xs) z) qs rs n) (sym (drop-length arms)) h

pub arm_asks : (C : Context) (arms : List CoreArm) (i : ℕ) (d : CoreArm) (z : ResolvedStrategy) (qs ps rs : List Root)
    (n k m : ℕ) → i < length arms →
    AsksOnto C (first_of (map arm_of (drop (i + 1) arms)) z) qs ps k →
    AsksOnto C (arm_of (get_or arms i d)).guard ps rs n → m ≡ suc (n + k) →
    AsksOnto C (first_of (map arm_of (drop i arms)) z) qs rs m
arm_asks C arms i d z qs ps rs n k m h others guard nodes =
    subst (λ xs. AsksOnto C (first_of (map arm_of xs) z) qs rs m) (sym (drop_more arms i d h))
    (chosen others guard nodes)

pub arm_found : (C : Context) (arms : List CoreArm) (i j : ℕ) (d : CoreArm) (z : ResolvedStrategy)
    (qs ps rs : List Root) (found : Option ℕ) (n k m : ℕ) → j ≡ i + 1 → i < length arms →
    AsksOnto C (first_of (map arm_of (drop j arms)) z) qs ps k → found ≡ Some n →
    IfSome found (λ x. AsksOnto C (strategy_of (out-CoreArm (get_or arms i d)).guard) ps rs x) → m ≡ suc (n + k) →
    AsksOnto C (first_of (map arm_of (drop i arms)) z) qs rs m
arm_found C arms i j d z qs ps rs found n k m next h others is guard nodes =
    let a = get_or arms i d in
    let asked : AsksOnto C (strategy_of (out-CoreArm a).guard) ps rs n =
    subst (λ f. IfSome f (λ x. AsksOnto C (strategy_of (out-CoreArm a).guard) ps rs x)) is guard in
    arm_asks C arms i d z qs ps rs n k m h
    (subst (λ x. AsksOnto C (first_of (map arm_of (drop x arms)) z) qs ps k) next others)
    (guard_asks C a ps rs n asked) nodes

-- a call without arguments

pub no_terms : (ps : List CorePattern) → length ps ≡ 0 → patterns_of ps ≡ no_patterns
no_terms [] h = refl
no_terms (p ∷ ps) h = absurd (omega (arith, h))

pub call_as : (C : Context) (s : CoreStrategy) (y : Coordinate) (ss : Vec CoreStrategy Global)
    (ps : Vec CorePattern Global) (xs : List CoreStrategy) (qs rs : List Root) (n : ℕ) → s ≡ strategies.Call y ss ps →
    xs ≡ ss.items → length ps.items ≡ 0 → AsksOnto C (call y (strategies_of xs) no_patterns) qs rs n →
    AsksOnto C (strategy_of s) qs rs n
call_as C s y ss ps xs qs rs n is items no_term h =
    asks_as (ap strategy_of is ∙ reads_call y ss ps ∙
    ap₂ (λ a b. call y a b) (ap strategies_of (sym items)) (no_terms ps.items no_term)) refl h

-- a call of a strategy parameter that is known
pub known_asks : (S : Site) (y : Coordinate) (ss : ResolvedStrategies) (k : Known) (qs rs : List Root) (n m : ℕ) →
    IsGiven (outside_of S y.layers_up) y.slot (known_of k).strategy (known_of k).site →
    AsksOnto (context (site_of (out-Known k).layers.now)) (strategy_of (out-Known k).strategy.now) qs rs n → m ≡ suc n →
    AsksOnto (context S) (call y ss no_patterns) qs rs m
known_asks S y ss k qs rs n m given h nodes =
    let reads = known_reads k in
    let asked = subst (λ a. AsksOnto (context a.site) a.strategy qs rs n) (sym reads) h in
    asks_as refl nodes (record {
      roots = asked.roots;
      are = asked.are;
      asks = asks_known (given_outside S y.layers_up y.slot (known_of k).strategy (known_of k).site given) asked.asks;
    })

-- a call of a definition of the program whose arguments are known
pub defined_asks : (S T : Site) (y : Coordinate) (ss : ResolvedStrategies) (p : ProgramDefinition) (ks : KnownArguments)
    (qs rs : List Root) (n m : ℕ) → IsDefined (outer (context S) y.layers_up) y.slot p →
    (out-CoreDef p.def.now).terms ≤ 0 → AreGiven S ss ks → T ≡ in_call ks (site_of p.layer.now) →
    AsksOnto (context T) (strategy_of (out-CoreDef p.def.now).body) qs rs n → m ≡ suc n →
    AsksOnto (context S) (call y ss no_patterns) qs rs m
defined_asks S T y ss p ks qs rs n m defined none given layer h nodes =
    let reads = reads_def p.def.now in
    let D = in_definitions (definitions_of p.defs.now) p.first_label outermost in
    let body = subst (λ k. IsBody (definitions_of p.defs.now)
    y.slot (def_of p.def.now).strats k (def_of p.def.now).body) (ap (λ d. d.terms) reads ∙
    omega (arith, none)) defined.body in
    let asked = subst (λ d. AsksOnto (context (in_call ks D)) d.body qs rs n) (sym reads)
    (subst (λ U. AsksOnto (context U) (strategy_of (out-CoreDef p.def.now).body) qs rs n) (layer ∙
    ap (λ U. in_call ks U) defined.layer) h) in
    asks_as refl nodes (record {
      roots = asked.roots;
      are = asked.are;
      asks = asks_inline (subst (λ E. Hides E (context D)) (sym defined.is) (keeps_definitions hides_top))
          body (are_known given) asked.asks;
    })

pub defined_found : (S T : Site) (y : Coordinate) (ss : ResolvedStrategies) (p : ProgramDefinition)
    (found : Option (Vec Known Global)) (ks : Vec Known Global) (qs rs : List Root) (asked : Option ℕ) (n m : ℕ) →
    IsDefined (outer (context S) y.layers_up) y.slot p → (out-CoreDef p.def.now).terms ≤ 0 → found ≡ Some ks →
    IfSome found (λ made. AreGiven S ss (arguments_of made.items)) →
    T ≡ in_call (arguments_of ks.items) (site_of p.layer.now) → asked ≡ Some n →
    IfSome asked (λ k. AsksOnto (context T) (strategy_of (out-CoreDef p.def.now).body) qs rs k) → m ≡ suc n →
    AsksOnto (context S) (call y ss no_patterns) qs rs m
defined_found S T y ss p found ks qs rs asked n m defined none known given layer is h nodes =
    defined_asks S T y ss p (arguments_of ks.items)
    qs rs n m defined none (subst (λ f. IfSome f (λ made. AreGiven S ss (arguments_of made.items))) known given)
    layer
    (subst (λ f. IfSome f (λ k. AsksOnto (context T) (strategy_of (out-CoreDef p.def.now).body) qs rs k)) is h) nodes

-- what begins with a match asks for its root
asks_root : {C : Context} {s : ResolvedStrategy} {r : Root} {n : ℕ} → Begins s r n → AsksFor C s (r ∷ []) n
asks_root begins_match = asks_match
asks_root (begins_seq h) = asks_seq (asks_root h)
asks_root (begins_scope h) = asks_scope (asks_root h)

-- alternatives that join a chain
pub begins_joins : (C : Context) (a : CoreArm) (found : Option Beginning) (b : Beginning) (rs : List Root) →
    strategy_of (out-CoreArm a).then ≡ id →
    MatchOption found (BeginsNot (strategy_of (out-CoreArm a).guard))
    (λ d. Begins (strategy_of (out-CoreArm a).guard) (code_of.root_of d.root) d.nodes) → found ≡ Some b →
    rs ≡ code_of.root_of b.root ∷ [] → Joins C (arm_of a) rs b.nodes
begins_joins C a found b rs then begins is are =
    let guard = strategy_of (out-CoreArm a).guard in
    let first : Begins guard (code_of.root_of b.root) b.nodes =
    subst (λ f. MatchOption f (BeginsNot guard) (λ d. Begins guard (code_of.root_of d.root) d.nodes)) is begins in
    subst (λ r. Joins C r rs b.nodes) (sym (reads_arm a))
    (record {
      then = then;
      asks = subst (λ xs. AsksFor C guard xs b.nodes) (sym are) (asks_root first);
      some =
          omega (arith, ap length are);
    })

pub asks_joins : (C : Context) (a : CoreArm) (found : Option ℕ) (qs rs : List Root) (n : ℕ) →
    strategy_of (out-CoreArm a).then ≡ id → qs ≡ [] →
    IfSome found (λ k. AsksOnto C (strategy_of (out-CoreArm a).guard) qs rs k) → found ≡ Some n → (length rs ≡ 0 → ⊥) →
    Joins C (arm_of a) rs n
asks_joins C a found qs rs n then none h is some =
    let guard = strategy_of (out-CoreArm a).guard in
    let asked : AsksOnto C guard qs rs n = subst (λ f. IfSome f (λ k. AsksOnto C guard qs rs k)) is h in
    let are : rs ≡ asked.roots = asked.are ∙ ap (λ xs. asked.roots ++ xs) none ∙ append-nil asked.roots in
    subst (λ r. Joins C r rs n) (sym (reads_arm a))
    (record {
      then = then;
      asks = subst (λ xs. AsksFor C guard xs n) (sym are) asked.asks;
      some =
          positive (length rs) some;
    })
  where
    positive : (k : ℕ) → (k ≡ 0 → ⊥) → 0 < k
    positive zero h = absurd (h refl)
    positive (suc k) h = omega arith
