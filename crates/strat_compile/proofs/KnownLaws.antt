-- Which arguments of a call are known, and which calls are those of the specialization that the code is in.
use Rattle.std.proofs.Common.{◌≡◌, ◌+◌, ◌<◌, ◌≤◌, ◌++◌, ℕ, zero, suc, List, [], ◌∷◌, length, map, get_or, drop, drop_of_length-le, refl, ap, sym, ◌∙◌, subst, arith}
use Rattle.std.specs.Borrow.{Bor}
use Rattle.std.proofs.lemmas.List.{append_assoc, append-nil, drop_more, map-append}
use Rattle.core_lang.specs.declared.program.CoreStrategy.{CoreStrategy}
use Rattle.core_lang.specs.InRange.{StrategyInRange}
use Rattle.core_lang.specs.Program.{call, choice, seq, id, fail, match, build, scope, all, one, some, with_definitions, primitive, no_strategies, more_strategies, strategies_count}
use Rattle.core_lang.specs.declared.coordinate.Coordinate.{Coordinate}
use Rattle.core_lang.specs.Resolved.{ResolvedDefinitions, ResolvedStrategies, ResolvedStrategy}
use Rattle.core_lang.specs.Views.{strategies_of, strategy_of}
use Rattle.core_lang.proofs.RangeLaws.{counted_strategies}
use Rattle.strat_code.specs.Context.{Context, HasOwnCode, defining, framed, hidden, known, open_call, outer, top, within}
use Rattle.strat_compile.specs.declared.known.Own.{Own}
use Rattle.strat_compile.specs.declared.layers.Handing.{Handing}
use Rattle.strat_compile.specs.declared.layers.Handing.TheVariants.{Inlined}
use Rattle.strat_compile.specs.declared.layers.Known.{Known}
use Rattle.strat_compile.specs.declared.layers.Layers.TheViews.{out-Known}
use Rattle.strat_compile.specs.declared.layers.Layers as declared
use Rattle.strat_compile.specs.declared.layers.Layers.TheVariants as code
use Rattle.strat_compile.specs.Known.{AreParameters, IsKnownAs, IsOfProgram, IsOwn, IsParameter, KnownSoFar}
use Rattle.strat_compile.specs.Layers.{HandsKnown, HandsOver, arguments_in, arguments_of, known_of, site_of}
use Rattle.strat_compile.specs.Sites.{AreGiven, AreGivenAt, IsArgument, IsGiven, IsSpecialization, KnownArguments, Site, context, in_call, in_definitions, in_frame, in_places, in_specialization, in_open_call, knowns, more_known, no_known, none_given, number_of_knowns, outermost, outside_of, own_given, parameter_given, program_layers, stripped, unframed, without_frames}
use Rattle.strat_compile.proofs.ClosedLaws.{arguments_counted}
use Rattle.strat_compile.proofs.LayerLaws.{known_reads, site_specialized}
use Rattle.strat_compile.proofs.SiteLaws.{context_outside, given_stripped, outer_unframed}

-- a parameter that is known, handed on
pub handed_known : (S U : Site) (s r : ResolvedStrategy) (T : Site) → HandsKnown S s r T → IsKnownAs S U s r T
handed_known S U id r T h = elim h [ ]
handed_known S U fail r T h = elim h [ ]
handed_known S U (seq s1 s2) r T h = elim h [ ]
handed_known S U (choice s1 s2 s3) r T h = elim h [ ]
handed_known S U (match p) r T h = elim h [ ]
handed_known S U (build p) r T h = elim h [ ]
handed_known S U (scope k s) r T h = elim h [ ]
handed_known S U (all s) r T h = elim h [ ]
handed_known S U (one s) r T h = elim h [ ]
handed_known S U (some s) r T h = elim h [ ]
handed_known S U (with_definitions ds s) r T h = elim h [ ]
handed_known S U (call y vs ps) r T h = record { given = λ ss ks rest. parameter_given {y = y} h rest }
handed_known S U (primitive f ps) r T h = elim h [ ]

pub handed_over : (S U : Site) (s : ResolvedStrategy) (how : Handing) (k : Known) → how ≡ Inlined k →
    HandsOver S s how → IsKnownAs S U s (strategy_of (out-Known k).strategy.now) (site_of (out-Known k).layers.now)
handed_over S U s how k is h =
    let read : HandsKnown S s (known_of k).strategy (known_of k).site →
    IsKnownAs S U s (strategy_of (out-Known k).strategy.now) (site_of (out-Known k).layers.now) =
    λ given. subst (λ a. IsKnownAs S U s a.strategy a.site) (known_reads k) (handed_known S U s _ _ given) in
    read (subst (λ w. HandsOver S s w) is h)

-- a strategy that looks at nothing but the second layers
pub own_known : (S T : Site) (s : ResolvedStrategy) → HasOwnCode (context S) s →
    StrategyInRange (program_layers (context T)) s → IsKnownAs S T s s T
own_known S T s own range = record { given = λ ss ks rest. own_given own range rest }

-- one argument after another
pub known_next : (S T : Site) (ss : List CoreStrategy) (i : ℕ) (d : CoreStrategy) (made : List Known) (k : Known) →
    i < length ss → KnownSoFar S T ss (drop i ss) made →
    IsKnownAs S T (strategy_of (get_or ss i d)) (strategy_of k.strategy.now) (site_of k.layers.now) →
    KnownSoFar S T ss (drop (i + 1) ss) (made ++ k ∷ [])
known_next S T ss i d made k below so_far is_known ks rest =
    let more : AreGivenAt S T (strategies_of (drop i ss)) (arguments_in (known_of k ∷ ks)) =
    subst (λ a. AreGivenAt S T (strategies_of (drop i ss)) (more_known a.strategy a.site (arguments_in ks)))
    (sym (known_reads k))
    (subst (λ xs. AreGivenAt S T (strategies_of xs)
    (more_known (strategy_of k.strategy.now) (site_of k.layers.now) (arguments_in ks)))
    (sym (drop_more ss i d below)) (is_known.given _ _ rest)) in
    subst (λ xs. AreGivenAt S T (strategies_of ss) (arguments_in xs))
    (sym (ap (λ xs. xs ++ ks) (map-append known_of made (k ∷ [])) ∙
    append_assoc (map known_of made) (known_of k ∷ []) ks))
    (so_far (known_of k ∷ ks) more)

pub known_done : (S T : Site) (ss : List CoreStrategy) (n : ℕ) (made : List Known) → length ss ≤ n →
    KnownSoFar S T ss (drop n ss) made → AreGivenAt S T (strategies_of ss) (arguments_of made)
known_done S T ss n made whole so_far =
    subst (λ xs. AreGivenAt S T (strategies_of ss) (arguments_in xs)) (append-nil (map known_of made))
    (so_far [] (subst (λ xs. AreGivenAt S T (strategies_of xs) no_known) (sym (drop_of_length-le ss whole)) none_given))

pub frameless_done : (S T : Site) (ss : List CoreStrategy) (n : ℕ) (made : List Known) → T ≡ without_frames S →
    length ss ≤ n → KnownSoFar S T ss (drop n ss) made → AreGiven S (strategies_of ss) (arguments_of made)
frameless_done S T ss n made is whole so_far =
    subst (λ U. AreGivenAt S U (strategies_of ss) (arguments_of made)) is (known_done S T ss n made whole so_far)

-- the strategy parameters of a layer, in order, are the arguments that are known there
parameter_there : (S T : Site) (n i : ℕ) (s r : ResolvedStrategy) (ss : ResolvedStrategies) (ks : KnownArguments) →
    IsParameter n i s → IsGiven (outside_of S n) i r T → AreGiven S ss ks →
    AreGiven S (more_strategies s ss) (more_known r T ks)
parameter_there S T n i id r ss ks h given rest = elim h [ ]
parameter_there S T n i fail r ss ks h given rest = elim h [ ]
parameter_there S T n i (seq s1 s2) r ss ks h given rest = elim h [ ]
parameter_there S T n i (choice s1 s2 s3) r ss ks h given rest = elim h [ ]
parameter_there S T n i (match p) r ss ks h given rest = elim h [ ]
parameter_there S T n i (build p) r ss ks h given rest = elim h [ ]
parameter_there S T n i (scope k s) r ss ks h given rest = elim h [ ]
parameter_there S T n i (all s) r ss ks h given rest = elim h [ ]
parameter_there S T n i (one s) r ss ks h given rest = elim h [ ]
parameter_there S T n i (some s) r ss ks h given rest = elim h [ ]
parameter_there S T n i (with_definitions ds s) r ss ks h given rest = elim h [ ]
parameter_there S T n i (call y vs ps) r ss ks h given rest =
    parameter_given {y = y} (subst (λ m. IsGiven (outside_of S m) y.slot r T) (sym h.0)
    (subst (λ j. IsGiven (outside_of S n) j r T) (sym h.1) given)) rest
parameter_there S T n i (primitive f ps) r ss ks h given rest = elim h [ ]

parameters_there : (S : Site) (n i : ℕ) (ss : ResolvedStrategies) (ks : KnownArguments) →
    number_of_knowns (knowns ks) ≡ strategies_count ss →
    ((j : ℕ) (s : ResolvedStrategy) (T : Site) → IsArgument ks j s T → IsGiven (outside_of S n) (i + j) s T) →
    AreParameters n i ss → AreGiven S ss ks
parameters_there S n i no_strategies no_known many given h = none_given
parameters_there S n i no_strategies (more_known r T ks) many given h = absurd (omega (arith, many))
parameters_there S n i (more_strategies s ss) no_known many given h = absurd (omega (arith, many))
parameters_there S n i (more_strategies s ss) (more_known r T ks) many given h =
    let first : i + 0 ≡ i = omega arith in
    parameter_there S T n i s r ss ks h.0 (subst (λ j. IsGiven (outside_of S n) j r T) first (given 0 r T (refl, refl)))
    (parameters_there S n (suc i) ss ks (omega (arith, many))
    (λ j t U there. let next : i + suc j ≡ suc i + j = omega arith in
    subst (λ k. IsGiven (outside_of S n) k t U) next (given (suc j) t U there)) h.1)

specialization_stripped : (S : Site) (i l r : ℕ) (ks : KnownArguments) (T : Site) →
    IsSpecialization (stripped S) i l r ks T → IsSpecialization S i l r ks T
specialization_stripped outermost i l r ks T h = h
specialization_stripped (in_frame m k S) i l r ks T h = h
specialization_stripped (in_places k offset S) i l r ks T h = h
specialization_stripped (in_definitions ds label S) i l r ks T h = h
specialization_stripped (in_specialization slot label room k bs S) i l r ks T h = h
specialization_stripped (in_call bs S) i l r ks T h = h
specialization_stripped (in_open_call bs S) i l r ks T h = h
specialization_stripped (without_frames S) i l r ks T h = specialization_stripped S i l r ks T h

outer_more : (C : Context) (n : ℕ) → outer C (suc n) ≡ outer (outer C n) 1
outer_more C zero = refl
outer_more top (suc n) = refl
outer_more (framed m k C) (suc n) = outer_more C n
outer_more (within k offset C) (suc n) = outer_more C n
outer_more (defining ds es C) (suc n) = outer_more C n
outer_more (known k ks C) (suc n) = outer_more C n
outer_more (hidden ks C) (suc n) = outer_more C n
outer_more (open_call ks C) (suc n) = outer_more C n

-- the definitions of the program are around the layer of a specialization
around_specialization : (S : Site) (i l r : ℕ) (ks : KnownArguments) (ds : ResolvedDefinitions) (label : ℕ) →
    IsSpecialization S i l r ks (in_definitions ds label outermost) →
    outer (context S) 1 ≡ context (in_definitions ds label outermost)
around_specialization outermost i l r ks ds label h = elim h [ ]
around_specialization (in_frame m k S) i l r ks ds label h = elim h [ ]
around_specialization (in_places k offset S) i l r ks ds label h = elim h [ ]
around_specialization (in_definitions es first S) i l r ks ds label h = elim h [ ]
around_specialization (in_specialization slot own room k bs S) i l r ks ds label h = ap context h.4
around_specialization (in_call bs S) i l r ks ds label h = elim h [ ]
around_specialization (in_open_call bs S) i l r ks ds label h = elim h [ ]
around_specialization (without_frames S) i l r ks ds label h =
    outer_unframed (context S) 1 ∙ ap unframed (around_specialization S i l r ks ds label h)

-- the specialization that the code is in, called with its own parameters
pub own_called : (S : Site) (n : ℕ) (y : Coordinate) (L : declared.Layers) (slot label room k : ℕ)
    (ks : Bor (List Known)) (up : Bor declared.Layers) (ss : List CoreStrategy) (own : Own) →
    y.layers_up ≡ suc n → site_of L ≡ stripped (outside_of S n) → L ≡ code.Specialized slot label room k ks up →
    slot ≡ y.slot → length ks.now ≡ length ss → IsOfProgram (site_of up.now) →
    AreParameters n 0 (strategies_of ss) → own.label ≡ label → own.room ≡ room → IsOwn S y (strategies_of ss) own
own_called S n y L slot label room k ks up ss own next reached layer position many program parameters is_label is_room =
    let here : stripped (outside_of S n) ≡ in_specialization slot label room k (arguments_of ks.now) (site_of up.now) =
    sym reached ∙ ap site_of layer ∙ site_specialized slot label room k ks up in
    let its : IsSpecialization (outside_of S n) y.slot own.label own.room (arguments_of ks.now)
    (in_definitions program.definitions program.first_label outermost) =
    specialization_stripped (outside_of S n) _ _ _ _ _
    (subst (λ T. IsSpecialization T y.slot own.label own.room (arguments_of ks.now)
    (in_definitions program.definitions program.first_label outermost)) (sym here)
    (position, sym is_label, sym is_room, refl, program.is)) in
    record {
      layers_up = n;
      arguments = arguments_of ks.now;
      definitions = program.definitions;
      first_label = program.first_label;
      called = ap (outer (context S)) next ∙ outer_more (context S) n ∙
          ap (λ C. outer C 1) (sym (context_outside S n)) ∙ around_specialization (outside_of S n) _ _ _ _ _ _ its;
      given = parameters_there S n 0 (strategies_of ss) (arguments_of ks.now) (arguments_counted ks.now ∙ many ∙
          sym (counted_strategies ss))
          (λ j s T there. let at : j ≡ 0 + j = omega arith in
          subst (λ k. IsGiven (outside_of S n) k s T)
          at (given_stripped (outside_of S n) j s T (subst (λ U. IsGiven U j s T) (sym here) there))) parameters;
      is = its;
    }
