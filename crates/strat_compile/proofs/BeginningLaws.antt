-- What patterns of the code ask of roots, and which strategies of the code begin with a match.
use Rattle.std.proofs.Common.{◌≡◌, ℕ, suc, Bool, List, [], ◌∷◌, map, length, Option, Some, None, is_some, refl, ap, ap₂, sym, ◌∙◌, subst, Box, Vec, Global}
use Rattle.core_lang.specs.declared.coordinate.Coordinate.{Coordinate}
use Rattle.core_lang.specs.declared.program.CorePattern.{CorePattern}
use Rattle.core_lang.specs.declared.program.CorePattern.TheVariants as patterns
use Rattle.core_lang.specs.declared.program.CoreStrategy.{CoreStrategy}
use Rattle.core_lang.specs.declared.program.CoreStrategy.TheVariants as strategies
use Rattle.term_model.specs.Symbol.{Symbol}
use Rattle.core_lang.specs.declared.program.CoreArm.{CoreArm}
use Rattle.core_lang.specs.declared.program.CoreDef.{CoreDef}
use Rattle.core_lang.specs.declared.program.CoreStrategy.TheOpen as forms
use Rattle.core_lang.specs.declared.program.CoreStrategy.TheFolds.{fold_out-CoreStrategy, map-CoreStrategy}
use Rattle.core_lang.specs.declared.program.CoreStrategy.TheViews.{roll-CoreStrategy, out-CoreStrategy, roll-out-CoreStrategy}
use Rattle.core_lang.specs.Program.{Pattern, Strategy, id, fail, seq, choice, match, build, scope, all, one, some, with_definitions, call, primitive}
use Rattle.core_lang.specs.Resolved.{ResolvedStrategy}
use Rattle.core_lang.specs.Roots.{Root, symbol_root, list_root, count_of_patterns, count_of_elements, is_open, root_of, Begins, begins_match, begins_seq, begins_scope}
use Rattle.core_lang.specs.Views.{Arm, Def, pattern_of, patterns_in, elements_in, rest_of, strategy_of, arm_of, def_of, strategy_step, arm_step, def_step}
use Rattle.strat_compile.specs.Emission.{BeginsNot}
use Rattle.core_lang.proofs.ReadLaws.{reads_alias, reads_applied, reads_list, reads_annotated, reads_match, reads_sequence, reads_scope}

patterns_counted : (ps : List CorePattern) → count_of_patterns (patterns_in (map pattern_of ps)) ≡ length ps
patterns_counted [] = refl
patterns_counted (p ∷ ps) = ap suc (patterns_counted ps)

elements_counted : (ps : List CorePattern) (rest : Option (Pattern Coordinate)) →
    count_of_elements (elements_in (map pattern_of ps) rest) ≡ length ps
elements_counted [] None = refl
elements_counted [] (Some p) = refl
elements_counted (p ∷ ps) rest = ap suc (elements_counted ps rest)

opened : (ps : List CorePattern) (rest : Option (Box CorePattern Global)) →
    is_open (elements_in (map pattern_of ps) (rest_of rest)) ≡ is_some rest
opened [] None = refl
opened [] (Some p) = refl
opened (p ∷ ps) rest = opened ps rest

pub asked_alias : (p q : CorePattern) (x : Coordinate) (part : Box CorePattern Global) (r : Root) →
    p ≡ patterns.Alias x part → q ≡ part.value → r ≡ root_of (pattern_of q) → r ≡ root_of (pattern_of p)
asked_alias p q x part r is inner h =
    h ∙ ap (λ d. root_of (pattern_of d)) inner ∙ sym (ap root_of (ap pattern_of is ∙ reads_alias x part))

pub asked_annotated : (p q : CorePattern) (part : Box CorePattern Global) (qs : Vec CorePattern Global) (r : Root) →
    p ≡ patterns.Annotated part qs → q ≡ part.value → r ≡ root_of (pattern_of q) → r ≡ root_of (pattern_of p)
asked_annotated p q part qs r is inner h =
    h ∙ ap (λ d. root_of (pattern_of d)) inner ∙ sym (ap root_of (ap pattern_of is ∙ reads_annotated part qs))

pub asked_symbol : (p : CorePattern) (f g : Symbol) (ps : Vec CorePattern Global) (n : ℕ) → p ≡ patterns.Applied f ps →
    g ≡ f → n ≡ length ps.items → symbol_root g n ≡ root_of (pattern_of p)
asked_symbol p f g ps n is same parts = ap₂ (λ h k. symbol_root h k) same (parts ∙ sym (patterns_counted ps.items)) ∙
    sym (ap root_of (ap pattern_of is ∙ reads_applied f ps))

pub asked_list : (p : CorePattern) (ps : Vec CorePattern Global) (rest : Option (Box CorePattern Global)) (n : ℕ)
    (o : Bool) → p ≡ patterns.List ps rest → n ≡ length ps.items → o ≡ is_some rest →
    list_root n o ≡ root_of (pattern_of p)
asked_list p ps rest n o is parts more =
    ap₂ (λ k b. list_root k b) (parts ∙ sym (elements_counted ps.items (rest_of rest))) (more ∙
    sym (opened ps.items rest)) ∙ sym (ap root_of (ap pattern_of is ∙ reads_list ps rest))

begins_as : {s t : ResolvedStrategy} {q r : Root} {m n : ℕ} → t ≡ s → q ≡ r → m ≡ n → Begins s r n → Begins t q m
begins_as {s} {t} {q} {r} {m} {n} is same nodes h =
    subst (λ u. Begins u q m) (sym is) (subst (λ a. Begins s a m) (sym same) (subst (λ k. Begins s r k) (sym nodes) h))

pub match_begins : (s : CoreStrategy) (p : CorePattern) (r : Root) → s ≡ strategies.Match p →
    r ≡ root_of (pattern_of p) → Begins (strategy_of s) r 1
match_begins s p r is asked = begins_as (ap strategy_of is ∙ reads_match p) asked refl begins_match

pub sequence_begins : (s a' : CoreStrategy) (a b : Box CoreStrategy Global) (more : Vec CoreStrategy Global) (r : Root)
    (n m : ℕ) → s ≡ strategies.Sequence a b more → a' ≡ a.value →
    Begins (strategy_of a') r n → m ≡ suc n → Begins (strategy_of s) r m
sequence_begins s a' a b more r n m is first h nodes =
    begins_as (ap strategy_of is ∙
    reads_sequence a b more) refl nodes (begins_seq (begins_as (ap strategy_of (sym first)) refl refl h))

pub scope_begins : (s a' : CoreStrategy) (k : ℕ) (a : Box CoreStrategy Global) (r : Root) (n m : ℕ) →
    s ≡ strategies.Scope k a → a' ≡ a.value →
    Begins (strategy_of a') r n → m ≡ suc n → Begins (strategy_of s) r m
scope_begins s a' k a r n m is body h nodes =
    begins_as (ap strategy_of is ∙
    reads_scope k a) refl nodes (begins_scope (begins_as (ap strategy_of (sym body)) refl refl h))

abbrev MayBegin : ResolvedStrategy → Type 0
MayBegin id = ⊥
MayBegin fail = ⊥
MayBegin (seq s1 s2) = Unit {0}
MayBegin (choice s1 s2 s3) = ⊥
MayBegin (match p) = Unit {0}
MayBegin (build p) = ⊥
MayBegin (scope k s) = Unit {0}
MayBegin (all s) = ⊥
MayBegin (one s) = ⊥
MayBegin (some s) = ⊥
MayBegin (with_definitions ds s) = ⊥
MayBegin (call y ss ps) = ⊥
MayBegin (primitive f ps) = ⊥

may_begin : {s : ResolvedStrategy} {r : Root} {n : ℕ} → Begins s r n → MayBegin s
may_begin begins_match = tt
may_begin (begins_seq h) = tt
may_begin (begins_scope h) = tt

in_sequence : {s1 s2 : ResolvedStrategy} {r : Root} {n : ℕ} → BeginsNot s1 → Begins (seq s1 s2) r n → ⊥
in_sequence none (begins_seq h) = none.never _ _ h

in_scope : {k : ℕ} {s : ResolvedStrategy} {r : Root} {n : ℕ} → BeginsNot s → Begins (scope k s) r n → ⊥
in_scope none (begins_scope h) = none.never _ _ h

not_as : {s t : ResolvedStrategy} → t ≡ s → BeginsNot s → BeginsNot t
not_as is h = subst BeginsNot (sym is) h

pub sequence_not : (s a' : CoreStrategy) (a b : Box CoreStrategy Global) (more : Vec CoreStrategy Global) →
    s ≡ strategies.Sequence a b more → a' ≡ a.value → BeginsNot (strategy_of a') → BeginsNot (strategy_of s)
sequence_not s a' a b more is first h =
    not_as (ap strategy_of is ∙
    reads_sequence a b more)
    (record { never = λ r n begins. in_sequence (not_as (ap strategy_of (sym first)) h) begins })

pub scope_not : (s a' : CoreStrategy) (k : ℕ) (a : Box CoreStrategy Global) → s ≡ strategies.Scope k a → a' ≡ a.value →
    BeginsNot (strategy_of a') → BeginsNot (strategy_of s)
scope_not s a' k a is body h =
    not_as (ap strategy_of is ∙
    reads_scope k a) (record { never = λ r n begins. in_scope (not_as (ap strategy_of (sym body)) h) begins })

opened_not : (d : CoreStrategy) → ((p : CorePattern) → d ≡ strategies.Match p → ⊥) →
    ((a b : Box CoreStrategy Global) (more : Vec CoreStrategy Global) → d ≡ strategies.Sequence a b more → ⊥) →
    ((k : ℕ) (a : Box CoreStrategy Global) → d ≡ strategies.Scope k a → ⊥) →
    (f : forms.CoreStrategy-F CoreStrategy CoreArm CoreDef) → roll-CoreStrategy f ≡ d →
    MayBegin (strategy_step (map-CoreStrategy CoreStrategy CoreArm CoreDef (Strategy Coordinate ℕ)
    Arm Def strategy_of arm_of def_of f)) → ⊥
opened_not d m q s forms.Id is h = h
opened_not d m q s forms.Fail is h = h
opened_not d m q s (forms.Sequence a b more) is h = q a b more (sym is ∙ strategies.rolls-Sequence a b more)
opened_not d m q s (forms.Choice a more otherwise) is h = h
opened_not d m q s (forms.Match p) is h = m p (sym is ∙ strategies.rolls-Match p)
opened_not d m q s (forms.Build p) is h = h
opened_not d m q s (forms.Scope k a) is h = s k a (sym is ∙ strategies.rolls-Scope k a)
opened_not d m q s (forms.All a) is h = h
opened_not d m q s (forms.One a) is h = h
opened_not d m q s (forms.Some a) is h = h
opened_not d m q s (forms.LetIn ds a) is h = h
opened_not d m q s (forms.Call x ss ps) is h = h
opened_not d m q s (forms.Primitive f ps) is h = h

pub other_not : (d : CoreStrategy) → ((p : CorePattern) → d ≡ strategies.Match p → ⊥) →
    ((a b : Box CoreStrategy Global) (more : Vec CoreStrategy Global) → d ≡ strategies.Sequence a b more → ⊥) →
    ((k : ℕ) (a : Box CoreStrategy Global) → d ≡ strategies.Scope k a → ⊥) → BeginsNot (strategy_of d)
other_not d m q s =
    not_as (fold_out-CoreStrategy (Strategy Coordinate ℕ) Arm Def strategy_step arm_step def_step d)
    (record {
      never = λ r n begins. opened_not d m q s (out-CoreStrategy d) (roll-out-CoreStrategy d) (may_begin begins);
    })
