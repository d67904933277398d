-- The entries of labelled definitions, and what a layer more stands for.
use Rattle.std.proofs.Common.{◌≡◌, ◌+◌, ◌<◌, ◌≤◌, ℕ, zero, suc, Bool, true, false, List, [], ◌∷◌, length, get_or, refl, ap, sym, ◌∙◌, subst, arith}
use Rattle.std.specs.Borrow.{Bor}
use Rattle.std.specs.Prelude.{Result, Ok, Err, IfOk}
use Rattle.core_lang.specs.declared.program.CoreDef.{CoreDef}
use Rattle.core_lang.specs.Resolved.{ResolvedStrategy}
use Rattle.core_lang.specs.Views.{def_of, definitions_of, strategy_of}
use Rattle.strat_code.specs.Code.{entry_at}
use Rattle.strat_code.specs.Context.{Context, hidden, no_knowns, IsKnown, outer, frames_in, slot_in}
use Rattle.strat_code.specs.Ranges.{IsBody, first_body, later_body}
use Rattle.strat_compile.specs.declared.layers.Layers.TheVariants as code
use Rattle.strat_compile.specs.declared.layers.Layers.TheOpen as forms
use Rattle.strat_compile.specs.declared.layers.Layers as declared
use Rattle.strat_compile.specs.declared.layers.Callee.{Callee}
use Rattle.strat_compile.specs.declared.layers.Callee.TheVariants.{Definition, Given, Unknown}
use Rattle.strat_compile.specs.declared.layers.Known.{Known}
use Rattle.strat_compile.specs.declared.layers.ProgramDefinition.{ProgramDefinition}
use Rattle.strat_compile.specs.declared.layers.Layers.TheFolds.{fold-roll-Layers, fold_out-Known}
use Rattle.strat_compile.specs.declared.layers.Layers.TheViews.{out-Known}
use Rattle.strat_compile.specs.Layers.{CallsIn, IsDefined, KnownArgument, arguments_of, context_of, entry_in, known_of, known_step, layers_step, seen, site_of}
use Rattle.strat_compile.specs.Sites.{Site, KnownArguments, IsArgument, context, in_call, in_definitions, in_frame, in_places, in_specialization, knowns, labelled, outermost, room_for, stripped, unframed, without_frames}
use Rattle.strat_compile.proofs.SiteLaws.{frames_unframed, given_stripped, outer_unframed, slot_unframed, unframed_twice}

pub entry_within : (ds : List CoreDef) (n i : ℕ) (d : CoreDef) → i < length ds →
    entry_in (labelled n (definitions_of ds)) i ≡ entry_at (n + i) (room_for (def_of (get_or ds i d)).body)
entry_within [] n i d h = absurd (omega (arith, h))
entry_within (c ∷ ds) n zero d h = ap (λ k. entry_at k (room_for (def_of c).body)) (omega arith)
entry_within (c ∷ ds) n (suc i) d h =
    entry_within ds (suc n) i d (omega (arith, h)) ∙
    ap (λ k. entry_at k (room_for (def_of (get_or ds i d)).body)) (omega arith)

pub entry_past : (ds : List CoreDef) (n i : ℕ) → length ds ≤ i →
    entry_in (labelled n (definitions_of ds)) i ≡ entry_at 0 0
entry_past [] n i h = refl
entry_past (c ∷ ds) n zero h = absurd (omega (arith, h))
entry_past (c ∷ ds) n (suc i) h = entry_past ds (suc n) i (omega (arith, h))

-- a layer more
pub site_outermost : site_of code.Outermost ≡ outermost
site_outermost = ap site_of (sym code.rolls-Outermost) ∙
    fold-roll-Layers Site KnownArgument layers_step known_step forms.Outermost

pub site_framed : (m k : ℕ) (up : Bor declared.Layers) → site_of (code.Framed m k up) ≡ in_frame m k (site_of up.now)
site_framed m k up = ap site_of (sym (code.rolls-Framed m k up)) ∙
    fold-roll-Layers Site KnownArgument layers_step known_step (forms.Framed m k up)

pub site_within : (k offset : ℕ) (up : Bor declared.Layers) →
    site_of (code.Within k offset up) ≡ in_places k offset (site_of up.now)
site_within k offset up = ap site_of (sym (code.rolls-Within k offset up)) ∙
    fold-roll-Layers Site KnownArgument layers_step known_step (forms.Within k offset up)

pub site_defining : (ds : Bor (List CoreDef)) (label : ℕ) (up : Bor declared.Layers) →
    site_of (code.Defining ds label up) ≡ in_definitions (definitions_of ds.now) label (site_of up.now)
site_defining ds label up = ap site_of (sym (code.rolls-Defining ds label up)) ∙
    fold-roll-Layers Site KnownArgument layers_step known_step (forms.Defining ds label up)

pub site_specialized : (slot label room k : ℕ) (ks : Bor (List Known)) (up : Bor declared.Layers) →
    site_of (code.Specialized slot label room k ks up) ≡
    in_specialization slot label room k (arguments_of ks.now) (site_of up.now)
site_specialized slot label room k ks up =
    ap site_of (sym (code.rolls-Specialized slot label room k ks up)) ∙
    fold-roll-Layers Site KnownArgument layers_step known_step (forms.Specialized slot label room k ks up)

pub site_called : (ks : Bor (List Known)) (up : Bor declared.Layers) →
    site_of (code.Called ks up) ≡ in_call (arguments_of ks.now) (site_of up.now)
site_called ks up = ap site_of (sym (code.rolls-Called ks up)) ∙
    fold-roll-Layers Site KnownArgument layers_step known_step (forms.Called ks up)

pub site_frameless : (up : Bor declared.Layers) → site_of (code.Frameless up) ≡ without_frames (site_of up.now)
site_frameless up = ap site_of (sym (code.rolls-Frameless up)) ∙
    fold-roll-Layers Site KnownArgument layers_step known_step (forms.Frameless up)

pub known_reads : (k : Known) →
    known_of k ≡ record { strategy = strategy_of (out-Known k).strategy.now; site = site_of (out-Known k).layers.now }
known_reads k = fold_out-Known Site KnownArgument layers_step known_step k

-- a layer of which nothing is looked at
pub context_hidden : (ks : Bor (List Known)) (up : Bor declared.Layers) → ks.now ≡ [] →
    context_of (code.Called ks up) ≡ hidden no_knowns (context_of up.now)
context_hidden ks up none = ap context (site_called ks up) ∙
    ap (λ vs. hidden (knowns (arguments_of vs)) (context_of up.now)) none

-- a layer seen without frames
seen_unframed : (f : Bool) (C : Context) → unframed (seen f C) ≡ unframed C
seen_unframed false C = refl
seen_unframed true C = unframed_twice C

pub reached_frameless : (L : declared.Layers) (up : Bor declared.Layers) (n : ℕ) (f : Bool) (C : Context) →
    L ≡ code.Frameless up → seen f C ≡ outer (context_of up.now) n →
    unframed C ≡ outer (context_of L) n
reached_frameless L up n f C is h =
    sym (seen_unframed f C) ∙ ap unframed h ∙ sym (outer_unframed (context_of up.now) n) ∙
    ap (λ S. outer (context S) n) (sym (ap site_of is ∙ site_frameless up))

pub frames_frameless : (L : declared.Layers) (up : Bor declared.Layers) (n : ℕ) → L ≡ code.Frameless up →
    0 ≡ frames_in (context_of L) n
frames_frameless L up n is = sym (ap (λ S. frames_in (context S) n) (ap site_of is ∙ site_frameless up) ∙
    frames_unframed (context_of up.now) n)

pub slot_seen : (C : Context) (i : ℕ) (f : Bool) → f ≡ true → i ≡ slot_in (seen f C) i
slot_seen C i f is = sym (ap (λ g. slot_in (seen g C) i) is ∙ slot_unframed C i)

seen_slot : (f : Bool) (C : Context) (i : ℕ) → slot_in C i ≡ i → slot_in (seen f C) i ≡ i
seen_slot false C i h = h
seen_slot true C i h = slot_unframed C i

pub slot_frameless : (L : declared.Layers) (up : Bor declared.Layers) (i : ℕ) (f : Bool) → L ≡ code.Frameless up →
    i ≡ slot_in (seen f (context_of L)) i
slot_frameless L up i f is =
    sym (seen_slot f (context_of L) i (ap (λ S. slot_in (context S) i) (ap site_of is ∙ site_frameless up) ∙
    slot_unframed (context_of up.now) i))

-- the known argument at a position
pub argument_given : (ks : List Known) (i : ℕ) (d : Known) → i < length ks →
    IsArgument (arguments_of ks) i (known_of (get_or ks i d)).strategy (known_of (get_or ks i d)).site
argument_given [] i d h = absurd (omega (arith, h))
argument_given (k ∷ ks) zero d h = (refl, refl)
argument_given (k ∷ ks) (suc i) d h = argument_given ks i d (omega (arith, h))

pub argument_past : (ks : List Known) (i : ℕ) → length ks ≤ i → (s : ResolvedStrategy) (D : Context) →
    IsKnown (knowns (arguments_of ks)) i s D → ⊥
argument_past [] i past s D h = h
argument_past (k ∷ ks) zero past s D h = absurd (omega (arith, past))
argument_past (k ∷ ks) (suc i) past s D h = argument_past ks i (omega (arith, past)) s D h

-- what is called at a layer whose parameters are known
called_known : (f : Bool) (ks : KnownArguments) (S T : Site) (slot label room k i : ℕ) (c : Callee) →
    CallsIn (context (in_call ks S)) (in_call ks S) i c →
    CallsIn (seen f (context (in_specialization slot label room k ks T))) (in_specialization slot label room k ks T) i c
called_known f ks S T slot label room k i (Definition e) h = elim h.0 [ ]
called_known f ks S T slot label room k i (Given v) h = h
called_known false ks S T slot label room k i Unknown h = h
called_known true ks S T slot label room k i Unknown h = h

called_in_call : (f : Bool) (ks : KnownArguments) (S T : Site) (i : ℕ) (c : Callee) →
    CallsIn (context (in_call ks S)) (in_call ks S) i c → CallsIn (seen f (context (in_call ks T))) (in_call ks T) i c
called_in_call f ks S T i (Definition e) h = elim h.0 [ ]
called_in_call f ks S T i (Given v) h = h
called_in_call false ks S T i Unknown h = h
called_in_call true ks S T i Unknown h = h

pub calls_specialized : (L : declared.Layers) (slot label room k i : ℕ) (ks : Bor (List Known))
    (up : Bor declared.Layers) (f : Bool) (c : Callee) → L ≡ code.Specialized slot label room k ks up →
    ((S : Site) → CallsIn (context (in_call (arguments_of ks.now) S)) (in_call (arguments_of ks.now) S) i c) →
    CallsIn (seen f (context_of L)) (site_of L) i c
calls_specialized L slot label room k i ks up f c is h =
    subst (λ S. CallsIn (seen f (context S)) S i c) (sym (ap site_of is ∙ site_specialized slot label room k ks up))
    (called_known f (arguments_of ks.now) (site_of up.now) (site_of up.now) slot label room k i c (h (site_of up.now)))

pub calls_called : (L : declared.Layers) (i : ℕ) (ks : Bor (List Known)) (up : Bor declared.Layers) (f : Bool)
    (c : Callee) → L ≡ code.Called ks up →
    ((S : Site) → CallsIn (context (in_call (arguments_of ks.now) S)) (in_call (arguments_of ks.now) S) i c) →
    CallsIn (seen f (context_of L)) (site_of L) i c
calls_called L i ks up f c is h =
    subst (λ S. CallsIn (seen f (context S)) S i c) (sym (ap site_of is ∙ site_called ks up))
    (called_in_call f (arguments_of ks.now) (site_of up.now) (site_of up.now) i c (h (site_of up.now)))

called_unframed : (C : Context) (S : Site) (f : Bool) (i : ℕ) (c : Callee) → CallsIn (unframed C) S i c →
    CallsIn (seen f (unframed C)) (without_frames S) i c
called_unframed C S false i (Definition e) h = h
called_unframed C S false i (Given v) h = h
called_unframed C S false i Unknown h = h
called_unframed C S true i (Definition e) h = subst (λ D. CallsIn D S i (Definition e)) (sym (unframed_twice C)) h
called_unframed C S true i (Given v) h = h
called_unframed C S true i Unknown h = subst (λ D. CallsIn D S i Unknown) (sym (unframed_twice C)) h

pub calls_frameless : (L : declared.Layers) (i : ℕ) (up : Bor declared.Layers) (f : Bool) (c : Callee) →
    L ≡ code.Frameless up →
    CallsIn (unframed (context_of up.now)) (site_of up.now) i c → CallsIn (seen f (context_of L)) (site_of L) i c
calls_frameless L i up f c is h =
    subst (λ S. CallsIn (seen f (context S)) S i c) (sym (ap site_of is ∙ site_frameless up))
    (called_unframed (context_of up.now) (site_of up.now) f i c h)

-- what is called at a layer that was reached
calls_stripped : (C : Context) (S : Site) (i : ℕ) (c : Callee) → CallsIn C (stripped S) i c → CallsIn C S i c
calls_stripped C S i (Definition e) h = h
calls_stripped C S i (Given v) h = given_stripped S i _ _ h
calls_stripped C S i Unknown h = h

pub calls_reached : (C D : Context) (S T : Site) (i : ℕ) (c : Callee) → C ≡ D → T ≡ stripped S → CallsIn C T i c →
    CallsIn D S i c
calls_reached C D S T i c is site h =
    calls_stripped D S i c (subst (λ U. CallsIn D U i c) site (subst (λ E. CallsIn E T i c) is h))

-- the body of a definition
pub body_within : (ds : List CoreDef) (i : ℕ) (d : CoreDef) → i < length ds →
    IsBody (definitions_of ds) i (def_of (get_or ds i d)).strats (def_of (get_or ds i d)).terms
    (def_of (get_or ds i d)).body
body_within [] i d h = absurd (omega (arith, h))
body_within (c ∷ ds) zero d h = first_body
body_within (c ∷ ds) (suc i) d h = later_body (body_within ds i d (omega (arith, h)))

seen_program : (f : Bool) (ds : _) (label : ℕ) (C : Context) → C ≡ context (in_definitions ds label outermost) →
    seen f C ≡ context (in_definitions ds label outermost)
seen_program false ds label C is = is
seen_program true ds label C is = ap unframed is

pub is_defined : (C : Context) (i : ℕ) (p : ProgramDefinition) (f : Bool) (up : Bor declared.Layers) (d : CoreDef) →
    seen f (context_of p.layer.now) ≡ C →
    p.layer.now ≡ code.Defining p.defs p.first_label up → up.now ≡ code.Outermost → i < length p.defs.now →
    p.def.now ≡ get_or p.defs.now i d → IsDefined C i p
is_defined C i p f up d here layer none below is =
    let site : site_of p.layer.now ≡ in_definitions (definitions_of p.defs.now) p.first_label outermost =
    ap site_of layer ∙ site_defining p.defs p.first_label up ∙
    ap (λ S. in_definitions (definitions_of p.defs.now) p.first_label S) (ap site_of none ∙ site_outermost) in
    record {
      is = sym here ∙ seen_program f (definitions_of p.defs.now) p.first_label (context_of p.layer.now)
          (ap context site);
      layer = site;
      body = subst (λ e. IsBody (definitions_of p.defs.now) i (def_of e).strats (def_of e).terms (def_of e).body)
          (sym is) (body_within p.defs.now i d below);
    }

pub if_ok : {X E : Type 0} {P Q : X → Type 0} (r : Result X E) → ((v : X) → P v → Q v) → IfOk r P → IfOk r Q
if_ok (Ok v) f h = f v h
if_ok (Err e) f h = h

-- the layer of a call in place
pub site_in_call : (ks : Bor (List Known)) (vs : List Known) (up : Bor declared.Layers) → ks.now ≡ vs →
    site_of (code.Called ks up) ≡ in_call (arguments_of vs) (site_of up.now)
site_in_call ks vs up is = site_called ks up ∙ ap (λ ws. in_call (arguments_of ws) (site_of up.now)) is
