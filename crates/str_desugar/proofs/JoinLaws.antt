-- Alternatives in groups: one more body, and the definitions of all groups.
use Rattle.std.proofs.Common.{◌≡◌, ◌∙◌, ℕ, suc, ◌+◌, ◌<◌, Bool, true, false, ◌||◌, not, List, [], ◌∷◌, ◌++◌, map, filter, sym, refl, ap, ap₂, subst, true≢false, arith, length, get_or, take, add-one, one-add, length-append}
use Rattle.std.specs.Prelude.{if◌then◌else◌}
use Rattle.std.specs.List.{list_any, position_or_len}
use Rattle.std.proofs.Math.Seq.{take-suc}
use Rattle.std.proofs.lemmas.List.{length-map, length-take-le, take_all}
use Rattle.core_lang.specs.Named.{NamedStrategy, written}
use Rattle.core_lang.specs.Program.{id, choice, more_definitions}
use Rattle.core_lang.specs.Resolved.{ResolvedStrategy, here}
use Rattle.core_lang.specs.Views.{definitions_in, first_of}
use Rattle.str_syntax.specs.Trees.{Bytes}
use Rattle.str_desugar.specs.Alternatives.{Alternative, of_one_definition, firsts, first_success, definitions_among, definitions_of_all}
use Rattle.str_desugar.specs.Frames.{Frames, outermost, strategy_at, definitions_at, keys_of}
use Rattle.str_syntax.specs.Key.{Key}
use Rattle.str_desugar.specs.Keys.{named_key}
use Rattle.str_desugar.specs.Groups.{AreGrouped, Head, head_in, same_definition, first_heads, first_for, head_key, under_head, bodies_at, first_success_of, bodies_for, Gathered, gathered_for, with_body, plain_arm, joined}
use Rattle.str_desugar.proofs.FirstLaws.{found_first, position_within, AreApart, AreFirst, IsFirst, turned, alike, first_heads_apart, first_heads_first, first_heads_of}

-- ---- one more body

bodies_more : (d h : Head) (hs : List Head) (s : ResolvedStrategy) (ss : List ResolvedStrategy) →
    length hs ≡ length ss →
    bodies_for d (hs ++ h ∷ []) (ss ++ s ∷ []) ≡ bodies_for d hs ss ++ bodies_for d (h ∷ []) (s ∷ [])
bodies_more d h [] s [] e = refl
bodies_more d h [] s (t ∷ ss) e = absurd (omega (arith, e))
bodies_more d h (k ∷ hs) s [] e = absurd (omega (arith, e))
bodies_more d h (k ∷ hs) s (t ∷ ss) e = by (bodies_more d h hs s ss (omega (arith, e))) (same_definition d k) refl
  where
    more : List ResolvedStrategy
    more = bodies_for d (hs ++ h ∷ []) (ss ++ s ∷ [])

    by : more ≡ bodies_for d hs ss ++ bodies_for d (h ∷ []) (s ∷ []) → (b : Bool) → same_definition d k ≡ b →
        bodies_for d ((k ∷ hs) ++ h ∷ []) ((t ∷ ss) ++ s ∷ []) ≡ bodies_for d (k ∷ hs) (t ∷ ss) ++
        bodies_for d (h ∷ []) (s ∷ [])
    by rest true f =
        ap (λ c. if c then t ∷ more else more) f ∙ ap (λ l. t ∷ l) rest ∙
        sym (ap (λ c. (if c then t ∷ bodies_for d hs ss else bodies_for d hs ss) ++ bodies_for d (h ∷ []) (s ∷ [])) f)
    by rest false f =
        ap (λ c. if c then t ∷ more else more) f ∙ rest ∙
        sym (ap (λ c. (if c then t ∷ bodies_for d hs ss else bodies_for d hs ss) ++ bodies_for d (h ∷ []) (s ∷ [])) f)

append_none : (ss : List ResolvedStrategy) → ss ++ [] ≡ ss
append_none [] = refl
append_none (s ∷ ss) = ap (λ l. s ∷ l) (append_none ss)

module _ (h : Head) (hs : List Head) (s : ResolvedStrategy) (ss : List ResolvedStrategy)
    (same_length : length hs ≡ length ss) where
  -- what is gathered for one first head, before and after
  abbrev before : Head → Gathered
  before d = record { first = d; bodies = bodies_for d hs ss }

  abbrev afterwards : Head → Gathered
  afterwards d = record { first = d; bodies = bodies_for d (hs ++ h ∷ []) (ss ++ s ∷ []) }

  its_body : (d : Head) → same_definition h d ≡ true →
      afterwards d ≡ record { first = d; bodies = bodies_for d hs ss ++ s ∷ [] }
  its_body d e =
      ap (λ l. record { first = d; bodies = l })
      (bodies_more d h hs s ss same_length ∙
      ap (λ c. bodies_for d hs ss ++ (if c then s ∷ [] else [])) (turned h d true e))

  no_body : (d : Head) → same_definition h d ≡ false → afterwards d ≡ before d
  no_body d e =
      ap (λ l. record { first = d; bodies = l })
      (bodies_more d h hs s ss same_length ∙
      ap (λ c. bodies_for d hs ss ++ (if c then s ∷ [] else [])) (turned h d false e) ∙
      append_none (bodies_for d hs ss))

  none_gets_it : (ds : List Head) → list_any (same_definition h) ds ≡ false → map afterwards ds ≡ map before ds
  none_gets_it [] e = refl
  none_gets_it (d ∷ ds) e = by (none_gets_it ds) (same_definition h d) refl
    where
      by : (list_any (same_definition h) ds ≡ false → map afterwards ds ≡ map before ds) → (b : Bool) →
          same_definition h d ≡ b → map afterwards (d ∷ ds) ≡ map before (d ∷ ds)
      by rest true f = absurd (true≢false (sym (ap (λ b. b || list_any (same_definition h) ds) f) ∙ e))
      by rest false f = ap₂ (λ g gs. g ∷ gs) (no_body d f)
          (rest (sym (ap (λ b. b || list_any (same_definition h) ds) f) ∙ e))

  alike_among : (d : Head) (ds : List Head) → same_definition h d ≡ true →
      list_any (same_definition h) ds ≡ list_any (same_definition d) ds
  alike_among d [] e = refl
  alike_among d (k ∷ ds) e = ap₂ (λ b c. b || c) (alike h d k e) (alike_among d ds e)

  -- with it at the position of the first head like it
  placed : (ds : List Head) → AreApart ds →
      with_body (position_or_len (same_definition h) ds) s (map before ds) ≡ map afterwards ds
  placed [] e = refl
  placed (d ∷ ds) e = by (placed ds e.1) (same_definition h d) refl
    where
      by : with_body (position_or_len (same_definition h) ds) s (map before ds) ≡ map afterwards ds → (b : Bool) →
          same_definition h d ≡ b →
          with_body (position_or_len (same_definition h) (d ∷ ds)) s (map before (d ∷ ds)) ≡ map afterwards (d ∷ ds)
      by rest true f =
          ap (λ c. with_body (if not c then 1 + position_or_len (same_definition h) ds else 0) s (map before (d ∷ ds)))
          f ∙
          sym (ap₂ (λ g gs. g ∷ gs) (its_body d f) (none_gets_it ds (alike_among d ds f ∙ e.0)))
      by rest false f =
          ap (λ c. with_body (if not c then 1 + position_or_len (same_definition h) ds else 0) s (map before (d ∷ ds)))
          f ∙
          ap (λ n. with_body n s (map before (d ∷ ds))) (one-add (position_or_len (same_definition h) ds)) ∙
          ap₂ (λ g gs. g ∷ gs) (sym (no_body d f)) rest

-- ---- what one definition comes to

pub first_success_at : (F : Frames) (ss : List NamedStrategy) →
    first_success_of (map (strategy_at F) ss) ≡ strategy_at F (first_success ss)
first_success_at F [] = refl
first_success_at F (s ∷ []) = refl
first_success_at F (s ∷ t ∷ ss) = ap (λ r. choice (strategy_at F s) id r) (first_success_at F (t ∷ ss))

-- the last is what is tried where no arm is taken
pub first_success_arms : (ss : List ResolvedStrategy) (s : ResolvedStrategy) →
    first_success_of (ss ++ s ∷ []) ≡ first_of (map plain_arm ss) s
first_success_arms [] s = refl
first_success_arms (t ∷ []) s = refl
first_success_arms (t ∷ u ∷ ss) s = ap (λ r. choice t id r) (first_success_arms (u ∷ ss) s)

module _ (F : Frames) (heads : List Head) where
  abbrev body_under : Alternative → ResolvedStrategy
  body_under b = strategy_at (under_head F (first_for heads (head_in b))) b.body

  -- the bodies of one definition, each under its first head
  bodies_of : (a : Alternative) → IsFirst heads (head_in a) → (all : List Alternative) →
      bodies_for (head_in a) (map head_in all) (map body_under all) ≡
      map (strategy_at (under_head F (head_in a))) (map (λ b. b.body) (filter (of_one_definition a) all))
  bodies_of a first [] = refl
  bodies_of a first (b ∷ all) = by (bodies_of a first all) (of_one_definition a b) refl
    where
      these : List ResolvedStrategy
      these = bodies_for (head_in a) (map head_in all) (map body_under all)

      by : these ≡ map (strategy_at (under_head F (head_in a))) (map (λ d. d.body) (filter (of_one_definition a) all)) →
          (c : Bool) → of_one_definition a b ≡ c →
          bodies_for (head_in a) (map head_in (b ∷ all)) (map body_under (b ∷ all)) ≡
          map (strategy_at (under_head F (head_in a))) (map (λ d. d.body) (filter (of_one_definition a) (b ∷ all)))
      by rest true e =
          ap (λ c. if c then body_under b ∷ these else these) e ∙
          ap₂ (λ d l. strategy_at (under_head F d) b.body ∷ l) (first (head_in b) e) rest ∙
          sym (ap (λ c. map (strategy_at (under_head F (head_in a)))
          (map (λ d. d.body) (if c then b ∷ filter (of_one_definition a) all else filter (of_one_definition a) all))) e)
      by rest false e =
          ap (λ c. if c then body_under b ∷ these else these) e ∙ rest ∙
          sym (ap (λ c. map (strategy_at (under_head F (head_in a)))
          (map (λ d. d.body) (if c then b ∷ filter (of_one_definition a) all else filter (of_one_definition a) all))) e)

length_written : (xs : List Bytes) → length (map written xs) ≡ length xs
length_written [] = refl
length_written (x ∷ xs) = ap (λ n. suc n) (length_written xs)

module _ (F : Frames) (all : List Alternative) where
  abbrev their_heads : List Head
  their_heads = map head_in all

  -- ---- and all definitions
  joined_among : (some : List Alternative) → AreFirst their_heads (map head_in some) →
      definitions_in (map joined (gathered_for (map head_in some) their_heads (bodies_at F all))) ≡
      definitions_at F (definitions_among all some)
  joined_among [] e = refl
  joined_among (a ∷ some) e =
      λ i. more_definitions (here 0) (sym (length_written a.strategies) i) (sym (length_written a.terms) i)
      ((ap first_success_of (bodies_of F their_heads a e.0 all) ∙
      first_success_at (under_head F (head_in a)) (map (λ b. b.body) (filter (of_one_definition a) all))) i)
      (joined_among some e.1 i)

  keys_among : (some : List Alternative) →
      map named_key (map head_key (map head_in some)) ≡ keys_of (definitions_among all some)
  keys_among [] = refl
  keys_among (a ∷ some) =
      λ i. record {
        name = written a.name;
        strategies = sym (length_written a.strategies) i;
        terms =
            sym (length_written a.terms) i;
      } ∷ keys_among some i

  joined_firsts : definitions_in (map joined (gathered_for (first_heads their_heads) their_heads (bodies_at F all))) ≡
      definitions_at F (definitions_of_all all)
  joined_firsts =
      ap (λ ds. definitions_in (map joined (gathered_for ds their_heads (bodies_at F all)))) (first_heads_of all) ∙
      joined_among (firsts all) (subst (AreFirst their_heads) (first_heads_of all) (first_heads_first their_heads))

  keys_firsts : map named_key (map head_key (first_heads their_heads)) ≡ keys_of (definitions_of_all all)
  keys_firsts = ap (λ ds. map named_key (map head_key ds)) (first_heads_of all) ∙ keys_among (firsts all)

-- the definitions of the groups with these bodies
pub joined_all : (F : Frames) (all : List Alternative) (hs : List Head) (ss : List ResolvedStrategy) →
    map head_in all ≡ hs → ss ≡ bodies_at F all →
    definitions_in (map joined (gathered_for (first_heads hs) hs ss)) ≡ definitions_at F (definitions_of_all all)
joined_all F all hs ss e f =
    ap₂ (λ ks ts. definitions_in (map joined (gathered_for (first_heads ks) ks ts))) (sym e) f ∙ joined_firsts F all

pub keys_all : (all : List Alternative) (hs fs : List Head) (keys : List Key) → AreGrouped hs fs keys →
    map head_in all ≡ hs → map named_key keys ≡ keys_of (definitions_of_all all)
keys_all all hs fs keys grouped e =
    ap (λ ks. map named_key ks) (grouped.keyed ∙ ap (λ ks. map head_key ks) (grouped.first ∙ ap first_heads (sym e))) ∙
    keys_firsts outermost all

-- one more body, at the position of its group
pub body_placed : (h : Head) (all hs : List Head) (s : ResolvedStrategy) (ss : List ResolvedStrategy) →
    length hs ≡ length ss →
    with_body (position_or_len (same_definition h) (first_heads all)) s (gathered_for (first_heads all) hs ss) ≡
    gathered_for (first_heads all) (hs ++ h ∷ []) (ss ++ s ∷ [])
body_placed h all hs s ss e = placed h hs s ss e (first_heads all) (first_heads_apart all)

-- the groups of all heads have the bodies so far, one for each of the first heads up to here
pub record Gathers (heads : List Head) (index : ℕ) (bodies : List ResolvedStrategy)
    (gathered : List Gathered) : Type 0 where
  pub counted : length bodies ≡ index
  pub so_far : gathered ≡ gathered_for (first_heads heads) (take index heads) bodies

pub gathers_none : (heads : List Head) (gathered : List Gathered) → gathered ≡ gathered_for (first_heads heads) [] [] →
    Gathers heads 0 [] gathered
gathers_none heads gathered e = record { counted = refl; so_far = e }

pub gathers_more : (heads : List Head) (index : ℕ) (bodies : List ResolvedStrategy) (gathered after : List Gathered)
    (h : Head) (s : ResolvedStrategy) →
    Gathers heads index bodies gathered → index < length heads → h ≡ get_or heads index h →
    after ≡ with_body (position_or_len (same_definition h) (first_heads heads)) s gathered →
    Gathers heads (index + 1) (bodies ++ s ∷ []) after
gathers_more heads index bodies gathered after h s so_far in_range is made =
    let taken : length (take index heads) ≡ length bodies =
    length-take-le index heads (omega (arith, in_range)) ∙ sym so_far.counted in
    let more : take (index + 1) heads ≡ take index heads ++ h ∷ [] =
    rw add-one (take-suc heads index h in_range ∙ ap (λ k. take index heads ++ k ∷ []) (sym is)) in
    record {
      counted = length-append bodies (s ∷ []) ∙ ap (λ n. n + 1) so_far.counted;
      so_far =
          made ∙ ap (λ gs. with_body (position_or_len (same_definition h) (first_heads heads)) s gs) so_far.so_far ∙
          body_placed h heads (take index heads) s bodies taken ∙
          ap (λ hs. gathered_for (first_heads heads) hs (bodies ++ s ∷ [])) (sym more);
    }

pub gathers_all : (heads : List Head) (index : ℕ) (bodies : List ResolvedStrategy) (gathered : List Gathered) →
    Gathers heads index bodies gathered →
    length bodies ≡ length heads → gathered ≡ gathered_for (first_heads heads) heads bodies
gathers_all heads index bodies gathered all same_length =
    all.so_far ∙ ap (λ hs. gathered_for (first_heads heads) hs bodies)
    (take_all index heads (omega (arith, all.counted, same_length)))

-- each alternative has a group
pub group_within : (heads : List Head) (index : ℕ) (bodies : List ResolvedStrategy) (gathered : List Gathered)
    (h : Head) → Gathers heads index bodies gathered →
    index < length heads → h ≡ get_or heads index h →
    position_or_len (same_definition h) (first_heads heads) < length gathered
group_within heads index bodies gathered h so_far in_range is =
    let there : list_any (same_definition h) (first_heads heads) ≡ true = found_first heads index h in_range is in
    let counted : length gathered ≡ length (first_heads heads) =
    ap length so_far.so_far ∙
    length-map (first_heads heads) (λ d. record { first = d; bodies = bodies_for d (take index heads) bodies }) in
    rw counted (position_within (same_definition h) (first_heads heads) there)
