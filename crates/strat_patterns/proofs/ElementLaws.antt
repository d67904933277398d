-- What building several patterns makes, one after another.
use Rattle.std.proofs.Common.{◌≡◌, ℕ, ℤ, zero, suc, ◌+◌, ◌-◌, ◌<◌, ◌≤◌, Option, Some, None, List, [], ◌∷◌, ◌++◌, length, map, drop, take, get_or, refl, sym, ◌∙◌, ap, subst, arith, add-one}
use Rattle.std.specs.Prelude.{Bool, true, false, ◌&&◌, IsTrue, is_some, slice_get}
use Rattle.std.specs.Option.{option_map}
use Rattle.std.proofs.lemmas.List.{drop_all, length-map, map-append}
use Rattle.std.proofs.Math.Bool.{and-false}
use Rattle.std.proofs.Math.Seq.{drop-append_seam, take-append_seam}
use Rattle.core_lang.specs.declared.coordinate.Coordinate.{Coordinate}
use Rattle.core_lang.specs.Building.{value_in, with_front, made_like, made_with, applied_to, list_term, elements_of, instance, instances, element_instances}
use Rattle.core_lang.specs.Environment.{Bindings}
use Rattle.core_lang.specs.Program.{Pattern, anything, variable, alias, integer, applied, list, like, annotated, Patterns}
use Rattle.core_lang.specs.Views.{patterns_in, elements_in}
use Rattle.core_lang.proofs.ElementLaws.{elements_of_list, elements_of_application, elements_annotated, annotated_without, elements_with, with_none, with_again, like_with}
use Rattle.term_model.specs.Symbol.{Symbol}
use Rattle.term_model.specs.Space.{Space, Pushes}
use Rattle.term_model.specs.Term.{Tree, Trees, end, list_of, trees_of, fits, Fits, all_fit}
use Rattle.term_model.specs.TermParts.{parts_of, annos_of}
use Rattle.term_model.proofs.FitsLaws.{all_fit-last, annos_fit}
use Rattle.term_model.proofs.TermLemmas.{trees_of-list_of}
use Rattle.strat_patterns.specs.Builds.{IsBare, IsKept, BuiltStands, in_front, instances_then, joined_elements, Builds, AreBuilt, AreBuiltBefore, AreElements, TailStands, Puts}
use Rattle.strat_patterns.specs.declared.building.Built.{Built}
use Rattle.strat_patterns.specs.declared.building.Built.TheVariants as built
use Rattle.strat_patterns.specs.declared.building.Pushed.{Pushed}
use Rattle.strat_patterns.specs.declared.building.Pushed.TheVariants as pushed
use Rattle.strat_patterns.specs.declared.building.Elements.{Elements}
use Rattle.strat_patterns.specs.declared.building.Elements.TheVariants as elements
use Rattle.strat_steps.specs.References.{Places, AllPlaces, AllRefs}
use Rattle.strat_patterns.proofs.BuildingLaws.{front_end, slice_is}
use Rattle.strat_steps.proofs.ReferenceParts.{places_same}
use Rattle.strat_patterns.proofs.ReferenceLists.{refs_append, refs_of_all}

-- what was put on a stack
long_put : {X : Type 0} (xs ys : List X) → length xs ≤ length (xs ++ ys)
long_put [] ys = omega arith
long_put (x ∷ xs) ys = let h = long_put xs ys in omega arith

append_nothing : {X : Type 0} (xs : List X) → xs ≡ xs ++ []
append_nothing [] = refl
append_nothing (x ∷ xs) = ap (λ ys. x ∷ ys) (append_nothing xs)

append_assoc : {X : Type 0} (xs ys zs : List X) → (xs ++ ys) ++ zs ≡ xs ++ (ys ++ zs)
append_assoc [] ys zs = refl
append_assoc (x ∷ xs) ys zs = ap (λ us. x ∷ us) (append_assoc xs ys zs)

module _ {W R Y N : Type 0} {S : Space W R Y N} {w : W} {old new : List R} {Are : List R → Type 0} (p : Puts S w old new Are) (from : ℕ) (at : from ≡ length old) where
  put_is : drop from new ≡ p.put
  put_is = ap (λ k. drop k new) at ∙ (ap (drop (length old)) p.after ∙ drop-append_seam old p.put)

  pub kept_is : take from new ≡ old
  kept_is = ap (λ k. take k new) at ∙ (ap (take (length old)) p.after ∙ take-append_seam old p.put)

  pub put_within : from ≤ length new
  put_within = subst (λ xs. from ≤ length xs) (sym p.after) (subst (λ k. k ≤ length (old ++ p.put)) (sym at) (long_put old p.put))

  pub put_stands : AllRefs (λ r. IsTrue (S.stands w r)) (drop from new)
  put_stands = subst (λ xs. AllRefs (λ r. IsTrue (S.stands w r)) xs) (sym put_is) p.standing

  pub put_are : Are (drop from new)
  put_are = subst Are (sym put_is) p.are

pub puts_nothing : {W R Y N : Type 0} (S : Space W R Y N) (w : W) (old : List R) (Are : List R → Type 0) → Are [] → Puts S w old old Are
puts_nothing S w old Are h = record { put = []; after = append_nothing old; standing = tt; are = h }

pub puts_nothing_at : {W R Y N : Type 0} (S : Space W R Y N) (w : W) (old new : List R) → new ≡ old → (Are : List R → Type 0) → Are [] → Puts S w old new Are
puts_nothing_at S w old new is Are h = record { put = []; after = is ∙ append_nothing old; standing = tt; are = h }

pub puts_as : {W R Y N : Type 0} {S : Space W R Y N} {w : W} {old new : List R} {Are Be : List R → Type 0} → ((rs : List R) → Are rs → Be rs) → Puts S w old new Are → Puts S w old new Be
puts_as g p = record { put = p.put; after = p.after; standing = p.standing; are = g p.put p.are }

pub refs_later : {R : Type 0} {P Q : R → Type 0} → ((r : R) → P r → Q r) → (rs : List R) → AllRefs P rs → AllRefs Q rs
refs_later later [] h = tt
refs_later later (r ∷ rs) h = (later r h.0, refs_later later rs h.1)

pub refs_same : {R : Type 0} {P : R → Type 0} {f g : R → Tree} → ((r : R) → P r → g r ≡ f r) → (rs : List R) → AllRefs P rs → map g rs ≡ map f rs
refs_same same [] h = refl
refs_same {f = f} {g} same (r ∷ rs) h = ap (λ t. t ∷ map g rs) (same r h.0) ∙ ap (λ ts. f r ∷ ts) (refs_same same rs h.1)

-- annotations that were put on a stack
pub pushes_put : {W R Y N : Type 0} {S : Space W R Y N} {w : W} {ts : List Tree} {old new : List R} → Pushes S w ts old new → Puts S w old new (λ rs. map (S.term_of w) rs ≡ ts)
pushes_put {S = S} {w = w} p = record { put = p.pushed; after = p.after; standing = refs_of_all (λ r. IsTrue (S.stands w r)) p.pushed p.standing; are = p.are }

pub annos_built : {W R : Type 0} (term_of : W → R → Tree) (w : W) (v : Tree) (rs : List R) → Fits v → map (term_of w) rs ≡ annos_of v → AreBuilt term_of w (in_front (annos_of v)) rs pushed.All
annos_built term_of w v rs f is = (λ o. ap (λ ts. in_front ts o) (sym is), ap (λ ts. all_fit (trees_of ts)) is ∙ annos_fit v f)

pub are_built_later : {W R Y N : Type 0} (S : Space W R Y N) (w w1 : W) (all : Option Trees → Option Trees) (rs : List R) (p : Pushed) → ((r : R) → IsTrue (S.stands w r) → S.term_of w1 r ≡ S.term_of w r) → AllRefs (λ r. IsTrue (S.stands w r)) rs →
    AreBuilt S.term_of w all rs p → AreBuilt S.term_of w1 all rs p
are_built_later S w w1 all rs pushed.All same h k = let them = refs_same same rs h in (λ o. k.0 o ∙ ap (λ ts. in_front ts o) (sym them), ap (λ ts. all_fit (trees_of ts)) them ∙ k.1)
are_built_later S w w1 all rs pushed.NoInstance same h k = k
are_built_later S w w1 all rs pushed.Oversize same h k = k

-- what stands on a stack from an index on, as a slice of a stack with the same references
module _ {W R Y N : Type 0} (S : Space W R Y N) (w w1 : W) (from : ℕ) (xs old : List R) (is : xs ≡ old) (all_stand : AllRefs (λ r. IsTrue (S.stands w r)) (drop from old)) where
  pub slice_stands : ((r : R) → IsTrue (S.stands w r) → IsTrue (S.stands w1 r)) → AllRefs (λ r. IsTrue (S.stands w1 r)) (take (length xs - from) (drop from xs))
  slice_stands later = subst (λ rs. AllRefs (λ r. IsTrue (S.stands w1 r)) rs) (sym (slice_is from xs old is)) (refs_later later (drop from old) all_stand)

  pub slice_built : (all : Option Trees → Option Trees) (p : Pushed) → ((r : R) → IsTrue (S.stands w r) → S.term_of w1 r ≡ S.term_of w r) → AreBuilt S.term_of w all (drop from old) p → AreBuilt S.term_of w1 all (take (length xs - from) (drop from xs)) p
  slice_built all p same h = subst (λ rs. AreBuilt S.term_of w1 all rs p) (sym (slice_is from xs old is)) (are_built_later S w w1 all (drop from old) p same all_stand h)

-- terms in front of others
front_none : (ts : List Tree) → in_front ts None ≡ None
front_none [] = refl
front_none (t ∷ ts) = ap (λ o. with_front (Some t) o) (front_none ts)

front_all : (ts us : List Tree) → in_front ts (Some (trees_of us)) ≡ Some (trees_of (ts ++ us))
front_all [] us = refl
front_all (t ∷ ts) us = ap (λ o. with_front (Some t) o) (front_all ts us)

front_push : (ts : List Tree) (t : Tree) (o : Option Trees) → in_front ts (with_front (Some t) o) ≡ in_front (ts ++ t ∷ []) o
front_push [] t o = refl
front_push (u ∷ ts) t o = ap (λ v. with_front (Some u) v) (front_push ts t o)

front_more : (ts us : List Tree) (o : Option Trees) → in_front ts (in_front us o) ≡ in_front (ts ++ us) o
front_more [] us o = refl
front_more (t ∷ ts) us o = ap (λ v. with_front (Some t) v) (front_more ts us o)

both_fit : (ts us : List Tree) → all_fit (trees_of ts) ≡ true → all_fit (trees_of us) ≡ true → all_fit (trees_of (ts ++ us)) ≡ true
both_fit [] us h k = k
both_fit (t ∷ ts) us h k = by_first (fits t) h (λ l. both_fit ts us l k)
  where
    by_first : (b : Bool) → (b && all_fit (trees_of ts)) ≡ true → (all_fit (trees_of ts) ≡ true → all_fit (trees_of (ts ++ us)) ≡ true) → (b && all_fit (trees_of (ts ++ us))) ≡ true
    by_first true h go = go h
    by_first false h go = absurd (cc)

large_before : (ts us : List Tree) → all_fit (trees_of ts) ≡ false → all_fit (trees_of (ts ++ us)) ≡ false
large_before [] us h = absurd (cc)
large_before (t ∷ ts) us h = by_first (fits t) h (large_before ts us)
  where
    by_first : (b : Bool) → (b && all_fit (trees_of ts)) ≡ false → (all_fit (trees_of ts) ≡ false → all_fit (trees_of (ts ++ us)) ≡ false) → (b && all_fit (trees_of (ts ++ us))) ≡ false
    by_first true h go = go h
    by_first false h go = refl

large_after : (ts us : List Tree) → all_fit (trees_of us) ≡ false → all_fit (trees_of (ts ++ us)) ≡ false
large_after [] us h = h
large_after (t ∷ ts) us h = ap (λ b. fits t && b) (large_after ts us h) ∙ and-false (fits t)

-- the first elements of a list, and the others
module _ {W R Y N : Type 0} (S : Space W R Y N) (w : W) (f : Option Trees → Option Trees) where
  ended : (rs : List R) (p : Pushed) → AreBuilt S.term_of w f rs p → AreElements S w (f (Some end)) rs (joined_elements p elements.All)
  ended rs pushed.All h = h.0 (Some end) ∙ front_end (map (S.term_of w) rs)
  ended rs pushed.NoInstance h = h (Some end)
  ended rs pushed.Oversize h = (trees_of h.0, h.1 (Some end) ∙ front_end h.0, h.2)

  pub ended_puts : (all : Option Trees) (p : Pushed) (v : Elements R) (old new : List R) → all ≡ f (Some end) → v ≡ joined_elements p elements.All → Puts S w old new (λ rs. AreBuilt S.term_of w f rs p) →
      Puts S w old new (λ rs. AreElements S w all rs v)
  ended_puts all p v old new is at x = puts_as (λ rs h. subst (λ e. AreElements S w all rs e) (sym at) (subst (λ o. AreElements S w o rs (joined_elements p elements.All)) (sym is) (ended rs p h))) x

  joined_so : (o : Option Trees) (ts : List Tree) (rs us : List R) (others : Elements R) → ts ≡ map (S.term_of w) rs → ((o : Option Trees) → f o ≡ in_front ts o) → AreElements S w o us others →
      AreElements S w (f o) (rs ++ us) others
  joined_so o ts rs us elements.All same h k = h o ∙ (ap (in_front ts) k ∙ (front_all ts (map (S.term_of w) us) ∙ ap (λ xs. Some (trees_of xs)) (ap (λ xs. xs ++ map (S.term_of w) us) same ∙ sym (map-append (S.term_of w) rs us))))
  joined_so o ts rs us (elements.Before r) same h k = (
    k.0,
    k.1,
    h o ∙ (ap (in_front ts) k.2 ∙ (front_all ts (map (S.term_of w) us ++ parts_of (S.term_of w r)) ∙
        ap (λ xs. Some (trees_of xs)) (sym (append_assoc ts (map (S.term_of w) us) (parts_of (S.term_of w r))) ∙ ap (λ xs. xs ++ parts_of (S.term_of w r)) (ap (λ xs. xs ++ map (S.term_of w) us) same ∙ sym (map-append (S.term_of w) rs us))))),
  )
  joined_so o ts rs us elements.NoInstance same h k = h o ∙ (ap (in_front ts) k ∙ front_none ts)
  joined_so o ts rs us elements.Oversize same h k = (
    trees_of (ts ++ list_of k.0),
    h o ∙ (ap (in_front ts) (k.1 ∙ ap (λ x. Some x) (sym (trees_of-list_of k.0))) ∙ front_all ts (list_of k.0)),
    large_after ts (list_of k.0) (ap all_fit (trees_of-list_of k.0) ∙ k.2),
  )

  joined_large : (o : Option Trees) (ts : List Tree) (rs us : List R) (others : Elements R) → ((o : Option Trees) → f o ≡ in_front ts o) → all_fit (trees_of ts) ≡ false → AreElements S w o us others →
      AreElements S w (f o) (rs ++ us) (joined_elements pushed.Oversize others)
  joined_large o ts rs us elements.All h large k = (trees_of (ts ++ map (S.term_of w) us), h o ∙ (ap (in_front ts) k ∙ front_all ts (map (S.term_of w) us)), large_before ts (map (S.term_of w) us) large)
  joined_large o ts rs us (elements.Before r) h large k =
      (trees_of (ts ++ (map (S.term_of w) us ++ parts_of (S.term_of w r))), h o ∙ (ap (in_front ts) k.2 ∙ front_all ts (map (S.term_of w) us ++ parts_of (S.term_of w r))), large_before ts (map (S.term_of w) us ++ parts_of (S.term_of w r)) large)
  joined_large o ts rs us elements.NoInstance h large k = h o ∙ (ap (in_front ts) k ∙ front_none ts)
  joined_large o ts rs us elements.Oversize h large k =
      (trees_of (ts ++ list_of k.0), h o ∙ (ap (in_front ts) (k.1 ∙ ap (λ x. Some x) (sym (trees_of-list_of k.0))) ∙ front_all ts (list_of k.0)), large_before ts (list_of k.0) large)

  joined_are : (w1 : W) (o : Option Trees) (rs us : List R) (p : Pushed) (others : Elements R) → map (S.term_of w) rs ≡ map (S.term_of w1) rs → AreBuilt S.term_of w1 f rs p → AreElements S w o us others →
      AreElements S w (f o) (rs ++ us) (joined_elements p others)
  joined_are w1 o rs us pushed.All others same h k = joined_so o (map (S.term_of w1) rs) rs us others (sym same) h.0 k
  joined_are w1 o rs us pushed.NoInstance others same h k = h o
  joined_are w1 o rs us pushed.Oversize others same h k = joined_large o h.0 rs us others h.1 h.2 k

  pub joined_puts : (w1 : W) (all o : Option Trees) (p : Pushed) (others v : Elements R) (old middle new : List R) → ((r : R) → IsTrue (S.stands w1 r) → IsTrue (S.stands w r)) → ((r : R) → IsTrue (S.stands w1 r) → S.term_of w r ≡ S.term_of w1 r) → all ≡ f o → v ≡ joined_elements p others →
      Puts S w1 old middle (λ rs. AreBuilt S.term_of w1 f rs p) → Puts S w middle new (λ rs. AreElements S w o rs others) → Puts S w old new (λ rs. AreElements S w all rs v)
  joined_puts w1 all o p others v old middle new later same is at x y = record {
    put = x.put ++ y.put;
    after = y.after ∙ (ap (λ xs. xs ++ y.put) x.after ∙ append_assoc old x.put y.put);
    standing = refs_append (λ r. IsTrue (S.stands w r)) x.put y.put (refs_later later x.put x.standing) y.standing;
    are =
        subst (λ e. AreElements S w all (x.put ++ y.put) e) (sym at)
        (subst (λ q. AreElements S w q (x.put ++ y.put) (joined_elements p others)) (sym is) (joined_are w1 o x.put y.put p others (refs_same same x.put x.standing) x.are y.are));
  }

-- several patterns, one after another
module _ {W R Y N : Type 0} (S : Space W R Y N) where
  pub building_starts : (w : W) (all : Option Trees → Option Trees) (old : List R) → Puts S w old old (λ rs. AreBuiltBefore S.term_of w all all rs true)
  building_starts w all old = puts_nothing S w old (λ rs. AreBuiltBefore S.term_of w all all rs true) (λ o. refl, refl)

  all_built : (w : W) (all rest : Option Trees → Option Trees) (rs : List R) (fit : Bool) → ((v : Option Trees) → rest v ≡ v) → fit ≡ true → AreBuiltBefore S.term_of w all rest rs fit → AreBuilt S.term_of w all rs pushed.All
  all_built w all rest rs true is so h = (λ v. h.0 v ∙ ap (in_front (map (S.term_of w) rs)) (is v), h.1)
  all_built w all rest rs false is so h = absurd (cc)

  one_too_large : (w : W) (all rest : Option Trees → Option Trees) (rs : List R) (fit : Bool) → ((v : Option Trees) → rest v ≡ v) → fit ≡ false → AreBuiltBefore S.term_of w all rest rs fit → AreBuilt S.term_of w all rs pushed.Oversize
  one_too_large w all rest rs true is so h = absurd (cc)
  one_too_large w all rest rs false is so h = (h.0, λ v. h.1 v ∙ ap (in_front h.0) (is v), h.2)

  pub building_ends : (w : W) (all rest : Option Trees → Option Trees) (old new : List R) (fit : Bool) → ((v : Option Trees) → rest v ≡ v) → fit ≡ true → Puts S w old new (λ rs. AreBuiltBefore S.term_of w all rest rs fit) → Puts S w old new (λ rs. AreBuilt S.term_of w all rs pushed.All)
  building_ends w all rest old new fit is so x = puts_as (λ rs h. all_built w all rest rs fit is so h) x

  pub building_large : (w : W) (all rest : Option Trees → Option Trees) (old new : List R) (fit : Bool) → ((v : Option Trees) → rest v ≡ v) → fit ≡ false → Puts S w old new (λ rs. AreBuiltBefore S.term_of w all rest rs fit) → Puts S w old new (λ rs. AreBuilt S.term_of w all rs pushed.Oversize)
  building_large w all rest old new fit is so x = puts_as (λ rs h. one_too_large w all rest rs fit is so h) x

  module _ (w w1 : W) (all rest next : Option Trees → Option Trees) (later : (r : R) → IsTrue (S.stands w r) → IsTrue (S.stands w1 r)) (same : (r : R) → IsTrue (S.stands w r) → S.term_of w1 r ≡ S.term_of w r) (o : Option Tree) (is : (v : Option Trees) → rest v ≡ with_front o (next v)) where
    one_made : (rs : List R) (r : R) (fit : Bool) → map (S.term_of w1) rs ≡ map (S.term_of w) rs → o ≡ Some (S.term_of w1 r) → fits (S.term_of w1 r) ≡ true → AreBuiltBefore S.term_of w all rest rs fit → AreBuiltBefore S.term_of w1 all next (rs ++ r ∷ []) fit
    one_made rs r true terms at fit h =
        let them : map (S.term_of w1) (rs ++ r ∷ []) ≡ map (S.term_of w) rs ++ S.term_of w1 r ∷ [] = map-append (S.term_of w1) rs (r ∷ []) ∙ ap (λ ts. ts ++ S.term_of w1 r ∷ []) terms in (
          λ v. h.0 v ∙ (ap (in_front (map (S.term_of w) rs)) (is v ∙ ap (λ x. with_front x (next v)) at) ∙ (front_push (map (S.term_of w) rs) (S.term_of w1 r) (next v) ∙ ap (λ ts. in_front ts (next v)) (sym them))),
          ap (λ ts. all_fit (trees_of ts)) them ∙ (all_fit-last (map (S.term_of w) rs) (S.term_of w1 r) ∙ (ap (λ b. b && fits (S.term_of w1 r)) h.1 ∙ fit)),
        )
    one_made rs r false terms at fit h =
        (h.0 ++ S.term_of w1 r ∷ [], λ v. h.1 v ∙ (ap (in_front h.0) (is v ∙ ap (λ x. with_front x (next v)) at) ∙ front_push h.0 (S.term_of w1 r) (next v)), large_before h.0 (S.term_of w1 r ∷ []) h.2)

    one_large : (rs : List R) (t : Tree) (fit : Bool) → o ≡ Some t → fits t ≡ false → AreBuiltBefore S.term_of w all rest rs fit → AreBuiltBefore S.term_of w1 all next rs false
    one_large rs t true at large h = (
      map (S.term_of w) rs ++ t ∷ [],
      λ v. h.0 v ∙ (ap (in_front (map (S.term_of w) rs)) (is v ∙ ap (λ x. with_front x (next v)) at) ∙ front_push (map (S.term_of w) rs) t (next v)),
      all_fit-last (map (S.term_of w) rs) t ∙ (ap (λ b. all_fit (trees_of (map (S.term_of w) rs)) && b) large ∙ and-false (all_fit (trees_of (map (S.term_of w) rs)))),
    )
    one_large rs t false at large h =
        (h.0 ++ t ∷ [], λ v. h.1 v ∙ (ap (in_front h.0) (is v ∙ ap (λ x. with_front x (next v)) at) ∙ front_push h.0 t (next v)), large_before h.0 (t ∷ []) h.2)

    one_none : (rs : List R) (fit : Bool) → o ≡ None → AreBuiltBefore S.term_of w all rest rs fit → AreBuilt S.term_of w1 all rs pushed.NoInstance
    one_none rs true at h = λ v. h.0 v ∙ (ap (in_front (map (S.term_of w) rs)) (is v ∙ ap (λ x. with_front x (next v)) at) ∙ front_none (map (S.term_of w) rs))
    one_none rs false at h = λ v. h.1 v ∙ (ap (in_front h.0) (is v ∙ ap (λ x. with_front x (next v)) at) ∙ front_none h.0)

    pub building_next : (old middle new : List R) (b : Built R) (kept : Option Bool) (this fit now_fit : Bool) → Builds S w1 o b → IsKept b kept middle new → kept ≡ Some this → now_fit ≡ (fit && this) →
        Puts S w old middle (λ rs. AreBuiltBefore S.term_of w all rest rs fit) → Puts S w1 old new (λ rs. AreBuiltBefore S.term_of w1 all next rs now_fit)
    building_next old middle new (built.Made r) kept this fit now_fit made k at test x =
        let yes_so : this ≡ true = some_same (sym at ∙ k.0) in
        let as_before : now_fit ≡ fit = test ∙ (ap (λ b. fit && b) yes_so ∙ and_true fit) in
        record {
          put = x.put ++ r ∷ [];
          after = k.1 ∙ (ap (λ xs. xs ++ r ∷ []) x.after ∙ append_assoc old x.put (r ∷ []));
          standing = refs_append (λ u. IsTrue (S.stands w1 u)) x.put (r ∷ []) (refs_later later x.put x.standing) (made.0, tt);
          are = subst (λ b. AreBuiltBefore S.term_of w1 all next (x.put ++ r ∷ []) b) (sym as_before) (one_made x.put r fit (refs_same same x.put x.standing) made.1 made.2 x.are);
        }
      where
        some_same : {a b : Bool} → Some a ≡ Some b → a ≡ b
        some_same e = cc

        and_true : (b : Bool) → (b && true) ≡ b
        and_true true = refl
        and_true false = refl
    building_next old middle new built.NoInstance kept this fit now_fit made k at test x = absurd (differ (sym at ∙ k.0))
      where
        differ : Some this ≡ None → ⊥
        differ e = cc
    building_next old middle new built.Oversize kept this fit now_fit made k at test x =
        let no_so : this ≡ false = some_same (sym at ∙ k.0) in
        let not_now : now_fit ≡ false = test ∙ (ap (λ b. fit && b) no_so ∙ and-false fit) in
        record {
          put = x.put;
          after = k.1 ∙ x.after;
          standing = refs_later later x.put x.standing;
          are = subst (λ b. AreBuiltBefore S.term_of w1 all next x.put b) (sym not_now) (one_large x.put made.0 fit made.1 made.2 x.are);
        }
      where
        some_same : {a b : Bool} → Some a ≡ Some b → a ≡ b
        some_same e = cc

    pub building_stops : (old middle new : List R) (b : Built R) (kept : Option Bool) (fit : Bool) → Builds S w1 o b → IsKept b kept middle new → kept ≡ None →
        Puts S w old middle (λ rs. AreBuiltBefore S.term_of w all rest rs fit) → Puts S w1 old new (λ rs. AreBuilt S.term_of w1 all rs pushed.NoInstance)
    building_stops old middle new (built.Made r) kept fit made k at x = absurd (differ (sym k.0 ∙ at))
      where
        differ : Some true ≡ None → ⊥
        differ e = cc
    building_stops old middle new built.NoInstance kept fit made k at x = record { put = x.put; after = k.1 ∙ x.after; standing = refs_later later x.put x.standing; are = one_none x.put fit made x.are }
    building_stops old middle new built.Oversize kept fit made k at x = absurd (differ (sym k.0 ∙ at))
      where
        differ : Some false ≡ None → ⊥
        differ e = cc

  -- the instances of the patterns that were left, after the others
  module _ (w w1 : W) (all rest : Option Trees → Option Trees) (later : (r : R) → IsTrue (S.stands w r) → IsTrue (S.stands w1 r)) (same : (r : R) → IsTrue (S.stands w r) → S.term_of w1 r ≡ S.term_of w r) where
    built_after : (rs us : List R) (p : Pushed) → map (S.term_of w1) rs ≡ map (S.term_of w) rs → AreBuiltBefore S.term_of w all rest rs true → AreBuilt S.term_of w1 rest us p → AreBuilt S.term_of w1 all (rs ++ us) p
    built_after rs us pushed.All terms h k =
        let them : map (S.term_of w1) (rs ++ us) ≡ map (S.term_of w) rs ++ map (S.term_of w1) us = map-append (S.term_of w1) rs us ∙ ap (λ ts. ts ++ map (S.term_of w1) us) terms in (
          λ v. h.0 v ∙ (ap (in_front (map (S.term_of w) rs)) (k.0 v) ∙ (front_more (map (S.term_of w) rs) (map (S.term_of w1) us) v ∙ ap (λ ts. in_front ts v) (sym them))),
          ap (λ ts. all_fit (trees_of ts)) them ∙ both_fit (map (S.term_of w) rs) (map (S.term_of w1) us) h.1 k.1,
        )
    built_after rs us pushed.NoInstance terms h k = λ v. h.0 v ∙ (ap (in_front (map (S.term_of w) rs)) (k v) ∙ front_none (map (S.term_of w) rs))
    built_after rs us pushed.Oversize terms h k =
        (map (S.term_of w) rs ++ k.0, λ v. h.0 v ∙ (ap (in_front (map (S.term_of w) rs)) (k.1 v) ∙ front_more (map (S.term_of w) rs) k.0 v), large_after (map (S.term_of w) rs) k.0 k.2)

    pub building_goes_on : (old middle new : List R) (p : Pushed) → Puts S w old middle (λ rs. AreBuiltBefore S.term_of w all rest rs true) → Puts S w1 middle new (λ rs. AreBuilt S.term_of w1 rest rs p) → Puts S w1 old new (λ rs. AreBuilt S.term_of w1 all rs p)
    building_goes_on old middle new p x y = record {
      put = x.put ++ y.put;
      after = y.after ∙ (ap (λ xs. xs ++ y.put) x.after ∙ append_assoc old x.put y.put);
      standing = refs_append (λ r. IsTrue (S.stands w1 r)) x.put y.put (refs_later later x.put x.standing) y.standing;
      are = built_after x.put y.put p (refs_same same x.put x.standing) x.are y.are;
    }

-- what was built, for another name of the instance
pub builds_as : {W R Y N : Type 0} (S : Space W R Y N) (w : W) (o other : Option Tree) (b : Built R) → other ≡ o → Builds S w o b → Builds S w other b
builds_as S w o other b is h = subst (λ x. Builds S w x b) (sym is) h

module _ (place : Coordinate → Option ℕ) (e : Bindings) where
  pub instances_are : (ps : List (Pattern Coordinate)) → instances place (patterns_in ps) e ≡ instances_then place e ps (Some end)
  instances_are [] = refl
  instances_are (p ∷ ps) = ap (λ o. with_front (instance place p e) o) (instances_are ps)

  pub elements_are : (ps : List (Pattern Coordinate)) (rest : Option (Pattern Coordinate)) → element_instances place (elements_in ps rest) e ≡ instances_then place e ps (element_instances place (elements_in [] rest) e)
  elements_are [] rest = refl
  elements_are (p ∷ ps) rest = ap (λ o. with_front (instance place p e) o) (elements_are ps rest)

  pub instance_applied : (p : Pattern Coordinate) (s t : Symbol) (ps : List (Pattern Coordinate)) → p ≡ applied s (patterns_in ps) → t ≡ s → instance place p e ≡ applied_to (instances_then place e ps (Some end)) t
  instance_applied p s t ps is same = ap (λ q. instance place q e) is ∙ (ap (λ o. applied_to o s) (instances_are ps) ∙ ap (λ f. applied_to (instances_then place e ps (Some end)) f) (sym same))

  pub instance_list : (p : Pattern Coordinate) (ps : List (Pattern Coordinate)) (rest : Option (Pattern Coordinate)) → p ≡ list (elements_in ps rest) → instance place p e ≡ list_term (element_instances place (elements_in ps rest) e)
  instance_list p ps rest is = ap (λ q. instance place q e) is

  pub instance_variable : (p : Pattern Coordinate) (x : Coordinate) → p ≡ variable x → instance place p e ≡ value_in (place x) e
  instance_variable p x is = ap (λ q. instance place q e) is

  pub instance_like : (p q : Pattern Coordinate) (x : Coordinate) (v : Option Tree) → p ≡ like q x → value_in (place x) e ≡ v → instance place p e ≡ made_like (instance place q e) v
  instance_like p q x v is at = ap (λ r. instance place r e) is ∙ ap (λ u. made_like (instance place q e) u) at

  -- an instance that is given annotations
  pub like_as_with : (p : Pattern Coordinate) (v : Tree) → made_like (instance place p e) (Some v) ≡ made_with (instance place p e) (in_front (annos_of v) (Some end))
  like_as_with p v = like_with (instance place p e) v ∙ ap (made_with (instance place p e)) (sym (front_end (annos_of v)))

  pub instance_annotated : (p q : Pattern Coordinate) (qs : List (Pattern Coordinate)) → p ≡ annotated q (patterns_in qs) → instance place p e ≡ made_with (instance place q e) (instances_then place e qs (Some end))
  instance_annotated p q qs is = ap (λ r. instance place r e) is ∙ ap (made_with (instance place q e)) (instances_are qs)

  pub with_variable : (p : Pattern Coordinate) (x : Coordinate) (v : Option Tree) (us : Option Trees) → p ≡ variable x → value_in (place x) e ≡ v → made_with (instance place p e) us ≡ made_with v us
  with_variable p x v us is at = ap (λ o. made_with o us) (instance_variable p x is ∙ at)

  pub nothing_with : (p : Pattern Coordinate) (us : Option Trees) → p ≡ anything → made_with (instance place p e) us ≡ None
  nothing_with p us is = ap (λ q. made_with (instance place q e) us) is

  pub alias_with : (p q : Pattern Coordinate) (x : Coordinate) (us : Option Trees) → p ≡ alias x q → made_with (instance place p e) us ≡ None
  alias_with p q x us is = ap (λ r. made_with (instance place r e) us) is

  -- what replaced annotations are does not matter
  replaced : (o : Option Tree) (xs : Trees) (us : Option Trees) → made_with (made_with o (Some xs)) us ≡ made_with o us
  replaced o xs None = with_none (made_with o (Some xs)) ∙ sym (with_none o)
  replaced o xs (Some us) = with_again o xs us

  pub with_inner_like : (p q : Pattern Coordinate) (x : Coordinate) (v : Tree) (us : Option Trees) → p ≡ like q x → value_in (place x) e ≡ Some v → made_with (instance place p e) us ≡ made_with (instance place q e) us
  with_inner_like p q x v us is at =
      ap (λ o. made_with o us) (instance_like p q x (Some v) is at ∙ like_with (instance place q e) v) ∙ replaced (instance place q e) (trees_of (annos_of v)) us

  have_some : (o : Option Trees) (test : Bool) → test ≡ is_some o → test ≡ true → (xs : Trees) × (o ≡ Some xs)
  have_some None test is at = absurd (cc)
  have_some (Some xs) test is at = (xs, refl)

  have_none : (o : Option Trees) (test : Bool) → test ≡ is_some o → test ≡ false → o ≡ None
  have_none None test is at = refl
  have_none (Some xs) test is at = absurd (cc)

  module _ (p q : Pattern Coordinate) (qs : Patterns Coordinate) (test : Bool) (is : p ≡ annotated q qs) (have : test ≡ is_some (instances place qs e)) where
    pub lacks_annotation : test ≡ false → instance place p e ≡ None
    lacks_annotation no_so = ap (λ r. instance place r e) is ∙ (ap (made_with (instance place q e)) (have_none (instances place qs e) test have no_so) ∙ with_none (instance place q e))

    has_annotations : test ≡ true → (xs : Trees) × (instance place p e ≡ made_with (instance place q e) (Some xs))
    has_annotations so = let some = have_some (instances place qs e) test have so in (some.0, ap (λ r. instance place r e) is ∙ ap (made_with (instance place q e)) some.1)

    pub with_inner_annotated : (us : Option Trees) → test ≡ true → made_with (instance place p e) us ≡ made_with (instance place q e) us
    with_inner_annotated us so = let some = has_annotations so in ap (λ o. made_with o us) some.1 ∙ replaced (instance place q e) some.0 us

    pub elements_inner_annotated : test ≡ true → elements_of (instance place p e) ≡ elements_of (instance place q e)
    elements_inner_annotated so = let some = has_annotations so in ap elements_of some.1 ∙ elements_with (instance place q e) some.0

  pub no_like : (p q : Pattern Coordinate) (x : Coordinate) → p ≡ like q x → value_in (place x) e ≡ None → instance place p e ≡ None
  no_like p q x is at = instance_like p q x None is at ∙ annotated_without (instance place q e)

  pub elements_like : (p q : Pattern Coordinate) (x : Coordinate) (u : Tree) → p ≡ like q x → value_in (place x) e ≡ Some u → elements_of (instance place p e) ≡ elements_of (instance place q e)
  elements_like p q x u is at = ap elements_of (instance_like p q x (Some u) is at) ∙ elements_annotated (instance place q e) u

  pub bare_integer : (p : Pattern Coordinate) (z : ℤ) → p ≡ integer z → IsBare (instance place p e)
  bare_integer p z is = subst (λ q. IsBare (instance place q e)) (sym is) refl

  pub bare_applied : (p : Pattern Coordinate) (s : Symbol) (ps : List (Pattern Coordinate)) → p ≡ applied s (patterns_in ps) → IsBare (instance place p e)
  bare_applied p s ps is = subst (λ q. IsBare (instance place q e)) (sym is) (by_parts (instances place (patterns_in ps) e))
    where
      by_parts : (o : Option Trees) → IsBare (applied_to o s)
      by_parts None = tt
      by_parts (Some ts) = refl

  pub bare_list : (p : Pattern Coordinate) (ps : List (Pattern Coordinate)) (rest : Option (Pattern Coordinate)) → p ≡ list (elements_in ps rest) → IsBare (instance place p e)
  bare_list p ps rest is = subst (λ q. IsBare (instance place q e)) (sym is) (by_elements (element_instances place (elements_in ps rest) e))
    where
      by_elements : (o : Option Trees) → IsBare (list_term o)
      by_elements None = tt
      by_elements (Some ts) = refl

  next_of : (ps : List (Pattern Coordinate)) (i : ℕ) (q : Pattern Coordinate) → slice_get ps i ≡ Some q → (v : Option Trees) → instances_then place e (drop i ps) v ≡ with_front (instance place q e) (instances_then place e (drop (suc i) ps) v)
  next_of [] i q h v = absurd (cc)
  next_of (p ∷ ps) zero q h v = let same : p ≡ q = cc in ap (λ r. with_front (instance place r e) (instances_then place e ps v)) same
  next_of (p ∷ ps) (suc i) q h v = next_of ps i q h v

  mapped : {N : Type 0} (f : N → Pattern Coordinate) (ps : List N) (i : ℕ) (p : N) → i < length ps → p ≡ get_or ps i p → slice_get (map f ps) i ≡ Some (f p)
  mapped f [] i p h is = absurd (omega arith)
  mapped f (q ∷ ps) zero p h is = ap (λ x. Some (f x)) (sym is)
  mapped f (q ∷ ps) (suc i) p h is = mapped f ps i p (omega arith) is

  pub next_pattern : {N : Type 0} (f : N → Pattern Coordinate) (ps : List N) (i : ℕ) (p : N) → i < length ps → p ≡ get_or ps i p → (v : Option Trees) →
      instances_then place e (drop i (map f ps)) v ≡ with_front (instance place (f p) e) (instances_then place e (drop (i + 1) (map f ps)) v)
  next_pattern f ps i p h is v = rw add-one (next_of (map f ps) i (f p) (mapped f ps i p h is) v)

  pub no_pattern : {N : Type 0} (f : N → Pattern Coordinate) (ps : List N) (i : ℕ) → length ps ≤ i → (v : Option Trees) → instances_then place e (drop i (map f ps)) v ≡ v
  no_pattern f ps i h v = let long = length-map ps f in ap (λ qs. instances_then place e qs v) (drop_all i (map f ps) (omega arith))

-- whether several patterns have instances
module _ {W R : Type 0} (term_of : W → R → Tree) (w : W) (place : Coordinate → Option ℕ) (e : Bindings) (ps : List (Pattern Coordinate)) (rs : List R) (p : Pushed) (built_so : AreBuilt term_of w (instances_then place e ps) rs p) where
  pub one_lacks : p ≡ pushed.NoInstance → false ≡ is_some (instances place (patterns_in ps) e)
  one_lacks is = let none = subst (λ x. AreBuilt term_of w (instances_then place e ps) rs x) is built_so in sym (ap is_some (instances_are place e ps ∙ none (Some end)))

  pub each_fits : p ≡ pushed.All → true ≡ is_some (instances place (patterns_in ps) e)
  each_fits is = let fit = subst (λ x. AreBuilt term_of w (instances_then place e ps) rs x) is built_so in sym (ap is_some (instances_are place e ps ∙ (fit.0 (Some end) ∙ front_end (map (term_of w) rs))))

  pub one_is_large : p ≡ pushed.Oversize → true ≡ is_some (instances place (patterns_in ps) e)
  one_is_large is = let large = subst (λ x. AreBuilt term_of w (instances_then place e ps) rs x) is built_so in sym (ap is_some (instances_are place e ps ∙ (large.1 (Some end) ∙ front_end large.0)))

-- an instance in a later state of the space
pub same_instance : {W R Y N : Type 0} (S : Space W R Y N) (w w1 : W) (place : Coordinate → Option ℕ) (p q : Pattern Coordinate) (slots : Places R) → ((r : R) → IsTrue (S.stands w r) → S.term_of w1 r ≡ S.term_of w r) → AllPlaces (λ r. IsTrue (S.stands w r)) slots → q ≡ p →
    instance place q (map (option_map (S.term_of w1)) slots) ≡ instance place p (map (option_map (S.term_of w)) slots)
same_instance S w w1 place p q slots same all is = ap (λ r. instance place r (map (option_map (S.term_of w1)) slots)) is ∙ ap (λ e. instance place p e) (places_same (λ r. IsTrue (S.stands w r)) (S.term_of w) (S.term_of w1) same slots all)

-- the list at the end of elements stands
pub tail_stands : {W R Y N : Type 0} (S : Space W R Y N) (w : W) (all : Option Trees) (rs : List R) (e : Elements R) → AreElements S w all rs e → TailStands S w e
tail_stands S w all rs elements.All h = tt
tail_stands S w all rs (elements.Before r) h = (h.0, h.1)
tail_stands S w all rs elements.NoInstance h = tt
tail_stands S w all rs elements.Oversize h = tt

pub built_stands : {W R Y N : Type 0} (S : Space W R Y N) (w : W) (o : Option Tree) (b : Built R) → Builds S w o b → BuiltStands (λ r. IsTrue (S.stands w r)) b
built_stands S w o (built.Made r) h = h.0
built_stands S w o built.NoInstance h = tt
built_stands S w o built.Oversize h = tt

-- elements, for another name of them
pub elements_as : {W R Y N : Type 0} (S : Space W R Y N) (w : W) (o other : Option Trees) (rs : List R) (e : Elements R) → other ≡ o → AreElements S w o rs e → AreElements S w other rs e
elements_as S w o other rs e is h = subst (λ x. AreElements S w x rs e) (sym is) h

module _ (place : Coordinate → Option ℕ) (e : Bindings) where
  pub elements_of_list_pattern : (p : Pattern Coordinate) (ps : List (Pattern Coordinate)) (rest : Option (Pattern Coordinate)) → p ≡ list (elements_in ps rest) → elements_of (instance place p e) ≡ element_instances place (elements_in ps rest) e
  elements_of_list_pattern p ps rest is = ap elements_of (instance_list place e p ps rest is) ∙ elements_of_list (element_instances place (elements_in ps rest) e)

  pub elements_of_variable : (p : Pattern Coordinate) (x : Coordinate) (v : Option Tree) → p ≡ variable x → value_in (place x) e ≡ v → elements_of (instance place p e) ≡ elements_of v
  elements_of_variable p x v is at = ap elements_of (instance_variable place e p x is ∙ at)

  pub elements_no_like : (p q : Pattern Coordinate) (x : Coordinate) → p ≡ like q x → value_in (place x) e ≡ None → elements_of (instance place p e) ≡ None
  elements_no_like p q x is at = ap elements_of (no_like place e p q x is at)

  pub elements_of_anything : (p : Pattern Coordinate) → p ≡ anything → elements_of (instance place p e) ≡ None
  elements_of_anything p is = ap (λ q. elements_of (instance place q e)) is

  pub elements_of_alias : (p q : Pattern Coordinate) (x : Coordinate) → p ≡ alias x q → elements_of (instance place p e) ≡ None
  elements_of_alias p q x is = ap (λ r. elements_of (instance place r e)) is

  pub elements_of_integer : (p : Pattern Coordinate) (z : ℤ) → p ≡ integer z → elements_of (instance place p e) ≡ None
  elements_of_integer p z is = ap (λ q. elements_of (instance place q e)) is

  pub elements_of_applied : (p : Pattern Coordinate) (s : Symbol) (ps : List (Pattern Coordinate)) → p ≡ applied s (patterns_in ps) → elements_of (instance place p e) ≡ None
  elements_of_applied p s ps is = ap (λ q. elements_of (instance place q e)) is ∙ elements_of_application (instances place (patterns_in ps) e) s

  pub rest_ends : (rest : Option (Pattern Coordinate)) → rest ≡ None → element_instances place (elements_in [] rest) e ≡ Some end
  rest_ends rest is = ap (λ r. element_instances place (elements_in [] r) e) is

  pub rest_goes_on : (rest : Option (Pattern Coordinate)) (p : Pattern Coordinate) → rest ≡ Some p → element_instances place (elements_in [] rest) e ≡ elements_of (instance place p e)
  rest_goes_on rest p is = ap (λ r. element_instances place (elements_in [] r) e) is

-- the elements of a list: the first ones, and those of the rest in a later state of the space
pub list_puts : {W R Y N : Type 0} (S : Space W R Y N) (w w1 w2 : W) (place : Coordinate → Option ℕ) (slots : Places R) (ps : List (Pattern Coordinate)) (r r1 : Option (Pattern Coordinate)) (p : Pushed) (others v : Elements R) (old middle new : List R) →
    AllPlaces (λ u. IsTrue (S.stands w u)) slots → ((u : R) → IsTrue (S.stands w u) → S.term_of w1 u ≡ S.term_of w u) → r1 ≡ r → ((u : R) → IsTrue (S.stands w1 u) → IsTrue (S.stands w2 u)) → ((u : R) → IsTrue (S.stands w1 u) → S.term_of w2 u ≡ S.term_of w1 u) → v ≡ joined_elements p others →
    Puts S w1 old middle (λ rs. AreBuilt S.term_of w1 (instances_then place (map (option_map (S.term_of w)) slots) ps) rs p) →
    Puts S w2 middle new (λ rs. AreElements S w2 (element_instances place (elements_in [] r1) (map (option_map (S.term_of w1)) slots)) rs others) →
    Puts S w2 old new (λ rs. AreElements S w2 (element_instances place (elements_in ps r) (map (option_map (S.term_of w)) slots)) rs v)
list_puts S w w1 w2 place slots ps r r1 p others v old middle new all same same_rest later same_later at x y =
    joined_puts S w2 (instances_then place (map (option_map (S.term_of w)) slots) ps) w1 (element_instances place (elements_in ps r) (map (option_map (S.term_of w)) slots)) (element_instances place (elements_in [] r1) (map (option_map (S.term_of w1)) slots)) p others v old middle new later same_later
    (elements_are place (map (option_map (S.term_of w)) slots) ps r ∙ ap (instances_then place (map (option_map (S.term_of w)) slots) ps)
    (ap (λ q. element_instances place (elements_in [] q) (map (option_map (S.term_of w)) slots)) (sym same_rest) ∙ ap (λ e. element_instances place (elements_in [] r1) e) (sym (places_same (λ u. IsTrue (S.stands w u)) (S.term_of w) (S.term_of w1) same slots all)))) at x y
