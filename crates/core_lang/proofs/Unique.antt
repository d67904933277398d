-- A strategy has at most one ending, by derivations of one size, whatever the reading.
use Rattle.std.proofs.Common.{◌≡◌, ℕ, Some, length, ◌++◌, refl, sym, ◌∙◌, ap, arith, subst}
use Rattle.std.specs.Prelude.{Bool}
use Rattle.term_model.specs.Term.{Tree, Trees, more}
use Rattle.core_lang.specs.Program.{Strategy, Strategies}
use Rattle.core_lang.specs.Environment.{Environment, layer, Bindings, closure, definition, Reading, closures_of, filled_places}
use Rattle.term_model.specs.Flat.{Meaning}
use Rattle.core_lang.specs.Ending.{Ending, ok, keeping, in_front, rebuilt, Stop, stop}
use Rattle.core_lang.specs.Derivation.{Derives, by_id, by_fail, by_seq, by_seq_stop, by_choice_then, by_choice_else, by_choice_oversize, by_match, by_no_match, by_build, by_scope, by_all, by_one, by_some, by_definitions, by_call, by_call_stop, by_parameter, by_primitive, DerivesAll, all_end, all_next, all_stop, DerivesOne, one_end, one_found, one_stop, one_next, DerivesSome, some_end, some_none, some_found, some_stays, some_stop}
use Rattle.core_lang.proofs.MatchLaws.{matches_once}

-- the same ending, by as many nodes
pub record Same (o o' : Ending Tree) (n n' : ℕ) : Type 0 where
  pub outcome : o ≡ o'
  pub nodes : n ≡ n'

pub record SameResults (r r' : Ending Trees) (n n' : ℕ) : Type 0 where
  pub results : r ≡ r'
  pub nodes : n ≡ n'

pub no_stop : {A : Type 0} {v : A} {e : Bindings} {q : Stop} → ok v e ≡ stop q → ⊥
no_stop h = cc

ok_tree : {t t' : Tree} {e e' : Bindings} → ok t e ≡ ok t' e' → t ≡ t'
ok_tree h = cc

found_results : {t t' : Tree} {e e' : Bindings} (ts : Trees) → ok t e ≡ ok t' e' → ok (more t ts) e ≡ ok (more t' ts) e'
found_results {t} {t'} {e} {e'} ts h =
    let p : t ≡ t' = cc in
    let q : e ≡ e' = cc in
    cc

module _ {X B : Type 0} {R : Reading X B} {M : Meaning} where
  -- the second derivation, moved to where the first one's part ended
  pub moved : {V : Environment X B} {s : Strategy X B} {t t' : Tree} {e e' : Bindings} {o : Ending Tree} {n : ℕ} →
      ok t e ≡ ok t' e' → Derives R M V s t' e' o n → Derives R M V s t e o n
  moved {V} {s} {t} {t'} {e} {e'} {o} {n} h d =
      let p : t' ≡ t = cc in
      let q : e' ≡ e = cc in
      subst (λ u. Derives R M V s u e o n) p (subst (λ f. Derives R M V s t' f o n) q d)

  pub moved_all : {V : Environment X B} {s : Strategy X B} {t t' : Tree} {ts : Trees} {e e' : Bindings}
      {r : Ending Trees} {n : ℕ} →
      ok t e ≡ ok t' e' → DerivesAll R M V s ts e' r n → DerivesAll R M V s ts e r n
  moved_all {V} {s} {t} {t'} {ts} {e} {e'} {r} {n} h d =
      let q : e' ≡ e = cc in
      subst (λ f. DerivesAll R M V s ts f r n) q d

  pub moved_some : {V : Environment X B} {s : Strategy X B} {t t' : Tree} {ts : Trees} {e e' : Bindings} {found : Bool}
      {r : Ending Trees} {n : ℕ} →
      ok t e ≡ ok t' e' → DerivesSome R M V s ts e' found r n → DerivesSome R M V s ts e found r n
  moved_some {V} {s} {t} {t'} {ts} {e} {e'} {found} {r} {n} h d =
      let q : e' ≡ e = cc in
      subst (λ f. DerivesSome R M V s ts f found r n) q d

  pub moved_call : {W W' : Environment X B} {s s' : Strategy X B} {fs fs' xs xs' : B} {us us' : Trees} {o : Ending Tree}
      {n : ℕ}
      (V : Environment X B) (ss : Strategies X B) (t : Tree) (e : Bindings) →
      Some (definition fs xs s W) ≡ Some (definition fs' xs' s' W') → ok us e ≡ ok us' e →
      Derives R M (layer (length e) fs' xs' (closures_of R V ss) W') s' t (e ++ filled_places us') o n →
      Derives R M (layer (length e) fs xs (closures_of R V ss) W) s t (e ++ filled_places us) o n
  moved_call {W} {W'} {s} {s'} {fs} {fs'} {xs} {xs'} {us} {us'} {o} {n} V ss t e hf hu d =
      let pw : W' ≡ W = cc in
      let ps : s' ≡ s = cc in
      let pf : fs' ≡ fs = cc in
      let px : xs' ≡ xs = cc in
      let pu : us' ≡ us = cc in
      subst (λ z. Derives R M (layer (length e) fs xs (closures_of R V ss) z) s t (e ++ filled_places us) o n) pw
      (subst (λ z. Derives R M (layer (length e) fs xs (closures_of R V ss) W') z t (e ++ filled_places us) o n) ps
      (subst (λ z. Derives R M (layer (length e) z xs (closures_of R V ss) W') s' t (e ++ filled_places us) o n) pf
      (subst (λ z. Derives R M (layer (length e) fs' z (closures_of R V ss) W') s' t (e ++ filled_places us) o n) px
      (subst (λ z. Derives R M (layer (length e) fs' xs' (closures_of R V ss) W') s' t (e ++ filled_places z) o n)
      pu d))))

  pub moved_closure : {W W' : Environment X B} {s s' : Strategy X B} {o : Ending Tree} {n : ℕ} (t : Tree)
      (e : Bindings) →
      Some (closure s W) ≡ Some (closure s' W') → Derives R M W' s' t e o n → Derives R M W s t e o n
  moved_closure {W} {W'} {s} {s'} {o} {n} t e h d =
      let p : s' ≡ s = cc in
      let q : W' ≡ W = cc in
      subst (λ z. Derives R M W z t e o n) p (subst (λ z. Derives R M z s' t e o n) q d)

  mutual
    pub unique : {V : Environment X B} {s : Strategy X B} {t : Tree} {e : Bindings} {o o' : Ending Tree} {n n' : ℕ} →
        Derives R M V s t e o n → Derives R M V s t e o' n' → Same o o' n n'
    unique by_id by_id = record { outcome = refl; nodes = refl }
    unique by_fail by_fail = record { outcome = refl; nodes = refl }
    unique (by_seq x y h) (by_seq x' y' h') =
        let q = unique x x' in
        let r = unique y (moved q.outcome y') in
        record { outcome = r.outcome; nodes = omega arith }
    unique (by_seq x y h) (by_seq_stop x' h') = absurd (no_stop (unique x x').outcome)
    unique (by_seq_stop x h) (by_seq x' y' h') = absurd (no_stop (sym (unique x x').outcome))
    unique (by_seq_stop x h) (by_seq_stop x' h') =
        let q = unique x x' in record { outcome = q.outcome; nodes = omega arith }
    unique (by_choice_then x y h) (by_choice_then x' y' h') =
        let q = unique x x' in
        let r = unique y (moved q.outcome y') in
        record { outcome = r.outcome; nodes = omega arith }
    unique (by_choice_then x y h) (by_choice_else x' y' h') = let q = (unique x x').outcome in cc
    unique (by_choice_then x y h) (by_choice_oversize x' h') = let q = (unique x x').outcome in cc
    unique (by_choice_else x y h) (by_choice_then x' y' h') = let q = (unique x x').outcome in cc
    unique (by_choice_else x y h) (by_choice_else x' y' h') =
        let q = unique x x' in
        let r = unique y y' in
        record { outcome = r.outcome; nodes = omega arith }
    unique (by_choice_else x y h) (by_choice_oversize x' h') = let q = (unique x x').outcome in cc
    unique (by_choice_oversize x h) (by_choice_then x' y' h') = let q = (unique x x').outcome in cc
    unique (by_choice_oversize x h) (by_choice_else x' y' h') = let q = (unique x x').outcome in cc
    unique (by_choice_oversize x h) (by_choice_oversize x' h') =
        let q = unique x x' in record { outcome = refl; nodes = omega arith }
    unique {V = V} {t = t} (by_match m) (by_match m') =
        record { outcome = ap (λ f. ok t f) (matches_once (R.place_of V) m m'); nodes = refl }
    unique (by_match m) (by_no_match m') = absurd (m' _ m)
    unique (by_no_match m) (by_match m') = absurd (m _ m')
    unique (by_no_match m) (by_no_match m') = record { outcome = refl; nodes = refl }
    unique (by_build h) (by_build h') = record { outcome = h ∙ sym h'; nodes = refl }
    unique {e = e} (by_scope x h k) (by_scope x' h' k') =
        let q = unique x x' in
        record { outcome = h ∙ (ap (λ o. keeping (length e) o) q.outcome ∙ sym h'); nodes = omega arith }
    unique {t = t} (by_all x h k) (by_all x' h' k') =
        let q = unique_all x x' in
        record { outcome = h ∙ (ap (λ r. rebuilt t r) q.results ∙ sym h'); nodes = omega arith }
    unique {t = t} (by_one x h k) (by_one x' h' k') =
        let q = unique_one x x' in
        record { outcome = h ∙ (ap (λ r. rebuilt t r) q.results ∙ sym h'); nodes = omega arith }
    unique {t = t} (by_some x h k) (by_some x' h' k') =
        let q = unique_some x x' in
        record { outcome = h ∙ (ap (λ r. rebuilt t r) q.results ∙ sym h'); nodes = omega arith }
    unique (by_definitions x h) (by_definitions x' h') =
        let q = unique x x' in record { outcome = q.outcome; nodes = omega arith }
    unique {V = V} (by_call {ss = ss} {t = t} {e = e} f us x h k) (by_call f' us' x' h' k') =
        let q = unique x (moved_call V ss t e (sym f ∙ f') (sym us ∙ us') x') in
        record { outcome = h ∙ (ap (λ o. keeping (length e) o) q.outcome ∙ sym h'); nodes = omega arith }
    unique (by_call {ts = ts} {e = e} f u x h k) (by_call_stop f' u') = absurd (no_stop (sym u ∙ u'))
    unique (by_call f u x h k) (by_parameter f' x' h') = let c = sym f ∙ f' in cc
    unique (by_call_stop f' u') (by_call {ts = ts} {e = e} f u x h k) = absurd (no_stop (sym u ∙ u'))
    unique (by_call_stop {q = q} f u) (by_call_stop {q = p} f' u') =
        let same = sym u ∙ u' in
        let cause : q ≡ p = cc in
        record { outcome = ap (λ z. stop z) cause; nodes = refl }
    unique (by_call_stop f u) (by_parameter f' x' h') = let c = sym f ∙ f' in cc
    unique (by_parameter f x h) (by_call f' u' x' h' k') = let c = sym f ∙ f' in cc
    unique (by_parameter f x h) (by_call_stop f' u') = let c = sym f ∙ f' in cc
    unique (by_parameter {t = t} {e = e} f x h) (by_parameter f' x' h') =
        let q = unique x (moved_closure t e (sym f ∙ f') x') in
        record { outcome = q.outcome; nodes = omega arith }
    unique (by_primitive h) (by_primitive h') = record { outcome = h ∙ sym h'; nodes = refl }

    pub unique_all : {V : Environment X B} {s : Strategy X B} {ts : Trees} {e : Bindings} {r r' : Ending Trees}
        {n n' : ℕ} →
        DerivesAll R M V s ts e r n → DerivesAll R M V s ts e r' n' → SameResults r r' n n'
    unique_all all_end all_end = record { results = refl; nodes = refl }
    unique_all (all_next {t1 = u} x y h k) (all_next {t1 = u'} {r1 = p'} x' y' h' k') =
        let q = unique x x' in
        let w = unique_all y (moved_all q.outcome y') in
        let same : u ≡ u' = ok_tree q.outcome in
        record {
          results = h ∙ (ap (λ r. in_front u r) w.results ∙ (ap (λ v. in_front v p') same ∙ sym h'));
          nodes =
              omega arith;
        }
    unique_all (all_next x y h k) (all_stop x') = absurd (no_stop (unique x x').outcome)
    unique_all (all_stop x) (all_next x' y' h' k') = absurd (no_stop (sym (unique x x').outcome))
    unique_all (all_stop {q = q} x) (all_stop {q = p} x') =
        let same = unique x x' in
        let ends = same.outcome in
        let cause : q ≡ p = cc in
        record { results = ap (λ z. stop z) cause; nodes = same.nodes }

    pub unique_one : {V : Environment X B} {s : Strategy X B} {ts : Trees} {e : Bindings} {r r' : Ending Trees}
        {n n' : ℕ} →
        DerivesOne R M V s ts e r n → DerivesOne R M V s ts e r' n' → SameResults r r' n n'
    unique_one one_end one_end = record { results = refl; nodes = refl }
    unique_one (one_found {ts = ts} x) (one_found x') =
        let q = unique x x' in record { results = found_results ts q.outcome; nodes = q.nodes }
    unique_one (one_found x) (one_stop x') = let q = (unique x x').outcome in cc
    unique_one (one_found x) (one_next x' y' h' k') = let q = (unique x x').outcome in cc
    unique_one (one_stop x) (one_found x') = let q = (unique x x').outcome in cc
    unique_one (one_stop x) (one_stop x') = record { results = refl; nodes = (unique x x').nodes }
    unique_one (one_stop x) (one_next x' y' h' k') = let q = (unique x x').outcome in cc
    unique_one (one_next x y h k) (one_found x') = let q = (unique x x').outcome in cc
    unique_one (one_next x y h k) (one_stop x') = let q = (unique x x').outcome in cc
    unique_one (one_next {t = t} x y h k) (one_next x' y' h' k') =
        let q = unique x x' in
        let w = unique_one y y' in
        record { results = h ∙ (ap (λ r. in_front t r) w.results ∙ sym h'); nodes = omega arith }

    pub unique_some : {V : Environment X B} {s : Strategy X B} {ts : Trees} {e : Bindings} {found : Bool}
        {r r' : Ending Trees} {n n' : ℕ} →
        DerivesSome R M V s ts e found r n → DerivesSome R M V s ts e found r' n' → SameResults r r' n n'
    unique_some some_end some_end = record { results = refl; nodes = refl }
    unique_some some_none some_none = record { results = refl; nodes = refl }
    unique_some (some_found {t1 = u} x y h k) (some_found {t1 = u'} {r1 = p'} x' y' h' k') =
        let q = unique x x' in
        let w = unique_some y (moved_some q.outcome y') in
        let same : u ≡ u' = ok_tree q.outcome in
        record {
          results = h ∙ (ap (λ r. in_front u r) w.results ∙ (ap (λ v. in_front v p') same ∙ sym h'));
          nodes =
              omega arith;
        }
    unique_some (some_found x y h k) (some_stays x' y' h' k') = let q = (unique x x').outcome in cc
    unique_some (some_found x y h k) (some_stop x') = let q = (unique x x').outcome in cc
    unique_some (some_stays x y h k) (some_found x' y' h' k') = let q = (unique x x').outcome in cc
    unique_some (some_stays {t = t} x y h k) (some_stays x' y' h' k') =
        let q = unique x x' in
        let w = unique_some y y' in
        record { results = h ∙ (ap (λ r. in_front t r) w.results ∙ sym h'); nodes = omega arith }
    unique_some (some_stays x y h k) (some_stop x') = let q = (unique x x').outcome in cc
    unique_some (some_stop x) (some_found x' y' h' k') = let q = (unique x x').outcome in cc
    unique_some (some_stop x) (some_stays x' y' h' k') = let q = (unique x x').outcome in cc
    unique_some (some_stop x) (some_stop x') = record { results = refl; nodes = (unique x x').nodes }
