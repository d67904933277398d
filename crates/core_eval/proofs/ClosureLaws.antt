-- The closures of the arguments of a call, one after another.
use Rattle.std.proofs.Common.{◌≡◌, ℕ, suc, ◌+◌, ◌<◌, ◌≤◌, List, [], ◌∷◌, ◌++◌, length, map, get_or, drop, add-one, refl, sym, ◌∙◌, ap}
use Rattle.std.proofs.Math.Seq.{drop-cons}
use Rattle.std.proofs.lemmas.List.{drop_all}
use Rattle.core_lang.specs.declared.coordinate.Coordinate.{Coordinate}
use Rattle.core_lang.specs.declared.program.CoreStrategy.{CoreStrategy}
use Rattle.core_lang.specs.Environment.{Environment, Closures, no_closures, more_closures, closures_of, with_closure}
use Rattle.core_lang.specs.Resolved.{by_coordinates}
use Rattle.core_lang.specs.Views.{strategy_of, strategies_of}
use Rattle.core_eval.specs.declared.frame.Closure.{Closure}
use Rattle.core_eval.specs.Frame.{Closed, closure_of, closures_in}

-- the closures that are made, before the others
abbrev pub before : List Closed → Closures Coordinate ℕ → Closures Coordinate ℕ
before [] cs = cs
before (c ∷ made) cs = more_closures c.strategy c.environment (before made cs)

before_push : (made : List Closed) (c : Closed) (cs : Closures Coordinate ℕ) →
    before made (more_closures c.strategy c.environment cs) ≡ before (made ++ c ∷ []) cs
before_push [] c cs = refl
before_push (d ∷ made) c cs = ap (λ ds. more_closures d.strategy d.environment ds) (before_push made c cs)

before_end : (made : List Closed) → before made no_closures ≡ closures_in made
before_end [] = refl
before_end (c ∷ made) = ap (λ ds. more_closures c.strategy c.environment ds) (before_end made)

map_push : (made : List Closure) (c : Closure) →
    map closure_of (made ++ c ∷ []) ≡ map closure_of made ++ closure_of c ∷ []
map_push [] c = refl
map_push (d ∷ made) c = ap (λ ds. closure_of d ∷ ds) (map_push made c)

module _ (W : Environment Coordinate ℕ) (ss : List CoreStrategy) (i : ℕ) (made : List Closure)
    (so_far : closures_of by_coordinates W (strategies_of ss) ≡
    before (map closure_of made) (closures_of by_coordinates W (strategies_of (drop i ss)))) where
  pub closures_done : length ss ≤ i →
      closures_of by_coordinates W (strategies_of ss) ≡ closures_in (map closure_of made)
  closures_done h = so_far ∙ (ap (λ xs. before (map closure_of made) (closures_of by_coordinates W (strategies_of xs)))
      (drop_all i ss h) ∙ before_end (map closure_of made))

  pub closures_next : (s : CoreStrategy) (c : Closure) (now_made : List Closure) → i < length ss → s ≡ get_or ss i s →
      now_made ≡ made ++ c ∷ [] →
      ((cs : Closures Coordinate ℕ) →
      with_closure by_coordinates W (strategy_of s) cs ≡
      more_closures (closure_of c).strategy (closure_of c).environment cs) →
      closures_of by_coordinates W (strategies_of ss) ≡
      before (map closure_of now_made) (closures_of by_coordinates W (strategies_of (drop (i + 1) ss)))
  closures_next s c now_made h is pushed handed =
      let cut : drop i ss ≡ s ∷ drop (i + 1) ss =
      rw add-one (drop-cons ss i s h ∙ ap (λ u. u ∷ drop (suc i) ss) (sym is)) in
      let others = closures_of by_coordinates W (strategies_of (drop (i + 1) ss)) in
      so_far ∙ (ap (λ xs. before (map closure_of made) (closures_of by_coordinates W (strategies_of xs))) cut ∙
      (ap (λ cs. before (map closure_of made) cs) (handed others) ∙
      (before_push (map closure_of made) (closure_of c) others ∙
      (ap (λ cs. before cs others) (sym (map_push made c)) ∙
      ap (λ xs. before (map closure_of xs) others) (sym pushed)))))
