-- What a build, a call and a match say, in the words of the steps of the machine.
use Rattle.std.proofs.Common.{◌≡◌, ℕ, Option, Some, List, [], ◌∷◌, length, map, refl, sym, ◌∙◌, ap, subst, arith}
use Rattle.core_lang.specs.declared.coordinate.Coordinate.{Coordinate}
use Rattle.core_lang.specs.Building.{instances}
use Rattle.core_lang.specs.Ending.{ok, failed, oversize, built, arguments, if_fits}
use Rattle.core_lang.specs.Environment.{Bindings}
use Rattle.core_lang.specs.Program.{Pattern}
use Rattle.core_lang.specs.Views.{patterns_in}
use Rattle.term_model.specs.Space.{Space}
use Rattle.term_model.specs.Term.{Tree, Trees, end, trees_of, all_fit}
use Rattle.strat_patterns.specs.Builds.{instances_then, Builds, AreBuilt, AreArguments, Puts}
use Rattle.strat_patterns.specs.declared.building.Built.TheVariants as built_forms
use Rattle.strat_patterns.specs.declared.building.Pushed.{Pushed}
use Rattle.strat_patterns.specs.declared.building.Pushed.TheVariants as pushed
use Rattle.strat_steps.specs.References.{trees}
use Rattle.strat_patterns.proofs.BuildingLaws.{front_end}
use Rattle.strat_patterns.proofs.ElementLaws.{instances_are, puts_as, puts_nothing}
use Rattle.strat_patterns.proofs.ReferenceLists.{trees_are}

module _ {W R Y N : Type 0} (S : Space W R Y N) (w : W) (o : Option Tree) (e : Bindings) where
  pub build_is_ok : (r : R) → Builds S w o (built_forms.Made r) → built o e ≡ ok (S.term_of w r) e
  build_is_ok r h = ap (λ v. built v e) h.1 ∙ ap (λ b. if_fits b (S.term_of w r) e) h.2

  pub build_fails : Builds S w o built_forms.NoInstance → built o e ≡ failed
  build_fails h = ap (λ v. built v e) h

  pub build_is_large : Builds S w o built_forms.Oversize → built o e ≡ oversize
  build_is_large h = ap (λ v. built v e) h.1 ∙ ap (λ b. if_fits b h.0 e) h.2

module _ {W R : Type 0} (term_of : W → R → Tree) (w : W) (o : Option Trees) (e : Bindings) (rs : List R) where
  pub arguments_are_ok : AreArguments term_of w o rs pushed.All → arguments o e ≡ ok (trees (term_of w) rs) e
  arguments_are_ok h = ap (λ v. arguments v e) h.0 ∙ ap (λ b. if_fits b (trees (term_of w) rs) e) h.1

  pub arguments_fail : AreArguments term_of w o rs pushed.NoInstance → arguments o e ≡ failed
  arguments_fail h = ap (λ v. arguments v e) h.0

  pub arguments_are_large : AreArguments term_of w o rs pushed.Oversize → arguments o e ≡ oversize
  arguments_are_large h = ap (λ v. arguments v e) h.1 ∙ ap (λ b. if_fits b h.0 e) h.2

module _ {W R Y N : Type 0} (S : Space W R Y N) (w : W) (place : Coordinate →
    Option ℕ) (e : Bindings) (ps : List (Pattern Coordinate)) (old new : List R) where
  pub arguments_put : (made : Pushed) → made ≡ pushed.All →
      Puts S w old new (λ rs. AreBuilt S.term_of w (instances_then place e ps) rs made) →
      Puts S w old new (λ rs. AreArguments S.term_of w (instances place (patterns_in ps) e) rs pushed.All)
  arguments_put made is x = puts_as (λ rs h. (
    instances_are place e ps ∙ ((subst (λ m. AreBuilt S.term_of w (instances_then place e ps) rs m) is h).0 (Some end) ∙
        (front_end (map (S.term_of w) rs) ∙ ap (λ us. Some us) (sym (trees_are (S.term_of w) rs)))),
    ap all_fit (trees_are (S.term_of w) rs) ∙
        (subst (λ m. AreBuilt S.term_of w (instances_then place e ps) rs m) is h).1,
  )) x

  pub no_arguments : (made : Pushed) (rs : List R) → made ≡ pushed.NoInstance →
      AreBuilt S.term_of w (instances_then place e ps) rs made →
      AreArguments S.term_of w (instances place (patterns_in ps) e) [] pushed.NoInstance
  no_arguments made rs is h = (
    instances_are place e ps ∙
        subst (λ m. AreBuilt S.term_of w (instances_then place e ps) rs m) is h (Some end),
    refl,
  )

  pub large_arguments : (made : Pushed) (rs : List R) → made ≡ pushed.Oversize →
      AreBuilt S.term_of w (instances_then place e ps) rs made →
      AreArguments S.term_of w (instances place (patterns_in ps) e) [] pushed.Oversize
  large_arguments made rs is h =
      let large = subst (λ m. AreBuilt S.term_of w (instances_then place e ps) rs m) is h in
      (trees_of large.0, instances_are place e ps ∙ (large.1 (Some end) ∙ front_end large.0), large.2, refl)

-- of no patterns nothing is put
pub nothing_put : {W R Y N : Type 0} {X : Type 0} (S : Space W R Y N) (w : W) (place : Coordinate →
    Option ℕ) (e : Bindings) (as_pattern : X → Pattern Coordinate) (ps : List X) (old : List R) → length ps ≡ 0 →
    Puts S w old old (λ rs. AreArguments S.term_of w (instances place (patterns_in (map as_pattern ps)) e)
    rs pushed.All)
nothing_put S w place e as_pattern [] old h =
    puts_nothing S w old (λ rs. AreArguments S.term_of w (Some end) rs pushed.All) (refl, refl)
nothing_put S w place e as_pattern (p ∷ ps) old h = absurd (omega arith)
