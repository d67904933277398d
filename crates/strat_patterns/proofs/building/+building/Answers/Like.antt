-- builds that take the annotations of another term
use Rattle.std.proofs.Common.{rules, ◌≤◌, ◌∙◌, refl, sym, ap, subst, length, map, drop, Some}
use Rattle.std.specs.Prelude.{IsTrue, not}
use Rattle.std.specs.Option.{option_map}
use Rattle.core_lang.specs.Building.{instance, made_like, made_with, value_in}
use Rattle.core_lang.specs.Program.{like}
use Rattle.term_model.specs.Term.{end}
use Rattle.term_model.specs.TermParts.{annos_of}
use Rattle.strat_patterns.specs.declared.loaded.LoadedPattern.TheViews.{the_lemmas}
use Rattle.strat_patterns.specs.Builds.{in_front, AreBuilt}
use Rattle.strat_patterns.specs.Loaded.{loaded_of, all_loaded_of, rest_loaded_of}
use Rattle.strat_steps.specs.References.{AllRefs}
use Rattle.strat_steps.specs.State.{place_at}
use Rattle.strat_steps.proofs.ReferenceLaws.{all_changed}
use Rattle.term_model.proofs.SpaceLaws.{keeps_then}
use Rattle.strat_patterns.proofs.LoadedLaws.{loaded_as_variable, loaded_as_integer, loaded_as_like, loaded_as_applied, loaded_as_list, loaded_as_annotated, loaded_same, known_as_annotated, known_later}
use Rattle.strat_patterns.proofs.BuildingLaws.{some_held}
use Rattle.strat_patterns.proofs.ElementLaws.{put_are, put_stands, put_within, pushes_put, annos_built, are_built_later, refs_later, slice_built, builds_as, like_as_with, with_variable, with_inner_like, with_inner_annotated, lacks_annotation, one_lacks, each_fits, one_is_large, bare_integer, bare_applied, bare_list, same_instance}
use Rattle.strat_patterns.proofs.building.+building.Goals as goal

pub make_like-returns-then-is_bare-clause-built : goal.make_like-returns-then-is_bare-clause-built
make_like-returns-then-is_bare-clause-built g t c =
    let s = g.S.TermSpace.space in
    let w = c.args.space.now in
    let w1 = c.build.new.space in
    let place = place_at c.args.frames.now c.args.here in
    let symbols = s.symbol_of w in
    let terms = map (option_map (s.term_of w)) c.args.slots.now in
    let bare = instance place (loaded_of symbols c.args.pattern.now) terms in
    let like = c.args.like.now in
    let kept = c.in_ok-bare.ensures.keeps.terms like c.requires.like in
    builds_as s c.annotate_like.new.space (made_like bare (Some (s.term_of w1 like)))
    (made_like bare (Some (s.term_of w like))) c.in_ok-built.built (ap (λ u. made_like bare (Some u)) (sym kept))
    (c.in_ok-built.ensures.built bare (c.is_bare.ensures c.if-is_bare.true symbols place terms)
    c.in_ok-bare.ensures.built)

pub make_like-make_with-requires : goal.make_like-make_with-requires
make_like-make_with-requires g t c κs within =
    let put = pushes_put c.in_ok-push_annos.ensures.pushed in
    let at = c.len-from.ensures ∙ c.args.stack.now.ok.0 in
    let from = put_within put c.len-from.result at in
    let standing = put_stands put c.len-from.result at in (
      search (rules, the_lemmas),
      (
        within.0,
        (
          within.1.0,
          (within.1.1.0, (within.1.1.1, (c.requires.known, (c.requires.slots, (from, standing))))),
        ),
      ),
    )

pub make_like-returns-clause-built : goal.make_like-returns-clause-built
make_like-returns-clause-built g t c =
    let s = g.S.TermSpace.space in
    let w = c.args.space.now in
    let place = place_at c.args.frames.now c.args.here in
    let symbols = s.symbol_of w in
    let terms = map (option_map (s.term_of w)) c.args.slots.now in
    let whole = loaded_of symbols c.args.pattern.now in
    let like = s.term_of w c.args.like.now in
    let put = pushes_put c.in_ok-push_annos.ensures.pushed in
    let annos = put_are put c.len-from.result (c.len-from.ensures ∙ c.args.stack.now.ok.0) in
    builds_as s c.make_with.new.space (made_with (instance place whole terms) (in_front (annos_of like) (Some end)))
    (made_like (instance place whole terms) (Some like)) c.in_ok-built-2.built (like_as_with place terms whole like)
    (c.in_ok-built-2.ensures.built (in_front (annos_of like))
    (annos_built s.term_of w like (drop c.len-from.result c.push_annos.new.stack.items)
    (g.S.TermSpace.fits _ _ c.requires.like) annos))

pub make_with-returns-in_ok-built-in-Variable-clause-built : goal.make_with-returns-in_ok-built-in-Variable-clause-built
make_with-returns-in_ok-built-in-Variable-clause-built g t c =
    λ all built.
    let s = g.S.TermSpace.space in
    let w = c.args.space.now in
    let place = place_at c.args.frames.now c.args.here in
    let symbols = s.symbol_of w in
    let terms = map (option_map (s.term_of w)) c.args.slots.now in
    let whole = loaded_of symbols c.args.pattern.now in
    let value = Some (s.term_of w c.in-Some.at.now) in
    builds_as s c.with_built.new.space (made_with value (all (Some end)))
    (made_with (instance place whole terms) (all (Some end))) c.in_ok-built-in-Variable.built
    (with_variable place terms whole c.in-Variable.x value (all (Some end))
    (loaded_as_variable symbols c.args.pattern.now c.in-Variable.x c.in-Variable.is) c.in-Some.ensures.1)
    (c.in_ok-built-in-Variable.ensures.built all
    (slice_built s w w c.args.from c.deref.result.now c.args.stack.now.items c.deref.ensures.value
    c.requires.standing all c.args.pushed (λ r h. refl) built))

pub make_with-returns-in_ok-built-in-Integer-clause-keeps : goal.make_with-returns-in_ok-built-in-Integer-clause-keeps
make_with-returns-in_ok-built-in-Integer-clause-keeps g t c =
    keeps_then c.in_ok-bare-in-Integer.ensures.keeps c.in_ok-built-in-Integer.ensures.keeps

pub make_with-returns-in_ok-built-in-Integer-clause-built : goal.make_with-returns-in_ok-built-in-Integer-clause-built
make_with-returns-in_ok-built-in-Integer-clause-built g t c =
    λ all built.
    let s = g.S.TermSpace.space in
    let w = c.args.space.now in
    let place = place_at c.args.frames.now c.args.here in
    let symbols = s.symbol_of w in
    let terms = map (option_map (s.term_of w)) c.args.slots.now in
    let whole = loaded_of symbols c.args.pattern.now in
    let bare = bare_integer place terms whole c.in-Integer.field-0
    (loaded_as_integer symbols c.args.pattern.now c.in-Integer.field-0 c.in-Integer.is) in
    let made = c.in_ok-bare-in-Integer.ensures in
    c.in_ok-built-in-Integer.ensures.built (instance place whole terms) bare made.built all
    (slice_built s w c.build.new.space c.args.from c.deref-in-Integer.result.now c.args.stack.now.items
    (c.deref-in-Integer.ensures.value ∙ made.stack) c.requires.standing all c.args.pushed made.keeps.terms built)

pub make_with-returns-in_ok-built-in-Applied-clause-keeps : goal.make_with-returns-in_ok-built-in-Applied-clause-keeps
make_with-returns-in_ok-built-in-Applied-clause-keeps g t c =
    keeps_then c.in_ok-bare-in-Applied.ensures.keeps c.in_ok-built-in-Applied.ensures.keeps

pub make_with-returns-in_ok-built-in-Applied-clause-built : goal.make_with-returns-in_ok-built-in-Applied-clause-built
make_with-returns-in_ok-built-in-Applied-clause-built g t c =
    λ all built.
    let s = g.S.TermSpace.space in
    let w = c.args.space.now in
    let place = place_at c.args.frames.now c.args.here in
    let symbols = s.symbol_of w in
    let terms = map (option_map (s.term_of w)) c.args.slots.now in
    let whole = loaded_of symbols c.args.pattern.now in
    let bare = bare_applied place terms whole (symbols c.in-Applied.field-0)
    (map (loaded_of symbols) c.in-Applied.field-1.items)
    (loaded_as_applied symbols c.args.pattern.now c.in-Applied.field-0 c.in-Applied.field-1
    c.in-Applied.field-1.items c.in-Applied.is refl) in
    let made = c.in_ok-bare-in-Applied.ensures in
    c.in_ok-built-in-Applied.ensures.built (instance place whole terms) bare made.built all
    (slice_built s w c.build-in-Applied.new.space c.args.from c.deref-in-Applied.result.now c.args.stack.now.items
    (c.deref-in-Applied.ensures.value ∙ made.stack) c.requires.standing all c.args.pushed made.keeps.terms built)

pub make_with-returns-in_ok-built-in-List-clause-keeps : goal.make_with-returns-in_ok-built-in-List-clause-keeps
make_with-returns-in_ok-built-in-List-clause-keeps g t c =
    keeps_then c.in_ok-bare-in-List.ensures.keeps c.in_ok-built-in-List.ensures.keeps

pub make_with-returns-in_ok-built-in-List-clause-built : goal.make_with-returns-in_ok-built-in-List-clause-built
make_with-returns-in_ok-built-in-List-clause-built g t c =
    λ all built.
    let s = g.S.TermSpace.space in
    let w = c.args.space.now in
    let place = place_at c.args.frames.now c.args.here in
    let symbols = s.symbol_of w in
    let terms = map (option_map (s.term_of w)) c.args.slots.now in
    let whole = loaded_of symbols c.args.pattern.now in
    let bare = bare_list place terms whole (map (loaded_of symbols) c.in-List.field-0.items)
    (rest_loaded_of symbols c.in-List.field-1)
    (loaded_as_list symbols c.args.pattern.now c.in-List.field-0 c.in-List.field-1 c.in-List.field-0.items
    c.in-List.is refl) in
    let made = c.in_ok-bare-in-List.ensures in
    c.in_ok-built-in-List.ensures.built (instance place whole terms) bare made.built all
    (slice_built s w c.build-in-List.new.space c.args.from c.deref-in-List.result.now c.args.stack.now.items
    (c.deref-in-List.ensures.value ∙ made.stack) c.requires.standing all c.args.pushed made.keeps.terms built)

pub make_with-returns-in_ok-built-in-Like-clause-built : goal.make_with-returns-in_ok-built-in-Like-clause-built
make_with-returns-in_ok-built-in-Like-clause-built g t c =
    λ all built.
    let s = g.S.TermSpace.space in
    let w = c.args.space.now in
    let place = place_at c.args.frames.now c.args.here in
    let symbols = s.symbol_of w in
    let terms = map (option_map (s.term_of w)) c.args.slots.now in
    let whole = loaded_of symbols c.args.pattern.now in
    let part = c.deref-in-Like.result.now in
    let held = some_held (λ r. IsTrue (s.stands w r)) (s.term_of w) (value_in (place c.in-Like.x) terms)
    c.value-in-Like.result c.value-in-Like.ensures (c.is_none.ensures ∙ ap not c.if-is_none.false) in
    builds_as s c.make_with.new.space (made_with (instance place (loaded_of symbols part) terms) (all (Some end)))
    (made_with (instance place whole terms) (all (Some end))) c.in_ok-built-in-Like.built
    (with_inner_like place terms whole (loaded_of symbols part) c.in-Like.x held.0 (all (Some end))
    (loaded_as_like symbols c.args.pattern.now c.in-Like.part c.in-Like.x c.in-Like.is ∙
    ap (λ p. like (loaded_of symbols p) c.in-Like.x) (sym c.deref-in-Like.ensures)) held.1)
    (c.in_ok-built-in-Like.ensures.built all built)

pub make_with-have_instances-requires : goal.make_with-have_instances-requires
make_with-have_instances-requires g t c κs within =
    let known = known_as_annotated (g.S.TermSpace.space.knows c.args.space.now) c.args.pattern.now c.in-Annotated.part
    c.in-Annotated.annotations c.in-Annotated.part.value c.as_slice-annotations.result.now c.in-Annotated.is refl
    c.as_slice-annotations.ensures.value c.requires.known in
    (search (rules, the_lemmas), (within.0, (within.1.0, (within.1.1.0, (within.1.1.1, (known.1, c.requires.slots))))))

pub make_with-returns-then-not-branch-clause-built : goal.make_with-returns-then-not-branch-clause-built
make_with-returns-then-not-branch-clause-built g t c =
    λ all built.
    let s = g.S.TermSpace.space in
    let w = c.args.space.now in
    let place = place_at c.args.frames.now c.args.here in
    let symbols = s.symbol_of w in
    let terms = map (option_map (s.term_of w)) c.args.slots.now in
    let whole = loaded_of symbols c.args.pattern.now in
    let annotations = all_loaded_of symbols c.as_slice-annotations.result.now in
    let have = c.in_ok-have_instances-in-Annotated.ensures in
    ap (λ o. made_with o (all (Some end)))
    (lacks_annotation place terms whole (loaded_of symbols c.in-Annotated.part.value) annotations
    c.in_ok-have_instances-in-Annotated.field-0
    (loaded_as_annotated symbols c.args.pattern.now c.in-Annotated.part c.in-Annotated.annotations
    c.in-Annotated.part.value c.as_slice-annotations.result.now c.in-Annotated.is refl
    c.as_slice-annotations.ensures.value) have.all c.if-not-branch.true)

pub make_with-make_with-requires-in-Annotated : goal.make_with-make_with-requires-in-Annotated
make_with-make_with-requires-in-Annotated g t c κs within =
    let s = g.S.TermSpace.space in
    let w = c.args.space.now in
    let known = known_as_annotated (g.S.TermSpace.space.knows c.args.space.now) c.args.pattern.now c.in-Annotated.part
    c.in-Annotated.annotations c.deref-in-Annotated.result.now c.as_slice-annotations.result.now c.in-Annotated.is
    c.deref-in-Annotated.ensures c.as_slice-annotations.ensures.value c.requires.known in
    let have = c.in_ok-have_instances-in-Annotated.ensures in
    let from = subst (λ xs. c.args.from ≤ length xs) (sym have.stack) c.requires.from in
    let standing = subst (λ xs. AllRefs (λ r. IsTrue (s.stands c.have_instances.new.space r)) (drop c.args.from xs))
    (sym have.stack) (refs_later have.keeps.standing (drop c.args.from c.args.stack.now.items)
    c.requires.standing) in (
      search (rules, the_lemmas),
      (
        within.0,
        (
          within.1.0,
          (
            within.1.1.0,
            (
              within.1.1.1,
              (
                known_later have.keeps.known c.deref-in-Annotated.result.now known.0,
                (all_changed have.keeps.standing c.args.slots.now c.requires.slots, (from, standing)),
              ),
            ),
          ),
        ),
      ),
    )

pub make_with-returns-in_err-built-in-Annotated-clause-keeps :
    goal.make_with-returns-in_err-built-in-Annotated-clause-keeps
make_with-returns-in_err-built-in-Annotated-clause-keeps g t c =
    keeps_then c.in_ok-have_instances-in-Annotated.ensures.keeps c.make_with-in-Annotated.ensures.keeps

pub make_with-returns-in_ok-built-in-Annotated-clause-built :
    goal.make_with-returns-in_ok-built-in-Annotated-clause-built
make_with-returns-in_ok-built-in-Annotated-clause-built g t c =
    λ all built.
    let s = g.S.TermSpace.space in
    let w = c.args.space.now in
    let place = place_at c.args.frames.now c.args.here in
    let symbols = s.symbol_of w in
    let terms = map (option_map (s.term_of w)) c.args.slots.now in
    let whole = loaded_of symbols c.args.pattern.now in
    let part = c.deref-in-Annotated.result.now in
    let w1 = c.have_instances.new.space in
    let annotations = all_loaded_of symbols c.as_slice-annotations.result.now in
    let have = c.in_ok-have_instances-in-Annotated.ensures in
    let keeps = have.keeps in
    let known = known_as_annotated (g.S.TermSpace.space.knows c.args.space.now) c.args.pattern.now c.in-Annotated.part
    c.in-Annotated.annotations c.deref-in-Annotated.result.now c.as_slice-annotations.result.now c.in-Annotated.is
    c.deref-in-Annotated.ensures c.as_slice-annotations.ensures.value c.requires.known in
    let same = same_instance s w w1 place (loaded_of symbols part) (loaded_of (s.symbol_of w1) part) c.args.slots.now
    keeps.terms c.requires.slots (loaded_same (s.knows w) symbols (s.symbol_of w1) keeps.symbols part known.0) in
    let later = instance place (loaded_of (s.symbol_of w1) part) (map (option_map (s.term_of w1)) c.args.slots.now) in
    let standing = are_built_later s w w1 all (drop c.args.from c.args.stack.now.items) c.args.pushed keeps.terms
    c.requires.standing built in
    builds_as s c.make_with-in-Annotated.new.space (made_with later (all (Some end)))
    (made_with (instance place whole terms) (all (Some end))) c.in_ok-built-in-Annotated.built
    (with_inner_annotated place terms whole (loaded_of symbols part) annotations
    c.in_ok-have_instances-in-Annotated.field-0
    (loaded_as_annotated symbols c.args.pattern.now c.in-Annotated.part c.in-Annotated.annotations part
    c.as_slice-annotations.result.now c.in-Annotated.is c.deref-in-Annotated.ensures
    c.as_slice-annotations.ensures.value) have.all (all (Some end)) c.if-not-branch.false ∙
    ap (λ o. made_with o (all (Some end))) (sym same))
    (c.in_ok-built-in-Annotated.ensures.built all
    (subst (λ xs. AreBuilt s.term_of w1 all (drop c.args.from xs) c.args.pushed) (sym have.stack) standing))

pub have_instances-returns-in-NoInstance-clause-all : goal.have_instances-returns-in-NoInstance-clause-all
have_instances-returns-in-NoInstance-clause-all g t c =
    let s = g.S.TermSpace.space in
    let w = c.args.space.now in
    let put = c.in_ok-pushed.ensures.built in
    one_lacks s.term_of c.push_all.new.space (place_at c.args.frames.now c.args.here)
    (map (option_map (s.term_of w)) c.args.slots.now) (map (loaded_of (s.symbol_of w)) c.args.patterns.now) put.put
    c.in_ok-pushed.pushed put.are c.in-NoInstance.is

pub have_instances-returns-in-All-clause-all : goal.have_instances-returns-in-All-clause-all
have_instances-returns-in-All-clause-all g t c =
    let s = g.S.TermSpace.space in
    let w = c.args.space.now in
    let put = c.in_ok-pushed.ensures.built in
    each_fits s.term_of c.push_all.new.space (place_at c.args.frames.now c.args.here)
    (map (option_map (s.term_of w)) c.args.slots.now) (map (loaded_of (s.symbol_of w)) c.args.patterns.now) put.put
    c.in_ok-pushed.pushed put.are c.in-All.is

pub have_instances-returns-in-Oversize-clause-all : goal.have_instances-returns-in-Oversize-clause-all
have_instances-returns-in-Oversize-clause-all g t c =
    let s = g.S.TermSpace.space in
    let w = c.args.space.now in
    let put = c.in_ok-pushed.ensures.built in
    one_is_large s.term_of c.push_all.new.space (place_at c.args.frames.now c.args.here)
    (map (option_map (s.term_of w)) c.args.slots.now) (map (loaded_of (s.symbol_of w)) c.args.patterns.now) put.put
    c.in_ok-pushed.pushed put.are c.in-Oversize.is
