use Rattle.std.proofs.Common.{◌∙◌, ◌-◌, take, drop, length, map, subst}
use Rattle.std.specs.Option.{option_and_then, option_map}
use Rattle.term_model.specs.Flat.{all_flat}
use Rattle.term_model.specs.Flat as flat
use Rattle.term_model.specs.Term.{trees_of}
use Rattle.prim_registry.specs.Entries.{entries_of}
use Rattle.prim_registry.specs.Registered.{meaning_of}
use Rattle.strat_code.specs.Code.{apply_primitive}
use Rattle.strat_steps.specs.State.{place_at}
use Rattle.strat_patterns.specs.Loaded.{loaded_of, all_loaded_of}
use Rattle.strat_machine.specs.Tables.{IsPosition}
use Rattle.term_model.proofs.SpaceLaws.{keeps_then}
use Rattle.strat_patterns.proofs.BuildingLaws.{slice_is}
use Rattle.strat_machine.proofs.PrimitiveLaws.{as_many_put, takes_them, answers_none_so, answers_large_so, answers_so, answers_nothing_so, answers_too_large_so, goes_on_so}
use Rattle.strat_machine.proofs.CalculatingLaws.{calculates_so, calculates_nothing_so, calculates_too_large_so}
use Rattle.strat_machine.proofs.primitives.perform_primitive.Goals as goal

pub answer-requires-clause-position : goal.answer-requires-clause-position
answer-requires-clause-position g c =
    let s = g.S.TermSpace.space in
    let xs = c.deref.result.now in
    let from = c.len-from.result in
    takes_them (entries_of c.args.registry.now) c.args.index
    (as_many_put s c.build_all.new.space (place_at c.args.stacks.now.frames c.args.position.now.frame)
    (map (option_map (s.term_of c.args.space.now)) c.slots-slots.result.now)
    (loaded_of (s.symbol_of c.args.space.now)) c.args.patterns.now
    c.args.scratch.now.terms.items c.build_all.new.stack.items c.in_ok-build_all.field-0 from
    (take (length xs - from) (drop from xs)) c.in_ok-build_all.ensures.built c.in-All.is (c.len-from.ensures ∙
    c.args.scratch.now.terms.ok.0)
    (slice_is from xs c.build_all.new.stack.items c.deref.ensures.value)) c.requires.index

pub returns-in-NoInstance-clause-step : goal.returns-in-NoInstance-clause-step
returns-in-NoInstance-clause-step g c = λ f n i position at.
    answers_none_so n f c.args.position.now.frame
    (all_loaded_of (g.S.TermSpace.space.symbol_of c.args.space.now) c.args.patterns.now)
    c.args.stacks.now.frames c.in_ok-build_all.ensures.keeps c.slots-slots.ensures c.in_ok-build_all.ensures.built
    c.in-NoInstance.is

pub returns-in-Oversize-clause-step : goal.returns-in-Oversize-clause-step
returns-in-Oversize-clause-step g c = λ f n i position at.
    answers_large_so n f c.args.position.now.frame
    (all_loaded_of (g.S.TermSpace.space.symbol_of c.args.space.now) c.args.patterns.now)
    c.args.stacks.now.frames c.in_ok-build_all.ensures.keeps c.slots-slots.ensures c.in_ok-build_all.ensures.built
    c.in-Oversize.is

pub returns-in_ok-answered-in-All-clause-keeps : goal.returns-in_ok-answered-in-All-clause-keeps
returns-in_ok-answered-in-All-clause-keeps g c =
    keeps_then c.in_ok-build_all.ensures.keeps c.in_ok-answered-in-All.ensures.keeps

pub returns-in-Some-clause-step : goal.returns-in-Some-clause-step
returns-in-Some-clause-step g c = λ f n i position at.
    let s = g.S.TermSpace.space in
    let ps = all_loaded_of (s.symbol_of c.args.space.now) c.args.patterns.now in
    let o = option_map flat.term_of (option_map flat.number c.in-Some.value) in
    let here = c.args.position.now.frame in
    let frames = c.args.stacks.now.frames in
    let w = c.args.space.now in
    let w1 = c.make_integer.new.space in
    let m = c.args.stacks.now in
    let answer = meaning_of g.M.PrimMeaning.answer c.args.registry.now in
    let keeps = c.in_ok-made.ensures.keeps in
    let slots = c.slots-slots.ensures in
    let call = c.in-Some.ensures f in
    goes_on_so s answer w w1 (apply_primitive n f ps) i c.args.position.now c.go_on.new.position m
    o c.go_on.result c.in_ok-made.made c.go_on.ensures.next c.go_on.ensures.position c.in_ok-made.ensures.made
    (λ u h. calculates_so n f here ps frames o keeps slots (λ e. call e position) h at)
    (λ h. calculates_nothing_so n f here ps frames o keeps slots (λ e. call e position) h)
    (λ h. calculates_too_large_so n f here ps frames o keeps slots (λ e. call e position) h)

pub returns-in_ok-answered-in-All-clause-step : goal.returns-in_ok-answered-in-All-clause-step
returns-in_ok-answered-in-All-clause-step g c = λ f n i position at.
    let s = g.S.TermSpace.space in
    let xs = c.deref.result.now in
    let from = c.len-from.result in
    let rs = take (length xs - from) (drop from xs) in
    let slice = slice_is from xs c.build_all.new.stack.items c.deref.ensures.value in
    let start = c.len-from.ensures ∙ c.args.scratch.now.terms.ok.0 in
    let answer = meaning_of g.M.PrimMeaning.answer c.args.registry.now in
    let ps = all_loaded_of (s.symbol_of c.args.space.now) c.args.patterns.now in
    let frames = c.args.stacks.now.frames in
    let put = c.in_ok-build_all.ensures.built in
    let keeps = c.in_ok-build_all.ensures.keeps in
    let later = c.in_ok-answered-in-All.ensures.keeps in
    let many = as_many_put s c.build_all.new.space (place_at frames c.args.position.now.frame)
    (map (option_map (s.term_of c.args.space.now)) c.slots-slots.result.now)
    (loaded_of (s.symbol_of c.args.space.now)) c.args.patterns.now
    c.args.scratch.now.terms.items c.build_all.new.stack.items c.in_ok-build_all.field-0 from rs put c.in-All.is start
    slice in
    let built = c.in_ok-answered-in-All.ensures.answer f
    (subst (λ k. IsPosition (entries_of c.args.registry.now) c.args.index (f, k)) many position) in
    goes_on_so s answer c.args.space.now c.answer.new.space (apply_primitive n f ps)
    i c.args.position.now c.go_on-in-All.new.position c.args.stacks.now
    (option_map flat.term_of (option_and_then (answer f)
    (all_flat (trees_of (map (s.term_of c.build_all.new.space) rs)))))
    c.go_on-in-All.result c.in_ok-answered-in-All.answered c.go_on-in-All.ensures.next
    c.go_on-in-All.ensures.position built
    (λ u h. answers_so n f c.args.position.now.frame ps frames keeps c.slots-slots.ensures put c.answer.new.space from
    rs c.in-All.is start slice later h at)
    (λ h. answers_nothing_so n f c.args.position.now.frame ps frames keeps c.slots-slots.ensures put c.answer.new.space
    from rs c.in-All.is start slice later h)
    (λ h. answers_too_large_so n f c.args.position.now.frame ps frames keeps c.slots-slots.ensures put
    c.answer.new.space from rs c.in-All.is start slice later h)
