use Rattle.std.proofs.Common.{◌∙◌, Some, map}
use Rattle.std.specs.Option.{option_map}
use Rattle.core_lang.specs.Building.{applied_to, instance}
use Rattle.term_model.specs.Term.{end}
use Rattle.term_model.proofs.SpaceLaws.{keeps_then}
use Rattle.strat_patterns.specs.Builds.{instances_then}
use Rattle.strat_patterns.specs.Loaded.{loaded_of}
use Rattle.strat_steps.specs.State.{place_at}
use Rattle.strat_patterns.proofs.LoadedLaws.{loaded_as_applied, known_as_applied}
use Rattle.strat_patterns.proofs.ElementLaws.{put_stands, put_are, builds_as, instance_applied}
use Rattle.strat_patterns.proofs.applied.build_term.Goals as goal

pub push_parts-requires-clause-known : goal.push_parts-requires-clause-known
push_parts-requires-clause-known g c =
    (known_as_applied (g.S.TermSpace.space.knows c.args.space.now) c.args.pattern.now c.in-Applied.name
    c.in-Applied.parts c.as_slice-parts.result.now c.in-Applied.is c.as_slice-parts.ensures.value c.requires.known).1

pub apply-requires-clause-name : goal.apply-requires-clause-name
apply-requires-clause-name g c =
    let known = known_as_applied (g.S.TermSpace.space.knows c.args.space.now) c.args.pattern.now c.in-Applied.name
    c.in-Applied.parts c.as_slice-parts.result.now c.in-Applied.is c.as_slice-parts.ensures.value
    c.requires.known in
    c.in_ok-pushed-in-Applied.ensures.keeps.known c.in-Applied.name known.0

pub apply-requires-clause-standing : goal.apply-requires-clause-standing
apply-requires-clause-standing g c =
    put_stands c.in_ok-pushed-in-Applied.ensures.built c.len-from.result (c.len-from.ensures ∙ c.args.stack.now.ok.0)

pub returns-in_ok-built-in-Applied-clause-keeps : goal.returns-in_ok-built-in-Applied-clause-keeps
returns-in_ok-built-in-Applied-clause-keeps g c =
    keeps_then c.in_ok-pushed-in-Applied.ensures.keeps c.in_ok-built-in-Applied.ensures.keeps

pub returns-in_ok-built-in-Applied-clause-built : goal.returns-in_ok-built-in-Applied-clause-built
returns-in_ok-built-in-Applied-clause-built g c =
    let s = g.S.TermSpace.space in
    let w = c.args.space.now in
    let w1 = c.push_parts.new.space in
    let place = place_at c.args.frames.now c.args.here in
    let symbols = s.symbol_of w in
    let terms = map (option_map (s.term_of w)) c.args.slots.now in
    let parts = c.as_slice-parts.result.now in
    let all = instances_then place terms (map (loaded_of symbols) parts) in
    let name = c.in-Applied.name in
    let known = known_as_applied (s.knows w) c.args.pattern.now name c.in-Applied.parts parts c.in-Applied.is
    c.as_slice-parts.ensures.value c.requires.known in
    builds_as s c.apply.new.space (applied_to (all (Some end)) (s.symbol_of w1 name))
    (instance place (loaded_of symbols c.args.pattern.now) terms) c.in_ok-built-in-Applied.built
    (instance_applied place terms (loaded_of symbols c.args.pattern.now) (symbols name) (s.symbol_of w1 name)
    (map (loaded_of symbols) parts)
    (loaded_as_applied symbols c.args.pattern.now name c.in-Applied.parts parts c.in-Applied.is
    c.as_slice-parts.ensures.value) (c.in_ok-pushed-in-Applied.ensures.keeps.symbols name known.0))
    (c.in_ok-built-in-Applied.ensures.built all
    (put_are c.in_ok-pushed-in-Applied.ensures.built c.len-from.result
    (c.len-from.ensures ∙ c.args.stack.now.ok.0)))
