use Rattle.std.proofs.Common.{◌≡◌, ◌∙◌, length, map, sym}
use Rattle.std.specs.Option.{option_map}
use Rattle.std.specs.Cmp.{unsigned_Decides}
use Rattle.strat_patterns.specs.Loaded.{loaded_of}
use Rattle.strat_steps.specs.State.{place_at}
use Rattle.strat_patterns.proofs.BuiltLaws.{arguments_put, no_arguments, large_arguments, nothing_put}
use Rattle.strat_patterns.proofs.ElementLaws.{puts_nothing_at, kept_is}
use Rattle.strat_patterns.proofs.arguments.build_all.Goals as goal

pub returns-in-All-clause-built : goal.returns-in-All-clause-built
returns-in-All-clause-built g c =
    let s = g.S.TermSpace.space in
    let w = c.args.space.now in
    arguments_put s c.push_all.new.space (place_at c.args.frames.now c.args.here)
    (map (option_map (s.term_of w)) c.args.slots.now) (map (loaded_of (s.symbol_of w)) c.args.patterns.now)
    c.args.stack.now.items c.push_all.new.stack.items c.in_ok-made.made c.in-All.is c.in_ok-made.ensures.built

pub returns-in-NoInstance-clause-built : goal.returns-in-NoInstance-clause-built
returns-in-NoInstance-clause-built g c =
    let s = g.S.TermSpace.space in
    let w = c.args.space.now in
    let built = c.in_ok-made.ensures.built in
    puts_nothing_at s c.push_all.new.space c.args.stack.now.items _
    (c.truncate.ensures.items ∙ kept_is built c.len-from.result (c.len-from.ensures ∙ c.args.stack.now.ok.0)) _
    (no_arguments s c.push_all.new.space (place_at c.args.frames.now c.args.here)
    (map (option_map (s.term_of w)) c.args.slots.now) (map (loaded_of (s.symbol_of w)) c.args.patterns.now)
    c.args.stack.now.items c.push_all.new.stack.items c.in_ok-made.made built.put c.in-NoInstance.is built.are)

pub returns-in-Oversize-clause-built : goal.returns-in-Oversize-clause-built
returns-in-Oversize-clause-built g c =
    let s = g.S.TermSpace.space in
    let w = c.args.space.now in
    let built = c.in_ok-made.ensures.built in
    puts_nothing_at s c.push_all.new.space c.args.stack.now.items _
    (c.truncate-in-Oversize.ensures.items ∙
    kept_is built c.len-from.result (c.len-from.ensures ∙ c.args.stack.now.ok.0)) _
    (large_arguments s c.push_all.new.space (place_at c.args.frames.now c.args.here)
    (map (option_map (s.term_of w)) c.args.slots.now) (map (loaded_of (s.symbol_of w)) c.args.patterns.now)
    c.args.stack.now.items c.push_all.new.stack.items c.in_ok-made.made built.put c.in-Oversize.is built.are)

pub returns-then-is_empty-clause-built : goal.returns-then-is_empty-clause-built
returns-then-is_empty-clause-built g c =
    let s = g.S.TermSpace.space in
    let w = c.args.space.now in
    let none : length c.args.patterns.now ≡ 0 =
    (unsigned_Decides (length c.args.patterns.now) 0).0 (sym c.is_empty.ensures ∙ c.if-is_empty.true) in
    nothing_put s w (place_at c.args.frames.now c.args.here) (map (option_map (s.term_of w)) c.args.slots.now)
    (loaded_of (s.symbol_of w)) c.args.patterns.now c.args.stack.now.items none
