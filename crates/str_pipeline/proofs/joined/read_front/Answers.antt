use Rattle.std.proofs.Common.{◌≤◌, ◌+◌, false, arith, length}
use Rattle.std.proofs.lemmas.Grind.{common_steps}
use Rattle.str_pipeline.specs.Search.{IsSearched, IsStep}
use Rattle.str_pipeline.specs.declared.joined.Step.TheVariants.{More}
use Rattle.str_pipeline.proofs.CutLemmas.{early_step, searched_append, too_long_told}
use Rattle.str_pipeline.proofs.joined.read_front.Goals as goal

pub returns-in-TooLong-clause-split : goal.returns-in-TooLong-clause-split
returns-in-TooLong-clause-split g c =
    too_long_told (g.S.Source.reader.coming c.args.input.now)
    _ c.loop-definitions.bytes.items c.loop-definitions.is_ended c.args.limit
    c.loop-definitions.invariant.given c.loop-definitions.invariant.ended
    (rw c.deref.ensures.value at c.in-TooLong.ensures)

pub loop-definitions-preserved : goal.loop-definitions-preserved
loop-definitions-preserved g c =
    let more : IsStep c.loop-definitions.is_ended c.args.limit c.loop-definitions.bytes.items (More c.in-More.further) =
    rw c.deref.ensures.value at c.in-More.ensures in
    let searched : IsSearched false c.loop-definitions.bytes.items c.in-More.further = rw more.0 at more.2 in
    let low : g.S.Source.reader.reads c.loop-definitions.input ≤
    g.S.Source.reader.reads c.args.input.now + length c.loop-definitions.bytes.items = grind (arith, common_steps) in
    record {
      searched = rw c.in_ok-extend_from_slice.ensures.items
          (searched_append c.loop-definitions.bytes.items _ c.in-More.further searched);
      given = grind (arith, common_steps);
      ended = grind (arith, common_steps);
      few = grind (arith, common_steps);
      early = rw c.read.ensures.reads
          (early_step (g.S.Source.reader.coming c.args.input.now) (g.S.Source.reader.coming c.loop-definitions.input)
          c.loop-definitions.bytes.items c.in-More.further _ _ searched more.3 c.loop-definitions.invariant.given low);
      bounded = grind (arith, common_steps);
      unfailed = grind (arith, common_steps);
    }

pub returns-in_default-clause-early : goal.returns-in_default-clause-early
returns-in_default-clause-early g c =
    let more : IsStep c.loop-definitions.is_ended c.args.limit c.loop-definitions.bytes.items (More c.in-More.further) =
    rw c.deref.ensures.value at c.in-More.ensures in
    let searched : IsSearched false c.loop-definitions.bytes.items c.in-More.further = rw more.0 at more.2 in
    let low : g.S.Source.reader.reads c.loop-definitions.input ≤
    g.S.Source.reader.reads c.args.input.now + length c.loop-definitions.bytes.items = grind (arith, common_steps) in
    rw c.read.ensures.reads
    (early_step (g.S.Source.reader.coming c.args.input.now) (g.S.Source.reader.coming c.loop-definitions.input)
    c.loop-definitions.bytes.items c.in-More.further _ _ searched more.3 c.loop-definitions.invariant.given low)

pub returns-in_err-extend_from_slice-clause-early : goal.returns-in_err-extend_from_slice-clause-early
returns-in_err-extend_from_slice-clause-early g c =
    let more : IsStep c.loop-definitions.is_ended c.args.limit c.loop-definitions.bytes.items (More c.in-More.further) =
    rw c.deref.ensures.value at c.in-More.ensures in
    let searched : IsSearched false c.loop-definitions.bytes.items c.in-More.further = rw more.0 at more.2 in
    let low : g.S.Source.reader.reads c.loop-definitions.input ≤
    g.S.Source.reader.reads c.args.input.now + length c.loop-definitions.bytes.items = grind (arith, common_steps) in
    rw c.read.ensures.reads
    (early_step (g.S.Source.reader.coming c.args.input.now) (g.S.Source.reader.coming c.loop-definitions.input)
    c.loop-definitions.bytes.items c.in-More.further _ _ searched more.3 c.loop-definitions.invariant.given low)
