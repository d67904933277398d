use Rattle.std.proofs.Common.{◌≡◌, ◌<◌, ◌-◌, ◌+◌, map, length, refl, arith, ◌∙◌}
use Rattle.strat_code.specs.CodeOf.{case_of}
use Rattle.strat_compile.proofs.ChainLaws.{selects_next}
use Rattle.strat_compile.proofs.output.Output.emit_selects.Goals as goal

pub loop-index-preserved : goal.loop-index-preserved
loop-index-preserved c =
    let j = c.loop-index.index - 1 + 1 in
    let below : j < length c.args.skipped.now = omega arith in
    let next : c.loop-index.index + 1 ≡ j + 1 = omega arith in
    record {
      view = selects_next _ _ _ j _ _ 0 _ c.args.skipped.now (map case_of c.args.cases.items)
          _ _ _ below next c.in_ok-table.ensures.table c.loop-index.invariant.tables refl c.loop-index.invariant.view
          c.in_ok-emit_select.ensures.view;
      tables = c.emit_select.ensures.tables ∙ c.loop-index.invariant.tables;
    }
