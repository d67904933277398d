use Rattle.std.proofs.Common.{◌≡◌, ◌+◌, map, drop}
use Rattle.strat_code.specs.CodeOf.{case_of}
use Rattle.strat_compile.specs.Chains.{selects_from}
use Rattle.strat_compile.specs.Output.{emitted_of}
use Rattle.strat_compile.proofs.output.Output.emit_selects.Given as goal

abbrev pub invariant-loop-index : goal.invariant-loop-index
invariant-loop-index l = record {
  view : emitted_of l.self ≡ selects_from (drop (l.index + 1) l.skipped) (map case_of l.fn.cases.items)
      l.last (emitted_of l.fn.self);
  tables : l.self.tables ≡ l.initial.self.tables;
}
