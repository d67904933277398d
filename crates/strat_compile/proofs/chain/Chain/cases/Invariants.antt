use Rattle.std.proofs.Common.{◌≡◌, ◌++◌, map, length}
use Rattle.strat_code.specs.CodeOf.{case_of}
use Rattle.strat_compile.specs.ChainOf.{bodies_of}
use Rattle.strat_compile.specs.Chains.{cases_between, skipped_from}
use Rattle.strat_compile.proofs.chain.Chain.cases.Given as goal

abbrev pub invariant-loop-body : goal.invariant-loop-body
invariant-loop-body l = record {
  cases : cases_between (bodies_of l.initial.self) l.base l.initial.self.last ≡ map case_of l.cases.items ++
      cases_between (bodies_of l.self) l.base l.self.last;
  skipped : skipped_from 0 (bodies_of l.initial.self) ≡ l.skipped.items ++
      skipped_from (length l.cases.items) (bodies_of l.self);
  last : l.self.last ≡ l.initial.self.last;
}

abbrev pub decreases-loop-body : goal.decreases-loop-body
decreases-loop-body l = length l.self.bodies.items
