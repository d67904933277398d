use Rattle.strat_compile.specs.Output.{emitted_of}
use Rattle.strat_compile.proofs.TableLaws.{view_kept, tables_pushed}
use Rattle.strat_compile.proofs.output.Output.add_table.Goals as goal

pub invariant_of-self : goal.invariant_of-self
invariant_of-self c = record {
  tidy =
      tables_pushed _ c.args.self.now.tables.items _ _ c.args.self.now.instrs.items c.args.self.now.tidy
      c.push.ensures.items;
}

pub returns-clause-view : goal.returns-clause-view
unfolding emitted_of
returns-clause-view c = view_kept c.args.self.now.tables.items _ _ c.args.self.now.instrs.items
    c.args.self.now.starts.items c.args.self.now.tidy c.in_ok-push.ensures.items
