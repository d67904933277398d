use Rattle.term_model.proofs.SpaceLaws.{keeps_then, none_then}
use Rattle.strat_machine.proofs.TableLaws.{tables_kept, one_more_table}
use Rattle.strat_machine.proofs.tables.load_tables.Goals as goal

pub loop-table-preserved : goal.loop-table-preserved
loop-table-preserved g c =
    let keeps = c.in_ok-table.ensures.keeps in
    let so_far = c.loop-table.invariant in (
      keeps_then so_far.0 keeps,
      none_then so_far.1 c.in_ok-table.ensures.none,
      one_more_table c.loop-table.loaded.items c.push.new.self.items c.in_ok-table.table c.args.tables.now
          c.loop-table.table-index c.table-item.result (tables_kept keeps.known keeps.symbols _ _ _ so_far.2)
          c.deref.ensures.value c.in_ok-table.ensures.loaded
          c.loop-table-test.true c.table-item.is c.in_ok-push.ensures.items,
    )

pub returns-in_err-push-clause-keeps : goal.returns-in_err-push-clause-keeps
returns-in_err-push-clause-keeps g c = keeps_then c.loop-table.invariant.0 c.in_ok-table.ensures.keeps

pub returns-in_err-push-clause-none : goal.returns-in_err-push-clause-none
returns-in_err-push-clause-none g c = none_then c.loop-table.invariant.1 c.in_ok-table.ensures.none
