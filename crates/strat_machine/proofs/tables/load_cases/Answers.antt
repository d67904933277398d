use Rattle.term_model.proofs.SpaceLaws.{keeps_then, none_then}
use Rattle.strat_machine.proofs.TableLaws.{cases_later, one_more_case}
use Rattle.strat_machine.proofs.tables.load_cases.Goals as goal

pub loop-case-preserved : goal.loop-case-preserved
loop-case-preserved g c =
    let keeps = c.in_ok-root.ensures.keeps in
    let so_far = c.loop-case.invariant in (
      keeps_then so_far.0 keeps,
      none_then so_far.1 c.in_ok-root.ensures.none,
      one_more_case c.loop-case.loaded.items c.push.new.self.items c.in_ok-root.root c.args.cases.now
          c.loop-case.case-index c.case-item.result (cases_later keeps.known keeps.symbols so_far.2)
          c.in_ok-root.ensures.loaded
          c.loop-case-test.true c.case-item.is c.in_ok-push.ensures.items,
    )
