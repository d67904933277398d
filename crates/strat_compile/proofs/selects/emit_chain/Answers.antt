use Rattle.std.proofs.Common.{◌∙◌}
use Rattle.std.proofs.lemmas.Result.{on_ok_weaker}
use Rattle.strat_compile.proofs.ChainLaws.{selects_made}
use Rattle.strat_compile.proofs.selects.emit_chain.Goals as goal

pub returns-clause-view : goal.returns-clause-view
returns-clause-view c =
    on_ok_weaker c.emit_selects.result
    (λ made. selects_made _ _ _ _ _ _ _ _ _ c.place.ensures c.in_ok-cases.ensures.cases
    (c.as_slice.ensures.value ∙ c.in_ok-cases.ensures.skipped) made)
    c.emit_selects.ensures
