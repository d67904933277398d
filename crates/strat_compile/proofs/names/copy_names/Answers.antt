use Rattle.std.proofs.Common.{arith}
use Rattle.strat_compile.proofs.NameLaws.{inserted_next}
use Rattle.strat_compile.proofs.names.copy_names.Goals as goal

pub loop-index-preserved : goal.loop-index-preserved
loop-index-preserved c =
    inserted_next c.args.source.now c.loop-index.index _ _ _ c.len-index-end.ensures.once
    (omega (arith, c.len-index-end.ensures.count))
    c.at-arity.ensures c.loop-index.invariant c.in_ok-insert.ensures.inserted
