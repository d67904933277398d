use Rattle.std.proofs.Common.{◌≡◌, map}
use Rattle.strat_compile.proofs.TableLaws.{table_of, table_located}
use Rattle.strat_compile.proofs.located.located_tables.Given as goal

abbrev pub invariant-loop-cases : goal.invariant-loop-cases
invariant-loop-cases l = map table_of l.made.items ≡ map (table_located l.count) l.yielded
