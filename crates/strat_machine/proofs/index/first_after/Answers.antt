use Rattle.std.proofs.Common.{◌-◌, length, drop, refl, rules}
use Rattle.std.proofs.Math.Dec.{ltb}
use Rattle.std.proofs.lemmas.List.Sorted.{IsNonDecreasingBy-drop, IsNonDecreasingBy-take, IsPartitionPoint-from_clause, IsPartitionedBy-ltb}
use Rattle.std.proofs.lemmas.List.{take_rest}
use Rattle.strat_machine.specs.Tables.{case_has}
use Rattle.strat_machine.proofs.IndexLaws.{first_from, same_list}
use Rattle.strat_machine.proofs.index.first_after.Goals as goal

pub first_of-requires-clause-rising : goal.first_of-requires-clause-rising
first_of-requires-clause-rising g c =
    let list = c.args.list.now in
    let start = c.partition_point-start.result in
    IsNonDecreasingBy-take (λ x. x) (length list - start) (drop start list)
    (IsNonDecreasingBy-drop (λ x. x) start list c.requires.rising)

pub returns : goal.returns
returns g c =
    let s = g.S.TermSpace.space in
    let parted = IsPartitionedBy-ltb (λ x. x) c.args.list.now c.args.skipped c.requires.rising in
    let point = IsPartitionPoint-from_clause (λ x. ltb x c.args.skipped)
    _ _ c.partition_point-start.ensures.partitioned parted (λ a r q k. search rules) in
    first_from (case_has (s.symbol_of c.args.space.now) (s.term_of c.args.space.now c.args.term.now))
    c.args.cases.now c.args.list.now c.args.skipped c.partition_point-start.result c.args.limit c.first_of.result
    c.partition_point-start.ensures.bound point
    (same_list (take_rest c.args.list.now c.partition_point-start.result) refl c.first_of.ensures)
