-- A new store holds nothing, and hashes with its keys.
use Rattle.std.proofs.Common.{◌∙◌, ◌/◌, ap, length, arith}
use Rattle.term_store.proofs.PlaceLaws.{length-integers}
use Rattle.term_store.proofs.SpaceLemmas.{small_store}
use Rattle.term_store.proofs.store.StoreSpace.new.Goals as goal

pub invariant_of-result : goal.invariant_of-result
invariant_of-result c = record {
  store = rw (
    c.with_hasher.ensures.empty,
    c.new.ensures,
    c.new-2.ensures.keys,
    c.new-3.ensures.items,
    c.new-4.ensures.items,
  ) (small_store (c.small_integers-small.result / 2) c.small_integers-small.result);
  small = c.new-2.ensures.small ∙ c.small_integers-small.ensures;
  sized = c.new-3.ensures.small ∙ c.small_integers-small.ensures;
  within = omega arith;
}

pub returns-clause-empty : goal.returns-clause-empty
returns-clause-empty c =
    let long = ap length c.new-2.ensures.keys ∙
    length-integers (c.small_integers-small.result / 2) c.small_integers-small.result in
    let small = c.new-2.ensures.small in
    omega (arith, long, small)

pub returns-clause-keyed : goal.returns-clause-keyed
returns-clause-keyed c = c.with_hasher.ensures.hasher
