use Rattle.std.proofs.Common.{rules, ◌≡◌, ◌<◌, ◌≤◌, ◌+◌, [], ℕ, List, length, get_or, arith, subst, sym, ap, ◌∙◌}
use Rattle.std.proofs.lemmas.Grind.{common_steps}
use Rattle.std.proofs.lemmas.Option.{get_or_from_slice_get}
use Rattle.term_model.specs.declared.parts.Block.{Block}
use Rattle.term_store.specs.Chains.{IsWhole}
use Rattle.term_model.specs.Blocks.{list_in, lists_of}
use Rattle.term_store.proofs.ChainLemmas.{length-lists_of, AreBlocks-insert, inserted}
use Rattle.term_store.proofs.chains.Chains.link.Goals as goal

pub invariant_of-self-2 : goal.invariant_of-self-2
invariant_of-self-2 c =
    let keys : List (Block ℕ) = c.self.inside.blocks.keys in
    let seen : lists_of keys ≡ c.args.self.now = c.self.view_is in
    let long = length-lists_of keys in
    let size = ap length seen in
    rw c.in_ok-at.ensures.keys (AreBlocks-insert _ keys c.args.block c.self.invariant
    (omega (arith, long, size, c.requires.rest))
    c.requires.some (subst (λ v. IsWhole (get_or v c.args.block.rest [])) (sym seen) c.requires.whole))

pub returns-clause-made : goal.returns-clause-made
returns-clause-made c =
    let keys : List (Block ℕ) = c.self.inside.blocks.keys in
    let b : Block ℕ = c.args.block in
    let new : List (Block ℕ) = c.insert_full.new.self.keys in
    let seen : lists_of keys ≡ c.args.self.now = c.self.view_is in
    let long = length-lists_of keys in
    let size = ap length seen in
    let below : b.rest ≤ length keys = omega (arith, long, size, c.requires.rest) in
    let stored = c.in_ok-at.ensures.stored in
    let equal = stored.2 in
    let same : b ≡ stored.0 = search rules in
    let is : get_or new c.in_ok-at.at b ≡ b = get_or_from_slice_get new c.in_ok-at.at stored.0 b stored.1 ∙ sym same in
    let within : c.in_ok-at.at < length new = grind (arith, common_steps) in
    let are = AreBlocks-insert _ keys b c.self.invariant below c.requires.some
    (subst (λ v. IsWhole (get_or v b.rest [])) (sym seen) c.requires.whole) in
    let made : get_or (lists_of new) (c.in_ok-at.at + 1) [] ≡ list_in (lists_of keys) b =
    rw c.in_ok-at.ensures.keys
    (inserted _ keys b c.in_ok-at.at are below (rw c.in_ok-at.ensures.keys at within)
    (rw c.in_ok-at.ensures.keys at is)) in
    subst (λ v. get_or (lists_of new) (c.in_ok-at.at + 1) [] ≡ list_in v b) seen made
