use Rattle.std.proofs.Common.{◌≡◌, ◌+◌, ℕ, List, length, take, arith, ap, ◌∙◌}
use Rattle.term_model.specs.declared.parts.Block.{Block}
use Rattle.term_model.specs.Blocks.{lists_of}
use Rattle.term_store.proofs.ChainLemmas.{length-lists_of, take-lists_of, AreBlocks-take}
use Rattle.term_store.proofs.chains.Chains.truncate.Goals as goal

pub invariant_of-self : goal.invariant_of-self
invariant_of-self c = rw c.truncate.ensures.keys
    (AreBlocks-take c.self.inside.blocks.keys c.args.count c.self.invariant)

pub returns : goal.returns
returns c =
    let keys : List (Block ℕ) = c.self.inside.blocks.keys in
    let seen : lists_of keys ≡ c.args.self.now = c.self.view_is in
    let long = length-lists_of keys in
    let size = ap length seen in
    let taken : lists_of c.truncate.new.self.keys ≡ take (c.args.count + 1) (lists_of keys) =
    rw c.truncate.ensures.keys (take-lists_of keys c.args.count (omega (arith, c.requires, long, size))) in
    taken ∙ ap (take (c.args.count + 1)) seen
