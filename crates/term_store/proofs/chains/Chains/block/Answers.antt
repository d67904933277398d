use Rattle.std.proofs.Common.{◌≡◌, ◌-◌, ℕ, List, length, get_or, arith, subst, sym, ap}
use Rattle.std.proofs.lemmas.Grind.{common_steps}
use Rattle.std.proofs.lemmas.Option.{get_or_from_slice_get}
use Rattle.term_model.specs.declared.parts.Front.TheVariants as fronts
use Rattle.term_model.specs.declared.parts.Block.{Block}
use Rattle.term_model.specs.Blocks.{lists_of}
use Rattle.term_store.specs.Chains.{IsBlockOf}
use Rattle.term_store.proofs.ChainLemmas.{length-lists_of, block_at, no_block}
use Rattle.term_store.proofs.chains.Chains.block.Goals as goal

pub returns-then-chain-eq0 : goal.returns-then-chain-eq0
returns-then-chain-eq0 c =
    let none : Block ℕ = record { front = fronts.Zero; rest = 0 } in
    let seen : lists_of c.self.inside.blocks.keys ≡ c.args.self.now = c.self.view_is in
    subst (λ v. IsBlockOf v c.args.chain none)
    seen (subst (λ n. IsBlockOf (lists_of c.self.inside.blocks.keys) n none) (sym c.if-chain-eq0.true)
    (no_block c.self.inside.blocks.keys))

pub returns : goal.returns
returns c =
    let keys : List (Block ℕ) = c.self.inside.blocks.keys in
    let b : Block ℕ = c.unwrap.result.now in
    let seen : lists_of keys ≡ c.args.self.now = c.self.view_is in
    let long = length-lists_of keys in
    let size = ap length seen in
    let is : get_or keys (c.args.chain - 1) b ≡ b =
    get_or_from_slice_get keys (c.args.chain - 1) b b (grind (arith, common_steps)) in
    subst (λ v. IsBlockOf v c.args.chain b)
    seen (block_at keys c.args.chain b c.self.invariant (omega (arith, c.if-chain-eq0.false))
    (omega (arith, long, size, c.requires)) is)
