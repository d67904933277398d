use Rattle.term_store.specs.Chains.{IsBlockIn}
use Rattle.term_store.proofs.MakingLemmas.{chain_found}
use Rattle.term_store.proofs.store.StoreSpace.chain_of.Goals as goal

pub returns-clause-made : goal.returns-clause-made
returns-clause-made c =
    let is : IsBlockIn c.block_of.new.self.chains c.in-Some.block c.args.places.now =
    rw c.in-Some.is at c.in_ok-block.ensures.made in
    chain_found c.args.self.now c.block_of.new.self c.link.new.self.chains c.in-Some.block c.args.places.now
    c.in_ok-found.found c.in_ok-block.ensures.keeps is c.in_ok-found.ensures.made
