use Rattle.std.proofs.Common.{rules, ◌≡◌, subst}
use Rattle.term_store.specs.Chains.{AreApart}
use Rattle.term_model.specs.Blocks.{lists_of}
use Rattle.term_store.proofs.ChainLemmas.{apart}
use Rattle.term_store.proofs.chains.Chains.len.Goals as goal

pub returns-clause-apart : goal.returns-clause-apart
returns-clause-apart c =
    let seen : lists_of c.self.inside.blocks.keys ≡ c.args.self.now = c.self.view_is in
    subst AreApart seen (apart _ (λ x. search rules) c.self.inside.blocks.keys c.len.ensures.unique c.self.invariant)
