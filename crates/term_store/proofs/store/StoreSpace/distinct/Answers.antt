use Rattle.term_model.specs.Same.{same_symbol, same_symbol-refl}
use Rattle.term_store.proofs.ChainLemmas.{distinct_places}
use Rattle.term_store.proofs.store.StoreSpace.distinct.Goals as goal

pub returns-clause-symbols : goal.returns-clause-symbols
returns-clause-symbols c = distinct_places same_symbol same_symbol-refl c.args.self.now.symbols.keys
    c.len.ensures.unique
