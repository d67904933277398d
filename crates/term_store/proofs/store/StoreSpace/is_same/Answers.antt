use Rattle.std.proofs.Common.{◌≡◌, ap, arith}
use Rattle.term_store.specs.Space.{term_of}
use Rattle.term_store.proofs.StoreLemmas.{one_store}
use Rattle.term_store.proofs.store.StoreSpace.is_same.Goals as goal

pub returns-clause-term : goal.returns-clause-term
returns-clause-term c =
    let s = c.args.self.now in
    let are = c.distinct.ensures in (
      λ same. let at : c.args.one ≡ c.args.other = grind (arith, same) in ap (term_of s) at,
      λ equal. let at : c.args.one ≡ c.args.other =
          one_store s.symbols.keys s.chains s.shapes.keys s.extents.items s.spans.items s.store are.symbols are.chains
          are.shapes c.args.one c.args.other c.requires.one c.requires.other equal in grind (arith, at),
    )
