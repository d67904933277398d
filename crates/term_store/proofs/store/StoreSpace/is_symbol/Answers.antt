use Rattle.std.proofs.Common.{rules, ◌≡◌, ap}
use Rattle.term_store.specs.Store.{head_in}
use Rattle.term_store.specs.declared.stored.StoredHead.{StoredHead}
use Rattle.term_store.specs.declared.stored.StoredHead.TheVariants as stored
use Rattle.term_store.proofs.StoreLemmas.{head_same}
use Rattle.term_store.proofs.store.StoreSpace.is_symbol.Goals as goal

pub returns : goal.returns
returns c =
    let symbols = c.args.self.now.symbols.keys in
    let h : StoredHead = c.args.head in
    let k : StoredHead = stored.Symbol c.args.number in (
      λ same. let at : h ≡ k = search rules in ap (head_in symbols) at,
      λ equal. let at : h ≡ k = head_same symbols h k c.distinct.ensures.symbols c.requires.head (search rules) equal in
          search rules,
    )
