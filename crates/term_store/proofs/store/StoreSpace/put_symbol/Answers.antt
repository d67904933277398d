-- The symbols after the insertion agree with those before, so the store goes over, and what was inserted is equal to
-- the symbol.
use Rattle.std.proofs.Common.{◌≡◌, ◌≤◌, length, get_or, sym, ◌∙◌, arith}
use Rattle.std.proofs.lemmas.Option.{get_or_from_slice_get}
use Rattle.term_model.specs.Symbol.{Tuple}
use Rattle.term_model.specs.Same.{same_symbol-true}
use Rattle.term_store.proofs.SymbolLaws.{Agree, inserted, store_named, held_named}
use Rattle.term_store.proofs.store.StoreSpace.put_symbol.Goals as goal

pub invariant_of-self : goal.invariant_of-self
invariant_of-self c =
    let s = c.args.self.now in
    let new = c.insert_full.new.self.keys in
    let agree : Agree s.symbols.keys new (length s.symbols.keys) =
    inserted c.insert_full.result _ s.symbols.keys new _ c.insert_full.ensures.keys c.insert_full.ensures.err in
    let long : length s.symbols.keys ≤ length new = agree.long in
    record { store = store_named s new agree; small = s.small; sized = s.sized; within = omega (arith, long) }

pub returns-clause-keeps : goal.returns-clause-keeps
returns-clause-keeps c =
    let s = c.args.self.now in
    let new = c.insert_full.new.self.keys in
    let agree : Agree s.symbols.keys new (length s.symbols.keys) =
    inserted c.insert_full.result _ s.symbols.keys new _ c.insert_full.ensures.keys c.insert_full.ensures.err in
    record {
      more = omega arith;
      terms = λ k h. held_named s new k agree;
      more_symbols = agree.long;
      symbols = agree.same;
      named = omega arith;
    }

pub returns-clause-symbol : goal.returns-clause-symbol
returns-clause-symbol c =
    let new = c.insert_full.new.self.keys in
    let stored = c.in_ok-at.ensures.stored in
    let there : get_or new c.in_ok-at.at Tuple ≡ stored.0 =
    get_or_from_slice_get new c.in_ok-at.at stored.0 Tuple stored.1 in
    let same : c.args.symbol ≡ stored.0 = same_symbol-true c.args.symbol stored.0 stored.2 in
    there ∙ sym same
