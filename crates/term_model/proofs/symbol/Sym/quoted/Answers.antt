-- The bytes of a slice are below 256, as its type says.
use Rattle.term_model.proofs.SymbolLemmas.{list_all-is_byte}
use Rattle.term_model.proofs.symbol.Sym.quoted.Goals as goal

pub invariant_of-result : goal.invariant_of-result
invariant_of-result c = rw c.in-Some.ensures (list_all-is_byte c.args.bytes.now c.type_inv.bytes)

pub invariant_of-result-2 : goal.invariant_of-result-2
invariant_of-result-2 c = rw c.in_ok-text.ensures.ok (list_all-is_byte c.args.bytes.now c.type_inv.bytes)
