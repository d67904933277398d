-- The headline does not rest on this file.
-- A list of trees as a space, for the laws.
use Rattle.std.specs.Prelude.{ℕ, Option, Some, None, List, length, slice_get, true, nat_lt, nat_le}
use Rattle.term_model.specs.declared.term.Head.TheVariants as heads
use Rattle.term_model.specs.Space.{Space}
use Rattle.term_model.specs.Symbol.{Symbol}
use Rattle.term_model.specs.Term.{Tree, node, end}

abbrev pub tree_or : Option Tree → Tree
tree_or None = node heads.List end end
tree_or (Some t) = t

-- a reference is a position, a mark a length, and a name its symbol
abbrev pub store : Space (List Tree) ℕ ℕ Symbol
store = record {
  stands = λ w r. nat_lt r (length w);
  term_of = λ w r. tree_or (slice_get w r);
  is_valid = λ w m. nat_le m (length w);
  covers = λ m r. nat_lt r m;
  covers_mark = λ m n. nat_le n m;
  knows = λ w n. true;
  symbol_of = λ w n. n;
  number_of = λ n. 0;
}
