-- The headline does not rest on this file.
-- The space in which a reference is a term.
use Rattle.std.specs.Cmp.{first_so, second_so}
use Rattle.std.specs.Prelude.{IsTrue, true, length, nat_le}
use Rattle.std.proofs.lemmas.Bool.{leb-true}
use Rattle.term_model.specs.Space.{Space}
use Rattle.term_model.specs.Symbol.{Symbol, bytes_of}
use Rattle.term_model.specs.Term.{Tree, weight, depth, fits, Fits}
use Rattle.term_model.specs.Limits.{max_weight, max_depth}

-- each term that fits stands, each mark is valid and each symbol is known, whatever the state
abbrev pub shared_terms : {W M : Type 0} → Space W Tree M Symbol
shared_terms = record {
  stands = λ space t. fits t;
  term_of = λ space t. t;
  is_valid = λ space mark. true;
  covers = λ mark t. fits t;
  covers_mark = λ mark other. true;
  knows = λ space s. true;
  symbol_of = λ space s. s;
  number_of = λ s. length (bytes_of s);
}

-- what stands fits
pub shared_fit : {W : Type 0} (space : W) (t : Tree) → IsTrue (fits t) → Fits t
shared_fit space t stands = record {
  weight = leb-true _ _ (first_so _ (nat_le (depth t) max_depth) stands);
  depth = leb-true _ _ (second_so (nat_le (weight t) max_weight) _ stands);
}
