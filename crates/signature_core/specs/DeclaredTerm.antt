-- Whether the applications of a term are declared.
use Rattle.std.specs.Prelude.{ℕ, Bool, true, ◌&&◌, ◌==◌, List, length}
use Rattle.term_model.specs.declared.term.Head.{Head}
use Rattle.term_model.specs.declared.term.Head.TheVariants as heads
use Rattle.term_model.specs.Symbol.{Plain, Quoted, Tuple}
use Rattle.term_model.specs.Term.{Tree, node, Trees, end, more, list_of}
use Rattle.signature_core.specs.Signature.{Declared, arity_known}

-- a node of this head may have this number of parts: a plain name is declared with it, a quoted symbol has none, and
-- nothing is asked of other heads
abbrev pub head_is_declared : List Declared → Head → ℕ → Bool
head_is_declared ds (heads.App (Plain f)) n = arity_known ds f n
head_is_declared ds (heads.App (Quoted _)) n = n == 0
head_is_declared ds (heads.App Tuple) n = true
head_is_declared ds (heads.Int _) n = true
head_is_declared ds heads.List n = true

-- so may each node of the term, those in annotations included
abbrev mutual
  pub term_is_declared : List Declared → Tree → Bool
  term_is_declared ds (node h parts annos) =
      (head_is_declared ds h (length (list_of parts)) && all_are_declared ds parts) && all_are_declared ds annos

  pub all_are_declared : List Declared → Trees → Bool
  all_are_declared ds end = true
  all_are_declared ds (more t ts) = term_is_declared ds t && all_are_declared ds ts
