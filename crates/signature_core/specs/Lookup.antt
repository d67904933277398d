-- The headline does not rest on this file.
-- What is looked up in declarations.
use Rattle.std.specs.Prelude.{ℕ, length, Bool, List, [], ◌∷◌, Option, None, Some, if◌then◌else◌}
use Rattle.str_syntax.specs.SameName.{same_name}
use Rattle.str_syntax.specs.Trees.{Bytes}
use Rattle.term_model.specs.Term.{Tree}
use Rattle.term_model.specs.TermParts.{head_of, parts_of}
use Rattle.signature_core.specs.Signature.{Declared, arity_of}
use Rattle.signature_core.specs.DeclaredTerm.{head_is_declared}

-- the number of arguments of the first declaration of this name
abbrev pub first_arity : List Declared → Bytes → Option ℕ
first_arity [] f = None
first_arity (d ∷ ds) f = if same_name f d.name then Some (arity_of d) else first_arity ds f

-- the root of the term may have as many parts as it has
abbrev pub root_is_declared : List Declared → Tree → Bool
root_is_declared ds t = head_is_declared ds (head_of t) (length (parts_of t))
