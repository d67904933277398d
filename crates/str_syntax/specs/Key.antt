-- Keys: what a call refers to a definition by.
use Rattle.std.specs.Prelude.{ℕ, Bool, ◌&&◌, ◌==◌}
use Rattle.str_syntax.specs.Arity.{strategy_parameters, term_parameters}
use Rattle.str_syntax.specs.SameName.{same_name}
use Rattle.str_syntax.specs.Trees.{Bytes, HeadTree, head}

-- a name with numbers of strategies and of terms
pub record Key : Type 0 where
  pub name : Bytes
  pub strategies : ℕ
  pub terms : ℕ

abbrev pub same_key : Key → Key → Bool
same_key k l = same_name k.name l.name && (k.strategies == l.strategies && k.terms == l.terms)

-- the key of a strategy parameter or a rec: it is called without arguments
abbrev pub plain_key : Bytes → Key
plain_key f = record { name = f; strategies = 0; terms = 0 }

-- the key of a rule or a definition
abbrev pub key_of : HeadTree → Key
key_of (head f ps) = record { name = f; strategies = strategy_parameters ps; terms = term_parameters ps }
