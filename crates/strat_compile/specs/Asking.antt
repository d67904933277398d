-- The headline does not rest on this file.
-- What strategies ask of a term's root, where the roots are gathered in front of others.
use Rattle.std.specs.Prelude.{◌≡◌, ℕ, suc, List, ◌++◌}
use Rattle.core_lang.specs.Resolved.{ResolvedStrategy}
use Rattle.core_lang.specs.Roots.{Root}
use Rattle.strat_code.specs.Context.{Context, hidden, no_knowns}
use Rattle.strat_code.specs.Ranges.{AsksFor}

-- where a term has none of the roots that come in front of the others, the strategy fails with this number of nodes
pub record AsksOnto (C : Context) (s : ResolvedStrategy) (others rs : List Root) (nodes : ℕ) : Type 0 where
  pub roots : List Root
  pub are : rs ≡ roots ++ others
  pub asks : AsksFor C s roots nodes

-- the same of what is around the strategy, by one node and one layer of which nothing is looked at
pub record AsksInside (C : Context) (s : ResolvedStrategy) (others rs : List Root) (nodes : ℕ) : Type 0 where
  pub inner : ℕ
  pub asks : AsksOnto (hidden no_knowns C) s others rs inner
  pub around : nodes ≡ suc inner
