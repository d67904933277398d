-- Whether two sorts are the same, as a test.
use Rattle.std.specs.Prelude.{Bool, true, false, ◌&&◌}
use Rattle.str_syntax.specs.SameName.{same_name}
use Rattle.str_syntax.specs.Trees.{SortTree, sort, sort_of, SortTrees, no_sorts, more_sorts}

-- the names are the same, and what they are applied to, in order
abbrev mutual
  pub same_sort : SortTree → SortTree → Bool
  same_sort (sort a) (sort b) = same_name a b
  same_sort (sort _) (sort_of _ _) = false
  same_sort (sort_of _ _) (sort _) = false
  same_sort (sort_of a parts) (sort_of b others) = same_name a b && same_sorts parts others

  pub same_sorts : SortTrees → SortTrees → Bool
  same_sorts no_sorts no_sorts = true
  same_sorts no_sorts (more_sorts _ _) = false
  same_sorts (more_sorts _ _) no_sorts = false
  same_sorts (more_sorts a parts) (more_sorts b others) = same_sort a b && same_sorts parts others
