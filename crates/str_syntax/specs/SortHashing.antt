-- The headline does not rest on this file.
-- What a sort feeds a hasher: the same where the sorts are the same.
use Rattle.std.specs.Prelude.{◌≡◌, ◌++◌, true}
use Rattle.std.specs.Hash as fed
use Rattle.std.proofs.Common.{ap}
use Rattle.str_syntax.specs.SameSort.{same_sort}
use Rattle.str_syntax.specs.SortEquality.{same_sort-true}
use Rattle.str_syntax.specs.Trees.{SortTree, sort, sort_of, SortTrees, no_sorts, more_sorts}

-- a number for the form, the name, and the sorts in parentheses with a number after the last
abbrev mutual
  pub sort_writes : SortTree → fed.HashWrites
  sort_writes (sort a) = fed.u8 0 ++ fed.slice fed.u8 a
  sort_writes (sort_of a parts) = fed.u8 1 ++ (fed.slice fed.u8 a ++ sorts_writes parts)

  pub sorts_writes : SortTrees → fed.HashWrites
  sorts_writes no_sorts = fed.u8 2
  sorts_writes (more_sorts a parts) = sort_writes a ++ sorts_writes parts

-- equal sorts are fed alike
pub sort_writes-same : (a b : SortTree) → same_sort a b ≡ true → sort_writes a ≡ sort_writes b
sort_writes-same a b e = ap sort_writes (same_sort-true a b e)
