-- The headline does not rest on this file.
-- The heads of one key: the first of them, and how many there are.
use Rattle.std.specs.Prelude.{ℕ, ◌+◌, ◌&&◌, nat_lt, Option, Some, None, if◌then◌else◌}
use Rattle.str_syntax.specs.Trees.{HeadTree}
use Rattle.scope_check.specs.Complaint.{same_parameters}

pub record Group : Type 0 where
  pub first : HeadTree
  pub number : ℕ

-- the group with this head, which it may have where its parameters are those of the first head and it is not full
abbrev pub with_head : HeadTree → Option Group → Option Group
with_head h None = Some (record { first = h; number = 1 })
with_head h (Some g) = if nat_lt g.number 1000 &&
    same_parameters g.first h then Some (record { first = g.first; number = g.number + 1 }) else None
