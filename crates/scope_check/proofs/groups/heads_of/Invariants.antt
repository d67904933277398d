use Rattle.std.proofs.Common.{◌≡◌, map, take}
use Rattle.scope_check.specs.Tables.{heads_of}
use Rattle.str_syntax.specs.Views.{head_of}
use Rattle.scope_check.proofs.groups.heads_of.Given as goal

abbrev pub invariant-loop-definition : goal.invariant-loop-definition
invariant-loop-definition l = heads_of l.heads.items ≡ map (λ d. head_of d.head) (take l.definition-index l.definitions)
