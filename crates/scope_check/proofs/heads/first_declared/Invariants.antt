use Rattle.std.proofs.Common.{◌≡◌, false, take}
use Rattle.std.specs.List.{list_any}
use Rattle.signature_core.specs.Signature.{is_declared_name}
use Rattle.scope_check.proofs.heads.first_declared.Given as goal

abbrev pub invariant-loop-name : goal.invariant-loop-name
invariant-loop-name l = list_any (is_declared_name l.signature) (take l.name-index l.names) ≡ false
