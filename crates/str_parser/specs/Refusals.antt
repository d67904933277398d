-- The headline does not rest on this file.
-- The faults that refusals are.
use Rattle.std.specs.Prelude.{Result, Ok, Err}
use Rattle.str_parser.specs.declared.refusal.ParseRefusal.{ParseRefusal}
use Rattle.str_parser.specs.declared.refusal.ParseRefusal.TheVariants as refusals
use Rattle.term_model.specs.declared.fault.Fault.{Fault}
use Rattle.term_model.specs.declared.fault.Fault.TheVariants as faults

-- the fault that a refusal is
abbrev pub fault_of : ParseRefusal → Fault
fault_of refusals.Memory = faults.Memory
fault_of (refusals.Syntax at _) = faults.Syntax at
fault_of (refusals.Nesting at) = faults.Nesting at

-- the result with another error
abbrev pub map_err : {X E F : Type 0} → (E → F) → Result X E → Result X F
map_err f (Ok x) = Ok x
map_err f (Err e) = Err (f e)
