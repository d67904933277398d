-- The headline does not rest on this file.
-- The faults that refusals of definitions are.
use Rattle.diagnostics.specs.declared.refusal.Refusal.{Refusal}
use Rattle.diagnostics.specs.declared.refusal.Refusal.TheVariants as refusals
use Rattle.str_parser.specs.Refusals as parsing
use Rattle.term_model.specs.declared.fault.Fault.{Fault}

-- the fault that a refusal is
abbrev pub fault_of : Refusal → Fault
fault_of (refusals.Fault fault) = fault
fault_of (refusals.Parse refusal) = parsing.fault_of refusal
fault_of (refusals.Check fault) = fault
