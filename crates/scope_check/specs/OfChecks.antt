-- The headline does not rest on this file.
-- The faults that the checks report.
use Rattle.std.specs.Prelude.{◌≤◌}
use Rattle.term_model.specs.declared.fault.Fault.{Fault}
use Rattle.term_model.specs.Fault.{number_of}

-- the fault is one of the eight that a file in which something is wrong gets
abbrev pub IsOfChecks : Fault → Type 0
IsOfChecks fault = (9 ≤ number_of fault) × (number_of fault ≤ 16)
