-- Groups of faults, by their numbers.
use Rattle.std.specs.Prelude.{◌≤◌, ℕ, Bool, true, false, Result, Err}
use Rattle.term_model.specs.declared.fault.Fault.{Fault}
use Rattle.term_model.specs.declared.fault.Fault.TheVariants.{Read, Write}
use Rattle.term_model.specs.Fault.{number_of}
use Rattle.str_pipeline.specs.declared.status.Status.{Status}
use Rattle.str_pipeline.specs.declared.status.Status.TheVariants.{Refused}

-- the fault has a number from the first to the last of these
abbrev pub IsNumbered : ℕ → ℕ → Fault → Type 0
IsNumbered first last fault = (first ≤ number_of fault) × (number_of fault ≤ last)

-- a fault that ends a transformation without a status: of memory, of reading or of writing
abbrev pub IsTransferFault : Fault → Type 0
IsTransferFault fault = IsNumbered 1 3 fault

-- a fault of memory or of reading
abbrev pub IsReadingFault : Fault → Type 0
IsReadingFault fault = IsNumbered 1 2 fault

-- a fault of definitions
abbrev pub IsOfDefinitions : Fault → Type 0
IsOfDefinitions fault = IsNumbered 4 16 fault

-- a refusal of definitions or of the text of a term
abbrev pub IsRefusal : Fault → Type 0
IsRefusal fault = IsNumbered 4 20 fault

-- where the status is a refusal, it is one of those
abbrev pub HoldsRefusal : Status → Type 0
HoldsRefusal (Refused fault) = IsRefusal fault
HoldsRefusal status = Unit {0}

-- the definitions are refused
abbrev pub RefusesDefinitions : Status → Type 0
RefusesDefinitions (Refused fault) = IsOfDefinitions fault
RefusesDefinitions status = ⊥

abbrev pub is_read : Fault → Bool
is_read Read = true
is_read fault = false

abbrev pub is_read_fault : {A : Type 0} → Result A Fault → Bool
is_read_fault (Err fault) = is_read fault
is_read_fault r = false

abbrev pub is_write_fault : {A : Type 0} → Result A Fault → Bool
is_write_fault (Err Write) = true
is_write_fault r = false
