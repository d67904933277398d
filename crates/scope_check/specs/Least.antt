-- The headline does not rest on this file.
-- The fault of the least number.
use Rattle.std.specs.Prelude.{◌≡◌, ◌≤◌, Bool, true}
use Rattle.term_model.specs.declared.fault.Fault.{Fault}
use Rattle.term_model.specs.Fault.{number_of}
use Rattle.scope_check.specs.Complaint.{Complaint, fault_of}

-- the fault is that of a complaint that holds, and no complaint that holds has a lesser number
pub record IsLeast (holds : Complaint → Bool) (fault : Fault) : Type 0 where
  pub complaint : Complaint
  pub it_holds : holds complaint ≡ true
  pub has_fault : fault_of complaint ≡ fault
  pub no_lesser : (k : Complaint) → holds k ≡ true → number_of (fault_of complaint) ≤ number_of (fault_of k)
