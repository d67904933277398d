-- Which faults the checks of a file find.
use Rattle.std.proofs.Common.{◌≡◌, List, [], ◌∷◌, ℕ, arith, subst}
use Rattle.std.proofs.lemmas.Option.{same_Some}
use Rattle.std.specs.Prelude.{Bool, true, false, Option, Some, if◌then◌else◌}
use Rattle.term_model.specs.declared.fault.Fault.{Fault}
use Rattle.scope_check.specs.Complaint.{Complaint, duplicate_declaration, undeclared, bad_parameters, clash, unknown_strategy, not_buildable, unknown_primitive, no_main, complaints, occurs, fault_of, first_of}
use Rattle.strategy_lib.specs.Library.{with_library}
use Rattle.str_pipeline.specs.Faults.{IsNumbered, IsRefusal}
use Rattle.str_pipeline.specs.Judged.{FailsChecks}
use Rattle.str_pipeline.specs.Setting.{Setting}

-- the number of the fault of a complaint
numbered : (k : Complaint) → IsNumbered 9 16 (fault_of k)
numbered duplicate_declaration = (omega arith, omega arith)
numbered undeclared = (omega arith, omega arith)
numbered bad_parameters = (omega arith, omega arith)
numbered clash = (omega arith, omega arith)
numbered unknown_strategy = (omega arith, omega arith)
numbered not_buildable = (omega arith, omega arith)
numbered unknown_primitive = (omega arith, omega arith)
numbered no_main = (omega arith, omega arith)

this_or_later : (b : Bool) (k : Complaint) (later : Option Fault) (fault : Fault) →
    (later ≡ Some fault → IsNumbered 9 16 fault) →
    (if b then Some (fault_of k) else later) ≡ Some fault → IsNumbered 9 16 fault
this_or_later true k later fault numbers found =
    subst (λ (f : Fault). IsNumbered 9 16 f) (same_Some (fault_of k) fault found) (numbered k)
this_or_later false k later fault numbers found = numbers found

first_numbered : (holds : Complaint → Bool) (ks : List Complaint) (fault : Fault) → first_of holds ks ≡ Some fault →
    IsNumbered 9 16 fault
first_numbered holds [] fault is = absurd cc
first_numbered holds (k ∷ ks) fault is =
    this_or_later (holds k) k (first_of holds ks) fault (first_numbered holds ks fault) is

-- the number of a fault of the checks
check_fault_numbered : {S : Setting} {defs : List ℕ} (fault : Fault) → FailsChecks S defs fault → IsNumbered 9 16 fault
check_fault_numbered {S = S} fault bad =
    first_numbered (occurs S.has_primitive (with_library bad.file) S.options.main.items) complaints fault bad.fails

-- a fault that has no such number is none of the checks
pub no_check_fault : {S : Setting} {defs : List ℕ} (fault : Fault) → FailsChecks S defs fault →
    (IsNumbered 9 16 fault → ⊥) → ⊥
no_check_fault fault bad other = other (check_fault_numbered fault bad)

-- each fault of the checks is a refusal
pub check_fault_refuses : {S : Setting} {defs : List ℕ} (fault : Fault) → FailsChecks S defs fault → IsRefusal fault
check_fault_refuses fault bad = let is : IsNumbered 9 16 fault = check_fault_numbered fault bad in
    (omega arith, omega arith)
