-- The fault that is reported is that of the least number.
use Rattle.std.proofs.Common.{◌≡◌, ◌∙◌, ◌≤◌, ◌⊎◌, inl, inr, ℕ, Bool, true, false, List, [], ◌∷◌, refl, ap, arith, Some}
use Rattle.std.proofs.lemmas.Option.{same_Some}
use Rattle.term_model.specs.declared.fault.Fault.{Fault}
use Rattle.term_model.specs.Fault.{number_of}
use Rattle.scope_check.specs.Complaint.{Complaint, duplicate_declaration, undeclared, bad_parameters, clash, unknown_strategy, not_buildable, unknown_primitive, no_main, complaints, fault_of, first_of}
use Rattle.scope_check.specs.Least.{IsLeast}

abbrev number : Complaint → ℕ
number k = number_of (fault_of k)

-- the complaint stands in the list
abbrev StandsIn : Complaint → List Complaint → Type 0
StandsIn k [] = true ≡ false
StandsIn k (j ∷ ks) = (k ≡ j) ⊎ StandsIn k ks

-- no complaint has a number less than that before it
abbrev IsBefore : Complaint → List Complaint → Type 0
IsBefore j [] = true ≡ true
IsBefore j (k ∷ ks) = number j ≤ number k

abbrev InOrder : List Complaint → Type 0
InOrder [] = true ≡ true
InOrder (j ∷ ks) = IsBefore j ks × InOrder ks

not_both : {A : Type 0} (b : Bool) → b ≡ true → b ≡ false → A
not_both true p q = absurd (cc)
not_both false p q = absurd (cc)

-- what stands in an ordered list has a number at least as great as what is before it
from_here : (j k : Complaint) (ks : List Complaint) → IsBefore j ks → InOrder ks → StandsIn k ks → number j ≤ number k
from_here j k [] before order there = absurd (cc)
from_here j k (l ∷ ks) before order (inl is) = rw is before
from_here j k (l ∷ ks) before order (inr there) = let on : number l ≤ number k =
    from_here l k ks order.0 order.1 there in omega arith

at_least : (j k : Complaint) (ks : List Complaint) → InOrder (j ∷ ks) → StandsIn k (j ∷ ks) → number j ≤ number k
at_least j k ks order (inl is) = rw is (omega arith)
at_least j k ks order (inr there) = from_here j k ks order.0 order.1 there

after : (holds : Complaint → Bool) (j k : Complaint) (ks : List Complaint) → holds j ≡ false → holds k ≡ true →
    StandsIn k (j ∷ ks) → StandsIn k ks
after holds j k ks is_false is_true (inl is) = not_both (holds k) is_true (ap holds is ∙ is_false)
after holds j k ks is_false is_true (inr there) = there

-- the first of the list that holds
first_is : (holds : Complaint → Bool) (j : Complaint) (ks : List Complaint) (fault : Fault) (b : Bool) → holds j ≡ b →
    InOrder (j ∷ ks) → ((k : Complaint) → holds k ≡ true → StandsIn k (j ∷ ks))
    → first_of holds (j ∷ ks) ≡ Some fault →
    (((k : Complaint) → holds k ≡ true → StandsIn k ks) → first_of holds ks ≡ Some fault → IsLeast holds fault) →
    IsLeast holds fault
first_is holds j ks fault true e order all is rest = record {
  complaint = j;
  it_holds = e;
  has_fault = same_Some (fault_of j) fault (rw e at is);
  no_lesser = λ k holds_k. at_least j k ks order (all k holds_k);
}
first_is holds j ks fault false e order all is rest =
    rest (λ k holds_k. after holds j k ks e holds_k (all k holds_k)) (rw e at is)

least_of : (holds : Complaint → Bool) (ks : List Complaint) (fault : Fault) → InOrder ks →
    ((k : Complaint) → holds k ≡ true → StandsIn k ks) → first_of holds ks ≡ Some fault → IsLeast holds fault
least_of holds [] fault order all is = absurd (cc)
least_of holds (j ∷ ks) fault order all is =
    first_is holds j ks fault (holds j) refl order all is (λ others none. least_of holds ks fault order.1 others none)

each_stands : (k : Complaint) → StandsIn k complaints
each_stands duplicate_declaration = inl refl
each_stands undeclared = inr (inl refl)
each_stands bad_parameters = inr (inr (inl refl))
each_stands clash = inr (inr (inr (inl refl)))
each_stands unknown_strategy = inr (inr (inr (inr (inl refl))))
each_stands not_buildable = inr (inr (inr (inr (inr (inl refl)))))
each_stands unknown_primitive = inr (inr (inr (inr (inr (inr (inl refl))))))
each_stands no_main = inr (inr (inr (inr (inr (inr (inr (inl refl)))))))

in_order : InOrder complaints
in_order = (
  omega arith,
  (
    omega arith,
    (omega arith, (omega arith, (omega arith, (omega arith, (omega arith, (refl, refl)))))),
  ),
)

pub least : (holds : Complaint → Bool) (fault : Fault) → first_of holds complaints ≡ Some fault → IsLeast holds fault
least holds fault is = least_of holds complaints fault in_order (λ k holds_k. each_stands k) is
