-- What was found in one part and then in another.
use Rattle.std.proofs.Common.{◌≡◌, ◌∙◌, Bool, true, refl, sym, ap}
use Rattle.std.proofs.Math.Bool.{or-false, or-true, or_assoc}
use Rattle.scope_check.specs.declared.detail.Detail.{Detail}
use Rattle.scope_check.specs.Complaint.{Complaint, duplicate_declaration, undeclared, bad_parameters, clash, unknown_strategy, not_buildable, unknown_primitive, no_main}
use Rattle.scope_check.specs.Found.{Found, complaint_of, found_if, joined, none}

pub joined-assoc : (a b c : Found) → joined (joined a b) c ≡ joined a (joined b c)
joined-assoc a b c = λ i. record {
  duplicate_declaration = or_assoc a.duplicate_declaration b.duplicate_declaration c.duplicate_declaration i;
  undeclared = or_assoc a.undeclared b.undeclared c.undeclared i;
  bad_parameters = or_assoc a.bad_parameters b.bad_parameters c.bad_parameters i;
  clash = or_assoc a.clash b.clash c.clash i;
  unknown_strategy = or_assoc a.unknown_strategy b.unknown_strategy c.unknown_strategy i;
  not_buildable = or_assoc a.not_buildable b.not_buildable c.not_buildable i;
  unknown_primitive = or_assoc a.unknown_primitive b.unknown_primitive c.unknown_primitive i;
  no_main = or_assoc a.no_main b.no_main c.no_main i;
}

pub joined-none : (a : Found) → joined a none ≡ a
joined-none a = λ i. record {
  duplicate_declaration = or-false a.duplicate_declaration i;
  undeclared = or-false a.undeclared i;
  bad_parameters = or-false a.bad_parameters i;
  clash = or-false a.clash i;
  unknown_strategy = or-false a.unknown_strategy i;
  not_buildable = or-false a.not_buildable i;
  unknown_primitive = or-false a.unknown_primitive i;
  no_main = or-false a.no_main i;
}

-- nothing is found
pub nothing_more : (a : Found) → a ≡ joined a none
nothing_more a = sym (joined-none a)

-- what is found in one part and then in another is what is found in both
pub then_joined : (old mid a b both : Found) → mid ≡ joined old a → joined a b ≡ both → joined mid b ≡ joined old both
then_joined old mid a b both is_mid is_both =
    ap (λ f. joined f b) is_mid ∙ joined-assoc old a b ∙ ap (λ f. joined old f) is_both

-- in three
pub thrice_joined : (old f g a b c all : Found) → f ≡ joined old a → g ≡ joined f b → joined a (joined b c) ≡ all →
    joined g c ≡ joined old all
thrice_joined old f g a b c all is_f is_g is_all =
    then_joined f g b c (joined b c) is_g refl ∙ then_joined old f a (joined b c) all is_f is_all

-- what was found before, with a complaint
abbrev pub with_found : Complaint → Found → Bool → Found
with_found duplicate_declaration f b = record f { duplicate_declaration = b }
with_found undeclared f b = record f { undeclared = b }
with_found bad_parameters f b = record f { bad_parameters = b }
with_found clash f b = record f { clash = b }
with_found unknown_strategy f b = record f { unknown_strategy = b }
with_found not_buildable f b = record f { not_buildable = b }
with_found unknown_primitive f b = record f { unknown_primitive = b }
with_found no_main f b = record f { no_main = b }

found_now : (k : Complaint) (f : Found) → joined f (found_if k true) ≡ with_found k f true
found_now duplicate_declaration f =
    λ i. record (joined-none f i) { duplicate_declaration = or-true f.duplicate_declaration i }
found_now undeclared f = λ i. record (joined-none f i) { undeclared = or-true f.undeclared i }
found_now bad_parameters f = λ i. record (joined-none f i) { bad_parameters = or-true f.bad_parameters i }
found_now clash f = λ i. record (joined-none f i) { clash = or-true f.clash i }
found_now unknown_strategy f = λ i. record (joined-none f i) { unknown_strategy = or-true f.unknown_strategy i }
found_now not_buildable f = λ i. record (joined-none f i) { not_buildable = or-true f.not_buildable i }
found_now unknown_primitive f = λ i. record (joined-none f i) { unknown_primitive = or-true f.unknown_primitive i }
found_now no_main f = λ i. record (joined-none f i) { no_main = or-true f.no_main i }

-- a note of this complaint is kept
pub kept : (k : Complaint) (old f : Found) (detail : Detail) (b : Bool) → f ≡ old → complaint_of detail ≡ k → b ≡ true →
    with_found k f b ≡ joined old (found_if (complaint_of detail) true)
kept k old f detail b is_old is_k is_found =
    ap (with_found k f) is_found ∙ sym (found_now k f) ∙ ap (λ g. joined g (found_if k true)) is_old ∙
    ap (λ j. joined old (found_if j true)) (sym is_k)

-- a clash that was found is found again
pub clash_again : (f : Found) → f.clash ≡ true → joined f (found_if clash true) ≡ f
clash_again f is = found_now clash f ∙ (λ i. record f { clash = sym is i })
