-- What it means that a function on flat values returns what is stated.
use Rattle.std.specs.Prelude.{◌≡◌, ℕ, ℤ, List, [], ◌∷◌, length, Option, Result}
use Rattle.std.specs.Borrow.{Bor}
use Rattle.std.specs.Option.{option_map}
use Rattle.std.specs.Result.{ForOk}
use Rattle.std.specs.declared.alloc.AllocError.{AllocError}
use Rattle.term_model.specs.Flat.{FlatValue, number}
use Rattle.prim_registry.specs.declared.flat.Flat.{Flat}
use Rattle.prim_registry.specs.Values.{answer_of, values_of}

-- whenever a call on this number of values returns `Ok`, that is what is stated of them; `Gives` is what a call may
-- return
abbrev pub AnswersBy : (Bor (List Flat) → Result (Option Flat) AllocError → Type 0) → ℕ →
    (List FlatValue → Option FlatValue) → Type 0
AnswersBy Gives arity answer =
    (args : Bor (List Flat)) (r : Result (Option Flat) AllocError) → length args.now ≡ arity → Gives args r →
    ForOk r (λ o. answer_of o ≡ answer (values_of args.now))

-- whatever a call on two integers returns is what is stated of them; `Gives` is what a call may return
abbrev pub CalculatesBy : (ℤ → ℤ → Option ℤ → Type 0) → (List FlatValue → Option FlatValue) → Type 0
CalculatesBy Gives answer = (left right : ℤ) (r : Option ℤ) → Gives left right r →
    option_map number r ≡ answer (number left ∷ number right ∷ [])
