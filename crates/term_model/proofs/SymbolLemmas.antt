-- Laws of symbols.
use Rattle.std.proofs.Common.{◌≡◌, ℕ, suc, true, List, [], ◌∷◌, get_or, refl, arith, Fits, w8}
use Rattle.std.proofs.lemmas.Bool.{lt-ltb}
use Rattle.std.specs.List.{list_all}
use Rattle.term_model.specs.Bytes.{is_byte}

-- numbers that fit eight bits are bytes
pub list_all-is_byte : (bs : List ℕ) → ((i : ℕ) → Fits w8 (get_or bs i 0)) → list_all is_byte bs ≡ true
list_all-is_byte [] fit = refl
list_all-is_byte (b ∷ bs) fit =
    let first : is_byte b ≡ true = lt-ltb b 256 (let first_fits : Fits w8 b = fit 0 in omega arith) in
    let others : list_all is_byte bs ≡ true = list_all-is_byte bs (λ i. fit (suc i)) in
    rw (first, others) refl
