-- What follows from several calls of one device.
use Rattle.std.proofs.Common.{◌≡◌, ◌+◌, ◌-◌, ◌≤◌, ℕ, List, [], ◌++◌, length, take, drop, Option, None, Some, sym, arith}
use Rattle.std.proofs.Math.Seq.{take-add}
use Rattle.std.proofs.lemmas.List.{take_rest, take_at, take-append-drop, drop-drop, length-take-le, length-drop, drop_all}
use Rattle.std.proofs.lemmas.Grind.{common_steps}
use Rattle.str_pipeline.specs.Device.{Gains}

-- two gains in a row are one
pub Gains-append : (a b c : Option (List ℕ)) (xs ys : List ℕ) → Gains a b xs → Gains b c ys → Gains a c (xs ++ ys)
Gains-append None b c xs ys first second = tt
Gains-append (Some all) None c xs ys first second = cc
Gains-append (Some all) (Some told) c xs ys first second = grind (arith, common_steps)

-- the first n bytes of a text, and then m of the rest
pub gains_more : (old middle new : Option (List ℕ)) (text : List ℕ) (n m : ℕ)
    → Gains old middle (take n text) → Gains middle new (take m (take (length text - n) (drop n text))) →
    Gains old new (take (n + m) text)
gains_more old middle new text n m first second =
    rw take-add (Gains-append old middle new (take n text) (take m (drop n text)) first (rw take_rest at second))

-- what is copied from the front of the rest, and then the rest after it
pub front_given : (xs copied more : List ℕ) (taken n : ℕ) → copied ≡ take n (take (length xs - taken) (drop taken xs)) →
    n ≤ length xs - taken
    → drop taken xs ≡ take n (copied ++ more) ++ drop (taken + n) xs
front_given xs copied more taken n is fits =
    let whole : copied ≡ take n (drop taken xs) = rw take_rest at is in
    let room : n ≤ length (drop taken xs) = rw length-drop fits in
    let long : length copied ≡ n = rw whole (length-take-le n (drop taken xs) room) in
    rw (take_at copied more n long, whole, ← drop-drop n taken xs) (sym (take-append-drop n (drop taken xs)))

pub nothing_left : (xs : List ℕ) (taken : ℕ) → length xs ≤ taken → drop taken xs ≡ []
nothing_left xs taken h = drop_all taken xs h
