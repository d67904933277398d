-- How tokens run along items.
use Rattle.std.proofs.Common.{List, [], ◌∷◌, inl, inr, ap, arith}
use Rattle.str_parser.specs.declared.refusal.ParseRefusal.{ParseRefusal}
use Rattle.str_parser.specs.declared.refusal.ParseRefusal.TheVariants as refusals
use Rattle.str_parser.specs.Lexemes.{Lexeme}
use Rattle.str_parser.specs.Items.{Item, token, part, no_build, only, whole, too_deep, either, Runs}
use Rattle.str_parser.specs.Readings.{NotAt, Missing, Nested, IsFault, IsSyntax}

pub deep_either : (is : List Item) (ts : List Lexeme) → Runs too_deep is ts → Runs either is ts
deep_either [] ts r = absurd r
deep_either (token u ∷ is) [] r = absurd r
deep_either (token u ∷ is) (t ∷ ts) r = (r.0, deep_either is ts r.1)
deep_either (part p k ∷ is) ts (inl b) = inl b
deep_either (part p k ∷ is) ts (inr r) = inr (deep_either is ts r)
deep_either (no_build ∷ is) ts r = (r.0, deep_either is ts r.1)
deep_either (only b ∷ is) ts r = (r.0, deep_either is ts r.1)

-- a part at level 201 is not at one up to 200
pub not_both : (is : List Item) (ts : List Lexeme) → Runs whole is ts → Runs too_deep is ts → ⊥
not_both [] ts r d = d
not_both (token u ∷ is) [] r d = d
not_both (token u ∷ is) (t ∷ ts) r d = not_both is ts r.1 d.1
not_both (part p k ∷ is) ts r (inl b) = let e = b.0 in let h = r.0 in omega arith
not_both (part p k ∷ is) ts r (inr d) = not_both is ts r.1 d
not_both (no_build ∷ is) ts r d = not_both is ts r.1 d.1
not_both (only b ∷ is) ts r d = not_both is ts r.1 d.1

-- tokens that do not begin with this one
pub not_along : (t : Lexeme) (is : List Item) (ts : List Lexeme) → NotAt t ts → Runs either (token t ∷ is) ts → ⊥
not_along t is [] n r = r
not_along t is (u ∷ us) n r = n us (ap (λ x. x ∷ us) r.0)

-- one fault means the other
pub fault_along : {T U : Type 0} {write : T → List Item → List Item} {Stops : List Item → Type 0} {ts : List Lexeme}
    {outer : U → List Item → List Item} {Ends : List Item → Type 0} {us : List Lexeme} (e : ParseRefusal) →
    (Missing write Stops ts → Missing outer Ends us) → (Nested write ts → Nested outer us) →
    IsFault write Stops ts e → IsFault outer Ends us e
fault_along refusals.Memory f g h = tt
fault_along (refusals.Syntax _ _) f g h = f h
fault_along (refusals.Nesting _) f g h = g h

-- a fault that says Syntax says that there is no tree
pub syntax_fault : {T : Type 0} {write : T → List Item → List Item} {Stops : List Item →
    Type 0} {ts : List Lexeme} (e : ParseRefusal) →
    IsSyntax e → Missing write Stops ts → IsFault write Stops ts e
syntax_fault (refusals.Syntax _ _) s m = m
syntax_fault _ s m = absurd s
