-- What the faults of the descent mean.
use Rattle.std.proofs.Common.{◌≡◌, Bool, true, false, List, refl}
use Rattle.str_parser.specs.declared.refusal.ParseRefusal.{ParseRefusal}
use Rattle.str_parser.specs.declared.refusal.ParseRefusal.TheVariants as refusals
use Rattle.str_parser.specs.Lexemes.{Lexeme}
use Rattle.str_parser.specs.Items.{Item}
use Rattle.str_parser.specs.Readings.{Missing, Nested, IsFault}
use Rattle.str_parser.specs.Beyond.{IsBeyondFault}

pub beyond_fault : {T : Type 0} (write : T → List Item → List Item) (Stops : List Item → Type 0) (ts : List Lexeme)
    (b : Bool) (e : ParseRefusal) → (b ≡ true → Nested write ts) → (b ≡ false → Missing write Stops ts) →
    IsBeyondFault b e → IsFault write Stops ts e
beyond_fault write Stops ts true (refusals.Nesting _) f g h = f refl
beyond_fault write Stops ts false (refusals.Syntax _ _) f g h = g refl
beyond_fault write Stops ts _ _ f g h = absurd h
