-- The headline does not rest on this file.
-- The fault where a part would stand at level 201.
use Rattle.std.specs.Prelude.{Bool, true, false}
use Rattle.str_parser.specs.declared.refusal.ParseRefusal.{ParseRefusal}
use Rattle.str_parser.specs.declared.refusal.ParseRefusal.TheVariants as refusals

-- Nesting where the part can begin, else Syntax
abbrev pub IsBeyondFault : Bool → ParseRefusal → Type 0
IsBeyondFault true (refusals.Nesting _) = Unit {0}
IsBeyondFault false (refusals.Syntax _ _) = Unit {0}
IsBeyondFault _ _ = ⊥
