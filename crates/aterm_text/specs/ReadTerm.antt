-- What reading a text returns.
use Rattle.std.specs.Prelude.{◌≡◌, ℕ, List, ◌⊎◌, Result, Ok, Err}
use Rattle.term_model.specs.declared.fault.Fault.{Fault}
use Rattle.term_model.specs.declared.fault.Fault.TheVariants as faults
use Rattle.term_model.specs.Term.{Tree, Fits}
use Rattle.aterm_text.specs.Grammar.{IsText}
use Rattle.aterm_text.specs.Depth.{TooDeep}

-- the bytes spell this term, which fits, and no other, and they are not too deep
pub record Spelled (bs : List ℕ) (t : Tree) : Type 0 where
  pub spells : IsText t bs
  pub fits : Fits t
  pub not_deep : ¬ (TooDeep bs)
  pub only : (u : Tree) → IsText u bs → u ≡ t

-- a term that the text spells; else too deep or spelling what does not fit; else no spelling. Nothing is said of
-- running out of memory.
abbrev pub IsReading : List ℕ → Result Tree Fault → Type 0
IsReading bs (Ok t) = Spelled bs t
IsReading bs (Err faults.Memory) = Unit {0}
IsReading bs (Err (faults.TermOversize _)) = TooDeep bs ⊎ ((t : Tree) × IsText t bs × (¬ (Fits t)))
IsReading bs (Err (faults.TermSyntax _)) = (¬ (TooDeep bs)) × ((t : Tree) → ¬ (IsText t bs))
IsReading bs (Err _) = ⊥
