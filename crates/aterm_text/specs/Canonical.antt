-- The headline does not rest on this file.
-- What the canonical text of a term is among texts.
use Rattle.std.specs.Prelude.{◌≡◌, ◌⊎◌, true, not, ◌==◌, ℕ, List, ◌∷◌, Result, Ok, Err}
use Rattle.std.specs.List.{list_all}
use Rattle.term_model.specs.declared.fault.Fault.{Fault}
use Rattle.term_model.specs.declared.fault.Fault.TheVariants.{Memory}
use Rattle.term_model.specs.Term.{Tree}
use Rattle.aterm_text.specs.Grammar.{IsText}
use Rattle.aterm_text.specs.Text.{text}
use Rattle.aterm_text.specs.ReadTerm.{IsReading}

abbrev pub HasNoLineFeed : List ℕ → Type 0
HasNoLineFeed bs = list_all (λ b. not (b == 10)) bs ≡ true

-- it spells the term, in one line, and does not begin with `#`
pub record IsCanonical (t : Tree) : Type 0 where
  pub spells : IsText t (text t)
  pub one_line : HasNoLineFeed (text t)
  pub no_hash : (rest : List ℕ) → ¬ (text t ≡ 35 ∷ rest)

-- reading its canonical text returns the term, unless memory runs out
abbrev pub ReadsBack : Tree → Type 0
ReadsBack t = (answer : Result Tree Fault) → IsReading (text t) answer → (answer ≡ Ok t) ⊎ (answer ≡ Err Memory)
