-- What is written for definitions and the text of a term, and with which status.
use Rattle.std.specs.Prelude.{◌≡◌, ℕ, ◌<◌, ◌≤◌, ◌⊎◌, List, [], ◌∷◌, ◌++◌, codes, Option}
use Rattle.term_model.specs.declared.fault.Fault.{Fault}
use Rattle.term_model.specs.Fault.{word_of}
use Rattle.term_model.specs.Term.{Tree}
use Rattle.term_model.specs.Flat.{Meaning}
use Rattle.aterm_text.specs.Text.{text}
use Rattle.core_lang.specs.Environment.{Bindings}
use Rattle.core_lang.specs.Ending.{Ending, ok, failed, oversize}
use Rattle.core_lang.specs.Named as named
use Rattle.core_lang.specs.Named.{written}
use Rattle.str_syntax.specs.Trees.{Bytes, FileTree}
use Rattle.str_desugar.specs.FileProgram.{program_of_file}
use Rattle.str_pipeline.specs.Judged.{AreRefused, AreAccepted, IsRefused, IsAccepted}
use Rattle.str_pipeline.specs.Device.{Gains, GainsPrefix}
use Rattle.str_pipeline.specs.Setting.{Setting}
use Rattle.str_pipeline.specs.declared.status.Status.{Status}
use Rattle.str_pipeline.specs.declared.status.Status.TheVariants.{Rewritten, Failed, Oversize, Spent, Refused}

-- the text and the line feed that ends it
abbrev pub line_of : List ℕ → List ℕ
line_of bytes = bytes ++ 10 ∷ []

abbrev pub refusal_line : Fault → List ℕ
refusal_line fault = line_of (codes "#refused " ++ word_of fault)

-- the definition of this name in the file rewrites the term so, by n nodes, where primitives mean M
abbrev pub Rewrites : Meaning → FileTree → Bytes → Tree → Ending Tree → ℕ → Type 0
Rewrites M f main t o n = named.Rewrites M (program_of_file f) (written main) t o n

-- the first fault: of the definitions, and of the term only where the definitions have none
abbrev pub IsFirstFault : List ℕ → List ℕ → Setting → Fault → Type 0
IsFirstFault defs term S fault =
    AreRefused S defs fault ⊎ ((f : FileTree) × AreAccepted S defs f × IsRefused S.options.strict f term fault)

-- what a file does with a term within the budget: the line and the status
abbrev pub IsAnswer : Meaning → FileTree → Bytes → Tree → ℕ → Status → List ℕ → Type 0
IsAnswer M f main t budget Rewritten line = (u : Tree) × (e : Bindings) × (n : ℕ) × Rewrites M f main t (ok u e) n ×
    (n ≤ budget) × (line ≡ line_of (text u))
IsAnswer M f main t budget Failed line = (n : ℕ) × Rewrites M f main t failed n × (n ≤ budget) ×
    (line ≡ line_of (codes "#failed"))
IsAnswer M f main t budget Oversize line = (n : ℕ) × Rewrites M f main t oversize n × (n ≤ budget) ×
    (line ≡ line_of (codes "#oversize"))
IsAnswer M f main t budget Spent line = ((o : Ending Tree) (n : ℕ) → Rewrites M f main t o n → budget < n) ×
    (line ≡ line_of (codes "#spent"))
IsAnswer M f main t budget (Refused fault) line = ⊥

-- the line and the status for these definitions and this text of a term, in this setting
abbrev pub IsWritten : List ℕ → List ℕ → Setting → Status → List ℕ → Type 0
IsWritten defs term S (Refused fault) line = IsFirstFault defs term S fault × (line ≡ refusal_line fault)
IsWritten defs term S status line = (f : FileTree) × (t : Tree) × AreAccepted S defs f
    × IsAccepted S.options.strict f term t × IsAnswer S.meaning f S.options.main.items t S.options.budget status line

-- a writer that shows its bytes has gained the line
pub record HasWritten (defs term : List ℕ) (S : Setting) (status : Status) (old new : Option (List ℕ)) : Type 0 where
  pub line : List ℕ
  pub gained : Gains old new line
  pub is_written : IsWritten defs term S status line

-- it has gained a beginning of the line
pub record HasBegun (defs term : List ℕ) (S : Setting) (old new : Option (List ℕ)) : Type 0 where
  pub status : Status
  pub line : List ℕ
  pub gained : GainsPrefix old new line
  pub is_written : IsWritten defs term S status line
