-- The headline does not rest on this file.
-- What is judged of definitions without a run.
use Rattle.std.specs.Prelude.{ℕ, List, Option, Some, None}
use Rattle.term_model.specs.declared.fault.Fault.{Fault}
use Rattle.str_syntax.specs.Trees.{FileTree}
use Rattle.str_pipeline.specs.Setting.{Setting}
use Rattle.str_pipeline.specs.Judged.{AreRefused, AreAccepted}

-- what is judged of definitions: nothing is wrong in them, or they are refused with this fault
abbrev pub IsVerdict : Setting → List ℕ → Option Fault → Type 0
IsVerdict S defs None = (f : FileTree) × AreAccepted S defs f
IsVerdict S defs (Some fault) = AreRefused S defs fault
