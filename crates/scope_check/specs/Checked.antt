-- The headline does not rest on this file.
-- A file that was judged and has no fault.
use Rattle.std.specs.Prelude.{◌≡◌, ℕ, Bool, List, None}
use Rattle.str_syntax.specs.declared.definition.File.{File}
use Rattle.str_syntax.specs.Trees.{Bytes, FileTree}
use Rattle.signature_core.specs.Signature.{Declared, declarations_of}
use Rattle.scope_check.specs.Complaint.{first_fault}

-- a file, the constructors that it declares, and the name of its main definition
pub record Checked : Type 0 where
  pub file : File
  pub declarations : List Declared
  pub main : Bytes

-- the file has no fault where there are some primitives, and these are its declarations
pub record IsChecked (file : FileTree) (declarations : List Declared) (main : Bytes) : Type 0 where
  pub has_primitive : Bytes → ℕ → Bool
  pub faultless : first_fault has_primitive file main ≡ None
  pub declared : declarations ≡ declarations_of file
