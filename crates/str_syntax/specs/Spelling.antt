-- The headline does not rest on this file.
-- What the bytes of a text in memory are seen as.
use Rattle.std.specs.Prelude.{ℕ, List}
use Rattle.str_syntax.specs.declared.text.Spelling.{Spelling}
use Rattle.str_syntax.specs.declared.text.Spelling.TheVariants as forms

-- the bytes that are spelled so
abbrev pub spelled : Spelling → List ℕ
spelled (forms.Short bytes) = bytes
spelled (forms.Long bytes) = bytes.value.items
