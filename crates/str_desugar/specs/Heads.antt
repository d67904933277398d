-- The headline does not rest on this file.
-- What heads of definitions in the code stand for.
use Rattle.std.specs.Prelude.{List, map}
use Rattle.std.specs.Borrow.{Bor}
use Rattle.str_syntax.specs.declared.strategy.DefinitionHead.{DefinitionHead}
use Rattle.str_syntax.specs.Views.{head_of}
use Rattle.str_desugar.specs.Groups.{Head, written_head}

abbrev pub read_head : DefinitionHead → Head
read_head h = written_head (head_of h)

-- the heads that are pointed at
abbrev pub read_heads : List (Bor DefinitionHead) → List Head
read_heads hs = map (λ h. read_head h.now) hs
