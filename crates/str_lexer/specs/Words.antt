-- The words and the marks of definition files, with their bytes.
use Rattle.std.specs.Prelude.{ℕ, List, codes}
use Rattle.str_lexer.specs.declared.token.Keyword.{Keyword}
use Rattle.str_lexer.specs.declared.token.Keyword.TheVariants as K
use Rattle.str_lexer.specs.declared.token.LeftOut.{LeftOut}
use Rattle.str_lexer.specs.declared.token.LeftOut.TheVariants as L
use Rattle.str_lexer.specs.declared.token.Mark.{Mark}
use Rattle.str_lexer.specs.declared.token.Mark.TheVariants as M
use Rattle.str_lexer.specs.declared.word.Reserved.{Reserved}
use Rattle.str_lexer.specs.declared.word.Reserved.TheVariants as R

abbrev pub keyword_bytes : Keyword → List ℕ
keyword_bytes K.Signature = codes "signature"
keyword_bytes K.Sorts = codes "sorts"
keyword_bytes K.Constructors = codes "constructors"
keyword_bytes K.Rules = codes "rules"
keyword_bytes K.Strategies = codes "strategies"
keyword_bytes K.Id = codes "id"
keyword_bytes K.Fail = codes "fail"
keyword_bytes K.Where = codes "where"
keyword_bytes K.Not = codes "not"
keyword_bytes K.If = codes "if"
keyword_bytes K.Then = codes "then"
keyword_bytes K.Else = codes "else"
keyword_bytes K.End = codes "end"
keyword_bytes K.All = codes "all"
keyword_bytes K.One = codes "one"
keyword_bytes K.Some = codes "some"
keyword_bytes K.Rec = codes "rec"
keyword_bytes K.Let = codes "let"
keyword_bytes K.In = codes "in"
keyword_bytes K.Prim = codes "prim"

abbrev pub left_out_bytes : LeftOut → List ℕ
left_out_bytes L.Module = codes "module"
left_out_bytes L.Imports = codes "imports"
left_out_bytes L.Overlays = codes "overlays"
left_out_bytes L.With = codes "with"
left_out_bytes L.Switch = codes "switch"
left_out_bytes L.Case = codes "case"
left_out_bytes L.Otherwise = codes "otherwise"
left_out_bytes L.External = codes "external"

-- the bytes of each word that is no name
abbrev pub reserved_bytes : Reserved → List ℕ
reserved_bytes R.Wildcard = codes "_"
reserved_bytes (R.Keyword k) = keyword_bytes k
reserved_bytes (R.LeftOut w) = left_out_bytes w

abbrev pub mark_bytes : Mark → List ℕ
mark_bytes M.OpenParenthesis = codes "("
mark_bytes M.CloseParenthesis = codes ")"
mark_bytes M.OpenBracket = codes "["
mark_bytes M.CloseBracket = codes "]"
mark_bytes M.OpenBrace = codes "{"
mark_bytes M.CloseBrace = codes "}"
mark_bytes M.Bar = codes "|"
mark_bytes M.Comma = codes ","
mark_bytes M.Colon = codes ":"
mark_bytes M.Semicolon = codes ";"
mark_bytes M.Equals = codes "="
mark_bytes M.Question = codes "?"
mark_bytes M.Exclamation = codes "!"
mark_bytes M.At = codes "@"
mark_bytes M.Star = codes "*"
mark_bytes M.Plus = codes "+"
mark_bytes M.Backslash = codes "\\"
mark_bytes M.Less = codes "<"
mark_bytes M.Greater = codes ">"
mark_bytes M.Arrow = codes "->"
mark_bytes M.DoubleArrow = codes "=>"
mark_bytes M.LeftChoice = codes "<+"
