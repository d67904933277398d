use Rattle.std.proofs.Common.{◌∙◌}
use Rattle.str_desugar.proofs.SymbolLaws.{found_is}
use Rattle.str_desugar.proofs.symbols.Symbols.share.Goals as goal

pub returns-in-Some : goal.returns-in-Some
returns-in-Some c = c.in_ok-shared.ensures.cases ∙ found_is _ _ _ c.in-Some.ensures.key
