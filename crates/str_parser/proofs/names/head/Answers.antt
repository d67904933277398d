-- Each way that reading a name with parameters can go.
use Rattle.str_syntax.specs.Trees.{absent}
use Rattle.str_parser.proofs.PhraseLaws.{refused, at_made, at_first, after_first, pair}
use Rattle.str_parser.proofs.FormLaws.{head_pairs}
use Rattle.str_parser.proofs.names.head.Goals as goal

pub returns-in_err-name : goal.returns-in_err-name
returns-in_err-name c = refused (at_first head_pairs absent) _ _ _ c.from_residual.ensures.1 c.in_err-name.ensures

pub returns-in_err-parameters : goal.returns-in_err-parameters
returns-in_err-parameters c = refused (at_made (after_first head_pairs c.in_ok-name.ensures))
    _ _ _ c.from_residual-in_err-parameters.ensures.1 c.in_err-parameters.ensures

pub returns : goal.returns
returns c = pair head_pairs c.in_ok-name.ensures c.in_ok-parameters.ensures
