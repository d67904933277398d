-- Each way that reading a definition of the file can go.
use Rattle.str_parser.proofs.PhraseLaws.{refused, made, at_made}
use Rattle.str_parser.proofs.FormLaws.{is_top}
use Rattle.str_parser.proofs.form.definition.Goals as goal

pub returns-in_err-form : goal.returns-in_err-form
returns-in_err-form c = refused (at_made is_top) _ _ _ c.from_residual.ensures.1 c.in_err-form.ensures

pub returns : goal.returns
returns c = made is_top c.in_ok-form.ensures
