-- A file is all of its tokens.
use Rattle.std.proofs.lemmas.Result.{err_from_is_err_and}
use Rattle.str_parser.proofs.FileLaws.{file_found, file_fault, slices_within}
use Rattle.str_parser.proofs.file.parse_file.Goals as goal

pub new-requires : goal.new-requires
new-requires c = slices_within _ _ _ c.requires

pub returns-in_err-sections : goal.returns-in_err-sections
returns-in_err-sections c =
    let p = err_from_is_err_and c.from_residual.result c.from_residual.ensures.1 in
    rw (p.1, p.2) (file_fault _ _ (rw c.new.ensures at c.in_err-sections.ensures))

pub returns : goal.returns
returns c = file_found _ _ (rw c.new.ensures at c.in_ok-sections.ensures)
