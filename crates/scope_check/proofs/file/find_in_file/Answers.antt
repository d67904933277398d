use Rattle.std.proofs.Common.{◌∙◌, ap}
use Rattle.signature_core.specs.Signature.{declarations_of}
use Rattle.str_syntax.specs.Views.{file_of}
use Rattle.scope_check.specs.Complaint.{complaints, first_of}
use Rattle.scope_check.specs.Found.{Found, found_in_file, has_found, joined}
use Rattle.scope_check.specs.Primitives.{holds}
use Rattle.scope_check.proofs.DeclarationLaws.{again-none}
use Rattle.scope_check.proofs.FileLaws.{file_found, first_found, is_sound, judged_by}
use Rattle.scope_check.proofs.file.find_in_file.Goals as goal

pub returns-clause-first : goal.returns-clause-first
returns-clause-first c = λ is_none.
    let has = holds c.args.primitives.now in
    let file = file_of c.args.file.now in
    let made = c.in_ok-signature.signature in
    ap (λ f. first_of (has_found f) complaints)
    (file_found (judged_by has made) file c.args.main.now c.args.findings.now c.signature_of.new.findings _ _
    (again-none (declarations_of file)) c.in_ok-signature.ensures.found c.in_ok-find_beside_declarations.ensures ∙
    ap (λ (f : Found). joined f (found_in_file (judged_by has made) file c.args.main.now)) is_none) ∙
    first_found has file c.args.main.now made
    (λ none. c.in_ok-signature.ensures.all (again-none (declarations_of file) ∙ none))

pub returns-clause-declared : goal.returns-clause-declared
returns-clause-declared c =
    is_sound (holds c.args.primitives.now) (file_of c.args.file.now) c.args.main.now c.in_ok-signature.signature
    (λ none. c.in_ok-signature.ensures.all (again-none (declarations_of (file_of c.args.file.now)) ∙ none))
