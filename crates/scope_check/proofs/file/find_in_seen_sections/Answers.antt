use Rattle.std.proofs.Common.{◌∙◌, ap, map, subst}
use Rattle.str_syntax.specs.Views.{section_of}
use Rattle.scope_check.specs.Found.{found_in_tops}
use Rattle.scope_check.specs.Seen.{Seen, among, inner, tops_in}
use Rattle.scope_check.specs.Tables.{Adds, known_of}
use Rattle.scope_check.proofs.LayerLaws.{reads_inner, reads_outermost}
use Rattle.scope_check.proofs.file.find_in_seen_sections.Goals as goal

pub returns : goal.returns
returns c =
    let P : Seen → Type 0 = λ L. Adds c.find_in_sections.result c.args.findings.now
    (found_in_tops (known_of c.args.known.now) L (tops_in (map section_of c.args.all.now)))
    c.find_in_sections.new.findings in
    subst P (reads_inner _ _ ∙ ap (inner (among c.args.keys.now)) reads_outermost) c.find_in_sections.ensures
