use Rattle.std.proofs.Common.{◌∙◌, ap, map, refl}
use Rattle.str_syntax.specs.Views.{section_of}
use Rattle.scope_check.specs.Found.{found_in_tops, joined}
use Rattle.scope_check.specs.Seen.{inner, nothing, tops_in}
use Rattle.scope_check.specs.Tables.{known_of}
use Rattle.scope_check.proofs.FoundLaws.{then_joined}
use Rattle.scope_check.proofs.file.find_with_heads.Goals as goal

pub returns : goal.returns
returns c =
    c.in_ok-find_in_seen_sections.ensures ∙
    ap (λ A. joined c.find_in_group.new.findings (found_in_tops (known_of c.args.known.now) (inner A nothing)
    (tops_in (map section_of c.args.all.now)))) c.in_ok-keys.ensures ∙
    then_joined c.args.findings.now _ _ _ _ c.in_ok-find_in_group.ensures refl
