use Rattle.std.proofs.Common.{◌≡◌, map, take}
use Rattle.scope_check.specs.Seen.{head_of_form}
use Rattle.str_desugar.specs.Forms.{read_forms}
use Rattle.str_desugar.specs.Groups.{written_head}
use Rattle.str_desugar.specs.Heads.{read_heads}
use Rattle.str_desugar.proofs.forms.groups_of.Given as goal

abbrev pub invariant-loop-form : goal.invariant-loop-form
invariant-loop-form l = read_heads l.heads.items ≡
    map (λ f. written_head (head_of_form f)) (read_forms (take l.form-index l.forms))
