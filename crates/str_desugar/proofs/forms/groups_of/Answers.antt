use Rattle.str_desugar.specs.Heads.{read_heads}
use Rattle.str_desugar.proofs.TopLaws.{heads_all}
use Rattle.str_desugar.proofs.forms.groups_of.Goals as goal

pub returns : goal.returns
returns c = λ declared.
    heads_all declared c.args.forms.now c.loop-form.form-index c.in_ok-groups.groups
    (read_heads c.loop-form.heads.items) c.loop-form-test.false c.in_ok-groups.ensures c.loop-form.invariant
