use Rattle.std.proofs.Common.{◌∙◌, ap, sym, map}
use Rattle.std.proofs.lemmas.List.{take_all}
use Rattle.str_syntax.specs.Views.{head_of}
use Rattle.scope_check.proofs.GroupLaws.{heads_of_definitions}
use Rattle.scope_check.proofs.groups.heads_of.Goals as goal

pub returns : goal.returns
returns c =
    c.loop-definition.invariant ∙
    ap (λ ds. map (λ d. head_of d.head) ds)
    (take_all c.loop-definition.definition-index c.args.definitions.now c.loop-definition-test.false) ∙
    sym (heads_of_definitions c.args.definitions.now)
