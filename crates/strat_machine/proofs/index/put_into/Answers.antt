use Rattle.std.proofs.Common.{◌∙◌, refl}
use Rattle.strat_machine.proofs.IndexLaws.{puts_some}
use Rattle.strat_machine.proofs.index.put_into.Goals as goal

pub returns : goal.returns
returns c =
    puts_some c.args.groups.now _ c.args.number c.in-Some.number c.args.entry c.len.result c.index_mut.result.now
    c.push-2.new.self c.in-Some.is (c.len.ensures ∙
    c.args.groups.now.closed.ok.0) c.requires c.index_mut.ensures.value c.in_ok-push-2.ensures.items refl refl
