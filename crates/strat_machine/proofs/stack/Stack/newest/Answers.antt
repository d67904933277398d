use Rattle.std.proofs.Common.{◌≡◌, ◌-◌, length, drop, ap, ◌∙◌, arith}
use Rattle.std.proofs.lemmas.List.{take_all, length-drop}
use Rattle.strat_machine.proofs.StackLaws.{newest_of}
use Rattle.strat_machine.proofs.stack.Stack.newest.Goals as goal

pub returns : goal.returns
returns g c =
    let k = c.len.ensures in let l = c.saturating_sub-from.ensures in
    let at : c.saturating_sub-from.result ≡ length c.self.inside.items.items - c.args.count = omega arith in
    let long = length-drop c.saturating_sub-from.result c.deref.result.now in
    take_all (length c.deref.result.now - c.saturating_sub-from.result)
    (drop c.saturating_sub-from.result c.deref.result.now) (omega arith) ∙
    (ap (drop c.saturating_sub-from.result) c.deref.ensures.value ∙ newest_of c.args.count _ _ _ at c.self.view_is)
