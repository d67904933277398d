use Rattle.std.proofs.Common.{◌∙◌, ◌++◌, ap, sym}
use Rattle.std.specs.Option.{option_to_list}
use Rattle.std.specs.Vec.{vec_len}
use Rattle.core_lang.specs.Program.{choice}
use Rattle.core_lang.specs.Views as views
use Rattle.core_lang.proofs.ReadLaws as core_reads
use Rattle.str_desugar.proofs.BodyLaws.{success_made}
use Rattle.str_desugar.proofs.alternatives.first_success.Goals as goal

pub returns : goal.returns
returns c =
    let popped = c.pop.new.self.items in
    let all = c.pop.ensures.items ∙ ap (λ o. popped ++ option_to_list o) c.in-Some.is in
    let some = sym c.is_empty.ensures ∙ c.if-is_empty.false in
    let rest = c.remove-first.new.self.items in
    let arm = ap views.arm_of c.in_ok-first.ensures.ok ∙ c.arm.ensures in
    let last = ap views.strategy_of c.in_ok-new.ensures.ok in
    let others = c.in_ok-others.ensures in
    core_reads.reads_choice c.in_ok-first.first c.in_ok-others.others c.in_ok-new.field-0 ∙
    (λ i. choice (arm i).guard (arm i).then (views.first_of (others i) (last i))) ∙
    sym (success_made c.args.strategies.items popped rest c.remove-first.result c.in-Some.last (vec_len c.pop.new.self)
    all c.pop.new.self.ok.0 some c.remove-first.ensures.value c.remove-first.ensures.items)
