use Rattle.std.proofs.Common.{refl}
use Rattle.term_model.specs.declared.term.Head.TheVariants as heads
use Rattle.core_lang.specs.Building.{list_term}
use Rattle.core_eval.proofs.InstanceLaws.{one_too_large}
use Rattle.core_eval.proofs.MakingLaws.{part_too_large}
use Rattle.core_eval.proofs.making.list.Goals as goal

pub returns-in-Some-Oversize : goal.returns-in-Some-Oversize
returns-in-Some-Oversize c = λ ts fact.
    let large = one_too_large fact c.in-Some-Oversize.is c.in-Some-Oversize.field-0-is in
    part_too_large heads.List list_term refl (λ us. refl) c.args.other ts large.0 large.1 large.2
