use Rattle.core_eval.proofs.MakingLaws.{holder_oversize}
use Rattle.core_eval.proofs.instance.holder.Goals as goal

pub returns-in-Oversize : goal.returns-in-Oversize
returns-in-Oversize c = λ us fact. holder_oversize us fact c.in-Oversize.is
