use Rattle.std.proofs.Common.{ap, ◌∙◌, length, take}
use Rattle.strat_steps.specs.Binding.{undone}
use Rattle.strat_steps.proofs.TrailLaws.{above_new, down_new, restores_whole}
use Rattle.strat_steps.proofs.laws.records_restore.Goals as goal

pub returns-clause-places : goal.returns-clause-places
returns-clause-places c = λ e f new T h. ap (λ A. take (length e) (undone A f)) (above_new new T) ∙
    restores_whole e f new h

pub returns-clause-trail : goal.returns-clause-trail
returns-clause-trail c = λ new T. down_new new T
