use Rattle.strat_steps.proofs.RunLaws.{ahead}
use Rattle.strat_steps.proofs.laws.runs_are_unique.Goals as goal

pub returns : goal.returns
returns c = record { on_the_way = λ code M k j m m1 r left x y. let h = ahead x y in (h.rest, h.are, h.lead) }
