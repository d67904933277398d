use Rattle.strat_code.proofs.GrowthLaws.{at_grown, ranges_grown, bodies_grown, specializations_grown}
use Rattle.strat_code.proofs.laws.longer_code_stands.Goals as goal

pub returns : goal.returns
returns c = record {
  stands = λ code more P i h. record {
    entries = h.entries;
    specializations = h.specializations;
    bodies = bodies_grown code more h.bodies;
    specialization_bodies = specializations_grown code more h.specialization_bodies;
    begins = ranges_grown code more h.begins;
    ends = at_grown code more 1 h.ends;
  };
}
