use Rattle.core_lang.proofs.PrimitiveLaws.{occurs_resolved_in_definitions, occurs_named_in_definitions}
use Rattle.core_lang.proofs.laws.coordinates_keep_primitives.Goals as goal

pub returns : goal.returns
returns c = record {
  same = λ P main C i r f k. (
    λ h. occurs_resolved_in_definitions f k r.each h,
    λ h. occurs_named_in_definitions f k r.each h,
  );
}
