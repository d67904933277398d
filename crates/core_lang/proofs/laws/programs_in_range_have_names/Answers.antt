use Rattle.core_lang.proofs.NamingLaws.{in_range_resolved}
use Rattle.core_lang.proofs.InRangeLaws.{resolved_in_range}
use Rattle.core_lang.proofs.laws.programs_in_range_have_names.Goals as goal

pub returns : goal.returns
returns c = record {
  resolved = λ C i main r. in_range_resolved C i main r;
  in_range =
      λ P main C i r. resolved_in_range r;
}
