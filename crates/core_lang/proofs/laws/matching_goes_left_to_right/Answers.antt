use Rattle.core_lang.proofs.TriedLaws.{tried_matches, matches_tried}
use Rattle.core_lang.proofs.laws.matching_goes_left_to_right.Goals as goal

pub returns : goal.returns
returns c start = record {
  each_place = λ place p e e1 t. (λ m. matches_tried place m, λ h. tried_matches place h);
  named = λ place p e e1 t. (λ m. matches_tried place m, λ h. tried_matches place h);
}
