use Rattle.core_lang.proofs.MatchLaws.{matches_once}
use Rattle.core_lang.proofs.laws.patterns_match_one_way.Goals as goal

pub returns : goal.returns
returns c start = record {
  each_place = λ place p e e1 e2 t m m1. matches_once place m m1;
  named = λ place p e e1 e2 t m m1. matches_once place m m1;
}
