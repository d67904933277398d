use Rattle.core_lang.proofs.RootLaws.{other_root, begins_fails}
use Rattle.core_lang.proofs.laws.other_roots_fail.Goals as goal

pub returns : goal.returns
returns c start = record {
  each_place = λ place p e e1 t h m. other_root place p t e e1 h m;
  each_reading = λ R M V s r n t e begins h. begins_fails begins h;
  named = λ M V s r n t e begins h. begins_fails begins h;
}
