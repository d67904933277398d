use Rattle.core_lang.proofs.ExtensionLaws.{extends}
use Rattle.core_lang.proofs.laws.derivations_keep_bindings.Goals as goal

pub returns : goal.returns
returns c start = record {
  each_reading = λ R M V s t t1 e e1 n x. extends x;
  named = λ M V s t t1 e e1 n x. extends x;
}
