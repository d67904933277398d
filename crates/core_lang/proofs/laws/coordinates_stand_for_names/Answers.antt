use Rattle.core_lang.proofs.Transport.{carried, returned, rewrites_to, rewrites_from}
use Rattle.core_lang.proofs.laws.coordinates_stand_for_names.Goals as goal

pub returns : goal.returns
returns c = record {
  programs = λ P main C i r M t o n. (λ x. rewrites_to r x, λ x. rewrites_from r x);
  strategies = λ M V W s z r a t e o n. (λ x. carried x r a, λ x. returned x r a);
}
