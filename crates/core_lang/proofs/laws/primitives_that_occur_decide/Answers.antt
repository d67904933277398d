use Rattle.core_lang.proofs.MeaningLaws.{coordinates_changed, names_changed, same_turned}
use Rattle.core_lang.proofs.laws.primitives_that_occur_decide.Goals as goal

pub returns : goal.returns
returns c = record {
  named = λ M N P main same t o n. (
    λ x. names_changed M N P main same x,
    λ x. names_changed N M P main (λ f k h. same_turned M N f k (same f k h)) x,
  );
  placed = λ M N C i same t o n. (
    λ x. coordinates_changed M N C i same x,
    λ x. coordinates_changed N M C i (λ f k h. same_turned M N f k (same f k h)) x,
  );
}
