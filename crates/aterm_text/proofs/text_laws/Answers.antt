use Rattle.aterm_text.proofs.RoundTrip.{not_deep}
use Rattle.aterm_text.proofs.text_laws.Goals as goal

pub returns-clause-not_deep : goal.returns-clause-not_deep
returns-clause-not_deep c = not_deep
