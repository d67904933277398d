use Rattle.std.proofs.Common.{◌∙◌, refl}
use Rattle.strc_command.specs.Files.{none_named}
use Rattle.strc_command.proofs.OpeningLaws.{all_found, one_more_found}
use Rattle.strc_command.proofs.opening.libraries_of.Goals as goal

pub loop-word-init : goal.loop-word-init
loop-word-init g c = record {
  named = rw c.new-libraries.ensures.items none_named;
  kept = λ other. refl;
}

pub loop-word-preserved : goal.loop-word-preserved
loop-word-preserved g c = record {
  named = one_more_found c.args.words.now (λ word. word.now) _ c.loop-word.libraries.items c.push.new.self.items
      c.in_ok-library_of.field-0 c.loop-word.word-index c.loop-word-test.true c.loop-word.invariant.named
      c.in_ok-push.ensures.items c.in_ok-library_of.ensures.named;
  kept = λ other. c.in_ok-library_of.ensures.kept other ∙ c.loop-word.invariant.kept other;
}

pub returns-clause-named : goal.returns-clause-named
returns-clause-named g c =
    all_found c.args.words.now (λ word. word.now) c.loop-word.libraries.items c.loop-word.word-index
    c.loop-word-test.false c.loop-word.invariant.named
