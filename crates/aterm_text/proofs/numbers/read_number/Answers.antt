use Rattle.std.proofs.Common.{◌≡◌, ◌∙◌, sym, ap, rules, w64}
use mir.Val.{to_z, of_z}
use Rattle.term_model.specs.declared.term.Head.TheVariants as heads
use Rattle.term_model.specs.Term.{end}
use Rattle.aterm_text.specs.Brackets.{at_whole}
use Rattle.aterm_text.specs.Reading.{Whole, outcome_from}
use Rattle.aterm_text.proofs.Outcomes.{digits_stop, beyond_digit}
use Rattle.aterm_text.proofs.numbers.read_number.Goals as goal

pub returns-clause-reached : goal.returns-clause-reached
returns-clause-reached g c =
    let at = c.requires.at in
    let z : to_z w64 (of_z w64 c.signed.result) ≡ c.signed.result = search rules in
    record {
      state = Whole (heads.Int (to_z w64 (of_z w64 c.signed.result))) end at.brackets;
      is = at_whole (c.in_ok-add_int.ensures.added at.brackets at.keeping);
      outcome =
          at.outcome ∙ c.in_ok-magnitude.ensures.read at.brackets ∙
          digits_stop c.args.text.now c.args.negative c.in_ok-magnitude.magnitude at.brackets c.in_ok-magnitude.end
          c.in_ok-magnitude.ensures.stop
          ∙ ap (λ v. outcome_from c.args.text.now (Whole (heads.Int v) end at.brackets) c.in_ok-magnitude.end)
          (sym (z ∙ c.signed.ensures));
      within = c.in_ok-magnitude.ensures.high;
    }

pub returns-clause-past : goal.returns-clause-past
returns-clause-past g c = beyond_digit c.args.text.now c.args.index c.in_ok-magnitude.end c.in_ok-magnitude.ensures.low
    c.requires.within c.requires.digit c.in_ok-magnitude.ensures.stop
