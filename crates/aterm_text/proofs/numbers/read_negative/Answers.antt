use Rattle.std.proofs.Common.{◌≡◌, ◌∙◌, arith, rules, true}
use Rattle.std.specs.Prelude.{slice_index}
use Rattle.term_model.specs.Bytes.{is_digit}
use Rattle.aterm_text.proofs.Outcomes.{lone_minus, minus_read}
use Rattle.aterm_text.proofs.numbers.read_negative.Goals as goal

pub returns-then-index-text-clause-err : goal.returns-then-index-text-clause-err
returns-then-index-text-clause-err g c =
    c.requires.at.outcome ∙ lone_minus c.args.text.now c.requires.at.brackets c.args.index
    (λ h. absurd (omega (arith, h, c.if-index-text.true)))

pub returns-then-not-is_digit_byte-clause-err : goal.returns-then-not-is_digit_byte-clause-err
returns-then-not-is_digit_byte-clause-err g c =
    c.requires.at.outcome ∙ lone_minus c.args.text.now c.requires.at.brackets c.args.index (λ h. search rules)

pub read_number-requires : goal.read_number-requires
read_number-requires g c =
    let at = c.requires.at in
    let digit : is_digit (slice_index c.args.text.now c.args.index) ≡ true = search rules in
    record {
      within = omega (arith, at.within, c.if-index-text.false);
      digit = digit;
      at = record {
        brackets = at.brackets;
        keeping = at.keeping;
        outcome = at.outcome ∙ minus_read c.args.text.now at.brackets c.args.index
            (omega (arith, at.within, c.if-index-text.false)) digit;
        within = at.within;
      };
    }
