use Rattle.std.proofs.Common.{◌≡◌, ◌∙◌, ◌+◌, [], true, false, refl, ap, sym, arith, rules}
use Rattle.std.specs.Prelude.{slice_index}
use Rattle.term_model.specs.Bytes.{is_digit}
use Rattle.term_model.specs.Symbol.{Tuple, begins_name}
use Rattle.aterm_text.specs.Brackets.{at_first}
use Rattle.aterm_text.specs.Depth.{Applied, Elements}
use Rattle.aterm_text.specs.Reading.{Fresh, InText, Wrong, first, opened, outcome_from}
use Rattle.aterm_text.proofs.BracketLaws.{keeping_kept, opens}
use Rattle.aterm_text.proofs.Outcomes.{digit_begins, wrong_from}
use Rattle.aterm_text.proofs.StepLaws.{begins_nothing}
use Rattle.aterm_text.proofs.reader.read_first_byte.Goals as goal

pub apply-requires-clause-at : goal.apply-requires-clause-at
apply-requires-clause-at g c =
    let w = g.S.TermSpace.space in
    let at = c.requires.at in
    record {
      brackets = at.brackets;
      keeping = keeping_kept w c.read_plain.ensures.keeps c.args.reader.now at.brackets [] at.keeping;
      outcome = at.outcome ∙ c.in_ok-name.ensures.read at.brackets;
      within = c.in_ok-name.ensures.within;
    }

pub read_number-requires : goal.read_number-requires
read_number-requires g c =
    let at = c.requires.at in
    let no_name : begins_name (slice_index c.args.text.now c.args.index) ≡ false = search rules in
    let digit : is_digit (slice_index c.args.text.now c.args.index) ≡ true = search rules in
    record {
      within = c.requires.within;
      digit = digit;
      at = record {
        brackets = at.brackets;
        keeping = at.keeping;
        outcome = at.outcome ∙ digit_begins c.args.text.now at.brackets c.args.index c.requires.within no_name digit;
        within = omega (arith, c.requires.within);
      };
    }

pub apply-requires-in-34-clause-at : goal.apply-requires-in-34-clause-at
apply-requires-in-34-clause-at g c =
    let w = g.S.TermSpace.space in
    let at = c.requires.at in
    let here : first at.brackets (slice_index c.args.text.now c.args.index) ≡ InText [] at.brackets =
    ap (first at.brackets) c.in-34.is in
    record {
      brackets = at.brackets;
      keeping = keeping_kept w c.read_quoted.ensures.keeps c.args.reader.now at.brackets [] at.keeping;
      outcome = at.outcome ∙ ap (λ a. outcome_from c.args.text.now a (c.args.index + 1)) here ∙
          c.in_ok-name-in-34.ensures.read at.brackets;
      within = c.in_ok-name-in-34.ensures.within;
    }

pub returns-in_ok-open-in-40-clause-reached : goal.returns-in_ok-open-in-40-clause-reached
returns-in_ok-open-in-40-clause-reached g c =
    let w = g.S.TermSpace.space in
    let at = c.requires.at in
    let here : first at.brackets (slice_index c.args.text.now c.args.index) ≡
    Fresh (opened (Applied Tuple)) at.brackets = ap (first at.brackets) c.in-40.is in
    let kept = keeping_kept w c.name_spelled.ensures.keeps c.args.reader.now at.brackets [] at.keeping in
    record {
      state = Fresh (opened (Applied Tuple)) at.brackets;
      is = at_first refl (opens w c.name_spelled.new.self c.args.reader.now c.open.new.reader at.brackets [] _
          (Applied Tuple) kept refl (c.in_ok-name-in-40.ensures.known, c.in_ok-name-in-40.ensures.symbol)
          c.in_ok-open-in-40.ensures);
      outcome = at.outcome ∙ ap (λ a. outcome_from c.args.text.now a (c.args.index + 1)) here;
      within = omega (arith, c.requires.within);
    }

pub returns-in_ok-open-in-91-clause-reached : goal.returns-in_ok-open-in-91-clause-reached
returns-in_ok-open-in-91-clause-reached g c =
    let w = g.S.TermSpace.space in
    let at = c.requires.at in
    let here : first at.brackets (slice_index c.args.text.now c.args.index) ≡ Fresh (opened Elements) at.brackets =
    ap (first at.brackets) c.in-91.is in
    record {
      state = Fresh (opened Elements) at.brackets;
      is = at_first refl (opens w c.args.space.now c.args.reader.now c.open-in-91.new.reader at.brackets [] _ Elements
          at.keeping refl tt c.in_ok-open-in-91.ensures);
      outcome = at.outcome ∙ ap (λ a. outcome_from c.args.text.now a (c.args.index + 1)) here;
      within = omega (arith, c.requires.within);
    }

pub returns-in_default-clause-err : goal.returns-in_default-clause-err
returns-in_default-clause-err g c =
    let at = c.requires.at in
    let no_name : begins_name (slice_index c.args.text.now c.args.index) ≡ false =
    sym c.begins.ensures ∙ c.if-begins.false in
    let no_digit : is_digit (slice_index c.args.text.now c.args.index) ≡ false =
    sym c.is_digit_byte.ensures ∙ c.if-is_digit_byte.false in
    let nothing : first at.brackets (slice_index c.args.text.now c.args.index) ≡ Wrong =
    begins_nothing at.brackets (slice_index c.args.text.now c.args.index) no_name no_digit (λ q. search rules)
    (λ q. search rules) (λ q. search rules) (λ q. search rules) in
    at.outcome ∙ ap (λ a. outcome_from c.args.text.now a (c.args.index + 1)) nothing ∙
    wrong_from c.args.text.now (c.args.index + 1)
