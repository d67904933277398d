use Rattle.std.proofs.Common.{rules, arith, sym, ◌∙◌, ◌≡◌, ◌+◌, ◌-◌, ◌*◌, refl, true, None}
use Rattle.std.specs.Prelude.{slice_index}
use Rattle.std.proofs.lemmas.Result.{err_from_is_err_and}
use Rattle.term_model.specs.Bytes.{unescaped, is_between}
use Rattle.aterm_text.proofs.Outcomes.{escape_ends, escaped_letter, no_escape, first_octal, second_octal, octals_read}
use Rattle.aterm_text.proofs.quoted.read_escape.Goals as goal

pub returns-then-index-text-clause-err : goal.returns-then-index-text-clause-err
returns-then-index-text-clause-err c b s =
    escape_ends c.args.text.now b s c.args.index (omega (arith, c.if-index-text.true))

pub returns-in-Some-clause-read : goal.returns-in-Some-clause-read
returns-in-Some-clause-read c b s =
    escaped_letter c.args.text.now b s c.args.index c.in-Some.meant
    (omega (arith, c.requires.within, c.if-index-text.false)) (sym c.unescaped.ensures ∙ c.in-Some.is)

pub returns-then-not-begins_octal-clause-err : goal.returns-then-not-begins_octal-clause-err
returns-then-not-begins_octal-clause-err c b s =
    no_escape c.args.text.now b s c.args.index (omega (arith, c.requires.within, c.if-index-text.false)) (search rules)
    (search rules)

pub returns-in_err-second-clause-err : goal.returns-in_err-second-clause-err
returns-in_err-second-clause-err c b s =
    let none : unescaped (slice_index c.args.text.now c.args.index) ≡ None = search rules in
    let yes : is_between 48 51 (slice_index c.args.text.now c.args.index) ≡ true = search rules in
    let p = err_from_is_err_and c.from_residual.result c.from_residual.ensures.1 in
    rw (
      p.1,
      p.2,
      first_octal c.args.text.now b s c.args.index (omega (arith, c.requires.within, c.if-index-text.false))
          none yes,
    ) (c.in_err-second.ensures.err b (slice_index c.args.text.now c.args.index - 48) s)

pub returns-in_err-third-clause-err : goal.returns-in_err-third-clause-err
returns-in_err-third-clause-err c b s =
    let none : unescaped (slice_index c.args.text.now c.args.index) ≡ None = search rules in
    let yes : is_between 48 51 (slice_index c.args.text.now c.args.index) ≡ true = search rules in
    let p = err_from_is_err_and c.from_residual-in_err-third.result c.from_residual-in_err-third.ensures.1 in
    let two : (c.args.index + 1) + 1 ≡ c.args.index + 2 = omega arith in
    rw (
      p.1,
      p.2,
      first_octal c.args.text.now b s c.args.index (omega (arith, c.requires.within, c.if-index-text.false)) none yes,
      second_octal c.args.text.now b (slice_index c.args.text.now c.args.index - 48) s (c.args.index + 1)
          c.in_ok-second.ensures.within c.in_ok-second.ensures.octal,
      two,
    )
    (c.in_err-third.ensures.errs b (8 * (slice_index c.args.text.now c.args.index - 48) +
    (slice_index c.args.text.now (c.args.index + 1) - 48)) s)

pub returns-clause-read : goal.returns-clause-read
returns-clause-read c b s =
    let none : unescaped (slice_index c.args.text.now c.args.index) ≡ None = search rules in
    let yes : is_between 48 51 (slice_index c.args.text.now c.args.index) ≡ true = search rules in
    octals_read c.args.text.now b s c.args.index (slice_index c.args.text.now c.args.index - 48)
    c.in_ok-second.second c.in_ok-third.third c.in_ok-third.ensures.within none yes c.in_ok-second.ensures.octal
    c.in_ok-third.ensures.octal refl c.in_ok-second.ensures.value c.in_ok-third.ensures.value
