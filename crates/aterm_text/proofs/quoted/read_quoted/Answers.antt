use Rattle.std.proofs.Common.{◌∙◌, ◌+◌, [], sym, ap}
use Rattle.aterm_text.specs.Reading.{Named, outcome_from}
use Rattle.aterm_text.proofs.Outcomes.{quote_read}
use Rattle.aterm_text.proofs.quoted.read_quoted.Goals as goal

pub returns-then-text-end-eq34-clause-read : goal.returns-then-text-end-eq34-clause-read
returns-then-text-end-eq34-clause-read g c s =
    let e = c.raw_end-end.ensures in
    quote_read c.args.text.now [] s c.args.index c.raw_end-end.result e.low c.if-end-text.true e.within
    c.if-text-end-eq34.true
    ∙ ap (λ y. outcome_from c.args.text.now (Named y s) (c.raw_end-end.result + 1)) (sym c.in_ok-name.ensures.symbol)
