use Rattle.std.proofs.Common.{◌∙◌, ap, sym}
use Rattle.aterm_text.specs.Reading.{Named, outcome_from}
use Rattle.aterm_text.proofs.Outcomes.{name_to, name_read}
use Rattle.aterm_text.proofs.quoted.read_plain.Goals as goal

pub name_spelled-requires : goal.name_spelled-requires
name_spelled-requires g c =
    let e = c.name_end-end.ensures in
    name_to c.args.text.now c.args.index c.name_end-end.result e.low e.high c.requires.begins e.within

pub returns-clause-read : goal.returns-clause-read
returns-clause-read g c s =
    let e = c.name_end-end.ensures in
    name_read c.args.text.now s c.args.index c.name_end-end.result e.low e.high c.requires.begins e.within e.stop
    ∙ ap (λ y. outcome_from c.args.text.now (Named y s) c.name_end-end.result) (sym c.in_ok-name.ensures.symbol)
