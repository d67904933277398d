use Rattle.std.proofs.Common.{◌∙◌, [], sym, ap, reverse}
use Rattle.std.specs.Prelude.{slice_index}
use Rattle.aterm_text.specs.Brackets.{closes_first}
use Rattle.aterm_text.proofs.StepLaws.{first_closes, first_is_term}
use Rattle.aterm_text.proofs.reader.begin_or_close.Goals as goal

pub close_at-requires-clause-at : goal.close_at-requires-clause-at
close_at-requires-clause-at g c =
    let w = g.S.TermSpace.space in (
      [],
      first_closes w c.args.space.now c.args.text.now c.args.reader.now c.args.index c.requires.within c.requires.at
          c.requires.mark (ap (λ bs. closes_first (reverse bs) (slice_index c.args.text.now c.args.index))
          (sym c.deref.ensures.value) ∙ sym c.closes.ensures ∙ c.if-closes.true),
    )

pub begin_term-requires-clause-at : goal.begin_term-requires-clause-at
begin_term-requires-clause-at g c =
    let w = g.S.TermSpace.space in
    first_is_term w c.args.space.now c.args.text.now c.args.reader.now c.args.index c.requires.within c.requires.at
    c.requires.mark (ap (λ bs. closes_first (reverse bs) (slice_index c.args.text.now c.args.index))
    (sym c.deref.ensures.value) ∙ sym c.closes.ensures ∙ c.if-closes.false)
