use Rattle.std.proofs.Common.{subst}
use Rattle.aterm_text.specs.declared.open.Next.{Next}
use Rattle.aterm_text.specs.Brackets.{Reached}
use Rattle.aterm_text.proofs.StepLaws.{done_follows}
use Rattle.aterm_text.proofs.reader.step.Goals as goal

pub begin_term-requires-clause-at : goal.begin_term-requires-clause-at
begin_term-requires-clause-at g c =
    let w = g.S.TermSpace.space in
    let P : Next → Type 0 = λ n. Reached w c.args.space.now c.args.text.now c.args.reader.now n c.args.index in
    subst P c.in-Term.is c.requires.at

pub begin_or_close-requires-clause-at : goal.begin_or_close-requires-clause-at
begin_or_close-requires-clause-at g c =
    let w = g.S.TermSpace.space in
    let P : Next → Type 0 = λ n. Reached w c.args.space.now c.args.text.now c.args.reader.now n c.args.index in
    subst P c.in-First.is c.requires.at

pub annotate_or_follow-requires-clause-at : goal.annotate_or_follow-requires-clause-at
annotate_or_follow-requires-clause-at g c =
    let w = g.S.TermSpace.space in
    let P : Next → Type 0 = λ n. Reached w c.args.space.now c.args.text.now c.args.reader.now n c.args.index in
    subst P c.in-Whole.is c.requires.at

pub follow-requires-clause-at : goal.follow-requires-clause-at
follow-requires-clause-at g c =
    let w = g.S.TermSpace.space in
    let P : Next → Type 0 = λ n. Reached w c.args.space.now c.args.text.now c.args.reader.now n c.args.index in
    done_follows w c.args.space.now c.args.text.now c.args.reader.now c.args.index c.requires.within
    (subst P c.in-Done.is c.requires.at) c.requires.mark
