use Rattle.std.proofs.Common.{◌≡◌, ◌∙◌, sym, rules, inr}
use Rattle.std.specs.Prelude.{length}
use Rattle.term_model.specs.Limits.{max_depth}
use Rattle.aterm_text.proofs.StepLaws.{awaits, begins_not, begins_deep, begins}
use Rattle.aterm_text.proofs.reader.begin_term.Goals as goal

pub returns-then-not-is_first-clause-err : goal.returns-then-not-is_first-clause-err
returns-then-not-is_first-clause-err g c =
    let w = g.S.TermSpace.space in
    let (s, k, o) = awaits w c.args.space.now c.args.text.now c.args.reader.now c.args.index c.requires.within
    c.requires.at in
    begins_not w c.args.space.now c.args.text.now c.args.reader.now c.args.index c.requires.within s o c.requires.mark
    (sym c.is_first.ensures ∙ c.if-not-is_first.true)

pub returns-then-len-clause-err : goal.returns-then-len-clause-err
returns-then-len-clause-err g c =
    let w = g.S.TermSpace.space in
    let (s, k, o) = awaits w c.args.space.now c.args.text.now c.args.reader.now c.args.index c.requires.within
    c.requires.at in
    let full : length c.args.reader.now.open.items ≡ max_depth = search rules in
    inr (begins_deep w c.args.space.now c.args.text.now c.args.reader.now c.args.index c.requires.within s k o
    c.requires.mark (sym c.is_first.ensures ∙ c.if-not-is_first.false) full)

pub read_first_byte-requires-clause-at : goal.read_first_byte-requires-clause-at
read_first_byte-requires-clause-at g c =
    let w = g.S.TermSpace.space in
    let (s, k, o) = awaits w c.args.space.now c.args.text.now c.args.reader.now c.args.index c.requires.within
    c.requires.at in
    begins w c.args.space.now c.args.text.now c.args.reader.now c.args.index c.requires.within s k o c.requires.mark
    (sym c.is_first.ensures ∙ c.if-not-is_first.false) (search rules)
