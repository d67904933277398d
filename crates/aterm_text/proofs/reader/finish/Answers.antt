use Rattle.std.proofs.Common.{◌≡◌, ◌∙◌, ◌++◌, ◌∷◌, [], sym, inl, rules}
use Rattle.std.specs.Prelude.{length}
use Rattle.aterm_text.proofs.StepLaws.{still_open, term_missing, large_at_end, read_at_end, none_at_end}
use Rattle.aterm_text.proofs.reader.finish.Goals as goal

pub returns-then-not-is_empty-clause-answers : goal.returns-then-not-is_empty-clause-answers
returns-then-not-is_empty-clause-answers g c =
    let w = g.S.TermSpace.space in
    let some : length c.args.reader.open.items ≡ 0 → ⊥ = search rules in
    still_open w c.args.space.now c.args.text.now c.args.reader c.args.next c.requires.at some

pub returns-then-needs_term-clause-answers : goal.returns-then-needs_term-clause-answers
returns-then-needs_term-clause-answers g c =
    let w = g.S.TermSpace.space in
    term_missing w c.args.space.now c.args.text.now c.args.reader c.args.next c.requires.at (sym c.needs_term.ensures ∙
    c.if-needs_term.true)

pub returns-then-not-reader-clause-answers : goal.returns-then-not-reader-clause-answers
returns-then-not-reader-clause-answers g c =
    let w = g.S.TermSpace.space in
    let none : length c.args.reader.open.items ≡ 0 = search rules in
    inl (large_at_end w c.args.space.now c.args.text.now c.args.reader c.args.next c.requires.at none
    (sym c.needs_term.ensures ∙ c.if-needs_term.false) c.if-not-reader.true)

pub returns-in-Some-clause-stands : goal.returns-in-Some-clause-stands
returns-in-Some-clause-stands g c =
    let w = g.S.TermSpace.space in
    let none : length c.args.reader.open.items ≡ 0 = search rules in
    let popped : c.args.reader.terms.items ≡ c.pop.new.self.items ++ c.in-Some.term ∷ [] = search rules in
    (read_at_end w c.args.space.now c.args.text.now c.args.reader c.args.next c.requires.at none
    (sym c.needs_term.ensures ∙ c.if-needs_term.false) c.if-not-reader.false _ _ popped).0

pub returns-in-Some-clause-answers : goal.returns-in-Some-clause-answers
returns-in-Some-clause-answers g c =
    let w = g.S.TermSpace.space in
    let none : length c.args.reader.open.items ≡ 0 = search rules in
    let popped : c.args.reader.terms.items ≡ c.pop.new.self.items ++ c.in-Some.term ∷ [] = search rules in
    let (_, reads, small) = read_at_end w c.args.space.now c.args.text.now c.args.reader c.args.next c.requires.at none
    (sym c.needs_term.ensures ∙ c.if-needs_term.false) c.if-not-reader.false _ _ popped in
    (reads, small)

pub returns-clause-answers : goal.returns-clause-answers
returns-clause-answers g c =
    let w = g.S.TermSpace.space in
    let none : length c.args.reader.open.items ≡ 0 = search rules in
    let empty : c.args.reader.terms.items ≡ [] = search rules in
    absurd (none_at_end w c.args.space.now c.args.text.now c.args.reader c.args.next c.requires.at none
    (sym c.needs_term.ensures ∙ c.if-needs_term.false) c.if-not-reader.false empty)
