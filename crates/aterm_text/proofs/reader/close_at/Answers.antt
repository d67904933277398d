use Rattle.std.proofs.Common.{◌≡◌, ◌∙◌, ◌+◌, ◌++◌, ◌∷◌, [], refl, arith, rules}
use Rattle.std.specs.Prelude.{slice_index}
use Rattle.aterm_text.specs.Reading.{closed}
use Rattle.aterm_text.proofs.StepLaws.{nothing_closes, other_closes, this_closes}
use Rattle.aterm_text.proofs.reader.close_at.Goals as goal

pub returns-in_default-clause-err : goal.returns-in_default-clause-err
returns-in_default-clause-err g c =
    let w = g.S.TermSpace.space in
    let (hand, h) = c.requires.at in
    let none : c.args.reader.now.open.items ≡ [] = search rules in
    nothing_closes w c.args.space.now c.args.text.now c.args.reader.now hand (slice_index c.args.text.now c.args.index)
    (c.args.index + 1) h none

pub returns-then-text-index-clause-err : goal.returns-then-text-index-clause-err
returns-then-text-index-clause-err g c =
    let w = g.S.TermSpace.space in
    let (hand, h) = c.requires.at in
    let popped : c.args.reader.now.open.items ≡ c.pop.new.self.items ++ c.in-Some.bracket ∷ [] = search rules in
    other_closes w c.args.space.now c.args.text.now c.args.reader.now
    (record { «open» = c.pop.new.self; terms = c.args.reader.now.terms; fits = c.args.reader.now.fits })
    c.in-Some.bracket hand (slice_index c.args.text.now c.args.index) (c.args.index + 1) h popped refl refl
    (λ q. omega (arith, q, c.closer.ensures, c.if-text-index.true))

pub close-requires : goal.close-requires
close-requires g c =
    let w = g.S.TermSpace.space in
    let (hand, h) = c.requires.at in
    let popped : c.args.reader.now.open.items ≡ c.pop.new.self.items ++ c.in-Some.bracket ∷ [] = search rules in
    let r = this_closes w c.args.space.now c.args.text.now c.args.reader.now
    (record { «open» = c.pop.new.self; terms = c.args.reader.now.terms; fits = c.args.reader.now.fits })
    c.in-Some.bracket hand (slice_index c.args.text.now c.args.index) (c.args.index + 1)
    h popped refl refl (c.if-text-index.false ∙ c.closer.ensures) in
    (r.0, r.1, r.2, r.3)

pub returns-clause-reached : goal.returns-clause-reached
returns-clause-reached g c =
    let w = g.S.TermSpace.space in
    let (hand, h) = c.requires.at in
    let popped : c.args.reader.now.open.items ≡ c.pop.new.self.items ++ c.in-Some.bracket ∷ [] = search rules in
    let r = this_closes w c.args.space.now c.args.text.now c.args.reader.now
    (record { «open» = c.pop.new.self; terms = c.args.reader.now.terms; fits = c.args.reader.now.fits })
    c.in-Some.bracket hand (slice_index c.args.text.now c.args.index) (c.args.index + 1)
    h popped refl refl (c.if-text-index.false ∙ c.closer.ensures) in
    record {
      state = closed r.0.opening r.2 r.1;
      is = c.in_ok-next.ensures.closed r.0 r.1 r.2 r.3;
      outcome = r.4;
      within = omega (arith, c.requires.within);
    }
