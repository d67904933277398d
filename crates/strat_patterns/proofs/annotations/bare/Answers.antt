use Rattle.std.proofs.Common.{[], subst}
use Rattle.term_model.specs.Space.{Makes}
use Rattle.term_model.specs.Term.{term}
use Rattle.term_model.specs.TermParts.{head_of, parts_of}
use Rattle.strat_patterns.proofs.BuildingLaws.{bare_same, bare_fits_too}
use Rattle.strat_patterns.proofs.annotations.bare.Goals as goal

pub returns-then-has_annos-clause-term : goal.returns-then-has_annos-clause-term
returns-then-has_annos-clause-term g c =
    let f = g.S.TermSpace.space.term_of c.args.space.now in
    bare_same (f c.args.at.now) (f c.in_ok-same.same) (c.has_annos.ensures.0 c.if-has_annos.true)
    c.in_ok-same.ensures.term

pub unreachable-requires : goal.unreachable-requires
unreachable-requires g c =
    let s = g.S.TermSpace.space in
    let t = s.term_of c.args.space.now c.args.at.now in
    subst (λ m. Makes s c.with_annos.new.self (term (head_of t) (parts_of t) []) m)
    c.in-Oversize.is c.in_ok-reference.ensures.made (bare_fits_too t (g.S.TermSpace.fits _ _ c.requires))
