use Rattle.std.proofs.Common.{refl, subst}
use Rattle.strat_patterns.specs.Builds.{Builds}
use Rattle.strat_patterns.proofs.BuildingLaws.{like_is, large_like}
use Rattle.strat_patterns.proofs.making.annotate_like.Goals as goal

pub returns-in-NoInstance-clause-built : goal.returns-in-NoInstance-clause-built
returns-in-NoInstance-clause-built g c = λ o bare made.
    let s = g.S.TermSpace.space in
    let w = c.args.space.now in
    let none = subst (λ b. Builds s w o b) c.in-NoInstance.is made in
    rw none refl

pub returns-in-Oversize-clause-built : goal.returns-in-Oversize-clause-built
returns-in-Oversize-clause-built g c = λ o bare made.
    let s = g.S.TermSpace.space in
    let w = c.args.space.now in
    large_like s w w o (s.term_of w c.args.like.now) bare (subst (λ b. Builds s w o b) c.in-Oversize.is made)

pub returns-in_ok-made-in-Made-clause-built : goal.returns-in_ok-made-in-Made-clause-built
returns-in_ok-made-in-Made-clause-built g c = λ o bare made.
    let s = g.S.TermSpace.space in
    let w = c.args.space.now in
    like_is s w c.like.new.self o (s.term_of w c.args.like.now) c.in-Made.at c.in_ok-made-in-Made.made c.outcome.result
    (subst (λ b. Builds s w o b) c.in-Made.is made).1 c.in_ok-made-in-Made.ensures.made c.outcome.ensures
