use Rattle.std.proofs.Common.{◌∙◌, length, sym}
use Rattle.std.specs.Cmp.{unsigned_Decides}
use Rattle.strat_patterns.proofs.BuildingLaws.{large_given, nothing_given, one_given}
use Rattle.strat_patterns.proofs.making.annotate.Goals as goal

pub returns-in-Oversize-clause-built : goal.returns-in-Oversize-clause-built
returns-in-Oversize-clause-built g c = λ o bare made all built.
    let s = g.S.TermSpace.space in
    let w = c.args.space.now in
    large_given s w w all c.args.annos.now c.args.pushed built o bare c.args.bare made c.large.result c.in-Oversize.is
    c.large.ensures

pub returns-then-are_all-clause-built : goal.returns-then-are_all-clause-built
returns-then-are_all-clause-built g c = λ o bare made all built.
    let s = g.S.TermSpace.space in
    let w = c.args.space.now in
    nothing_given s w w all c.args.annos.now c.args.pushed built o bare c.args.bare made c.in-Made.at c.in-Made.is
    (c.are_all.ensures c.if-are_all.true)
    ((unsigned_Decides (length c.args.annos.now) 0).0 (sym c.is_empty.ensures ∙ c.if-is_empty.true))

pub returns-in_ok-built-in-Made-clause-built : goal.returns-in_ok-built-in-Made-clause-built
returns-in_ok-built-in-Made-clause-built g c = λ o bare made all built.
    let s = g.S.TermSpace.space in
    one_given s c.args.space.now c.with_built.new.space all c.args.annos.now c.args.pushed built o bare c.args.bare made
    c.in-Made.at c.in_ok-built-in-Made.built c.in-Made.is (c.in_ok-built-in-Made.ensures.built all built)
