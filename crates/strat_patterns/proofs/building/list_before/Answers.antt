use Rattle.std.proofs.Common.{◌∙◌, ap}
use Rattle.term_model.specs.TermParts.{head_of}
use Rattle.strat_patterns.proofs.BuildingLaws.{list_elements}
use Rattle.strat_patterns.proofs.building.list_before.Goals as goal

pub returns-in_ok-tail-in-Some : goal.returns-in_ok-tail-in-Some
returns-in_ok-tail-in-Some g c =
    let s = g.S.TermSpace.space in
    let w = c.args.space.now in
    let same = c.in_ok-tail-in-Some.ensures.term in
    let is_list = c.in-Some.ensures.head in (
      c.in_ok-tail-in-Some.ensures.stands,
      ap head_of same ∙
          is_list,
      list_elements (s.term_of w c.args.at.now) (s.term_of w c.in_ok-tail-in-Some.tail) is_list same,
    )
