use Rattle.std.proofs.Common.{◌<◌, [], arith, length, subst, sym}
use Rattle.term_model.specs.Term.{Tree, term}
use Rattle.term_model.specs.TermParts.{parts_of}
use Rattle.term_model.specs.declared.term.Head.TheVariants as heads
use Rattle.term_model.specs.Blocks.{list_in}
use Rattle.term_store.specs.Shapes.{shape_parts}
use Rattle.term_store.proofs.ShapeLaws.{integer_standing}
use Rattle.term_store.proofs.LawsOfSpace.{count_at, there, item_at, part_stands, part_is}
use Rattle.term_store.proofs.space.StoreSpaceTermSpace.part.Goals as goal

pub unreachable-requires : goal.unreachable-requires
unreachable-requires c =
    let is = c.in-None.ensures in
    let integer = integer_standing c.args.self.now c.args.at.now c.requires.stands is in
    let none : c.args.index < length (parts_of (term (heads.Int is.0) [] [])) =
    subst (λ (t : Tree). c.args.index < length (parts_of t)) integer c.requires.within in
    omega arith

pub unwrap-requires : goal.unwrap-requires
unwrap-requires c =
    let s = c.args.self.now in
    let x = c.in-Some.shape.now in
    let within : c.args.index < length (list_in s.chains (shape_parts x)) =
    subst (λ n. c.args.index < n) (sym (count_at s c.args.at.now x c.in-Some.ensures)) c.requires.within in
    there c.place_in.result (list_in s.chains (shape_parts x)) c.args.index c.place_in.ensures within

pub returns-clause-stands : goal.returns-clause-stands
returns-clause-stands c =
    let s = c.args.self.now in
    let x = c.in-Some.shape.now in
    let at = item_at c.place_in.result c.unwrap.result (list_in s.chains (shape_parts x))
    c.args.index c.place_in.ensures c.unwrap.ensures in
    part_stands s c.args.at.now c.args.index c.unwrap.result.now x c.in-Some.ensures at

pub returns-clause-term : goal.returns-clause-term
returns-clause-term c =
    let s = c.args.self.now in
    let x = c.in-Some.shape.now in
    let at = item_at c.place_in.result c.unwrap.result (list_in s.chains (shape_parts x))
    c.args.index c.place_in.ensures c.unwrap.ensures in
    part_is s c.args.at.now c.args.index c.unwrap.result.now x c.in-Some.ensures at
