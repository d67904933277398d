use Rattle.std.proofs.Common.{rules, List, [], ℕ, ◌++◌, ◌∙◌, ap, map}
use Rattle.term_model.specs.Blocks.{list_in}
use Rattle.term_model.specs.Term.{term}
use Rattle.term_model.specs.declared.term.Head.TheVariants as heads
use Rattle.term_store.specs.Shapes.{shape_parts}
use Rattle.term_store.specs.Chains.{IsBlockIn}
use Rattle.term_store.specs.Space.{term_of, AreHeavy}
use Rattle.term_store.proofs.LawsOfSpace.{list_shape, both_lists, both_stand, list_stands, list_term, heavy_list, makes}
use Rattle.term_store.proofs.space.StoreSpaceTermSpace.prepend.Goals as goal

pub elements-requires : goal.elements-requires
elements-requires c = list_shape c.args.self.now c.args.tail.now c.shape_at-shape.result c.shape_at-shape.ensures
    c.requires.list

pub returns-in_default-clause-made : goal.returns-in_default-clause-made
returns-in_default-clause-made c =
    let s = c.args.self.now in
    let x = c.shape_at-shape.result in
    let xs : List ℕ = c.args.elements.now ++ list_in s.chains (shape_parts x) in
    let heavy : AreHeavy s xs = rw (c.in_default.is, c.elements.ensures) at c.in_ok-parts.ensures.made in
    heavy_list (map (term_of s) xs)
    _ heavy (both_lists s c.args.tail.now x c.args.elements.now c.shape_at-shape.ensures)

pub intern-requires : goal.intern-requires
intern-requires c =
    let s = c.args.self.now in
    let x = c.shape_at-shape.result in
    let xs : List ℕ = c.args.elements.now ++ list_in s.chains (shape_parts x) in
    let mid = c.before-2.new.self in
    let block : IsBlockIn mid.chains c.in-Some.parts xs =
    rw (c.in-Some.is, c.elements.ensures) at c.in_ok-parts.ensures.made in
    list_stands s mid c.in-Some.parts xs c.in_ok-parts.ensures.keeps block
    (both_stand s c.args.tail.now x c.args.elements.now c.shape_at-shape.ensures (search rules))

pub returns-clause-made : goal.returns-clause-made
returns-clause-made c =
    let s = c.args.self.now in
    let x = c.shape_at-shape.result in
    let xs : List ℕ = c.args.elements.now ++ list_in s.chains (shape_parts x) in
    let mid = c.before-2.new.self in
    let block : IsBlockIn mid.chains c.in-Some.parts xs =
    rw (c.in-Some.is, c.elements.ensures) at c.in_ok-parts.ensures.made in
    makes c.intern.new.self _ _ c.intern.result c.intern.ensures.made
    (list_term s mid c.in-Some.parts xs c.in_ok-parts.ensures.keeps block ∙
    ap (λ ts. term heads.List ts []) (both_lists s c.args.tail.now x c.args.elements.now c.shape_at-shape.ensures))
