use Rattle.std.proofs.Common.{rules, ◌≡◌, ◌∙◌, ap, sym}
use Rattle.std.proofs.lemmas.Bool.{ltb-true}
use mir.Val.{to_z, of_z}
use Rattle.std.specs.Int.{w64}
use Rattle.term_model.specs.TermParts.{head_of}
use Rattle.term_model.specs.declared.term.Head.TheVariants as heads
use Rattle.term_store.specs.Space.{count}
use Rattle.term_store.proofs.ShapeLaws.{integer_term}
use Rattle.term_store.proofs.space.StoreSpaceTermSpace.int_of.Goals as goal

pub returns-in-Some : goal.returns-in-Some
returns-in-Some c =
    let s = c.args.self.now in
    let at = c.args.at.now in
    let z : to_z w64 (of_z w64 c.in-Some.value) ≡ c.in-Some.value = search rules in
    ap head_of (integer_term s at c.in-Some.value (ltb-true at (count s) c.requires) c.in-Some.ensures) ∙
    ap heads.Int (sym z)
