use Rattle.std.proofs.Common.{◌≡◌, ◌∙◌, ap, [], rules, w64}
use mir.Val.{to_z, of_z}
use Rattle.term_model.specs.declared.term.Head.TheVariants as heads
use Rattle.term_model.specs.declared.made.Made.TheVariants as made
use Rattle.term_model.specs.Term.{node, end}
use Rattle.aterm_text.proofs.BracketLaws.{lost_symbol, bottom_of, put_keeps, int_fits}
use Rattle.aterm_text.proofs.numbers.add_int.Goals as goal

pub returns-then-not-reader-clause-added : goal.returns-then-not-reader-clause-added
returns-then-not-reader-clause-added g c s k =
    let w = g.S.TermSpace.space in
    lost_symbol w c.args.space.now c.args.reader.now s _ k c.if-not-reader.true

pub returns-clause-added : goal.returns-clause-added
returns-clause-added g c s k =
    let w = g.S.TermSpace.space in
    let z : to_z w64 (of_z w64 c.args.value) ≡ c.args.value = search rules in
    put_keeps w c.int.ensures.keeps c.args.reader.now c.put.new.reader s [] (node (heads.Int c.args.value) end end)
    (made.Fits c.in_ok-term.term) c.len-bottom.result k c.if-not-reader.false
    (c.len-bottom.ensures ∙ c.args.reader.now.terms.ok.0 ∙
    bottom_of w c.args.space.now c.args.reader.now s k c.if-not-reader.false) (
      c.in_ok-term.ensures.stands,
      c.in_ok-term.ensures.term ∙
          ap (λ v. node (heads.Int v) end end) z,
      int_fits c.args.value,
    ) c.in_ok-put.ensures
