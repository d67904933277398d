use Rattle.std.proofs.Common.{◌∙◌, []}
use Rattle.term_model.specs.declared.term.Head.TheVariants as heads
use Rattle.term_model.specs.Term.{node, end}
use Rattle.aterm_text.proofs.BracketLaws.{lost_symbol, bottom_of, put_keeps}
use Rattle.aterm_text.proofs.brackets.add_symbol.Goals as goal

pub returns-then-not-reader-clause-added : goal.returns-then-not-reader-clause-added
returns-then-not-reader-clause-added g c s k =
    let w = g.S.TermSpace.space in
    lost_symbol w c.args.space.now c.args.reader.now s _ k c.if-not-reader.true

pub returns-clause-added : goal.returns-clause-added
returns-clause-added g c s k =
    let w = g.S.TermSpace.space in
    put_keeps w c.app.ensures.keeps c.args.reader.now c.put.new.reader s []
    (node (heads.App (w.symbol_of c.args.space.now c.args.name.now)) end end)
    c.in_ok-made.made c.len-bottom.result k c.if-not-reader.false
    (c.len-bottom.ensures ∙ c.args.reader.now.terms.ok.0 ∙
    bottom_of w c.args.space.now c.args.reader.now s k c.if-not-reader.false)
    c.in_ok-made.ensures.made c.in_ok-put.ensures
