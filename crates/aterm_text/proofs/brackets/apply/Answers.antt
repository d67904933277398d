use Rattle.std.proofs.Common.{◌∙◌, refl, arith, []}
use Rattle.term_model.specs.declared.term.Head.TheVariants as heads
use Rattle.term_model.specs.Term.{end}
use Rattle.aterm_text.specs.Brackets.{at_first, at_whole}
use Rattle.aterm_text.specs.Depth.{Applied}
use Rattle.aterm_text.specs.Reading.{Fresh, Named, Whole, opened}
use Rattle.aterm_text.proofs.BracketLaws.{opens}
use Rattle.aterm_text.proofs.Outcomes.{blanks_pass, rests_named, bracket_after, named_alone}
use Rattle.aterm_text.proofs.brackets.apply.Goals as goal

pub returns-then-has_byte-clause-reached : goal.returns-then-has_byte-clause-reached
returns-then-has_byte-clause-reached g c =
    let w = g.S.TermSpace.space in
    let e = c.blanks_end-index.ensures in
    let at = c.requires.at in
    let y = w.symbol_of c.args.space.now c.args.name in
    let here = c.has_byte.ensures.yes c.if-has_byte.true in
    record {
      state = Fresh (opened (Applied y)) at.brackets;
      is = at_first refl (opens w c.args.space.now c.args.reader.now c.open.new.reader at.brackets [] _ (Applied y)
          at.keeping refl (c.requires.known, refl) c.in_ok-open.ensures);
      outcome = at.outcome ∙ blanks_pass c.args.text.now {a =
          Named y at.brackets} c.args.index c.blanks_end-index.result rests_named e.low e.high e.within ∙
          bracket_after c.args.text.now y at.brackets c.blanks_end-index.result here.0 here.1;
      within = omega (arith, here.0);
    }

pub returns-clause-reached : goal.returns-clause-reached
returns-clause-reached g c =
    let w = g.S.TermSpace.space in
    let e = c.blanks_end-index.ensures in
    let at = c.requires.at in
    let y = w.symbol_of c.args.space.now c.args.name in
    record {
      state = Whole (heads.App y) end at.brackets;
      is = at_whole (c.in_ok-add_symbol.ensures.added at.brackets at.keeping);
      outcome = at.outcome ∙ blanks_pass c.args.text.now {a =
          Named y at.brackets} c.args.index c.blanks_end-index.result rests_named e.low e.high e.within ∙
          named_alone c.args.text.now y at.brackets c.blanks_end-index.result e.stop
          (c.has_byte.ensures.no c.if-has_byte.false);
      within = e.high;
    }
