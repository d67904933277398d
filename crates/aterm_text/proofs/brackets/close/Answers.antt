use Rattle.std.proofs.Common.{◌-◌}
use Rattle.aterm_text.proofs.BracketLaws.{lost_closes, parts_close, elements_close, annotations_close, annotated_stands, place_at}
use Rattle.aterm_text.proofs.brackets.close.Goals as goal

pub returns-then-not-reader-clause-closed : goal.returns-then-not-reader-clause-closed
returns-then-not-reader-clause-closed g c o s ts k =
    let w = g.S.TermSpace.space in
    rw (c.after_closing.ensures)
    (lost_closes w c.args.space.now c.args.reader.now c.args.bracket o s ts k c.if-not-reader.true)

pub with_annos-requires-clause-stands : goal.with_annos-requires-clause-stands
with_annos-requires-clause-stands g c =
    let w = g.S.TermSpace.space in
    let (o, s, ts, k) = c.requires in
    annotated_stands w c.args.space.now c.args.reader.now c.args.bracket o s ts c.index.result.now k
    c.if-not-reader.false c.in-Annotations.is c.index.ensures

pub returns-in-Parts-clause-closed : goal.returns-in-Parts-clause-closed
returns-in-Parts-clause-closed g c o s ts k =
    let w = g.S.TermSpace.space in
    parts_close w c.app.ensures.keeps c.args.reader.now c.put.new.reader c.args.bracket o s ts k c.if-not-reader.false _
    c.deref.result.now c.deref.ensures.value _ c.in-Parts.is c.in_ok-made-in-Parts.ensures.made
    c.in_ok-put-in-Parts.ensures

pub returns-in-Elements-clause-closed : goal.returns-in-Elements-clause-closed
returns-in-Elements-clause-closed g c o s ts k =
    let w = g.S.TermSpace.space in
    elements_close w c.list.ensures.keeps c.args.reader.now c.put-in-Elements.new.reader c.args.bracket o s ts k
    c.if-not-reader.false _ c.deref-in-Elements.result.now c.deref-in-Elements.ensures.value c.in-Elements.is
    c.in_ok-made-in-Elements.ensures.made c.in_ok-put-in-Elements.ensures

pub returns-clause-closed : goal.returns-clause-closed
returns-clause-closed g c o s ts k =
    let w = g.S.TermSpace.space in
    annotations_close w c.with_annos.ensures.keeps c.args.reader.now c.put-in-Annotations.new.reader c.args.bracket o s
    ts k c.if-not-reader.false _ c.deref-in-Annotations.result.now c.deref-in-Annotations.ensures.value
    (w.term_of c.args.space.now c.index.result.now)
    c.in-Annotations.is (place_at (w.term_of c.args.space.now)
    c.args.reader.now.terms.items (c.args.bracket.bottom - 1) c.index.result.now c.index.ensures)
    c.in_ok-made-in-Annotations.ensures.made c.in_ok-put-in-Annotations.ensures
