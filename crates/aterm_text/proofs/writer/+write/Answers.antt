use Rattle.std.proofs.Common.{◌∙◌, sym, arith, IsTrue}
use Rattle.std.proofs.lemmas.List.Elements.{All-head, All-rest, All-same}
use Rattle.term_model.proofs.DepthLaws.{depth_first, depths_rest}
use Rattle.aterm_text.proofs.WriteLemmas.{extends_on, first_written, next_written}
use Rattle.aterm_text.proofs.writer.+write.Goals as goal

pub push_all-loop-term-init : goal.push_all-loop-term-init
push_all-loop-term-init g t c =
    let s = g.S.TermSpace.space in
    let tree = s.term_of c.args.space.now in
    let rest = c.next.new.self in
    let steps = sym c.walk-left.ensures ∙ c.in-Some.ensures.steps in
    rw c.into_iter-term-iterator.ensures.into_iter_gives record {
      written = first_written tree c.args.terms.now rest c.in-Some.first.now c.args.out.now.items
          c.push_term.new.out.items steps c.in_ok-push_term.ensures.written;
      kept = c.push_term.ensures.kept;
      stand = All-rest (λ r. IsTrue (s.stands c.args.space.now r))
          c.in-Some.first.now rest c.args.terms.now steps c.requires;
      low = depths_rest tree c.args.terms.now rest c.in-Some.first.now steps;
    }

pub push_all-loop-term-preserved : goal.push_all-loop-term-preserved
push_all-loop-term-preserved g t c =
    let s = g.S.TermSpace.space in
    let tree = s.term_of c.args.space.now in
    let rest = c.next-in-loop-term.new.self in
    let steps = c.in-Some-term.ensures.steps in
    let was = c.loop-term.invariant in
    let low : _ = depths_rest tree c.loop-term.term-iterator rest c.in-Some-term.term.now steps in
    record {
      written = next_written tree c.loop-term.term-iterator rest c.in-Some-term.term.now c.loop-term.out.items
          c.push_byte.new.out.items c.push_term-in-loop-term.new.out.items _ steps c.in_ok-push_byte.ensures.written
          c.in_ok-push_term-2.ensures.written was.written;
      kept = extends_on was.kept (extends_on c.push_byte.ensures.kept c.push_term-in-loop-term.ensures.kept);
      stand = All-rest (λ r. IsTrue (s.stands c.args.space.now r))
          c.in-Some-term.term.now rest c.loop-term.term-iterator steps was.stand;
      low = omega (arith, low, was.low);
    }

pub push_all-returns-in_err-push_term-2-clause-kept : goal.push_all-returns-in_err-push_term-2-clause-kept
push_all-returns-in_err-push_term-2-clause-kept g t c =
    extends_on c.loop-term.invariant.kept (extends_on c.push_byte.ensures.kept c.push_term-in-loop-term.ensures.kept)

pub push_all-push_term-requires-in-loop-term : goal.push_all-push_term-requires-in-loop-term
push_all-push_term-requires-in-loop-term g t c κs within =
    let s = g.S.TermSpace.space in
    let tree = s.term_of c.args.space.now in
    let steps = c.in-Some-term.ensures.steps in
    let was = c.loop-term.invariant in
    let first : _ = depth_first tree c.loop-term.term-iterator c.next-in-loop-term.new.self c.in-Some-term.term.now
    steps in
    let stands = All-head (λ r. IsTrue (s.stands c.args.space.now r))
    c.in-Some-term.term.now c.next-in-loop-term.new.self
    (All-same (λ r. IsTrue (s.stands c.args.space.now r)) _ _ (sym steps) was.stand) in
    (omega (arith, first, was.low, c.decreases), (within.0, (within.1.0, (within.1.1.0, (within.1.1.1, stands)))))
