use Rattle.std.proofs.Common.{sym, arith, IsTrue}
use Rattle.std.proofs.lemmas.List.Elements.{All-head, All-rest, All-same}
use Rattle.term_model.proofs.DepthLaws.{depth_first, depths_rest}
use Rattle.signature_core.proofs.TermLaws.{declared_others}
use Rattle.signature_core.proofs.signature.Signature.+covers.Goals as goal

pub covers_all-covers-requires : goal.covers_all-covers-requires
covers_all-covers-requires g t c κs within =
    let s = g.S.TermSpace.space in
    let steps = c.in-Some.ensures.steps in
    let was = c.loop-term.invariant in
    let first : _ = depth_first (s.term_of c.args.space.now)
    c.loop-term.term-iterator c.next.new.self c.in-Some.term.now steps in
    let stands = All-head (λ r. IsTrue (s.stands c.args.space.now r))
    c.in-Some.term.now c.next.new.self
    (All-same (λ r. IsTrue (s.stands c.args.space.now r)) _ _ (sym steps) was.stand) in
    (omega (arith, first, was.low, c.decreases), (within.0, (within.1.0, (within.1.1.0, (within.1.1.1, stands)))))

pub covers_all-loop-term-preserved : goal.covers_all-loop-term-preserved
covers_all-loop-term-preserved g t c =
    let s = g.S.TermSpace.space in
    let tree = s.term_of c.args.space.now in
    let steps = c.in-Some.ensures.steps in
    let was = c.loop-term.invariant in
    let low : _ = depths_rest tree c.loop-term.term-iterator c.next.new.self c.in-Some.term.now steps in
    record {
      declared = declared_others tree c.loop-term.term-iterator c.next.new.self c.in-Some.term.now steps c.args.self.now
          c.covers.result _ c.covers.ensures c.if-not-covers.false was.declared;
      stand = All-rest (λ r. IsTrue (s.stands c.args.space.now r))
          c.in-Some.term.now c.next.new.self c.loop-term.term-iterator steps was.stand;
      low = omega (arith, low, was.low);
    }
