use Rattle.std.proofs.Common.{◌≡◌, ◌+◌, ◌∷◌, [], length, ap, ◌∙◌, arith, IsTrue}
use Rattle.std.proofs.lemmas.List.{length-append}
use Rattle.std.proofs.lemmas.List.Elements.{All-rest}
use Rattle.term_model.specs.TermParts.{parts_of}
use Rattle.strat_patterns.proofs.FirstPartLaws.{one_more_held}
use Rattle.strat_patterns.proofs.ReferenceLists.{standing_push}
use Rattle.strat_patterns.proofs.first_parts.first_parts.Goals as goal

pub loop-part-preserved : goal.loop-part-preserved
loop-part-preserved g t =
    let s = g.S.TermSpace.space in
    let tree = s.term_of t.args.space.now in
    let held = t.loop-part.parts.items in
    let rest = t.next.new.self in
    let here = t.in_ok-reference.reference in
    let steps = t.in-Some.ensures.steps in
    let more = t.in_ok-push.ensures.items in
    let was = t.loop-part.invariant in
    let longer : length t.push.new.self.items ≡ length held + 1 = ap length more ∙ length-append held (here ∷ []) in
    let others = t.if-len-count.false in
    record {
      are = one_more_held tree held t.push.new.self.items t.loop-part.part-iterator rest t.in-Some.part.now here
          (parts_of (tree t.args.at.now)) was.are steps more t.in_ok-reference.ensures.term;
      standing = standing_push (λ r. IsTrue (s.stands t.args.space.now r))
          held t.push.new.self.items here was.standing t.in_ok-reference.ensures.stands more;
      to_come = All-rest (λ r. IsTrue (s.stands t.args.space.now r))
          t.in-Some.part.now rest t.loop-part.part-iterator steps was.to_come;
      few = omega (arith, longer, was.few, others);
    }
