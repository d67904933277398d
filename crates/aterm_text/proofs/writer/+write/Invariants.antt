use Rattle.std.proofs.Common.{◌≡◌, ◌+◌, ◌*◌, ◌≤◌, ◌++◌, All, IsTrue}
use Rattle.term_model.specs.Term.{depth, depths}
use Rattle.aterm_text.specs.Text.{texts, rest_texts}
use Rattle.aterm_text.specs.Output.{Extends, trees_in}
use Rattle.aterm_text.proofs.writer.+write.Given as goal

abbrev pub decreases-push_term : goal.decreases-push_term
decreases-push_term g l = 5 * depth (g.S.TermSpace.space.term_of l.space.now l.at.now) + 1

abbrev pub decreases-push_bare : goal.decreases-push_bare
decreases-push_bare g l = 5 * depth (g.S.TermSpace.space.term_of l.space.now l.at.now)

abbrev pub decreases-push_enclosed : goal.decreases-push_enclosed
decreases-push_enclosed g l = 5 * depths (trees_in g.S.TermSpace.space.term_of l.space.now l.terms.now) + 4

abbrev pub decreases-push_between : goal.decreases-push_between
decreases-push_between g l = 5 * depths (trees_in g.S.TermSpace.space.term_of l.space.now l.terms.now) + 3

abbrev pub decreases-push_all : goal.decreases-push_all
decreases-push_all g l = 5 * depths (trees_in g.S.TermSpace.space.term_of l.space.now l.terms.now) + 2

abbrev pub invariant-push_all-loop-term : goal.invariant-push_all-loop-term
invariant-push_all-loop-term g l =
    let s = g.S.TermSpace.space in
    let all = trees_in s.term_of l.space l.terms in
    let to_come = trees_in s.term_of l.space l.term-iterator in record {
      written : l.out.items ++ rest_texts to_come ≡ l.fn.out.items ++ texts all;
      kept : Extends l.fn.out.items l.out.items;
      stand : All (λ r. IsTrue (s.stands l.space r)) l.term-iterator;
      low : depths to_come ≤ depths all;
    }
