use Rattle.std.proofs.Common.{◌≡◌, ◌+◌, ◌*◌, ◌≤◌, All, IsTrue, map}
use Rattle.term_model.specs.Term.{depth, depths, trees_of}
use Rattle.signature_core.specs.DeclaredTerm.{all_are_declared}
use Rattle.signature_core.proofs.signature.Signature.+covers.Given as goal

abbrev pub decreases-covers : goal.decreases-covers
decreases-covers g l = 2 * depth (g.S.TermSpace.space.term_of l.space.now l.at.now)

abbrev pub decreases-covers_all : goal.decreases-covers_all
decreases-covers_all g l = 2 * depths (trees_of (map (g.S.TermSpace.space.term_of l.space.now) l.terms.now)) + 1

abbrev pub invariant-covers_all-loop-term : goal.invariant-covers_all-loop-term
invariant-covers_all-loop-term g l =
    let s = g.S.TermSpace.space in
    let all = trees_of (map (s.term_of l.space) l.terms) in
    let to_come = trees_of (map (s.term_of l.space) l.term-iterator) in record {
      declared : all_are_declared l.self to_come ≡ all_are_declared l.self all;
      stand : All (λ r. IsTrue (s.stands l.space r)) l.term-iterator;
      low : depths to_come ≤ depths all;
    }
