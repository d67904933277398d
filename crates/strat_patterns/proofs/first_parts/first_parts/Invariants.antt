use Rattle.std.proofs.Common.{◌≡◌, ◌≤◌, ◌++◌, All, IsTrue, length, map}
use Rattle.term_model.specs.TermParts.{parts_of}
use Rattle.strat_steps.specs.References.{AllRefs}
use Rattle.strat_patterns.proofs.first_parts.first_parts.Given as goal

abbrev pub invariant-loop-part : goal.invariant-loop-part
invariant-loop-part g l =
    let s = g.S.TermSpace.space in
    let tree = s.term_of l.space in record {
      are : map tree l.parts.items ++ map tree l.part-iterator ≡ parts_of (tree l.at);
      standing : AllRefs (λ r. IsTrue (s.stands l.space r)) l.parts.items;
      to_come : All (λ r. IsTrue (s.stands l.space r)) l.part-iterator;
      few : length l.parts.items ≤ l.count;
    }
