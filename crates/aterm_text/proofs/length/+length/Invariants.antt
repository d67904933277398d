use Rattle.std.proofs.Common.{◌≡◌, ◌+◌, ◌*◌, length, drop}
use Rattle.term_model.specs.Term.{weight, weights, trees_of}
use Rattle.aterm_text.specs.Text.{texts, rest_texts}
use Rattle.aterm_text.proofs.length.+length.Given as goal

abbrev pub decreases-with_term : goal.decreases-with_term
decreases-with_term l = 5 * weight l.term.now

abbrev pub decreases-with_bare : goal.decreases-with_bare
decreases-with_bare l = 5 * weights (trees_of l.parts.now) + 4

abbrev pub decreases-with_enclosed : goal.decreases-with_enclosed
decreases-with_enclosed l = 5 * weights (trees_of l.terms.now) + 3

abbrev pub decreases-with_between : goal.decreases-with_between
decreases-with_between l = 5 * weights (trees_of l.terms.now) + 2

abbrev pub decreases-with_all : goal.decreases-with_all
decreases-with_all l = 5 * weights (trees_of l.terms.now) + 1

abbrev pub invariant-with_all-loop-term : goal.invariant-with_all-loop-term
invariant-with_all-loop-term l =
    l.counted + length (rest_texts (trees_of (drop l.term-index l.others))) ≡ l.fn.counted +
    length (texts (trees_of l.fn.terms))
