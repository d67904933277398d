use Rattle.std.proofs.Common.{◌+◌, ◌*◌, take, drop}
use Rattle.std.specs.Prelude.{false}
use Rattle.core_lang.specs.Views.{strategy_of}
use Rattle.core_eval.specs.Frame.{environment_of}
use Rattle.core_eval.proofs.TraversalLaws.{OfAll, OfOne, OfSome, Decides, Walk}
use Rattle.core_eval.proofs.evaluation.+eval.Given as goal

abbrev pub decreases-evaluate : goal.decreases-evaluate
decreases-evaluate g l = 3 * l.state.now.budget

abbrev pub decreases-evaluate_let : goal.decreases-evaluate_let
decreases-evaluate_let g l = 3 * l.state.now.budget + 1

abbrev pub decreases-evaluate_sequence : goal.decreases-evaluate_sequence
decreases-evaluate_sequence g l = 3 * l.state.now.budget + 1

abbrev pub decreases-evaluate_arms : goal.decreases-evaluate_arms
decreases-evaluate_arms g l = 3 * l.state.now.budget + 1

abbrev pub decreases-evaluate_scope : goal.decreases-evaluate_scope
decreases-evaluate_scope g l = 3 * l.state.now.budget + 1

abbrev pub decreases-evaluate_all : goal.decreases-evaluate_all
decreases-evaluate_all g l = 3 * l.state.now.budget + 1

abbrev pub decreases-evaluate_one : goal.decreases-evaluate_one
decreases-evaluate_one g l = 3 * l.state.now.budget + 1

abbrev pub decreases-evaluate_some : goal.decreases-evaluate_some
decreases-evaluate_some g l = 3 * l.state.now.budget + 1

abbrev pub decreases-evaluate_call : goal.decreases-evaluate_call
decreases-evaluate_call g l = 3 * l.state.now.budget + 2

abbrev pub decreases-evaluate_definition : goal.decreases-evaluate_definition
decreases-evaluate_definition g l = 3 * l.state.now.budget + 1

abbrev pub invariant-evaluate_all-loop-part : goal.invariant-evaluate_all-loop-part
invariant-evaluate_all-loop-part g l =
    Walk (OfAll (g.P.Primitives.meaning l.primitives) (environment_of l.frame) (strategy_of l.s))
    l.parts l.initial.state.places.items l.initial.state.budget false l.part-index l.state.places.items
    l.state.budget l.done.items

abbrev pub invariant-evaluate_one-loop-i : goal.invariant-evaluate_one-loop-i
invariant-evaluate_one-loop-i g l =
    Decides (OfOne (g.P.Primitives.meaning l.primitives) (environment_of l.frame) (strategy_of l.s))
    l.parts l.initial.state.places.items l.initial.state.budget false (drop l.i l.parts)
    l.state.places.items l.state.budget (take l.i l.parts)

abbrev pub invariant-evaluate_some-loop-part : goal.invariant-evaluate_some-loop-part
invariant-evaluate_some-loop-part g l =
    Walk (OfSome (g.P.Primitives.meaning l.primitives) (environment_of l.frame) (strategy_of l.s))
    l.parts l.initial.state.places.items l.initial.state.budget l.found l.part-index l.state.places.items
    l.state.budget l.results.items
