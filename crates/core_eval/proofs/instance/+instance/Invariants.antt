use Rattle.std.proofs.Common.{drop}
use Rattle.core_lang.specs.Building.{instances}
use Rattle.core_lang.specs.Resolved.{by_coordinates}
use Rattle.core_lang.specs.Views.{patterns_of}
use Rattle.core_eval.specs.Frame.{environment_of}
use Rattle.core_eval.proofs.InstanceLaws.{Making}
use Rattle.core_eval.proofs.instance.+instance.Given as goal

abbrev pub invariant-instances-loop-p : goal.invariant-instances-loop-p
invariant-instances-loop-p l =
    let place = by_coordinates.place_of (environment_of l.frame) in
    Making (instances place (patterns_of l.patterns) l.places)
    (instances place (patterns_of (drop l.p-index l.patterns)) l.places) l.terms.items l.fit
