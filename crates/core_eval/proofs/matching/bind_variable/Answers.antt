use Rattle.std.proofs.Common.{◌∙◌}
use Rattle.core_lang.specs.Resolved.{by_coordinates}
use Rattle.core_eval.specs.Frame.{environment_of}
use Rattle.core_eval.proofs.MatchingLaws.{put_nowhere}
use Rattle.core_eval.proofs.matching.bind_variable.Goals as goal

pub returns-in-None : goal.returns-in-None
returns-in-None c =
    put_nowhere (by_coordinates.place_of (environment_of c.args.frame.now) c.args.x)
    c.args.t.now c.args.places.now.items c.len.result c.in-None.ensures (c.len.ensures ∙ c.args.places.now.ok.0)
