use Rattle.std.proofs.Common.{refl, map}
use Rattle.strat_patterns.specs.Loaded.{loaded_of}
use Rattle.strat_patterns.proofs.AppliedLaws.{not_so}
use Rattle.strat_patterns.proofs.LoadedLaws.{loaded_as_applied}
use Rattle.strat_patterns.proofs.MatchingLaws.{applied_stops}
use Rattle.strat_patterns.proofs.applied.has_other_root.Goals as goal

pub returns-in-Applied : goal.returns-in-Applied
returns-in-Applied g c = λ other place b e T.
    let s = g.S.TermSpace.space in
    let symbols = s.symbol_of c.args.space.now in
    let parts = c.in-Applied.field-1.items in
    applied_stops place b (loaded_of symbols c.args.pattern.now) (symbols c.in-Applied.name)
    (map (loaded_of symbols) parts) (s.term_of c.args.space.now c.args.at.now) c.is_application.result
    (loaded_as_applied symbols c.args.pattern.now c.in-Applied.name c.in-Applied.field-1 parts c.in-Applied.is refl)
    c.is_application.ensures (not_so c.is_application.result other) e T
