use Rattle.std.proofs.Common.{refl, map}
use Rattle.strat_patterns.specs.Loaded.{loaded_of, rest_loaded_of}
use Rattle.strat_patterns.proofs.LoadedLaws.{loaded_as_integer, loaded_as_applied, loaded_as_list}
use Rattle.strat_patterns.proofs.ElementLaws.{bare_integer, bare_applied, bare_list}
use Rattle.strat_patterns.proofs.building.is_bare.Goals as goal

pub returns-in-Integer : goal.returns-in-Integer
returns-in-Integer g c = λ yes symbols place e.
    let p = c.args.pattern.now in
    let z = c.in-Integer.field-0 in
    bare_integer place e (loaded_of symbols p) z (loaded_as_integer symbols p z c.in-Integer.is)

pub returns-in-Applied : goal.returns-in-Applied
returns-in-Applied g c = λ yes symbols place e.
    let p = c.args.pattern.now in
    let parts = c.in-Applied.field-1 in
    bare_applied place e (loaded_of symbols p) (symbols c.in-Applied.field-0) (map (loaded_of symbols) parts.items)
    (loaded_as_applied symbols p c.in-Applied.field-0 parts parts.items c.in-Applied.is refl)

pub returns-in-List : goal.returns-in-List
returns-in-List g c = λ yes symbols place e.
    let p = c.args.pattern.now in
    let first = c.in-List.field-0 in
    let rest = c.in-List.field-1 in
    bare_list place e (loaded_of symbols p) (map (loaded_of symbols) first.items) (rest_loaded_of symbols rest)
    (loaded_as_list symbols p first rest first.items c.in-List.is refl)
