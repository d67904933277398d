use Rattle.std.proofs.Common.{◌≡◌, length, arith}
use Rattle.strat_compile.proofs.BeginningLaws.{asked_symbol, asked_list}
use Rattle.strat_compile.proofs.roots.+root_asked.Goals as goal

pub returns-in_ok-symbol-in-Applied : goal.returns-in_ok-symbol-in-Applied
returns-in_ok-symbol-in-Applied t c =
    let many : c.len.result ≡ length c.in-Applied.parts.items = omega arith in
    asked_symbol c.args.pattern.now _ _ c.in-Applied.parts _ c.in-Applied.is c.in_ok-symbol-in-Applied.ensures.cases
    many

pub returns-in-List : goal.returns-in-List
returns-in-List t c =
    let many : c.len-in-List.result ≡ length c.in-List.elements.items = omega arith in
    asked_list c.args.pattern.now c.in-List.elements c.in-List.rest _ _ c.in-List.is many c.is_some.ensures
