use Rattle.std.proofs.Common.{arith}
use Rattle.strat_compile.proofs.SizeLaws.{open_list_size, whole_list_size}
use Rattle.strat_compile.proofs.pattern_size.+patterns.Goals as goal

pub pattern_fits-returns-in-None-clause-size : goal.pattern_fits-returns-in-None-clause-size
pattern_fits-returns-in-None-clause-size t c = λ e.
    let whole = whole_list_size c.args.p.now c.in-List.elements c.in-List.rest c.in-List.is c.in-None.is in
    let elements = rw c.as_slice-in-List.ensures.value at c.patterns_fit-in-List.ensures.size in
    let first = elements c.if-not-patterns_fit.false in
    omega (arith, whole, first)

pub pattern_fits-returns-in-Some-clause-size : goal.pattern_fits-returns-in-Some-clause-size
pattern_fits-returns-in-Some-clause-size t c = λ e.
    let whole = open_list_size c.args.p.now c.in-List.elements c.in-List.rest _ c.in-List.is c.in-Some.is in
    let elements = rw c.as_slice-in-List.ensures.value at c.patterns_fit-in-List.ensures.size in
    let rest = rw c.deref-in-Some.ensures at c.pattern_fits-in-Some.ensures.size in
    let first = elements c.if-not-patterns_fit.false in
    let last = rest e in
    omega (arith, whole, first, last)
