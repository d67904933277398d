use Rattle.core_lang.specs.RangeOfCode.{layers_of}
use Rattle.core_lang.proofs.RangeLaws.{list_range, no_rest_range, a_rest_range, along, first_in, first_out}
use Rattle.core_lang.proofs.range.+patterns.Goals as goal

pub pattern_in_range-returns-then-not-patterns_in_range : goal.pattern_in_range-returns-then-not-patterns_in_range
pattern_in_range-returns-then-not-patterns_in_range t c =
    let whole = list_range (layers_of c.args.layers.now) c.args.p.now c.in-List.elements c.in-List.rest c.in-List.is in
    let first = rw c.as_slice-in-List.ensures.value at c.patterns_in_range-in-List.ensures in
    first_out _ whole first c.if-not-patterns_in_range.true

pub pattern_in_range-returns-in-None : goal.pattern_in_range-returns-in-None
pattern_in_range-returns-in-None t c =
    let whole = list_range (layers_of c.args.layers.now) c.args.p.now c.in-List.elements c.in-List.rest c.in-List.is in
    let first = rw c.as_slice-in-List.ensures.value at c.patterns_in_range-in-List.ensures in
    along _ (first_in _ whole first c.if-not-patterns_in_range.false)
    (no_rest_range (layers_of c.args.layers.now) c.in-List.rest c.in-None.is)

pub pattern_in_range-returns-in-Some : goal.pattern_in_range-returns-in-Some
pattern_in_range-returns-in-Some t c =
    let L = layers_of c.args.layers.now in
    let whole = list_range L c.args.p.now c.in-List.elements c.in-List.rest c.in-List.is in
    let first = rw c.as_slice-in-List.ensures.value at c.patterns_in_range-in-List.ensures in
    let last = rw c.deref-in-Some.ensures at c.pattern_in_range-in-Some.ensures in
    along _ (first_in _ whole first c.if-not-patterns_in_range.false)
    (a_rest_range L c.in-List.rest c.in-Some.rest _ c.in-Some.is last)
